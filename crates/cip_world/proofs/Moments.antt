-- Moments of a run, which are the journals that it went through, and the entry of each number.
use Rattle.std.proofs.Common.{◌≡◌, ℕ, ◌<◌, ◌≤◌, true, false, cond, List, [], ◌∷◌, Some, refl, sym, ap, subst, ◌∙◌, inl, inr, arith, eqb, length}
use Rattle.std.proofs.lemmas.Bool.{eqb-true, eq-eqb, ne_eqb}
use Rattle.cip_base.specs.declared.numbers.ModuleId.{ModuleId}
use Rattle.cip_event.specs.declared.event.Output.{Output}
use Rattle.cip_laws.specs.Births.{Past}
use Rattle.cip_laws.specs.Histories.{Turn}
use Rattle.cip_laws.specs.Turns.{Has}
use Rattle.cip_chassis.specs.Plan.{Plan}
use Rattle.cip_world.specs.declared.journal.Entry.{Entry}
use Rattle.cip_world.specs.declared.journal.Entry.TheVariants.{Step, Lost}
use Rattle.cip_event.specs.declared.frame.FrameName.{FrameName}
use Rattle.cip_world.specs.declared.journal.Input.{Input}
use Rattle.cip_world.specs.Journals.{Journal, Flight, sent_by, entry_at, frame_at, part}
use Rattle.cip_world.specs.Mirrors.{IsOlder}
use Rattle.cip_world.specs.Runs.{IsRun}
use Rattle.cip_world.proofs.Frames.{out_of, flight_is, has_at, at_entry}
use Rattle.cip_world.proofs.Parts.{part_any}
use Rattle.std.specs.Prelude.{slice_get}

-- ---- earlier moments

past_entry : (P : List Turn → Turn → Type 0) (m : ℕ) (e : Entry) (j : Journal) → Past P (part m j) → Past P (part m (e ∷ j))
past_entry P m (Step n input outs) j h = part_any (Past P) m n input outs j (λ event. inr h) h
past_entry P m (Lost frame) j h = h

-- what happened before an earlier moment happened before
pub past_older : (P : List Turn → Turn → Type 0) (m : ℕ) (k j : Journal) → IsOlder k j → Past P (part m k) → Past P (part m j)
past_older P m k [] e h = subst (λ (x : Journal). Past P (part m x)) e h
past_older P m k (e ∷ j) (inl is) h = subst (λ (x : Journal). Past P (part m x)) is h
past_older P m k (e ∷ j) (inr older) h = past_entry P m e j (past_older P m k j older h)

-- each moment of a run is a run
pub run_older : (t : Plan) (k j : Journal) → IsOlder k j → IsRun t j → IsRun t k
run_older t k [] e run = subst (IsRun t) (sym e) run
run_older t k (e ∷ j) (inl is) run = subst (IsRun t) (sym is) run
run_older t k (e ∷ j) (inr older) run = run_older t k j older run.0

pub itself : (j : Journal) → IsOlder j j
itself [] = refl
itself (e ∷ j) = inl refl

-- the moment before the newest entry
pub before_newest : (e : Entry) (j : Journal) → IsOlder j (e ∷ j)
before_newest e j = inr (itself j)

pub older_trans : (l k j : Journal) → IsOlder l k → IsOlder k j → IsOlder l j
older_trans l k [] a e = subst (λ (x : Journal). IsOlder l x) e a
older_trans l k (e ∷ j) a (inl is) = subst (λ (x : Journal). IsOlder l x) is a
older_trans l k (e ∷ j) a (inr b) = inr (older_trans l k j a b)

-- the moment before an entry that a moment has
pub before_that : (e : Entry) (k j : Journal) → IsOlder (e ∷ k) j → IsOlder k j
before_that e k j older = older_trans k (e ∷ k) j (before_newest e k) older

pub older_length : (k j : Journal) → IsOlder k j → length k ≤ length j
older_length k [] e = let same = ap (λ (x : Journal). length x) e in omega (arith, same)
older_length k (e ∷ j) (inl is) = let same = ap (λ (x : Journal). length x) is in omega (arith, same)
older_length k (e ∷ j) (inr older) = let less = older_length k j older in omega (arith, less)

-- ---- the entry of a number

-- entry k of the journal, with the moment before it
pub record AtEntry (j : Journal) (k : ℕ) (e : Entry) : Type 0 where
  pub before : Journal
  pub older : IsOlder (e ∷ before) j
  pub number : length before ≡ k

pub at_number : (j : Journal) (k : ℕ) (e : Entry) → entry_at j k ≡ Some e → AtEntry j k e
at_number [] k e h = absurd (cc)
at_number (x ∷ j) k e h =
    elim (eqb k (length j)) as (λ b. eqb k (length j) ≡ b → cond b (Some x) (entry_at j k) ≡ Some e → AtEntry (x ∷ j) k e) [
      | true ↦ λ t s.
          let same : x ≡ e = cc in
          let number = eqb-true k (length j) t in
          record { before = j; older = inl (λ i. sym same i ∷ j); number = sym number }
      | false ↦ λ t s. let old = at_number j k e s in record { before = old.before; older = inr old.older; number = old.number }
    ] refl h

entry_newer : (x : Entry) (j : Journal) (k : ℕ) → k < length j → entry_at (x ∷ j) k ≡ entry_at j k
entry_newer x j k less = ap (λ b. cond b (Some x) (entry_at j k)) (ne_eqb k (length j) (λ same. omega (arith, less, same)))

entry_newest : (x : Entry) (j : Journal) → entry_at (x ∷ j) (length j) ≡ Some x
entry_newest x j = ap (λ b. cond b (Some x) (entry_at j (length j))) (eq-eqb (length j) (length j) refl)

-- the newest entry of a moment has the number of those before it
pub number_at : (e : Entry) (k j : Journal) → IsOlder (e ∷ k) j → entry_at j (length k) ≡ Some e
number_at e k [] is = absurd (cc)
number_at e k (x ∷ j) (inl is) =
    ap (λ (y : Journal). entry_at y (length k)) (sym is) ∙ entry_newest e k
number_at e k (x ∷ j) (inr older) =
    let less = older_length (e ∷ k) j older in
    entry_newer x j (length k) (omega (arith, less)) ∙ number_at e k j older

-- ---- the entry that sent a frame

-- a step of a module sent the frame, at an earlier moment or at this
pub record SentAt (j : Journal) (f : FrameName) (x : Flight) : Type 0 where
  pub at : ModuleId
  pub input : Input
  pub outs : List Output
  pub before : Journal
  pub older : IsOlder (Step at input outs ∷ before) j
  pub number : length before ≡ f.entry
  pub at_is : at.0 ≡ x.way.at
  pub place : slice_get outs f.output ≡ Some (out_of x)

sent_here : (e : Entry) (j : Journal) (f : FrameName) (x : Flight) → f.entry ≡ length j → sent_by (Some e) f.output ≡ Some x → SentAt (e ∷ j) f x
sent_here (Step at input outs) j f x same h =
    let is = flight_is at.0 (slice_get outs f.output) x h in
    record { at = at; input = input; outs = outs; before = j; older = inl refl; number = sym same; at_is = is.0; place = is.1 }
sent_here (Lost frame) j f x same h = absurd (cc)

pub sent_at : (j : Journal) (f : FrameName) (x : Flight) → frame_at j f ≡ Some x → SentAt j f x
sent_at [] f x h = absurd (cc)
sent_at (e ∷ j) f x h =
    at_entry e j f (λ y. y ≡ Some x → SentAt (e ∷ j) f x)
    (λ same here. sent_here e j f x same here)
    (λ apart old.
    let s = sent_at j f x old in
    record { at = s.at; input = s.input; outs = s.outs; before = s.before; older = inr s.older; number = s.number; at_is = s.at_is; place = s.place })
    h

pub sent_has : (j : Journal) (f : FrameName) (x : Flight) (s : SentAt j f x) → Has s.outs (out_of x)
sent_has j f x s = has_at s.outs f.output (out_of x) s.place
