-- The trail of a command in a run: it begins at the command's entry, goes on at the arrival of the request that its last entry sent, and nowhere else.
use Rattle.std.proofs.Common.{◌≡◌, ℕ, Bool, true, false, ◌||◌, List, [], ◌∷◌, ◌++◌, Option, Some, None, refl, sym, ap, ◌∙◌, inl, inr, arith, append_assoc}
use Rattle.std.proofs.Common.{append-nil, length, eqb}
use Rattle.std.specs.Prelude.{option_map, option_and_then}
use Rattle.std.proofs.lemmas.Bool.{and_from, eq-eqb}
use Rattle.cip_event.specs.declared.event.Body.TheVariants as bodies
use Rattle.cip_event.specs.declared.event.Output.TheVariants as outputs
use Rattle.cip_routing.specs.Effects.{Sending}
use Rattle.cip_laws.specs.Histories.{state_after}
use Rattle.cip_chassis.specs.Plan.{Plan}
use Rattle.cip_world.specs.declared.journal.Entry.{Entry}
use Rattle.cip_world.specs.declared.journal.Entry.TheVariants.{Step, Lost}
use Rattle.cip_event.specs.declared.frame.FrameName.{FrameName}
use Rattle.cip_world.specs.declared.journal.Input.{Input}
use Rattle.cip_world.specs.Journals.{Journal, entry_at, same_name, is_that, brought_by, names, is_named, part}
use Rattle.cip_world.specs.Mirrors.{IsOlder}
use Rattle.cip_world.specs.Runs.{IsRun}
use Rattle.cip_world.specs.StepsIn.{StepIn, state_before}
use Rattle.cip_world.specs.Trails.{request_from, named, request_by, request_of, arrived_in, opens_or_sends, is_command, trail_of}
use Rattle.cip_world.specs.TrailTells.{IsOn, IsLast}
use Rattle.cip_world.proofs.Entries.{step_older, turned_in}
use Rattle.cip_world.proofs.Moments.{older_length, number_at, before_that, run_older, itself}
use Rattle.cip_world.proofs.OneRequest.{first_sent}
use Rattle.cip_world.proofs.OpsOnce.{CommandIn, command_in, command_there, one_command}
use Rattle.cip_world.proofs.Parts.{turn_of}
use Rattle.cip_world.proofs.TrailGrows.{tip, arrived, goes_on, if_so, grows, no_trail}
use Rattle.cip_world.proofs.WaysBack.{Arrives}

-- the entry of a step, with the journal before it
abbrev pub with_entry : {t : Plan} {j : Journal} {k : ℕ} → StepIn t j k → Journal
with_entry s = Step s.at s.input s.outputs ∷ s.before

-- the trail ended at this entry when it was the newest
pub record TrailTo (t : Plan) (j : Journal) (m op k : ℕ) (s : StepIn t j k) : Type 0 where
  pub front : List ℕ
  pub is : trail_of (with_entry s) m op ≡ front ++ (k ∷ [])

pub tip_end : (ks : List ℕ) (k : ℕ) → tip (ks ++ (k ∷ [])) ≡ Some k
tip_end [] k = refl
tip_end (i ∷ []) k = refl
tip_end (i ∷ l ∷ ks) k = tip_end (l ∷ ks) k

-- the next entry, where the trail ends so
pub grows_from : (e : Entry) (j : Journal) (m op k : ℕ) (ks : List ℕ) (b : Bool) → trail_of j m op ≡ ks → tip ks ≡ Some k → arrived (request_of j k) e ≡ b
    → trail_of (e ∷ j) m op ≡ ks ++ if_so b (length j)
grows_from e j m op k ks b is ends so =
    grows e j m op ∙ ap (λ (xs : List ℕ). xs ++ if_so (goes_on j m op (tip xs) e) (length j)) is
    ∙ ap (λ (o : Option ℕ). ks ++ if_so (goes_on j m op o e) (length j)) ends ∙ ap (λ c. ks ++ if_so c (length j)) so

-- ---- between two entries of a trail

neither : (a b : Bool) → a || b ≡ false → (a ≡ false) × (b ≡ false)
neither true b e = absurd (cc)
neither false b e = (refl, e)

not_there : (f : FrameName) (e : Entry) → names f e ≡ false → arrived_in f e ≡ false
not_there f (Step m input outs) h = h
not_there f (Lost g) h = refl

-- the request of an entry is the same in each later journal
pub request_in : (t : Plan) (j : Journal) (k : ℕ) (s : StepIn t j k) (y : Journal) → IsOlder (with_entry s) y
    → request_of y k ≡ request_by k (Step s.at s.input s.outputs)
request_in t j k s y older =
    ap (option_and_then (request_by k)) (ap (entry_at y) (sym s.number) ∙ number_at (Step s.at s.input s.outputs) s.before y older)

no_more : (ks : List ℕ) (n : ℕ) → ks ++ if_so false n ≡ ks
no_more ks n = append-nil ks

-- until its request arrives a trail stays as it is
still : (t : Plan) (j : Journal) (m op k : ℕ) (s : StepIn t j k) (to : TrailTo t j m op k s) (f : FrameName)
    → request_by k (Step s.at s.input s.outputs) ≡ Some f
    → (x : Journal) → IsOlder (with_entry s) x → is_named x f ≡ false → trail_of x m op ≡ to.front ++ (k ∷ [])
still t j m op k s to f sent [] older fresh = absurd (cc)
still t j m op k s to f sent (e ∷ y) (inl same) fresh = ap (λ (z : Journal). trail_of z m op) (sym same) ∙ to.is
still t j m op k s to f sent (e ∷ y) (inr older) fresh =
    let both = neither (names f e) (is_named y f) fresh in
    grows_from e y m op k (to.front ++ (k ∷ [])) false (still t j m op k s to f sent y older both.1) (tip_end to.front k)
    (ap (λ (o : Option FrameName). arrived o e) (request_in t j k s y older ∙ sent) ∙ not_there f e both.0)
    ∙ no_more (to.front ++ (k ∷ [])) (length y)

-- where nothing was sent it stays so for good
still_end : (t : Plan) (j : Journal) (m op k : ℕ) (s : StepIn t j k) (to : TrailTo t j m op k s) → request_by k (Step s.at s.input s.outputs) ≡ None
    → (x : Journal) → IsOlder (with_entry s) x → trail_of x m op ≡ to.front ++ (k ∷ [])
still_end t j m op k s to sent [] older = absurd (cc)
still_end t j m op k s to sent (e ∷ y) (inl same) = ap (λ (z : Journal). trail_of z m op) (sym same) ∙ to.is
still_end t j m op k s to sent (e ∷ y) (inr older) =
    grows_from e y m op k (to.front ++ (k ∷ [])) false (still_end t j m op k s to sent y older) (tip_end to.front k)
    (ap (λ (o : Option FrameName). arrived o e) (request_in t j k s y older ∙ sent))
    ∙ no_more (to.front ++ (k ∷ [])) (length y)

-- ---- the next entry

same_self : (f : FrameName) → same_name f f ≡ true
same_self f = and_from (eqb f.entry f.entry) (eqb f.output f.output) (eq-eqb f.entry f.entry refl) (eq-eqb f.output f.output refl)

module _ (t : Plan) (j : Journal) (run : IsRun t j) (m op a b : ℕ) (s : StepIn t j a) (r : StepIn t j b) (n : ℕ) (sending : Sending)
    (next : Arrives t j a b s r n sending) where
  sent_it : request_by a (Step s.at s.input s.outputs) ≡ Some (named a next.output)
  sent_it = ap (option_map (named a))
      (first_sent s.taken.config (state_before s) (state_after s.taken.config
      (turn_of s.taken.event s.outputs ∷ part s.at.0 s.before)) s.taken.event s.outputs next.output
      (outputs.Send sending.port sending.address (bodies.Request n sending.bytes)) (turned_in t j a run s) next.out refl)

  came_it : arrived_in (named a next.output) (Step r.at r.input r.outputs) ≡ true
  came_it = ap (λ (i : Input). is_that (named a next.output) (brought_by i)) next.input_is ∙ same_self (named a next.output)

  -- the trail goes on at the arrival of the request that its last entry sent
  pub trail_on : TrailTo t j m op a s → TrailTo t j m op b r
  trail_on to = record {
    front = to.front ++ (a ∷ []);
    is = grows_from (Step r.at r.input r.outputs) r.before m op a (to.front ++ (a ∷ [])) true
        (still t j m op a s to (named a next.output) sent_it r.before next.later next.fresh) (tip_end to.front a)
        (ap (λ (o : Option FrameName). arrived o (Step r.at r.input r.outputs)) (request_in t j a s r.before next.later ∙ sent_it) ∙ came_it)
        ∙ ap (λ (k : ℕ). (to.front ++ (a ∷ [])) ++ (k ∷ [])) r.number;
  }

-- ---- in the whole journal

-- a trail only grows
pub record GrowsTo (ks ls : List ℕ) : Type 0 where
  pub more : List ℕ
  pub is : ls ≡ ks ++ more

pub trail_keeps : (m op : ℕ) (k j : Journal) → IsOlder k j → GrowsTo (trail_of k m op) (trail_of j m op)
trail_keeps m op k [] older = record { more = []; is = ap (λ (x : Journal). trail_of x m op) (sym older) ∙ sym (append-nil (trail_of k m op)) }
trail_keeps m op k (e ∷ j) (inl same) = record { more = []; is = ap (λ (x : Journal). trail_of x m op) (sym same) ∙ sym (append-nil (trail_of k m op)) }
trail_keeps m op k (e ∷ j) (inr older) =
    let old = trail_keeps m op k j older in
    let next = if_so (goes_on j m op (tip (trail_of j m op)) e) (length j) in
    record { more = old.more ++ next; is = grows e j m op ∙ ap (λ (xs : List ℕ). xs ++ next) old.is ∙ append_assoc (trail_of k m op) old.more next }

pub is_on : (t : Plan) (j : Journal) (m op k : ℕ) (s : StepIn t j k) → TrailTo t j m op k s → IsOn k (trail_of j m op)
is_on t j m op k s to =
    let all = trail_keeps m op (with_entry s) j s.is in
    record { front = to.front; behind = all.more; is = all.is ∙ ap (λ (xs : List ℕ). xs ++ all.more) to.is ∙ append_assoc to.front (k ∷ []) all.more }

-- a trail ends at an entry that sent no request
pub is_last : (t : Plan) (j : Journal) (m op k : ℕ) (s : StepIn t j k) → TrailTo t j m op k s → request_from 0 s.outputs ≡ None → IsLast k (trail_of j m op)
is_last t j m op k s to none = record { front = to.front; is = still_end t j m op k s to (ap (option_map (named k)) none) j s.is }

-- ---- where it begins

abbrev command_older : (t : Plan) (x j : Journal) (m op k : ℕ) → IsOlder x j → CommandIn t x m op k → CommandIn t j m op k
command_older t x j m op k older c = record {
  step = step_older t x j k older c.step;
  here = c.here;
  command = c.command;
  event_is = c.event_is;
  asks = c.asks;
  unrefused = c.unrefused;
}

no_command : (t : Plan) (e : Entry) (j : Journal) (m op : ℕ) → IsRun t (e ∷ j)
    → ((k : ℕ) (c : CommandIn t (e ∷ j) m op k) → opens_or_sends op c.command ≡ true → ⊥) → is_command m op e ≡ true → ⊥
no_command t (Step n input outs) j m op run none h =
    let c = command_in t (Step n input outs ∷ j) m op (length j)
    (record { at = n; input = input; outputs = outs; before = j; is = inl refl; number = refl; taken = run.1 }) h in
    none (length j) c.0 c.1
no_command t (Lost frame) j m op run none h = cc

by_test : (b : Bool) → (b ≡ true → ⊥) → b ≡ false
by_test true h = absurd (h refl)
by_test false h = refl

-- without an Open or a Send there is no trail
pub trail_none : (t : Plan) (j : Journal) (m op : ℕ) → IsRun t j → ((k : ℕ) (c : CommandIn t j m op k) → opens_or_sends op c.command ≡ true → ⊥)
    → trail_of j m op ≡ []
trail_none t [] m op run none = no_trail m op
trail_none t (e ∷ j) m op run none =
    let old = trail_none t j m op run.0 (λ k c asks. none k (command_older t j (e ∷ j) m op k (inr (itself j)) c) asks) in
    grows e j m op ∙ ap (λ (xs : List ℕ). xs ++ if_so (goes_on j m op (tip xs) e) (length j)) old
    ∙ ap (λ b. if_so b (length j)) (by_test (is_command m op e) (no_command t e j m op run none))

-- the trail ends at its first entry
pub record BeginsAt (t : Plan) (j : Journal) (m op k : ℕ) (s : StepIn t j k) : Type 0 where
  pub to : TrailTo t j m op k s
  pub first : to.front ≡ []

-- the trail begins at the one command
pub trail_begins : (t : Plan) (j : Journal) (m op k : ℕ) → IsRun t j → (c : CommandIn t j m op k) → opens_or_sends op c.command ≡ true
    → BeginsAt t j m op k c.step
trail_begins t j m op k run c asks =
    let s = c.step in
    let older = before_that (Step s.at s.input s.outputs) s.before j s.is in
    let before : trail_of s.before m op ≡ [] =
    trail_none t s.before m op (run_older t (with_entry s) j s.is run).0
    (λ l d asks_.
    let same = one_command t j m op k l run c (command_older t s.before j m op l older d) in
    let less = older_length (with_entry d.step) s.before d.step.is in
    let is_ = d.step.number in let at_ = s.number in
    omega (arith, same, less, is_, at_)) in
    record {
      to = record {
        front = [];
        is = grows (Step s.at s.input s.outputs) s.before m op
            ∙ ap (λ (xs : List ℕ). xs ++ if_so (goes_on s.before m op (tip xs) (Step s.at s.input s.outputs)) (length s.before)) before
            ∙ ap (λ b. if_so b (length s.before)) (command_there t j m op k c asks)
            ∙ ap (λ (i : ℕ). i ∷ []) s.number;
      };
      first = refl;
    }
