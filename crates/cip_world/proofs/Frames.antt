-- The frames of a journal: who sent them, and that one of its kind has one name.
use Rattle.std.proofs.Common.{◌≡◌, ℕ, ◌+◌, ◌≤◌, true, false, cond, List, [], ◌∷◌, Option, Some, None, zero, suc, refl, sym, ap, subst, ◌∙◌, inl, inr, arith}
use Rattle.std.proofs.Common.{eqb, length}
use Rattle.std.specs.Prelude.{slice_get}
use Rattle.std.proofs.lemmas.Bool.{eqb-true, ne_eqb}
use Rattle.cip_config.specs.declared.config.ModuleSettings.{ModuleSettings}
use Rattle.cip_event.specs.declared.event.Output.{Output}
use Rattle.cip_event.specs.declared.event.Output.TheVariants as outputs
use Rattle.cip_world.specs.declared.journal.Entry.{Entry}
use Rattle.cip_world.specs.declared.journal.Entry.TheVariants.{Step, Lost}
use Rattle.cip_event.specs.declared.frame.FrameName.{FrameName}
use Rattle.cip_chassis.specs.Plan.{Plan}
use Rattle.cip_world.specs.Journals.{Journal, Flight, flight_of, entry_at, sent_by, frame_at, part}
use Rattle.cip_world.specs.Runs.{IsModule, IsRun}
use Rattle.cip_laws.specs.Weights.{weight}
use Rattle.cip_laws.specs.Turns.{Has, Gave}
use Rattle.cip_world.proofs.Parts.{part_here, older, heavier}
use Rattle.cip_laws.proofs.Weighing.{weight_at, weight_gave, one_place}

-- the output that a frame was
abbrev pub out_of : Flight → Output
out_of x = outputs.Send x.way.port x.way.address x.body

pub flight_is : (m : ℕ) (o : Option Output) (x : Flight) → flight_of m o ≡ Some x → (m ≡ x.way.at) × (o ≡ Some (out_of x))
flight_is m None x e = absurd (cc)
flight_is m (Some (outputs.Send port to body)) x e =
    let same : record { way = record { at = m; port = port; address = to }; body = body } ≡ x = cc in
    (ap (λ (y : Flight). y.way.at) same, ap (λ (y : Flight). Some (out_of y)) same)
flight_is m (Some (outputs.Done op reply)) x e = absurd (cc)
flight_is m (Some (outputs.Refused fault)) x e = absurd (cc)
flight_is m (Some (outputs.Consumed triad instance bytes)) x e = absurd (cc)
flight_is m (Some (outputs.Arrived op bytes)) x e = absurd (cc)
flight_is m (Some (outputs.Expired triad)) x e = absurd (cc)
flight_is m (Some (outputs.Ended op)) x e = absurd (cc)
flight_is m (Some (outputs.Dropped reason)) x e = absurd (cc)

pub has_at : (os : List Output) (i : ℕ) (o : Output) → slice_get os i ≡ Some o → Has os o
has_at [] i o e = absurd (cc)
has_at (x ∷ os) zero o e = inl (cc)
has_at (x ∷ os) (suc i) o e = inr (has_at os i o e)

-- ---- the entry of a name is the newest, or an older one

module _ (e : Entry) (j : Journal) (f : FrameName) where
  pub at_entry : (P : Option Flight → Type 0) → (f.entry ≡ length j → P (sent_by (Some e) f.output))
      → (eqb f.entry (length j) ≡ false → P (frame_at j f)) → P (frame_at (e ∷ j) f)
  at_entry P here old =
      elim (eqb f.entry (length j)) as (λ b. eqb f.entry (length j) ≡ b → P (sent_by (cond b (Some e) (entry_at j f.entry)) f.output)) [
        | true ↦ λ t. here (eqb-true f.entry (length j) t)
        | false ↦ λ t. old t
      ] refl

pub entry_at-past : (j : Journal) (k : ℕ) → length j ≤ k → entry_at j k ≡ None
entry_at-past [] k l = refl
entry_at-past (x ∷ j) k l =
    ap (λ b. cond b (Some x) (entry_at j k)) (ne_eqb k (length j) (λ same. omega (arith, l, same))) ∙ entry_at-past j k (omega arith)

-- a frame keeps its name
pub frame_older : (e : Entry) (j : Journal) (f : FrameName) (x : Flight) → frame_at j f ≡ Some x → frame_at (e ∷ j) f ≡ Some x
frame_older e j f x h =
    at_entry e j f (λ y. y ≡ Some x)
    (λ same. let none : None ≡ Some x = sym (ap (λ y. sent_by y f.output) (entry_at-past j f.entry (omega (arith, same)))) ∙ h in absurd (cc))
    (λ t. h)

-- ---- who sent it

sent_here : (t : Plan) (e : Entry) (j : Journal) (i : ℕ) (x : Flight) → IsRun t (e ∷ j) → sent_by (Some e) i ≡ Some x → Gave (part x.way.at (e ∷ j)) (out_of x)
sent_here t (Step n input outs) j i x run h =
    let is = flight_is n.0 (slice_get outs i) x h in
    subst (λ turns. Gave turns (out_of x)) (sym (part_here t x.way.at n input outs j run.1 is.0)) (inl (has_at outs i (out_of x) is.1))
sent_here t (Lost frame) j i x run h = absurd (cc)

pub frame_gave : (t : Plan) (j : Journal) (f : FrameName) (x : Flight) → IsRun t j → frame_at j f ≡ Some x → Gave (part x.way.at j) (out_of x)
frame_gave t [] f x run h = absurd (cc)
frame_gave t (e ∷ j) f x run h =
    at_entry e j f (λ y. y ≡ Some x → Gave (part x.way.at (e ∷ j)) (out_of x))
    (λ same here. sent_here t e j f.output x run here)
    (λ apart old. older (λ turn. Has turn.outputs (out_of x)) x.way.at e j (frame_gave t j f x run.0 old))
    h

module_here : (t : Plan) (e : Entry) (j : Journal) (i : ℕ) (x : Flight) → IsRun t (e ∷ j) → sent_by (Some e) i ≡ Some x
    → (config : ModuleSettings) × IsModule t x.way.at config
module_here t (Step n input outs) j i x run h =
    let is = flight_is n.0 (slice_get outs i) x h in
    (run.1.config, subst (λ (k : ℕ). IsModule t k run.1.config) is.0 run.1.is_module)
module_here t (Lost frame) j i x run h = absurd (cc)

-- the sender is a module of the topology
pub sender : (t : Plan) (j : Journal) (f : FrameName) (x : Flight) → IsRun t j → frame_at j f ≡ Some x → (config : ModuleSettings) × IsModule t x.way.at config
sender t [] f x run h = absurd (cc)
sender t (e ∷ j) f x run h =
    at_entry e j f (λ y. y ≡ Some x → (config : ModuleSettings) × IsModule t x.way.at config)
    (λ same here. module_here t e j f.output x run here)
    (λ r old. sender t j f x run.0 old)
    h

-- ---- one of a kind

module _ (w : Output → ℕ) (m : ℕ) (t : Plan) where
  weight_here : (e : Entry) (j : Journal) (i : ℕ) (x : Flight) → IsRun t (e ∷ j) → x.way.at ≡ m → 1 ≤ w (out_of x)
      → sent_by (Some e) i ≡ Some x → 1 + weight w (part m j) ≤ weight w (part m (e ∷ j))
  weight_here (Step n input outs) j i x run at heavy h =
      let is = flight_is n.0 (slice_get outs i) x h in
      let all = ap (weight w) (part_here t m n input outs j run.1 (is.0 ∙ at)) in
      let one = weight_at w outs i (out_of x) is.1 in
      omega (arith, all, one, heavy)
  weight_here (Lost frame) j i x run at heavy h = absurd (cc)

  place_here : (e : Entry) (j : Journal) (i k : ℕ) (x y : Flight) → IsRun t (e ∷ j) → weight w (part m (e ∷ j)) ≤ 1
      → x.way.at ≡ m → 1 ≤ w (out_of x) → 1 ≤ w (out_of y)
      → sent_by (Some e) i ≡ Some x → sent_by (Some e) k ≡ Some y → i ≡ k
  place_here (Step n input outs) j i k x y run most at a b h g =
      let is = flight_is n.0 (slice_get outs i) x h in
      let too = flight_is n.0 (slice_get outs k) y g in
      let all = ap (weight w) (part_here t m n input outs j run.1 (is.0 ∙ at)) in
      one_place w outs i k (out_of x) (out_of y) (omega (arith, all, most)) a b is.1 too.1
  place_here (Lost frame) j i k x y run most at a b h g = absurd (cc)

  weight_before : (j : Journal) (f : FrameName) (x : Flight) → IsRun t j → x.way.at ≡ m → 1 ≤ w (out_of x) → frame_at j f ≡ Some x → 1 ≤ weight w (part m j)
  weight_before j f x run at heavy h =
      let given : Gave (part m j) (out_of x) = subst (λ (k : ℕ). Gave (part k j) (out_of x)) at (frame_gave t j f x run h) in
      let one = weight_gave w (part m j) (out_of x) given in omega (arith, one, heavy)

  -- where a module gave one of a kind at most, two frames of that kind are one
  pub one_frame : (j : Journal) (f g : FrameName) (x y : Flight) → IsRun t j → weight w (part m j) ≤ 1 → x.way.at ≡ m
      → y.way.at ≡ m → 1 ≤ w (out_of x) → 1 ≤ w (out_of y)
      → frame_at j f ≡ Some x → frame_at j g ≡ Some y → (f.entry ≡ g.entry) × (f.output ≡ g.output)
  one_frame [] f g x y run most at too a b h k = absurd (cc)
  one_frame (e ∷ j) f g x y run most at too a b h k =
      at_entry e j f (λ z. z ≡ Some x → (f.entry ≡ g.entry) × (f.output ≡ g.output))
      (λ here p. at_entry e j g (λ z. z ≡ Some y → (f.entry ≡ g.entry) × (f.output ≡ g.output))
      (λ there q. (here ∙ sym there, place_here e j f.output g.output x y run most at a b p q))
      (λ t' q. let one = weight_here e j f.output x run at a p in let other = weight_before j g y run.0 too b q in absurd (omega (arith, one, other, most)))
      k)
      (λ t' p. at_entry e j g (λ z. z ≡ Some y → (f.entry ≡ g.entry) × (f.output ≡ g.output))
      (λ there q. let one = weight_here e j g.output y run too b q in let other = weight_before j f x run.0 at a p in absurd (omega (arith, one, other, most)))
      (λ r q. let less = heavier w m e j in one_frame j f g x y run.0 (omega (arith, less, most)) at too a b p q)
      k)
      h
