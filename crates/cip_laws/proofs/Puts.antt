-- Where the requests that wait after an effect come from, and how many numbers and ids it draws.
use Rattle.std.proofs.Common.{◌≡◌, ℕ, ◌+◌, ◌<◌, Option, Some, None, refl, ap, ◌⊎◌, inl, inr, arith, ◌≤◌, Bool, true, false, sym, ◌∙◌}
use Rattle.std.specs.FinMap as map
use Rattle.std.specs.Cmp.{nat_cmp_total}
use Rattle.std.specs.Option.{option_and_then}
use Rattle.std.proofs.lemmas.Bool.{cond_both}
use Rattle.cip_base.specs.declared.triad.Triad.{Triad}
use Rattle.cip_pending.specs.declared.entry.Entry.{Entry}
use Rattle.cip_pending.specs.Kinds.{opened_triad}
use Rattle.cip_hops.specs.declared.hop.Hop.{Hop}
use Rattle.cip_hops.specs.declared.hop.Held.{Held}
use Rattle.cip_hops.specs.declared.hop.Held.TheVariants.{Opening as IsOpening, Open}
use Rattle.cip_hops.specs.Hops.{Hops, as_hop, open_in, finished, begun, change_in, changed, touched, counted}
use Rattle.cip_config.specs.declared.config.ModuleSettings.{ModuleSettings}
use Rattle.cip_routing.specs.Effects.{Effect, Answers, resets, answered_state, Forwards, Begins, Accepts, Finishes, Takes, PendingTimesOut, Removes}
use Rattle.cip_routing.specs.Effects.{HopTimesOut}
use Rattle.cip_routing.specs.Effects.{Renews, Counts, entry_for, kind_for, abandoned, abandoned_if, removed, given_up, renewed, recounted, apply}
use Rattle.cip_routing.specs.State.{State}
use Rattle.cip_routing.proofs.Fits.{numbers_apart}
use Rattle.cip_base.proofs.MapCases.{insert_cases, remove_cases}
use Rattle.std.specs.Ordering.{nat_cmp}
use Rattle.cip_base.specs.Counts.{reborn}
use Rattle.cip_message.specs.Request.{Request}
use Rattle.cip_laws.specs.Changes.{passed_over}
pub use Rattle.cip_laws.specs.Changes.{puts, numbers_drawn, drawn_ids}

-- an answer here uses no op up, and gives none back
pub answered_ops : (config : ModuleSettings) (s : State) (asked : Request) (b : Bool) → (answered_state b config s asked).ops ≡ s.ops
answered_ops config s asked true = refl
answered_ops config s asked false = refl

-- after an answer here what waits waited before
answered_pending : (config : ModuleSettings) (s : State) (asked : Request) (b : Bool) (n : ℕ) (p : Entry)
    → map.get (answered_state b config s asked).pendings.entries n ≡ Some p → map.get s.pendings.entries n ≡ Some p
answered_pending config s asked true n p h = let none : None ≡ Some p = sym (map.get-empty {X = Entry} nat_cmp n) ∙ h in absurd (cc)
answered_pending config s asked false n p h = h

-- what waits after an effect waited before, or is what it puts there, under the next number
pub pending_cases : (config : ModuleSettings) (s : State) (e : Effect) (n : ℕ) (p : Entry) → map.get (apply config s e).pendings.entries n ≡ Some p
    → (map.get s.pendings.entries n ≡ Some p) ⊎ ((n ≡ s.pendings.next) × (puts s e ≡ Some p))
pending_cases config s (Forwards sending kind) n p h =
    elim (insert_cases nat_cmp_total numbers_apart s.pendings.entries s.pendings.next (entry_for s sending kind) n p h) [
      | inl q ↦ inr (q.0, ap (λ (x : Entry). Some x) q.1)
      | inr q ↦ inl q.1
    ]
pending_cases config s (Begins sending opening) n p h =
    elim (insert_cases nat_cmp_total numbers_apart s.pendings.entries s.pendings.next (entry_for s sending (kind_for opening)) n p h) [
      | inl q ↦ inr (q.0, ap (λ (x : Entry). Some x) q.1)
      | inr q ↦ inl q.1
    ]
pending_cases config s (Finishes number triad bytes success) n p h = inl (remove_cases nat_cmp_total numbers_apart s.pendings.entries number n p h).1
pending_cases config s (Takes number bytes) n p h = inl (remove_cases nat_cmp_total numbers_apart s.pendings.entries number n p h).1
pending_cases config s (PendingTimesOut number) n p h = inl (remove_cases nat_cmp_total numbers_apart s.pendings.entries number n p h).1
pending_cases config s (Answers up asked) n p h = inl (answered_pending config s asked (resets config s asked) n p h)
pending_cases config s e n p h = inl h

-- ---- numbers

-- a new incarnation is above the one before
pub reborn_above : (next : ℕ) → next ≤ reborn next
reborn_above next = omega arith

answered_number : (config : ModuleSettings) (s : State) (asked : Request) (b : Bool)
    → (answered_state b config s asked).pendings.next ≡ s.pendings.next + passed_over b s.pendings.next
answered_number config s asked true = let above = reborn_above s.pendings.next in omega (arith, above)
answered_number config s asked false = omega arith

pub next_number : (config : ModuleSettings) (s : State) (e : Effect) → (apply config s e).pendings.next ≡ s.pendings.next + numbers_drawn config s e
next_number config s (Answers up asked) = answered_number config s asked (resets config s asked)
next_number config s (Forwards sending kind) = refl
next_number config s (Begins sending opening) = refl
next_number config s e = omega arith

put_draws : (config : ModuleSettings) (s : State) (e : Effect) (p : Entry) → puts s e ≡ Some p → numbers_drawn config s e ≡ 1
put_draws config s (Forwards sending kind) p h = refl
put_draws config s (Begins sending opening) p h = refl
put_draws config s (Answers up asked) p h = absurd (cc)
put_draws config s e p h = absurd (cc)

-- each number in use is below the next
abbrev pub AreBelow : State → Type 0
AreBelow s = (n : ℕ) (p : Entry) → map.get s.pendings.entries n ≡ Some p → n < s.pendings.next

pub below_after : (config : ModuleSettings) (s : State) (e : Effect) → AreBelow s → AreBelow (apply config s e)
below_after config s e h n p at =
    let drawn = next_number config s e in
    elim (pending_cases config s e n p at) [
      | inl old ↦ let below = h n p old in omega (arith, below, drawn)
      | inr new ↦ let one = put_draws config s e p new.1 in let is = new.0 in omega (arith, is, one, drawn)
    ]

pub no_number : (s : State) → AreBelow s → map.get s.pendings.entries s.pendings.next ≡ None
no_number s h =
    elim (map.get s.pendings.entries s.pendings.next) as (λ (x : Option Entry). map.get s.pendings.entries s.pendings.next ≡ x → x ≡ None) [
      | None ↦ λ at. refl
      | Some p ↦ λ at. let below = h s.pendings.next p at in absurd (omega (arith, below))
    ] refl

-- ---- ids

finished_next : (h : Hops) (triad : Triad) (id now : ℕ) → (finished h triad id now).next ≡ h.next
finished_next h triad id now =
    elim (map.get h.held triad) as (λ (x : Option Held). (open_in h triad id now x).next ≡ h.next) [
      | None ↦ refl
      | Some (IsOpening o ids) ↦ refl
      | Some (Open hop) ↦ refl
    ]

changed_next : (h : Hops) (triad : Triad) (change : Hop → Hop) → (changed h triad change).next ≡ h.next
changed_next h triad change =
    elim (option_and_then as_hop (map.get h.held triad)) as (λ (x : Option Hop). (change_in h triad change x).next ≡ h.next) [
      | None ↦ refl
      | Some hop ↦ refl
    ]

abandoned_next : (h : Hops) (triad : Triad) → (abandoned h triad).next ≡ h.next
abandoned_next h triad = cond_both _ _ _ (λ (k : Hops). k.next ≡ h.next) (λ t. refl) (λ t. refl)

removed_next : (h : Hops) (triad : Triad) → (removed h triad).next ≡ h.next
removed_next h triad = cond_both _ _ _ (λ (k : Hops). k.next ≡ h.next) (λ t. refl) (λ t. refl)

given_next : (h : Hops) (p : Option Entry) → (given_up p h).next ≡ h.next
given_next h None = refl
given_next h (Some p) = elim (opened_triad p.kind) as (λ (opened : Option Triad). (abandoned_if opened h).next ≡ h.next) [
  | None ↦ refl
  | Some triad ↦ abandoned_next h triad
]

answered_id : (config : ModuleSettings) (s : State) (asked : Request) (b : Bool)
    → (answered_state b config s asked).hops.next ≡ s.hops.next + passed_over b s.hops.next
answered_id config s asked true = let above = reborn_above s.hops.next in omega (arith, above)
answered_id config s asked false = omega arith

pub next_id : (config : ModuleSettings) (s : State) (e : Effect) → (apply config s e).hops.next ≡ s.hops.next + drawn_ids config s e
next_id config s (Answers up asked) = answered_id config s asked (resets config s asked)
next_id config s (Begins sending opening) = refl
next_id config s (Accepts opening open_ link) = finished_next (begun s.hops opening) opening.triad 0 s.now
next_id config s (Finishes number triad bytes success) = let same = finished_next s.hops triad success.ot_id s.now in omega (arith, same)
next_id config s (Takes number bytes) = let same = given_next s.hops (map.get s.pendings.entries number) in omega (arith, same)
next_id config s (PendingTimesOut number) = let same = given_next s.hops (map.get s.pendings.entries number) in omega (arith, same)
next_id config s (Removes triad) = let same = removed_next s.hops triad in omega (arith, same)
next_id config s (HopTimesOut triad) = let same = removed_next s.hops triad in omega (arith, same)
next_id config s (Renews triad side) =
    let same : (renewed s.hops triad side s.now).next ≡ s.hops.next =
    cond_both _ _ _ (λ (k : Hops). k.next ≡ s.hops.next) (λ t. changed_next s.hops triad (touched side s.now)) (λ t. refl) in
    omega (arith, same)
next_id config s (Counts triad side count) =
    let same : (recounted s.hops triad side count).next ≡ s.hops.next =
    cond_both _ _ _ (λ (k : Hops). k.next ≡ s.hops.next) (λ t. changed_next s.hops triad (counted side count)) (λ t. refl) in
    omega (arith, same)
next_id config s e = omega arith
