-- Where what is held after an effect comes from: it stood before, begins, ends here, or is what was opening.
use Rattle.std.proofs.Common.{◌≡◌, ℕ, List, false, Option, Some, None, refl, sym, ap, subst, ◌∙◌, inl, inr, Bool, true}
use Rattle.std.specs.FinMap as map
use Rattle.std.specs.Prelude.{is_some}
use Rattle.std.specs.Option.{option_map_or}
use Rattle.std.proofs.lemmas.Bool.{cond_both}
use Rattle.cip_base.specs.declared.triad.Triad.{Triad}
use Rattle.cip_base.proofs.Triads.{triads_total}
use Rattle.cip_hops.proofs.Steps.{triads_apart}
use Rattle.cip_hops.proofs.Changes.{finished_is}
use Rattle.cip_pending.specs.declared.entry.Entry.{Entry}
use Rattle.cip_pending.specs.Kinds.{opened_triad}
use Rattle.cip_hops.specs.declared.opening.Opening.{Opening}
use Rattle.cip_hops.specs.declared.hop.Hop.{Hop}
use Rattle.cip_hops.specs.declared.hop.Held.{Held}
use Rattle.cip_hops.specs.declared.hop.Held.TheVariants.{Opening as IsOpening, Open}
use Rattle.cip_hops.specs.declared.hop.Side.{Side}
use Rattle.cip_hops.specs.declared.hop.Side.TheVariants.{Up, Down}
use Rattle.cip_hops.specs.Sides.{own_ids}
use Rattle.cip_hops.specs.Hops.{Hops, opening_at, hop_at, opening_of, ids_of, open_in, opened, finished, begun, without, change_in, changed, is_link, touched}
use Rattle.cip_hops.specs.Hops.{counted}
use Rattle.cip_open.specs.Open.{Open as OpenRequest}
use Rattle.cip_open.specs.Success.{OpenSuccess}
use Rattle.cip_target.specs.declared.link.EndLink.{EndLink}
use Rattle.cip_config.specs.declared.config.ModuleSettings.{ModuleSettings}
use Rattle.cip_routing.specs.Effects.{Effect, Begins, Accepts, Finishes, Takes, PendingTimesOut, Removes, HopTimesOut, Renews, Counts, abandoned, abandoned_if}
use Rattle.cip_routing.specs.Effects.{removed, given_up, renewed, recounted, ends_here, apply, Answers, resets, answered_state}
use Rattle.cip_routing.specs.State.{State}
use Rattle.cip_base.proofs.Points.{put_here}
use Rattle.cip_routing.proofs.Removed.{open_at}
use Rattle.cip_base.proofs.MapCases.{insert_cases, remove_cases}
pub use Rattle.cip_laws.specs.Changes.{SameCore, Stood, OpenedBy, HeldCase, Stands, Begun, Ended, Finished}
use Rattle.cip_message.specs.Request.{Request}
use Rattle.cip_pending.specs.declared.entry.UpSide.{UpSide}
use Rattle.cip_base.specs.Triads.{triad_cmp}

pub same_self : (x : Held) → SameCore x x
same_self (IsOpening o ids) = (refl, refl)
same_self (Open hop) = (refl, refl, refl)

pub same_opening : (x y : Held) → SameCore x y → opening_of x ≡ opening_of y
same_opening (IsOpening o ids) (IsOpening p own) h = h.0
same_opening (IsOpening o ids) (Open hop) h = absurd h
same_opening (Open hop) (IsOpening o ids) h = absurd h
same_opening (Open g) (Open k) h = h.0

pub same_ids : (x y : Held) → SameCore x y → ids_of x ≡ ids_of y
same_ids (IsOpening o ids) (IsOpening p own) h = h.1
same_ids (IsOpening o ids) (Open hop) h = absurd h
same_ids (Open hop) (IsOpening o ids) h = absurd h
same_ids (Open g) (Open k) h = h.1

stood_still : (h : Hops) (q : Triad) (x : Held) → map.get h.held q ≡ Some x → Stood h q x
stood_still h q x e = record { old = x; at = e; core = same_self x }

-- ---- the tables' changes

without_stood : (h : Hops) (k q : Triad) (x : Held) → map.get (without h k).held q ≡ Some x → Stood h q x
without_stood h k q x e = stood_still h q x (remove_cases triads_total triads_apart h.held k q x e).1

abandoned_stood : (h : Hops) (k q : Triad) (x : Held) → map.get (abandoned h k).held q ≡ Some x → Stood h q x
abandoned_stood h k q x =
    cond_both (is_some (opening_at h k)) (without h k) h (λ (n : Hops). map.get n.held q ≡ Some x → Stood h q x) (λ t e. without_stood h k q x e)
    (λ t e. stood_still h q x e)

removed_stood : (h : Hops) (k q : Triad) (x : Held) → map.get (removed h k).held q ≡ Some x → Stood h q x
removed_stood h k q x =
    cond_both (is_some (hop_at h k)) (without h k) h (λ (n : Hops). map.get n.held q ≡ Some x → Stood h q x) (λ t e. without_stood h k q x e)
    (λ t e. stood_still h q x e)

given_stood : (p : Option Entry) (h : Hops) (q : Triad) (x : Held) → map.get (given_up p h).held q ≡ Some x → Stood h q x
given_stood None h q x e = stood_still h q x e
given_stood (Some p) h q x e = elim (opened_triad p.kind) as (λ (opened : Option Triad). map.get (abandoned_if opened h).held q ≡ Some x → Stood h q x) [
  | None ↦ λ e. stood_still h q x e
  | Some k ↦ λ e. abandoned_stood h k q x e
] e

-- a connection that changes in its place keeps its core
changed_stood : (h : Hops) (k q : Triad) (change : Hop → Hop) (x : Held) → ((hop : Hop) → SameCore (Open hop) (Open (change hop))) → (o : Option Hop)
    → hop_at h k ≡ o
    → map.get (change_in h k change o).held q ≡ Some x → Stood h q x
changed_stood h k q change x keeps None at e = stood_still h q x e
changed_stood h k q change x keeps (Some hop) at e =
    elim (insert_cases triads_total triads_apart h.held k (Open (change hop)) q x e) as (λ _. Stood h q x) [
      | inl one ↦ record {
        old = Open hop;
        at = ap (map.get h.held) one.0 ∙ open_at h k hop at;
        core = subst (SameCore (Open hop)) one.1 (keeps hop);
      }
      | inr apart ↦ stood_still h q x apart.1
    ]

touched_core : (side : Side) (now : ℕ) (hop : Hop) → SameCore (Open hop) (Open (touched side now hop))
touched_core Up now hop = (refl, refl, refl)
touched_core Down now hop = (refl, refl, refl)

counted_core : (side : Side) (count : ℕ) (hop : Hop) → SameCore (Open hop) (Open (counted side count hop))
counted_core Up count hop = (refl, refl, refl)
counted_core Down count hop = (refl, refl, refl)

renewed_stood : (h : Hops) (k q : Triad) (side : Side) (now : ℕ) (x : Held) → map.get (renewed h k side now).held q ≡ Some x → Stood h q x
renewed_stood h k q side now x =
    cond_both (option_map_or (is_link side) (hop_at h k) false) (changed h k (touched side now)) h (λ (n : Hops). map.get n.held q ≡ Some x → Stood h q x)
    (λ t e. changed_stood h k q (touched side now) x (touched_core side now) (hop_at h k) refl e) (λ t e. stood_still h q x e)

recounted_stood : (h : Hops) (k q : Triad) (side : Side) (count : ℕ) (x : Held) → map.get (recounted h k side count).held q ≡ Some x → Stood h q x
recounted_stood h k q side count x =
    cond_both (option_map_or ends_here (hop_at h k) false) (changed h k (counted side count)) h (λ (n : Hops). map.get n.held q ≡ Some x → Stood h q x)
    (λ t e. changed_stood h k q (counted side count) x (counted_core side count) (hop_at h k) refl e) (λ t e. stood_still h q x e)

-- ---- the cases

finishes_case : (s : State) (number : ℕ) (k : Triad) (bytes : List ℕ) (success : OpenSuccess) (q : Triad) (x : Held) (o : Option Held)
    → map.get s.hops.held k ≡ o
    → map.get (open_in s.hops k success.ot_id s.now o).held q ≡ Some x → HeldCase s (Finishes number k bytes success) q x
finishes_case s number k bytes success q x None at e = Stands (stood_still s.hops q x e)
finishes_case s number k bytes success q x (Some (Open hop)) at e = Stands (stood_still s.hops q x e)
finishes_case s number k bytes success q x (Some (IsOpening o ids)) at e =
    elim (insert_cases triads_total triads_apart s.hops.held k (Open (opened o ids success.ot_id s.now)) q x e) as
    (λ _. HeldCase s (Finishes number k bytes success) q x) [
      | inl one ↦ Finished (record {
        number = number;
        bytes = bytes;
        success = success;
        effect_is = ap (λ (t : Triad). Finishes number t bytes success) (sym one.0);
        opening = o;
        ids = ids;
        was = ap (map.get s.hops.held) one.0 ∙ at;
        is = sym one.1;
      })
      | inr apart ↦ Stands (stood_still s.hops q x apart.1)
    ]

accepts_case : (s : State) (opening : Opening) (o : OpenRequest) (link : EndLink) (q : Triad) (x : Held)
    → map.get (finished (begun s.hops opening) opening.triad 0 s.now).held q ≡ Some x → HeldCase s (Accepts opening o link) q x
accepts_case s opening o link q x e =
    let h = begun s.hops opening in
    let ids = own_ids s.hops.next opening in
    let at : map.get h.held opening.triad ≡ Some (IsOpening opening ids) =
    put_here triads_total triads_apart s.hops.held opening.triad (IsOpening opening ids) in
    let whole : map.get (map.insert h.held opening.triad (Open (opened opening ids 0 s.now))) q ≡ Some x =
    ap (λ (n : Hops). map.get n.held q) (sym (finished_is h opening.triad 0 s.now opening ids at)) ∙ e in
    elim (insert_cases triads_total triads_apart h.held opening.triad (Open (opened opening ids 0 s.now)) q x whole) as
    (λ _. HeldCase s (Accepts opening o link) q x) [
      | inl one ↦ Ended opening o link refl one.0 (sym one.1)
      | inr apart ↦ elim (insert_cases triads_total triads_apart s.hops.held opening.triad (IsOpening opening ids) q x apart.1) as
          (λ _. HeldCase s (Accepts opening o link) q x) [
            | inl one ↦ absurd (apart.0 one.0)
            | inr old ↦ Stands (stood_still s.hops q x old.1)
          ]
    ]

answered_stood : (config : ModuleSettings) (s : State) (up : UpSide) (asked : Request) (b : Bool) (q : Triad) (x : Held)
    → map.get (answered_state b config s asked).hops.held q ≡ Some x → HeldCase s (Answers up asked) q x
answered_stood config s up asked true q x e = let none : None ≡ Some x = sym (map.get-empty {X = Held} triad_cmp q) ∙ e in absurd (cc)
answered_stood config s up asked false q x e = Stands (stood_still s.hops q x e)

pub held_cases : (config : ModuleSettings) (s : State) (e : Effect) (q : Triad) (x : Held) → map.get (apply config s e).hops.held q ≡ Some x
    → HeldCase s e q x
held_cases config s (Begins sending opening) q x e =
    elim (insert_cases triads_total triads_apart s.hops.held opening.triad (IsOpening opening (own_ids s.hops.next opening)) q x e) as
    (λ _. HeldCase s (Begins sending opening) q x) [
      | inl one ↦ Begun sending opening refl one.0 (sym one.1)
      | inr old ↦ Stands (stood_still s.hops q x old.1)
    ]
held_cases config s (Accepts opening o link) q x e = accepts_case s opening o link q x e
held_cases config s (Finishes number triad bytes success) q x e = finishes_case s number triad bytes success q x (map.get s.hops.held triad) refl e
held_cases config s (Takes number bytes) q x e = Stands (given_stood (map.get s.pendings.entries number) s.hops q x e)
held_cases config s (PendingTimesOut number) q x e = Stands (given_stood (map.get s.pendings.entries number) s.hops q x e)
held_cases config s (Removes triad) q x e = Stands (removed_stood s.hops triad q x e)
held_cases config s (HopTimesOut triad) q x e = Stands (removed_stood s.hops triad q x e)
held_cases config s (Renews triad side) q x e = Stands (renewed_stood s.hops triad q side s.now x e)
held_cases config s (Counts triad side count) q x e = Stands (recounted_stood s.hops triad q side count x e)
held_cases config s (Answers up asked) q x e = answered_stood config s up asked (resets config s asked) q x e
held_cases config s e q x h = Stands (stood_still s.hops q x h)
