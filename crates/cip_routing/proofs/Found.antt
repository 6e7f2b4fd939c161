-- A connection that is found by a name stands under its triad, where each stands under its own.
use Rattle.std.proofs.Common.{◌≡◌, Bool, true, refl, sym, ap, ◌∙◌, Option, Some, None}
use Rattle.std.specs.Prelude.{option_and_then}
use Rattle.std.specs.List.{find}
use Rattle.std.specs.FinMap as map
use Rattle.cip_base.specs.declared.triad.Triad.{Triad}
use Rattle.cip_base.specs.Triads.{triad_cmp}
use Rattle.cip_base.proofs.Triads.{triads_total}
use Rattle.cip_hops.specs.declared.hop.Hop.{Hop}
use Rattle.cip_hops.specs.declared.hop.Held.{Held}
use Rattle.cip_hops.specs.declared.hop.Held.TheVariants.{Open}
use Rattle.cip_hops.specs.Hops.{Hops, as_hop, is_hop, first_hop, hop_at, triad_of, IsWithin}
use Rattle.cip_hops.proofs.Steps.{triads_apart}
use Rattle.cip_base.proofs.Views.{found-gives}
use Rattle.cip_hops.proofs.Named.{is_open}
use Rattle.cip_hops.specs.Hops.{AreOwnTriads}

found_in : (test : Hop → Bool) (h : Hops) (hop : Hop) (e : Option (Triad × Held)) → find (λ e. is_hop test e.1) (map.entries h.held) ≡ e
    → option_and_then (λ e. as_hop e.1) e ≡ Some hop → AreOwnTriads h → (hop_at h hop.opening.triad ≡ Some hop) × (test hop ≡ true)
found_in test h hop None f g own = absurd (cc)
found_in test h hop (Some e) f g own =
    let at = found-gives triad_cmp triads_total triads_apart h.held (λ e. is_hop test e.1) e f in
    let open_ : e.1 ≡ Open hop = is_open e.1 hop g in
    let triad : hop.opening.triad ≡ e.0 = ap triad_of (sym open_) ∙ own e.0 e.1 at.0 in
    (ap (hop_at h) triad ∙ ap (option_and_then as_hop) at.0 ∙ g, ap (is_hop test) (sym open_) ∙ at.1)

-- and it passes the test
pub found_own : (test : Hop → Bool) (h : Hops) (hop : Hop) → first_hop test h ≡ Some hop → AreOwnTriads h
    → (hop_at h hop.opening.triad ≡ Some hop) × (test hop ≡ true)
found_own test h hop g own = found_in test h hop (find (λ e. is_hop test e.1) (map.entries h.held)) refl g own

-- in a table within its ranges
pub found_held : (test : Hop → Bool) (h : Hops) (hop : Hop) → first_hop test h ≡ Some hop → IsWithin h → hop_at h hop.opening.triad ≡ Some hop
found_held test h hop g w = (found_own test h hop g w.triads).0
