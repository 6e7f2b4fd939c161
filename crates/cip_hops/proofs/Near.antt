-- Behind the triad that was asked for stand those above it.
use Rattle.std.proofs.Common.{◌≡◌, ℕ, ◌-◌, ◌<◌, ◌≤◌, true, false, T, List, length, get_or, ap, ◌∙◌, arith, inl, inr}
use Rattle.std.specs.Ordering.{is_lt, ordering_reverse}
use Rattle.std.specs.declared.cmp.Ordering.TheVariants.{Equal}
use Rattle.std.specs.List.Sorted.{IsPartitionPoint}
use Rattle.std.specs.FinMap.Entries.{is_sorted}
use Rattle.cip_base.specs.Triads.{triad_cmp}
use Rattle.cip_base.specs.declared.triad.Triad.{Triad}
use Rattle.cip_base.proofs.Search.{below_or_same, rises}
use Rattle.cip_base.proofs.Triads.{triads_total, exact_triads}

pub parted_at : (es : List (Triad × ℕ)) (last : Triad) (near : ℕ) → T (is_sorted triad_cmp es) → 0 < near → near ≤ length es
    → ((d : Triad × ℕ) → triad_cmp last (get_or es (near - 1) d).0 ≡ Equal)
    → IsPartitionPoint (λ e. is_lt (triad_cmp last e.0) ≡ false) (λ e. is_lt (triad_cmp last e.0) ≡ true) es near
parted_at es last near h some within equal =
    let same : (d : Triad × ℕ) → last ≡ (get_or es (near - 1) d).0 = λ d. exact_triads _ _ (equal d) in (
      λ k d low lt. elim (below_or_same k (near - 1) (omega arith)) [
        | inl below ↦
            ap (λ q. is_lt (triad_cmp q (get_or es k d).0)) (same d)
            ∙ ap is_lt
            (triads_total.antisymm (get_or es (near - 1) d).0 (get_or es k d).0
            ∙ ap ordering_reverse (rises triads_total es h k (near - 1) d below (omega arith)))
        | inr here ↦ ap (λ n. is_lt (triad_cmp last (get_or es n d).0)) here ∙ ap is_lt (equal d)
      ],
      λ k d low lt. ap (λ q. is_lt (triad_cmp q (get_or es k d).0)) (same d) ∙ ap is_lt (rises triads_total es h (near - 1) k d (omega arith) lt),
    )
