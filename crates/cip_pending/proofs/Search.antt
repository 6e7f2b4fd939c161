-- Where a binary search ends that looks for the numbers above one.
use Rattle.std.proofs.Common.{◌≡◌, ℕ, Bool, true, false, T, List, get_or, sym, ap, ◌∙◌, arith, Option, Some, nat_lt, nat_le, not, inl, inr}
use Rattle.std.specs.List.Sorted.{IsPartitionedBy, IsPartitionPoint}
use Rattle.std.specs.Ordering.{nat_cmp}
use Rattle.std.specs.declared.cmp.Ordering.TheVariants.{Less}
use Rattle.std.specs.Cmp.{nat_cmp_total}
use Rattle.std.specs.FinMap.Entries.{is_sorted}
use Rattle.std.proofs.lemmas.Bool.Decides.{nat_tests}
use Rattle.cip_base.proofs.Search.{rises, below_or_same}
use Rattle.cip_pending.specs.Pendings.{is_after}

no_more : (l m n : ℕ) → nat_cmp l m ≡ Less → nat_le m n ≡ true → nat_le l n ≡ true
no_more l m n a b = grind (arith, nat_tests)

above_is : (n m : ℕ) (b : Bool) → nat_le m n ≡ b → nat_lt n m ≡ not b
above_is n m true e = grind (arith, nat_tests)
above_is n m false e = grind (arith, nat_tests)

-- a binary search finds where the numbers above begin
pub parted_after : {X : Type 0} (es : List (ℕ × X)) (n : ℕ) (after : Option ℕ) (i : ℕ) → T (is_sorted nat_cmp es) → Some n ≡ after
    → (IsPartitionedBy (λ e. nat_le e.0 n) es → IsPartitionPoint (λ e. nat_le e.0 n ≡ true) (λ e. nat_le e.0 n ≡ false) es i)
    → IsPartitionPoint (λ e. is_after after e.0 ≡ false) (λ e. is_after after e.0 ≡ true) es i
parted_after {X} es n after i h is parts =
    let ps = parts (λ a b d le lt pass. elim (below_or_same a b le) [
      | inl below ↦ no_more _ _ n (rises nat_cmp_total es h a b d below lt) pass
      | inr same ↦ ap (λ k. nat_le (get_or es k d).0 n) same ∙ pass
    ]) in (
      λ k d low lt. ap (λ o. is_after o (get_or es k d).0) (sym is) ∙ above_is n _ true (ps.0 k d low lt),
      λ k d low lt. ap (λ o. is_after o (get_or es k d).0) (sym is) ∙ above_is n _ false (ps.1 k d low lt),
    )
