-- What a fresh table keeps.
use Rattle.std.proofs.Common.{◌≡◌, ℕ, ◌<◌, ◌≤◌, ◌^◌, List, [], slice_index_or, refl, sym, ap, ◌∙◌, arith, Option, Some, None, is_some}
use Rattle.std.specs.List.{count_by}
use Rattle.std.specs.Ordering.{nat_cmp}
use Rattle.std.specs.Cmp.{nat_cmp_total}
use Rattle.std.specs.FinMap as map
use Rattle.std.specs.FinMap.{nat_cmp-IsAntisymmetric}
use Rattle.slab.specs.Slab.{Slab, get}
use Rattle.cip_base.specs.Index.{Index}
use Rattle.cip_base.specs.Joined.{Finds}
use Rattle.cip_base.proofs.Views.{len-view}
use Rattle.cip_pending.specs.declared.entry.Entry.{Entry}
use Rattle.cip_pending.specs.declared.table.PendingTable.TheInside.{Inside}
use Rattle.cip_pending.specs.Kept.{IsKept, pendings}

abbrev pub fresh : ℕ → ℕ → Slab Entry → Index nat_cmp → Inside
fresh room next records order = record { room = room; next = next; order = order; records = records }

abbrev pub none_noted : ℕ → Index nat_cmp
none_noted room = record { room = room; keys = map.empty }

module _ (room next : ℕ) (s : Slab Entry) (empty : s.slots ≡ []) where
  no_number : (number key : ℕ) → map.get (map.empty {X = ℕ} {R = nat_cmp}) number ≡ Some key → ⊥
  no_number number key at = let never : None ≡ Some key = sym (map.get-empty nat_cmp number) ∙ at in cc

  finds_none : Finds {R = nat_cmp} map.empty (get s)
  finds_none q key at = absurd (no_number q key at)

  pub view_fresh : pendings (fresh room next s (none_noted room)) ≡ record { room = room; next = next; entries = map.empty }
  view_fresh =
      let none = map.empty_of_len _ (len-view nat_cmp nat_cmp_total nat_cmp-IsAntisymmetric map.empty (get s) finds_none ∙ map.len-empty nat_cmp ℕ) in
      λ i. record { room = room; next = next; entries = none i }

  pub kept_fresh : room ≤ s.capacity → 0 < next → next < 2 ^ 32 → IsKept (fresh room next s (none_noted room))
  kept_fresh capacity some small = record {
    order_room = refl;
    records_room = capacity;
    fits = let zero = map.len-empty nat_cmp ℕ in omega (arith, zero);
    count = ap (count_by is_some) empty ∙ sym (map.len-empty nat_cmp ℕ);
    some = some;
    spent = omega (arith, small);
    below = λ number key at. absurd (no_number number key at);
    present = finds_none;
    numbered = λ key x e. let none : None ≡ Some x = ap (λ (o : List (Option Entry)). slice_index_or o key None) (sym empty) ∙ e in absurd (cc);
    distinct = λ m n key a b. absurd (no_number m key a);
  }
