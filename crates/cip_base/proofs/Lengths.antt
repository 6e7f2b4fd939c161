-- How many names an index has after one was noted or forgotten.
use Rattle.std.proofs.Common.{◌≡◌, ℕ, zero, suc, ◌+◌, ◌-◌, ◌≤◌, Bool, cond, refl, sym, ap, ◌∙◌, arith, Option, Some, None, is_some}
use Rattle.std.specs.declared.cmp.Ordering.{Ordering}
use Rattle.std.specs.Cmp.{IsTotalOrder}
use Rattle.std.specs.FinMap as map
use Rattle.std.specs.FinMap.{FinMap}
use Rattle.cip_base.specs.Index.{Index, noted, forgot}

abbrev pub one_if : Bool → ℕ
one_if b = cond b 1 0

module _ {K : Type 0} (R : K → K → Ordering) (o : IsTotalOrder R) where
  pub len-noted : (m : Index R) (name : Option K) (key : ℕ) → ((n : K) → name ≡ Some n → map.get m.keys n ≡ None)
      → map.len (noted m name key).keys ≡ one_if (is_some name) + map.len m.keys
  len-noted m None key free = omega arith
  len-noted m (Some n) key free = map.len-insert o m.keys n key
      ∙ ap (λ (x : Option ℕ). cond (is_some x) (map.len m.keys) (map.len m.keys + 1)) (free n refl) ∙ omega arith

  some_names : (m : FinMap R ℕ) (n : K) (key : ℕ) (l : ℕ) → map.len m ≡ l → map.get m n ≡ Some key → 1 ≤ l
  some_names m n key zero e at = let no : None ≡ Some key = sym (map.get-empty R n) ∙ ap (λ (e : FinMap R ℕ). map.get e n) (sym (map.empty_of_len m e))
      ∙ at in absurd (cc)
  some_names m n key (suc l) e at = omega arith

  pub len-forgot : (m : Index R) (name : Option K) (key : ℕ) → ((n : K) → name ≡ Some n → map.get m.keys n ≡ Some key)
      → one_if (is_some name) + map.len (forgot m name).keys ≡ map.len m.keys
  len-forgot m None key at = omega arith
  len-forgot m (Some n) key at =
      let some : 1 ≤ map.len m.keys = some_names m.keys n key (map.len m.keys) refl (at n refl) in
      let less : map.len (map.remove m.keys n) ≡ map.len m.keys - 1 = map.len-remove o m.keys n
      ∙ ap (λ (x : Option ℕ). cond (is_some x) (map.len m.keys - 1) (map.len m.keys)) (at n refl) in
      omega (arith, some, less)
