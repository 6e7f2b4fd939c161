-- What a place in a list of names in rising order says of the map that the list makes.
use Rattle.std.proofs.Common.{◌≡◌, ℕ, List, length, get_or, sym, ap, ◌∙◌, Some, None}
use Rattle.std.specs.List as lists
use Rattle.std.specs.declared.cmp.Ordering.{Ordering}
use Rattle.std.specs.Cmp.{IsTotalOrder}
use Rattle.std.specs.FinMap as map
use Rattle.std.specs.FinMap.{IsAntisymmetric}
use Rattle.std.specs.FinMap.Entries as entries
use Rattle.cip_base.proofs.Sorted.{find-at, find-gap, sorted_insert, from_sorted-insert, sorted_remove, from_sorted-remove}
use Rattle.cip_base.specs.Rising.{IsRising, StandsAt, FitsAt}

module _ {K : Type 0} (R : K → K → Ordering) (o : IsTotalOrder R) where
  pub found_at : (ps : List (K × ℕ)) (name : K) (i : ℕ) (d : K × ℕ) → IsRising R ps → StandsAt ps name i
      → map.get (map.from_sorted {R = R} ps) name ≡ Some (get_or ps i d).1
  found_at ps name i d h s = map.get-from_sorted R ps name h ∙ ap (λ n. entries.find R n ps) (sym (s.key d)) ∙ find-at R o ps i d h s.within

  pub not_found : (ps : List (K × ℕ)) (name : K) (i : ℕ) → IsRising R ps → FitsAt R ps name i → map.get (map.from_sorted {R = R} ps) name ≡ None
  not_found ps name i h f = map.get-from_sorted R ps name h ∙ find-gap R o ps i name h f.low f.high f.within

  pub rising_insert : (ps : List (K × ℕ)) (name : K) (i key : ℕ) → IsRising R ps → FitsAt R ps name i → IsRising R (lists.insert ps i (name, key))
  rising_insert ps name i key h f = sorted_insert R o ps i name key h f.low f.high f.within

  pub map_insert : (ps : List (K × ℕ)) (name : K) (i key : ℕ) → IsRising R ps → FitsAt R ps name i
      → map.from_sorted {R = R} (lists.insert ps i (name, key)) ≡ map.insert (map.from_sorted ps) name key
  map_insert ps name i key h f = from_sorted-insert R o ps i name key h f.low f.high f.within

  pub rising_remove : (ps : List (K × ℕ)) (name : K) (i : ℕ) → IsRising R ps → StandsAt ps name i → IsRising R (lists.remove ps i)
  rising_remove ps name i h s = sorted_remove R o ps i (name, 0) h s.within

  pub map_remove : IsAntisymmetric R → (ps : List (K × ℕ)) (name : K) (i : ℕ) → IsRising R ps → StandsAt ps name i
      → map.from_sorted {R = R} (lists.remove ps i) ≡ map.remove (map.from_sorted ps) name
  map_remove same ps name i h s = from_sorted-remove R o same ps i (name, 0) h s.within ∙ ap (map.remove (map.from_sorted ps)) (s.key (name, 0))

  pub len_of : (ps : List (K × ℕ)) → IsRising R ps → map.len (map.from_sorted {R = R} ps) ≡ length ps
  len_of ps h = map.len-entries _ ∙ ap length (map.entries-from_sorted R ps h)
