-- The list that a sorted index makes with the records that its keys find.
use Rattle.std.specs.Prelude.{◌≡◌, ℕ, ◌<◌, Bool, false, List, [], ◌∷◌, Option, Some, None, IsSome, length, slice_index_or}
use Rattle.std.specs.Option.{option_map_or}
use Rattle.std.specs.declared.cmp.Ordering.{Ordering}
use Rattle.std.specs.FinMap as map
use Rattle.std.specs.FinMap.{FinMap}

abbrev pub put_before : {K X : Type 0} → K → Option X → List (K × X) → List (K × X)
put_before k None rest = rest
put_before k (Some x) rest = (k, x) ∷ rest

-- each entry of the index with the record under its key
abbrev pub joined : {K X : Type 0} → List (K × ℕ) → (ℕ → Option X) → List (K × X)
joined [] found = []
joined (p ∷ ps) found = put_before p.0 (found p.1) (joined ps found)

-- each key of the index finds a record
abbrev pub IsPresent : {K X : Type 0} → List (K × ℕ) → (ℕ → Option X) → Type 0
IsPresent {K} ps found =
    (k : ℕ) (d : K × ℕ) → k < length ps → IsSome (found (slice_index_or ps k d).1)

-- whether the record that an entry of the index finds passes a test
abbrev pub passes : {K X : Type 0} → (K × X → Bool) → (ℕ → Option X) → K × ℕ → Bool
passes p found q = option_map_or (λ x. p (q.0, x)) (found q.1) false

-- ---- an index as a finite map

-- each key that the index finds has a record
abbrev pub Finds : {K X : Type 0} {R : K → K → Ordering} → FinMap R ℕ → (ℕ → Option X) → Type 0
Finds {K} m found = (q : K) (key : ℕ) → map.get m q ≡ Some key → IsSome (found key)

-- the map from names to the records that their keys find
abbrev pub joined_map : {K X : Type 0} {R : K → K → Ordering} → FinMap R ℕ → (ℕ → Option X)
    → FinMap R X
joined_map m found = map.from_sorted (joined (map.entries m) found)
