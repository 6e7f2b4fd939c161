-- Where a name stands in a list of names in rising order, or would stand.
use Rattle.std.specs.Prelude.{◌≡◌, ℕ, ◌<◌, ◌≤◌, Bool, true, false, List, Result, MatchResult, T, length, slice_index_or}
use Rattle.std.specs.List.Sorted.{IsPartitionPoint}
use Rattle.std.specs.FinMap as map
use Rattle.std.specs.declared.cmp.Ordering.{Ordering}
use Rattle.std.specs.declared.cmp.Ordering.TheVariants.{Less, Greater}

-- each name is above the one before it
abbrev pub IsRising : {K : Type 0} → (K → K → Ordering) → List (K × ℕ) → Type 0
IsRising R pairs = T (map.is_sorted R pairs)

-- the name stands at this place
pub record StandsAt {K : Type 0} (pairs : List (K × ℕ)) (name : K) (i : ℕ) : Type 0 where
  pub within : i < length pairs
  pub key : (d : K × ℕ) → (slice_index_or pairs i d).0 ≡ name

-- the name is above those before this place, and below those from it on
pub record FitsAt {K : Type 0} (R : K → K → Ordering) (pairs : List (K × ℕ))
    (name : K) (i : ℕ) : Type 0 where
  pub within : i ≤ length pairs
  pub low : (k : ℕ) (d : K × ℕ) → k < i → R name (slice_index_or pairs k d).0 ≡ Greater
  pub high : (d : K × ℕ) → i < length pairs → R name (slice_index_or pairs i d).0 ≡ Less

-- the place of the name, or the one where it would stand
abbrev pub IsPlaceOf : {K : Type 0} → (K → K → Ordering) → List (K × ℕ) → K → Result ℕ ℕ → Type 0
IsPlaceOf R pairs name place = MatchResult place (StandsAt pairs name) (FitsAt R pairs name)

-- what passes the test stands from this place on, and nothing before it does
abbrev pub Divides : {X : Type 0} → (X → Bool) → List X → ℕ → Type 0
Divides test xs i = IsPartitionPoint (λ x. test x ≡ false) (λ x. test x ≡ true) xs i
