-- Numbers that rise.
use Rattle.std.specs.Prelude.{◌≡◌, ℕ, ◌<◌, ◌≤◌, List, length, slice_index, Result, MatchResult}

abbrev pub IsRising : List ℕ → Type 0
IsRising xs = (i j : ℕ) → i ≤ j → j < length xs → slice_index xs i ≤ slice_index xs j

-- where a number stands; or the place between those below it and those above
abbrev pub IsPlace : ℕ → List ℕ → Result ℕ ℕ → Type 0
IsPlace n xs r =
    MatchResult r (λ i. (i < length xs) × (slice_index xs i ≡ n))
    (λ i. (i ≤ length xs) × ((k : ℕ) → k < i → slice_index xs k < n)
    × ((k : ℕ) → i ≤ k → k < length xs → n < slice_index xs k))
