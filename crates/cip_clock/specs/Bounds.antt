-- Times before which records are not due, in microseconds.
use Rattle.std.specs.Prelude.{◌≡◌, ℕ, ◌+◌, ◌*◌, ◌<◌, ◌≤◌, List, Option, Some, None, option_and_then, length, slice_index, min}
use Rattle.cip_base.specs.Words.{Microseconds}
use Rattle.cip_clock.specs.declared.deadlines.TheConstants.{NEVER, LAST_BOUND}

-- a deadline itself, up to the last bound; later than each where there is none
abbrev pub bound_of : Option Microseconds → Microseconds
bound_of None = NEVER
bound_of (Some time) = min time LAST_BOUND

-- at each place that has two below it, from 1 on, stands the earlier of the two
pub record IsTree (times : List Microseconds) : Type 0 where
  pub earlier : (at : ℕ) → 0 < at → 2 * at + 1 < length times
      → slice_index times at ≡ min (slice_index times (2 * at)) (slice_index times (2 * at + 1))

-- of records under keys, each of which has a deadline or none
module _ {X : Type 0} (deadline_of : X → Option Microseconds) (found : ℕ → Option X) where
  -- the bound of what stands under a key
  abbrev pub bound_under : ℕ → Microseconds
  bound_under key = bound_of (option_and_then deadline_of (found key))

  -- no record is due before the bound of its key
  pub record AreBounds (bounds : List Microseconds) : Type 0 where
    pub early : (key : ℕ) (x : X) → found key ≡ Some x
        → (key < length bounds) × (slice_index bounds key ≤ bound_of (deadline_of x))

  -- it is the bound of what stands under a key, and no record has an earlier one
  pub record IsFirstBound (first : Microseconds) : Type 0 where
    pub key : ℕ
    pub reached : bound_under key ≡ first
    pub least : (other : ℕ) (x : X) → found other ≡ Some x → first ≤ bound_of (deadline_of x)
