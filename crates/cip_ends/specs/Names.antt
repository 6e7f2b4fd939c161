-- The ops that have names, the oldest first, and an index of them.
use Rattle.std.specs.Prelude.{ℕ, List, Option, Some, None, ◌≡◌, ◌≢◌, ◌≤◌, ◌<◌, ◌+◌, ◌*◌, ◌%◌, ◌^◌}
use Rattle.std.specs.Prelude.{fold, length, slice_get}
use Rattle.std.specs.BTreeMap.{BTreeMap, get}
use Rattle.std.specs.Ordering.{nat_cmp}
use Rattle.cip_base.specs.declared.numbers.ModuleId.{ModuleId}
use Rattle.cip_ends.specs.declared.names.Op.{Op}

-- the op has this name, and is one of the module, where one is asked for
abbrev pub IsOf : Option ModuleId → ModuleId → Type 0
IsOf None m = Unit {0}
IsOf (Some n) m = m ≡ n

abbrev pub IsMeant : List ℕ → Option ModuleId → Op → Type 0
IsMeant name at op = (op.name ≡ name) × IsOf at op.at

-- none of the ops from this place on, and before that one, is meant
abbrev pub HasNone : List Op → List ℕ → Option ModuleId → ℕ → ℕ → Type 0
HasNone ops name at from to = (k : ℕ) (op : Op) → from ≤ k → k < to
    → slice_get ops k ≡ Some op → IsMeant name at op → ⊥

-- the op is the last that is meant
pub record IsNewest (ops : List Op) (name : List ℕ) (at : Option ModuleId) (op : Op) : Type 0 where
  pub place : ℕ
  pub here : slice_get ops place ≡ Some op
  pub meant : IsMeant name at op
  pub newest : HasNone ops name at (place + 1) (length ops)

-- ---- the index

-- a number of a name; others may have the same
abbrev pub key_of : List ℕ → ℕ
key_of = fold (λ key byte. (key * 257 % 2 ^ 64 + byte) % 2 ^ 64) 0

-- from this place on no name has the key
abbrev pub HasNoKey : List Op → ℕ → ℕ → Type 0
HasNoKey ops key from = (k : ℕ) (op : Op) → from ≤ k → slice_get ops k ≡ Some op
    → key_of op.name ≢ key

-- past this place no name has the key; where there is none, no name at all has it
abbrev pub IsPlace : List Op → ℕ → Option ℕ → Type 0
IsPlace ops key None = HasNoKey ops key 0
IsPlace ops key (Some place) = (place < length ops) × HasNoKey ops key (place + 1)

abbrev pub IsIndex : BTreeMap ℕ ℕ → List Op → Type 0
IsIndex places ops = (key : ℕ) → IsPlace ops key (get nat_cmp places key)
