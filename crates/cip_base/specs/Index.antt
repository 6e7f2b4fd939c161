-- An index: under each name the key of a record, and the room that is reserved.
use Rattle.std.specs.Prelude.{ℕ, Option, Some, None}
use Rattle.std.specs.FinMap as map
use Rattle.std.specs.declared.cmp.Ordering.{Ordering}

pub record Index {K : Type 0} (R : K → K → Ordering) : Type 0 where
  pub room : ℕ
  pub keys : map.FinMap R ℕ

-- with the key under this name, if there is one
abbrev pub noted : {K : Type 0} {R : K → K → Ordering} → Index R → Option K → ℕ → Index R
noted m None key = m
noted m (Some name) key = record { room = m.room; keys = map.insert m.keys name key }

-- without this name, if there is one
abbrev pub forgot : {K : Type 0} {R : K → K → Ordering} → Index R → Option K → Index R
forgot m None = m
forgot m (Some name) = record { room = m.room; keys = map.remove m.keys name }

-- without a name
abbrev pub emptied : {K : Type 0} {R : K → K → Ordering} → Index R → Index R
emptied m = record { room = m.room; keys = map.empty }
