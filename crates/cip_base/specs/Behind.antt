-- How a row is kept: in a vector whose room is reserved, behind those that are gone from its front.
use Rattle.std.specs.Prelude.{ℕ, ◌≤◌, length, drop}
use Rattle.std.specs.Vec.{vec_capacity}
use Rattle.cip_base.specs.Rows.{Row}
use Rattle.cip_base.specs.declared.row.Row.TheInside.{Inside}

pub record IsRow {T : Type 0} (r : Inside T) : Type 0 where
  pub within : r.gone ≤ length r.items.items
  pub reserved : r.room ≤ vec_capacity r.items

abbrev pub row : {T : Type 0} → Inside T → Row T
row r = record { room = r.room; items = drop r.gone r.items.items }
