-- What an opening may rely on before it begins.
use Rattle.std.specs.Prelude.{◌≡◌, ◌<◌, true, false, None, Some}
use Rattle.std.specs.Vec.{vec_len, vec_capacity}
use Rattle.cip_base.specs.Words.{OpNumber}
use Rattle.cip_pending.specs.declared.entry.UpSide.{UpSide}
use Rattle.cip_pending.specs.declared.entry.UpSide.TheVariants.{Link, Local}
use Rattle.cip_hops.specs.declared.opening.Opening.{Opening}
use Rattle.cip_hops.specs.Sides.{op_of, ids_drawn}
use Rattle.cip_hops.specs.Hops.{IsOpFree, refusal}
use Rattle.cip_steps.specs.declared.device.Device.{Device}
use Rattle.cip_routing.specs.State.{is_spent}

-- its op, if it has one, is spent, and that of no other connection; there is room, and there are
-- ids for it
pub record IsReady (m : Device) (o : Opening) : Type 0 where
  pub multiplier : o.multiplier < 8
  pub free : IsOpFree m.hops (op_of o.up)
  pub spent : (op : OpNumber) → op_of o.up ≡ Some op → is_spent op m.ops.ops.items ≡ true
  pub room : refusal m.hops o.triad (ids_drawn o) ≡ None

-- an op that a command uses up is new, and there is room for it
abbrev pub CanSpend : Device → UpSide → Type 0
CanSpend m (Link port address number) = Unit {0}
CanSpend m (Local op) = (is_spent op m.ops.ops.items ≡ false)
    × (vec_len m.ops.ops < vec_capacity m.ops.ops)

-- a request that came in by a link
abbrev pub IsAsked : UpSide → Type 0
IsAsked (Link port address number) = Unit {0}
IsAsked (Local op) = ⊥
