-- What an end writes of a datum, and the effects of that; and the own ids under which data come.
use Rattle.std.specs.Prelude.{ℕ, List, [], ◌∷◌, drop, Option, Some, None}
use Rattle.cip_base.specs.Words.{ConnectionId, Octets}
use Rattle.cip_base.specs.declared.triad.Triad.{Triad}
use Rattle.cip_hops.specs.declared.hop.Held.{Held}
use Rattle.cip_hops.specs.declared.hop.Side.{Side}
use Rattle.cip_hops.specs.declared.hop.Side.TheVariants.{Up, Down}
use Rattle.cip_hops.specs.Hops.{up_id_of, down_id_of}
use Rattle.cip_routing.specs.declared.outputs.Writing.{Writing}
use Rattle.cip_routing.specs.DataRows.{DataRow, Consumed, Repeated}
use Rattle.cip_routing.specs.Effects.{Effect, Writes}
use Rattle.cip_routing.specs.Table.{counts}

-- the own id of a side
abbrev pub own_id : Side → Held → Option ConnectionId
own_id Up x = up_id_of x
own_id Down x = down_id_of x

-- what stands behind the sequence count, if there is one
abbrev pub behind : Octets → Option ℕ → List ℕ
behind bytes None = bytes
behind bytes (Some count) = drop 2 bytes

-- the row of an end that writes so
abbrev pub writing_row : Triad → Octets → Option Writing → DataRow
writing_row triad bytes None = Repeated triad
writing_row triad bytes (Some w) = Consumed triad w.instance w.count (behind bytes w.count)

abbrev pub written_effects : Triad → Octets → Option Writing → List Effect
written_effects triad bytes None = []
written_effects triad bytes (Some w) =
    Writes w.instance (behind bytes w.count) ∷ counts triad w.count
