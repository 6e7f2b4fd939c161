-- What an end sends of an assembly, connection by connection, as the code makes it.
use Rattle.std.specs.Prelude.{ℕ, ◌==◌, Bool, if◌then◌else◌, List, [], ◌∷◌, map, filter, filter_map, Option, Some, None}
use Rattle.std.specs.FinMap as finite
use Rattle.cip_base.specs.Words.{InstanceNumber, Octets}
use Rattle.cip_base.specs.declared.triad.Triad.{Triad}
use Rattle.cip_hops.specs.declared.hop.Hop.{Hop}
use Rattle.cip_hops.specs.declared.hop.Side.TheVariants.{Down}
use Rattle.cip_hops.specs.Hops.{Hops, as_hop}
use Rattle.cip_event.specs.declared.event.Output.{Output}
use Rattle.cip_routing.specs.Effects.{datum_up, recounted}
use Rattle.cip_routing.specs.Produced.{reads_from, next_count, datum_bytes}

abbrev pub made_of : Octets → Hop → Output
made_of held hop = datum_up hop.opening.up (datum_bytes held hop)

abbrev pub takes_from : InstanceNumber → Hop → Bool
takes_from instance hop = reads_from instance hop.opening.down

-- what goes up of all that take their data from this assembly, in rising triad
abbrev pub made_all : InstanceNumber → Octets → List Hop → List Output
made_all instance held hops = map (made_of held) (filter (takes_from instance) hops)

-- the count that a datum of this connection begins with, if it sends one and counts
abbrev pub count_for : InstanceNumber → Hop → Option ℕ
count_for instance hop = if reads_from instance hop.opening.down then
    (if hop.opening.class == 1 then Some (next_count hop.produced) else None) else None

abbrev pub counted_by : Hops → Triad → Option ℕ → Hops
counted_by h triad None = h
counted_by h triad (Some count) = recounted h triad Down count

abbrev pub counted_all : InstanceNumber → List Hop → Hops → Hops
counted_all instance [] h = h
counted_all instance (hop ∷ hops) h =
    counted_all instance hops (counted_by h hop.opening.triad (count_for instance hop))

-- those that are open, in rising triad
abbrev pub open_hops : Hops → List Hop
open_hops h = filter_map (λ e. as_hop e.1) (finite.entries h.held)
