-- What an end sends of an assembly: a datum by each connection that takes its data from it, in
-- rising triad.
use Rattle.std.specs.Prelude.{ℕ, ◌+◌, ◌%◌, ◌==◌, Bool, false, if◌then◌else◌, List, [], ◌∷◌, ◌++◌, Option}
use Rattle.std.specs.Option.{option_map_or}
use Rattle.std.specs.FinMap as finite
use Rattle.cip_base.specs.Words.{InstanceNumber, Octets}
use Rattle.cip_base.specs.Fields.{word}
use Rattle.cip_base.specs.declared.triad.Triad.{Triad}
use Rattle.cip_hops.specs.declared.opening.HopDown.{HopDown}
use Rattle.cip_hops.specs.declared.opening.HopDown.TheVariants.{Link as DownLink, End}
use Rattle.cip_hops.specs.declared.hop.Hop.{Hop}
use Rattle.cip_hops.specs.declared.hop.Held.{Held}
use Rattle.cip_hops.specs.declared.hop.Held.TheVariants.{Opening as IsOpening, Open}
use Rattle.cip_hops.specs.declared.hop.Side.TheVariants.{Up, Down}
use Rattle.cip_hops.specs.Hops.{Hops}
use Rattle.cip_routing.specs.Effects.{Effect, Counts, Passes}

-- whether a connection takes its data from this assembly
abbrev pub reads_from : InstanceNumber → HopDown → Bool
reads_from instance (DownLink port address) = false
reads_from instance (End config consume produce) = produce == instance

-- 1 first, then one more each time, 0 after 65,535
abbrev pub next_count : Option ℕ → ℕ
next_count last = option_map_or (λ n. (n + 1) % 65536) last 1

-- one datum: in class 1 it begins with its sequence count
abbrev pub made_effects : Octets → Hop → List Effect
made_effects held hop =
    if hop.opening.class == 1
    then Counts hop.opening.triad Down (next_count hop.produced)
    ∷ Passes hop.opening.triad Up (word (next_count hop.produced) ++ held) ∷ []
    else Passes hop.opening.triad Up held ∷ []

abbrev pub held_effects : InstanceNumber → Octets → Held → List Effect
held_effects instance held (IsOpening o ids) = []
held_effects instance held (Open hop) =
    if reads_from instance hop.opening.down then made_effects held hop else []

abbrev pub each_effects : InstanceNumber → Octets → List (Triad × Held) → List Effect
each_effects instance held [] = []
each_effects instance held (e ∷ es) =
    held_effects instance held e.1 ++ each_effects instance held es

abbrev pub produced_effects : InstanceNumber → Octets → Hops → List Effect
produced_effects instance held h = each_effects instance held (finite.entries h.held)

-- the bytes of one datum
abbrev pub datum_bytes : Octets → Hop → Octets
datum_bytes held hop = if hop.opening.class == 1 then word (next_count hop.produced) ++ held
    else held
