-- Bytes that end too early or too late for a layout. `HasLayout` says that bytes have it, whatever
-- their paths spell.
use Rattle.std.specs.Prelude.{◌≡◌, ◌<◌, ◌++◌, length}
use Rattle.cip_base.specs.Words.{Octets}
use Rattle.cip_segment.specs.declared.fault.PathFault.{PathFault}
use Rattle.cip_segment.specs.Spelling.{IsFault}
use Rattle.cip_message.specs.declared.fault.DataFault.{DataFault}
use Rattle.cip_message.specs.declared.fault.DataFault.TheVariants.{Short, Long, Path}

-- bytes are missing: with some more behind them they have the layout
abbrev pub IsCutOff : (Octets → Type 0) → Octets → Type 0
IsCutOff HasLayout b = (more : Octets) × (0 < length more) × HasLayout (b ++ more)

-- bytes stand behind those that have the layout
abbrev pub IsOverlong : (Octets → Type 0) → Octets → Type 0
IsOverlong HasLayout b =
    (front : Octets) × (more : Octets) × (0 < length more) × (b ≡ front ++ more) × HasLayout front

-- the path of the record whose layout the bytes have can't be read
abbrev pub IsPathFault : {O : Type 0} → (Octets → O → Type 0) → (O → Octets)
    → Octets → PathFault → Type 0
IsPathFault {O} Lays path_of b f = (o : O) × Lays b o × IsFault (path_of o) f

-- the first fault that fits, of data that ends with a part counted in words
abbrev pub IsPartFault : (Octets → Type 0) → (Octets → PathFault → Type 0)
    → Octets → DataFault → Type 0
IsPartFault HasLayout IsNoPath b Short = IsCutOff HasLayout b
IsPartFault HasLayout IsNoPath b Long = IsOverlong HasLayout b
IsPartFault HasLayout IsNoPath b (Path f) = IsNoPath b f
