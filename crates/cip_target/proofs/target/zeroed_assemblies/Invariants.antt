use Rattle.std.proofs.Common.{◌≡◌, drop}
use Rattle.std.specs.Prelude.{IsTrue}
use Rattle.std.specs.List.{list_all}
use Rattle.std.specs.FinMap as map
use Rattle.cip_target.specs.Assemblies.{is_assembly, zeroed_onto, zeroed}
use Rattle.cip_target.proofs.target.zeroed_assemblies.Given as goal

abbrev pub invariant-loop-config : goal.invariant-loop-config
invariant-loop-config l =
    (zeroed_onto l.assemblies.bytes (drop l.config-index l.configs) ≡ zeroed l.configs) × IsTrue (list_all is_assembly (drop l.config-index l.configs))
    × (l.assemblies.owners ≡ map.empty)
