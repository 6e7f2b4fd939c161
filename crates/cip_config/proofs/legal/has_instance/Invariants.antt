use Rattle.std.proofs.Common.{◌≡◌, drop}
use Rattle.std.specs.List.{list_any}
use Rattle.cip_config.specs.Config.{has_instance}
use Rattle.cip_config.proofs.legal.has_instance.Given as goal

abbrev pub invariant-loop-assembly : goal.invariant-loop-assembly
invariant-loop-assembly l = list_any (has_instance l.instance) (drop l.assembly-index l.assemblies) ≡ list_any (has_instance l.instance) l.assemblies
