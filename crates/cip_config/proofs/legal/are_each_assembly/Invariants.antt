use Rattle.std.proofs.Common.{◌≡◌, drop}
use Rattle.std.specs.List.{list_all}
use Rattle.cip_target.specs.Assemblies.{is_assembly}
use Rattle.cip_config.proofs.legal.are_each_assembly.Given as goal

abbrev pub invariant-loop-assembly : goal.invariant-loop-assembly
invariant-loop-assembly l = list_all is_assembly (drop l.assembly-index l.assemblies) ≡ list_all is_assembly l.assemblies
