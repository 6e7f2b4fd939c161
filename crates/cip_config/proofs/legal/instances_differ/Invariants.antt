use Rattle.std.proofs.Common.{◌≡◌, length}
use Rattle.cip_config.specs.Config.{instances_differ}
use Rattle.cip_config.proofs.legal.instances_differ.Given as goal

abbrev pub invariant-loop-rest : goal.invariant-loop-rest
invariant-loop-rest l = instances_differ l.rest ≡ instances_differ l.assemblies

abbrev pub decreases-loop-rest : goal.decreases-loop-rest
decreases-loop-rest l = length l.rest
