use Rattle.std.proofs.Common.{◌≡◌, length}
use Rattle.cip_config.specs.Config.{numbers_differ}
use Rattle.cip_config.proofs.legal.numbers_differ.Given as goal

abbrev pub invariant-loop-rest : goal.invariant-loop-rest
invariant-loop-rest l = numbers_differ l.rest ≡ numbers_differ l.ports

abbrev pub decreases-loop-rest : goal.decreases-loop-rest
decreases-loop-rest l = length l.rest
