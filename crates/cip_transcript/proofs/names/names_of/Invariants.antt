use Rattle.std.proofs.Common.{◌≡◌, map, take}
use Rattle.cip_transcript.proofs.names.names_of.Given as goal

abbrev pub invariant-loop-config : goal.invariant-loop-config
invariant-loop-config l = l.names.items ≡ map (λ c. c.name) (take l.config-index l.topology.modules)
