use Rattle.std.proofs.Common.{◌≡◌, ◌++◌, drop}
use Rattle.cip_world.specs.Waiting.{frames_of}
use Rattle.cip_world.proofs.ledger.push_newest.Given as goal

abbrev pub invariant-loop-output : goal.invariant-loop-output
invariant-loop-output l =
    l.names.items ++ frames_of l.topology l.at.0 l.entry l.output (drop l.output l.outputs)
    ≡ l.initial.names.items ++ frames_of l.topology l.at.0 l.entry l.looked (drop l.looked l.outputs)
