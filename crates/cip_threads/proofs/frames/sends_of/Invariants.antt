use Rattle.std.proofs.Common.{◌≡◌, ◌++◌, drop}
use Rattle.cip_threads.specs.Flows.{sends_of}
use Rattle.cip_threads.proofs.frames.sends_of.Given as goal

abbrev pub invariant-loop-output : goal.invariant-loop-output
invariant-loop-output l =
    l.sends.items ++ sends_of l.topology l.at.0 l.entry l.output (drop l.output l.outputs) ≡ sends_of l.topology l.at.0 l.entry 0 l.outputs
