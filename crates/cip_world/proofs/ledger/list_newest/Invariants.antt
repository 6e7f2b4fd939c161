use Rattle.std.proofs.Common.{◌≡◌, ◌++◌, ◌≤◌, ◌-◌, length, drop}
use Rattle.cip_world.specs.Waiting.{frames_of}
use Rattle.cip_world.proofs.ledger.list_newest.Given as goal

abbrev pub invariant-loop-looked : goal.invariant-loop-looked
invariant-loop-looked l =
    (l.listed ++ frames_of l.topology l.at.0 l.entry l.looked (drop l.looked l.outputs)
    ≡ l.initial.listed ++ frames_of l.topology l.at.0 l.entry l.initial.looked (drop l.initial.looked l.outputs))
    × (l.looked ≤ length l.outputs)

abbrev pub decreases-loop-looked : goal.decreases-loop-looked
decreases-loop-looked l = length l.outputs - l.looked
