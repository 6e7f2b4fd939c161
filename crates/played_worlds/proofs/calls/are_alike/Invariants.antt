use Rattle.std.proofs.Common.{reverse}
use Rattle.cip_chain.specs.Index.{IsIndexOf}
use Rattle.played_worlds.proofs.calls.are_alike.Given as goal

abbrev pub invariant-loop-turn : goal.invariant-loop-turn
invariant-loop-turn l = IsIndexOf l.index (reverse l.journal)

abbrev pub invariant-loop-at : goal.invariant-loop-at
invariant-loop-at l = IsIndexOf l.index (reverse l.journal)

abbrev pub invariant-loop-op : goal.invariant-loop-op
invariant-loop-op l = IsIndexOf l.index (reverse l.journal)
