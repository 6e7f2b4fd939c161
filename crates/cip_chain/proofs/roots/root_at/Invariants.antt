use Rattle.std.proofs.Common.{◌≡◌, ◌≤◌, length, reverse, take}
use Rattle.cip_world.specs.Roots.{root_of}
use Rattle.cip_chain.proofs.roots.root_at.Given as goal

-- the root is looked for in the journal as it was before
abbrev pub invariant-loop-at : goal.invariant-loop-at
invariant-loop-at l = (l.below ≤ length l.journal) × (root_of (reverse l.journal) l.k ≡ root_of (reverse (take l.below l.journal)) l.at)

abbrev pub decreases-loop-at : goal.decreases-loop-at
decreases-loop-at l = l.below
