use Rattle.std.proofs.Common.{◌≡◌, reverse, take}
use Rattle.cip_world.specs.Trails.{trail_of}
use Rattle.cip_world.proofs.TrailGrows.{tip}
use Rattle.cip_chain.specs.Seeking.{sought_behind}
use Rattle.cip_chain.proofs.trails.walk.Given as goal

-- the trail in the entries so far, and what it goes on by
abbrev pub invariant-loop-k : goal.invariant-loop-k
invariant-loop-k l =
    (l.trail.items ≡ trail_of (reverse (take l.k l.journal)) l.at.0 l.op)
    × (l.sought ≡ sought_behind (reverse (take l.k l.journal)) (tip (trail_of (reverse (take l.k l.journal)) l.at.0 l.op)))
