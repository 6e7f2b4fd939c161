use Rattle.std.proofs.Common.{◌≡◌, ◌-◌, ◌++◌, length}
use Rattle.cip_chain.specs.Index.{along}
use Rattle.cip_chain.proofs.index.follow.Given as goal

-- the trail so far, and what is left of it
abbrev pub invariant-loop-turn : goal.invariant-loop-turn
invariant-loop-turn l =
    l.trail.items ++ along (length l.onwards - l._turn) l.onwards l.left ≡ along (length l.onwards) l.onwards l.fn.first
