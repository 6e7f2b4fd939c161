use Rattle.std.proofs.Common.{◌≡◌, ◌+◌, take}
use Rattle.cip_threads.specs.Feeds.{feeds_of, ticks_of}
use Rattle.cip_threads.proofs.run.time_after.Given as goal

abbrev pub invariant-loop-i : goal.invariant-loop-i
invariant-loop-i l = l.now ≡ l.config.clock + ticks_of (feeds_of l.m (take l.i l.feeds))
