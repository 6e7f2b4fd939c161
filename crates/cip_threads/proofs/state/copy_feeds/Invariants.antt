use Rattle.std.proofs.Common.{◌≡◌, take}
use Rattle.cip_threads.proofs.state.copy_feeds.Given as goal

abbrev pub invariant-loop-i : goal.invariant-loop-i
invariant-loop-i l = l.copies.items ≡ take l.i l.feeds
