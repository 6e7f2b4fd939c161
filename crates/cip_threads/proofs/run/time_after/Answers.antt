use Rattle.std.proofs.Common.{rules, arith, ◌≤◌, ◌^◌}
use Rattle.cip_threads.proofs.Feeding.{ticks_more, ticks_begin}
use Rattle.cip_threads.proofs.run.time_after.Goals as goal

pub returns-then-now-gt-LAST : goal.returns-then-now-gt-LAST
returns-then-now-gt-LAST c =
    let b = ticks_begin c.args.feeds.now c.loop-i.i c.args.m in
    let v = c.loop-i.invariant in
    let d : 2 ^ 63 ≤ c.loop-i.now = search rules in omega arith

pub loop-i-preserved : goal.loop-i-preserved
loop-i-preserved c =
    let more = ticks_more c.args.feeds.now c.loop-i.i c.args.m c.index-feeds-i.result c.loop-i-test.true c.index-feeds-i.is in
    let v = c.loop-i.invariant in
    let t = c.time_with-now.ensures in omega arith
