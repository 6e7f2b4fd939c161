use Rattle.std.proofs.Common.{arith}
use Rattle.cip_segment.specs.Short.{IsRanged}
use Rattle.cip_segment.proofs.Shorts.{all_more}
use Rattle.cip_tool.specs.Spelling.{HasBytes}
use Rattle.cip_tool.proofs.Joined.{first_put, next_put, all_put, all_first}
use Rattle.cip_tool.proofs.spelling.put_all.Goals as goal

pub loop-segment-init : goal.loop-segment-init
loop-segment-init c = record {
  text = first_put _ _ c.in-Some.first.now c.in-Some.others.now c.args.segments.now c.next-behind.result c.in-Some.ensures.cases.0
      c.in_ok-put_alone.ensures.text c.next-behind.ensures;
  ranged = λ k d none. absurd (omega arith);
  bytes = λ k d none. absurd (omega arith);
}

pub loop-segment-preserved : goal.loop-segment-preserved
loop-segment-preserved c = record {
  text = next_put _ _ _ c.in-Some.others.now c.loop-segment.segment-index c.segment-item.result c.loop-segment.behind c.next-behind-in-loop-segment.result
      c.loop-segment-test.true c.segment-item.is c.in_ok-put_next.ensures.text c.next-behind-in-loop-segment.ensures c.loop-segment.invariant.text;
  ranged = all_more IsRanged c.in-Some.others.now c.loop-segment.segment-index c.segment-item.result c.loop-segment-test.true c.segment-item.is
      c.loop-segment.invariant.ranged c.in_ok-put_next.ensures.ranged;
  bytes = all_more HasBytes c.in-Some.others.now c.loop-segment.segment-index c.segment-item.result c.loop-segment-test.true c.segment-item.is
      c.loop-segment.invariant.bytes c.in_ok-put_next.ensures.bytes;
}

pub returns : goal.returns
returns c = record {
  text = all_put _ _ c.in-Some.others.now c.loop-segment.segment-index c.loop-segment.behind c.loop-segment-test.false c.loop-segment.invariant.text;
  ranged = all_first IsRanged c.args.segments.now c.in-Some.first.now c.in-Some.others.now c.loop-segment.segment-index c.in-Some.ensures.cases.0
      c.in_ok-put_alone.ensures.ranged c.loop-segment-test.false c.loop-segment.invariant.ranged;
  bytes = all_first HasBytes c.args.segments.now c.in-Some.first.now c.in-Some.others.now c.loop-segment.segment-index c.in-Some.ensures.cases.0
      c.in_ok-put_alone.ensures.bytes c.loop-segment-test.false c.loop-segment.invariant.bytes;
}
