use Rattle.std.proofs.Common.{◌≡◌, ◌++◌, take, drop, All, string_bytes}
use Rattle.cip_segment.specs.Short.{IsRanged}
use Rattle.cip_tool.specs.Spelling.{spelling_of, HasBytes}
use Rattle.cip_tool.specs.Pieces.{others}
use Rattle.cip_tool.proofs.spelling.put_all.Given as goal

abbrev pub invariant-loop-segment : goal.invariant-loop-segment
invariant-loop-segment l = record {
  text : string_bytes l.text ++ others l.behind (drop l.segment-index l.others) ≡ string_bytes l.fn.text ++ spelling_of l.segments;
  ranged : All IsRanged (take l.segment-index l.others);
  bytes : All HasBytes (take l.segment-index l.others);
}
