use Rattle.std.proofs.Common.{sym, arith}
use Rattle.cip_words.proofs.LinesLaws.{line_more, line_last, line_none}
use Rattle.cip_words.proofs.text.lines.Goals as goal
use Rattle.cip_words.proofs.text.lines.Goals.{then-i-len+in_ok-push, else-i-len+then-not-is_empty+in_ok-push-2, else-i-len+else-not-is_empty}

pub loop-i-preserved : goal.loop-i-preserved
loop-i-preserved c =
    elim c.if-i-len.branch [
      | then-i-len+in_ok-push w ↦ rw (w.found-is, w.in_ok-push.ensures.items)
          (line_more _ c.loop-i.found.items c.loop-i.i _ _ (omega arith) w.without_return.ensures c.loop-i.invariant)
      | else-i-len+then-not-is_empty+in_ok-push-2 w ↦ rw (w.found-is, w.in_ok-push-2.ensures.items)
          (line_last _ c.loop-i.found.items c.loop-i.i _ c.loop-i-test.true (omega arith) (sym w.if-not-is_empty.ensures) c.loop-i.invariant)
      | else-i-len+else-not-is_empty w ↦ rw w.found-is (line_none _ c.loop-i.found.items c.loop-i.i _ c.loop-i-test.true (omega arith)
          (sym w.if-not-is_empty.ensures) c.loop-i.invariant)
    ]
