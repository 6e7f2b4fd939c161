-- no newline stands in front
use Rattle.cip_words.specs.Shown.{HasNoNewline}
use Rattle.cip_words.proofs.text.line_end.Given as goal

abbrev pub invariant-loop-i : goal.invariant-loop-i
invariant-loop-i l = HasNoNewline l.text l.i
