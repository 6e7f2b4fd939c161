use Rattle.cip_words.proofs.LinesLaws.{line_first, line_alone}
use Rattle.cip_words.proofs.text.first_line.Goals as goal

pub returns-in-Some-clause-lines : goal.returns-in-Some-clause-lines
returns-in-Some-clause-lines c =
    let within = rw c.as_bytes.ensures.value at c.in-Some.ensures.within in
    let first = rw c.as_bytes.ensures.value at c.in-Some.ensures.first in
    let newline = rw c.as_bytes.ensures.value at c.in-Some.ensures.newline in
    rw (c.line_before.ensures, c.range_from.ensures.value) (line_first c.args.text.now c.in-Some.newline within first newline)

pub returns-in-None-clause-lines : goal.returns-in-None-clause-lines
returns-in-None-clause-lines c = line_alone c.args.text.now c.requires.some (rw c.as_bytes.ensures.value at c.in-None.ensures.none)
