use Rattle.std.proofs.Common.{sym, ◌∙◌, ap, ◌^◌}
use Rattle.cip_tool.specs.Numbers.{below, numeral}
use Rattle.cip_tool.proofs.Numerals.{number_hex, number_decimal}
use Rattle.cip_tool.proofs.numbers.number.Goals as goal

pub returns-in-Some : goal.returns-in-Some
returns-in-Some c =
    let found = c.in-Some.ensures.cases in
    c.numeral.ensures ∙ ap (λ d. below (2 ^ 64) (numeral 16 d)) (c.as_bytes.ensures.value ∙ found.2) ∙ sym (number_hex c.args.word.now _ found.1.1)

pub returns-in-None : goal.returns-in-None
returns-in-None c =
    c.numeral-in-None.ensures ∙ ap (λ d. below (2 ^ 64) (numeral 10 d)) c.as_bytes-in-None.ensures.value
    ∙ sym (number_decimal c.args.word.now c.in-None.ensures.cases)
