use Rattle.std.proofs.Common.{sym}
use Rattle.cip_words.proofs.Back.{not_digits, number_ok, number_err}
use Rattle.cip_words.proofs.reading.number.Goals as goal

pub returns-then-not-are_digits : goal.returns-then-not-are_digits
returns-then-not-are_digits c = sym (not_digits c.args.word.now (sym c.if-not-are_digits.ensures))

pub returns-in-Ok : goal.returns-in-Ok
returns-in-Ok c = number_ok c.args.word.now c.parse.result _ (sym c.if-not-are_digits.ensures) c.parse.ensures.value.0 c.in-Ok.is

pub returns-in-Err : goal.returns-in-Err
returns-in-Err c = number_err c.args.word.now c.parse.result _ (sym c.if-not-are_digits.ensures) c.parse.ensures.value.0 c.in-Err.is
