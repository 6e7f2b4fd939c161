use Rattle.std.proofs.Common.{sym, ap, ◌∙◌, Some}
use Rattle.cip_words.specs.Shown.{ok_bytes}
use Rattle.cip_words.proofs.Back.{dash_read, empty_read, pairs_read, not_empty, refused_read}
use Rattle.cip_words.proofs.reading.bytes.Goals as goal

pub returns-then-eq : goal.returns-then-eq
returns-then-eq c = ap Some c.new.ensures.items ∙ sym (dash_read c.args.word.now (sym c.if-eq.ensures))

pub returns-then-is_empty : goal.returns-then-is_empty
returns-then-is_empty c = sym (empty_read c.args.word.now (sym c.if-eq.ensures) c.if-is_empty.ensures)

pub returns-in-Ok : goal.returns-in-Ok
returns-in-Ok c =
    sym (pairs_read c.args.word.now (sym c.if-eq.ensures) (not_empty _ c.if-is_empty.ensures) ∙ ap ok_bytes c.in-Ok.ensures.ok)

pub returns-in-Err-InvalidHexCharacter : goal.returns-in-Err-InvalidHexCharacter
returns-in-Err-InvalidHexCharacter c =
    sym (refused_read c.args.word.now _ (sym c.if-eq.ensures) (not_empty _ c.if-is_empty.ensures) (λ h. cc) c.in-Err-InvalidHexCharacter.ensures.err)

pub returns-in-Err-OddLength : goal.returns-in-Err-OddLength
returns-in-Err-OddLength c =
    sym (refused_read c.args.word.now _ (sym c.if-eq.ensures) (not_empty _ c.if-is_empty.ensures) (λ h. cc) c.in-Err-OddLength.ensures.err)

pub returns-in-Err-InvalidStringLength : goal.returns-in-Err-InvalidStringLength
returns-in-Err-InvalidStringLength c =
    sym (refused_read c.args.word.now _ (sym c.if-eq.ensures) (not_empty _ c.if-is_empty.ensures) (λ h. cc) c.in-Err-InvalidStringLength.ensures.err)
