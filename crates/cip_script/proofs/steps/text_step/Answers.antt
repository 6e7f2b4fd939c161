use Rattle.std.proofs.Common.{◌≡◌, [], ap, arith, sym, ◌∙◌, false, ◌==◌, refl}
use Rattle.std.specs.Prelude.{slice_index}
use Rattle.std.proofs.lemmas.List.{nil_from_length}
use Rattle.cip_script.specs.Steps.{texts}
use Rattle.cip_script.specs.Text.{words_of}
use Rattle.cip_script.proofs.StepsLaws.{step-of_text}
use Rattle.cip_script.proofs.steps.text_step.Goals as goal

pub returns-in-None : goal.returns-in-None
returns-in-None c =
    let line = c.args.line.now in
    let no_item = nil_from_length c.deref.result.now c.in-None.ensures.cases in
    let no_word : words_of line ≡ [] = sym c.in_ok-words.ensures ∙ ap texts (sym c.deref.ensures.value ∙ no_item) in
    let plain : (slice_index line 0 == 35) ≡ false = sym c.is_comment.ensures ∙ c.if-is_comment.false in
    step-of_text c.args.mode c.args.names.now line c.requires ∙ rw (plain, no_word) refl

pub returns-then-is_comment : goal.returns-then-is_comment
returns-then-is_comment c = grind (arith, step-of_text)

pub returns-in_err-step_of-in-Some : goal.returns-in_err-step_of-in-Some
returns-in_err-step_of-in-Some c = grind (arith, step-of_text)

pub returns-in_ok-step_of-in-Some : goal.returns-in_ok-step_of-in-Some
returns-in_ok-step_of-in-Some c = grind (arith, step-of_text)
