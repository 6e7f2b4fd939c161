use Rattle.std.proofs.Common.{inl, inr, refl}
use Rattle.std.proofs.lemmas.Bool.{cases_Bool}
use Rattle.cip_tool.specs.Words.{is_name}
use Rattle.cip_tool.proofs.Texts.{plain_utf8, name_plain}
use Rattle.cip_tool.proofs.spelling.name_in.Goals as goal

pub returns-in_default : goal.returns-in_default
returns-in_default c = elim (cases_Bool (is_name c.args.bytes.now)) [
  | inl is ↦ absurd (c.in_default.ensures.cases.0 (plain_utf8 c.args.bytes.now (name_plain c.args.bytes.now is)))
  | inr other ↦ rw other refl
]
