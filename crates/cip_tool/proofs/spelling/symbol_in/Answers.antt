use Rattle.std.proofs.Common.{inl, inr, refl, not}
use Rattle.std.specs.List.{list_all}
use Rattle.std.proofs.lemmas.Bool.{cases_Bool, and_parts}
use Rattle.cip_tool.specs.Words.{is_marked, is_plain}
use Rattle.cip_tool.specs.Spelling.{is_symbol}
use Rattle.cip_tool.proofs.Texts.{plain_utf8}
use Rattle.cip_tool.proofs.spelling.symbol_in.Goals as goal

pub returns-in_default : goal.returns-in_default
returns-in_default c = elim (cases_Bool (is_symbol c.args.bytes.now)) [
  | inl is ↦
      let plain = (and_parts (not (is_marked c.args.bytes.now)) (list_all is_plain c.args.bytes.now) is).1 in
      absurd (c.in_default.ensures.cases.0 (plain_utf8 c.args.bytes.now plain))
  | inr other ↦ rw other refl
]
