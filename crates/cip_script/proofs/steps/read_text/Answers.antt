use Rattle.std.proofs.Common.{arith, rules}
use Rattle.std.proofs.lemmas.Grind.{common_steps}
use Rattle.cip_script.proofs.steps.read_text.Goals as goal

pub lines-preserved-in-Ok-None : goal.lines-preserved-in-Ok-None
lines-preserved-in-Ok-None c = record {
  utf8 = search rules;
  text = search rules;
  within = omega arith;
  read = grind (arith, common_steps);
}

pub lines-preserved : goal.lines-preserved
lines-preserved c = record {
  utf8 = search rules;
  text = search rules;
  within = omega arith;
  read = grind (arith, common_steps);
}

pub returns : goal.returns
returns c = grind (arith, common_steps)
