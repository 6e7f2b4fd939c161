use Rattle.std.proofs.Common.{sym, arith}
use Rattle.std.proofs.lemmas.List.{take_all}
use Rattle.cip_base.proofs.excerpt.front.Goals as goal

pub returns-then-text-le40-clause-is : goal.returns-then-text-le40-clause-is
returns-then-text-le40-clause-is c = sym (take_all 40 c.args.text.now (omega arith))
