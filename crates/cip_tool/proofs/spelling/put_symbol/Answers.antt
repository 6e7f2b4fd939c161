use Rattle.std.proofs.Common.{arith, ℕ}
use Rattle.cip_tool.proofs.Texts.{always}
use Rattle.cip_tool.proofs.spelling.put_symbol.Goals as goal

pub returns-in-Some-clause-bytes : goal.returns-in-Some-clause-bytes
returns-in-Some-clause-bytes c = always c.put-in-Some.result (λ (i : ℕ). omega (arith, c.type_inv.name i))

pub returns-in-None-clause-bytes : goal.returns-in-None-clause-bytes
returns-in-None-clause-bytes c = always c.put_marked.result (λ (i : ℕ). omega (arith, c.type_inv.name i))
