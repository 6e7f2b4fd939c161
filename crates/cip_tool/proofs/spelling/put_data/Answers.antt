use Rattle.std.proofs.Common.{arith, ℕ}
use Rattle.cip_tool.proofs.Texts.{always}
use Rattle.cip_tool.proofs.spelling.put_data.Goals as goal

pub returns-clause-bytes : goal.returns-clause-bytes
returns-clause-bytes c = always c.put_pairs.result (λ (i : ℕ). omega (arith, c.type_inv.bytes i))
