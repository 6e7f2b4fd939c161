use Rattle.std.proofs.Common.{arith, ℕ}
use Rattle.cip_tool.proofs.Texts.{always}
use Rattle.cip_tool.proofs.spelling.put_port.Goals as goal

pub returns-clause-bytes : goal.returns-clause-bytes
returns-clause-bytes c = always c.put_address.result (λ (i : ℕ). omega (arith, c.type_inv.address i))
