use Rattle.std.proofs.Common.{arith}
use Rattle.std.proofs.lemmas.Grind.{common_steps}
use Rattle.cip_steps.proofs.device.Device.open_by_hop.Goals as goal

pub returns-in-Some-clause-row : goal.returns-in-Some-clause-row
returns-in-Some-clause-row c = grind (arith, common_steps)

pub returns-then-is_some-clause-row : goal.returns-then-is_some-clause-row
returns-then-is_some-clause-row c = grind (arith, common_steps)

pub returns-else-is_some-clause-row : goal.returns-else-is_some-clause-row
returns-else-is_some-clause-row c = grind (arith, common_steps)
