use Rattle.std.proofs.Common.{arith}
use Rattle.cip_laws.specs.Histories.{state_after}
use Rattle.cip_laws.proofs.OneReply.{claims, waits_counted}
use Rattle.cip_laws.proofs.histories.requests_are_replied_once.Goals as goal

pub returns-clause-replied : goal.returns-clause-replied
returns-clause-replied c = λ config turns h up. let all = (claims config up turns h).1 in omega (arith, all)

pub returns-clause-waiting : goal.returns-clause-waiting
returns-clause-waiting c = λ config turns h up n p at same.
    let all = (claims config up turns h).1 in
    let one = waits_counted up (state_after config turns) n p at same in
    omega (arith, all, one)
