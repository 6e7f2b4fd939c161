use Rattle.std.proofs.Common.{subst}
use Rattle.cip_chain.specs.Answers.{IsChainFault}
use Rattle.cip_transcript.proofs.ChainTold.{view_told, broken_told, not_open_told}
use Rattle.cip_transcript.proofs.chains.put_chain_of.Goals as goal

pub returns-in-Ok : goal.returns-in-Ok
returns-in-Ok g c =
    let told = view_told c.args.world.now.ledger.plan c.args.world.now.ledger.journal c.args.at.0 c.args.op c.in-Ok.view c.journal-run.ensures.run
    c.in-Ok.ensures.ok in
    rw told c.put_chain.ensures

pub returns-in-Err-NotOpen : goal.returns-in-Err-NotOpen
returns-in-Err-NotOpen g c =
    let t = c.args.world.now.ledger.plan in
    let j = c.args.world.now.ledger.journal in
    let told = not_open_told t j c.args.at.0 c.args.op c.journal-run.ensures.run
    (subst (IsChainFault t j c.args.at.0 c.args.op) c.in-Err-NotOpen.field-0-is c.in-Err-NotOpen.ensures.fault) in
    rw told c.put.ensures

pub returns-in-Err-Broken : goal.returns-in-Err-Broken
returns-in-Err-Broken g c =
    let t = c.args.world.now.ledger.plan in
    let j = c.args.world.now.ledger.journal in
    let told = broken_told t j c.args.at.0 c.args.op c.in-Err-Broken.lacking.0 c.journal-run.ensures.run
    (subst (IsChainFault t j c.args.at.0 c.args.op) c.in-Err-Broken.field-0-is c.in-Err-Broken.ensures.fault) in
    rw told (rw c.name_in.ensures at c.put_broken.ensures)
