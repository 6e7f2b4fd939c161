use Rattle.cip_chain.proofs.OnRuns.{all_mirrored, all_carried, past_all}
use Rattle.cip_chain.proofs.Followed.{nothing_open, empty_journal}
use Rattle.cip_chain.proofs.chains.chain.Goals as goal

pub returns-then-is_empty-clause-fault : goal.returns-then-is_empty-clause-fault
returns-then-is_empty-clause-fault g c =
    nothing_open c.args.world.now.ledger.plan c.args.world.now.ledger.journal c.args.at.0 c.args.op
    (empty_journal c.journal.result.now c.args.world.now.ledger.journal c.journal.ensures.journal c.if-is_empty.ensures)

pub returns-then-is_empty-clause-mirrored : goal.returns-then-is_empty-clause-mirrored
returns-then-is_empty-clause-mirrored g c =
    all_mirrored c.args.world.now.ledger.plan c.topology.result.now c.args.world.now.ledger.journal c.topology.ensures
    c.configs-size.ensures.keeps c.journal.ensures.run

pub returns-then-is_empty-clause-carries : goal.returns-then-is_empty-clause-carries
returns-then-is_empty-clause-carries g c =
    all_carried c.args.world.now.ledger.plan c.topology.result.now c.args.world.now.ledger.journal c.topology.ensures
    c.configs-size.ensures.keeps c.journal.ensures.run

pub returns-then-at-size-clause-fault : goal.returns-then-at-size-clause-fault
returns-then-at-size-clause-fault g c =
    past_all c.args.world.now.ledger.plan c.topology.result.now c.args.world.now.ledger.journal c.args.at.0 c.args.op
    c.topology.ensures c.configs-size.result.now
    c.configs-size.ensures.value c.if-at-size.true

pub returns-then-at-size-clause-mirrored : goal.returns-then-at-size-clause-mirrored
returns-then-at-size-clause-mirrored g c =
    all_mirrored c.args.world.now.ledger.plan c.topology.result.now c.args.world.now.ledger.journal c.topology.ensures
    c.configs-size.ensures.keeps c.journal.ensures.run

pub returns-then-at-size-clause-carries : goal.returns-then-at-size-clause-carries
returns-then-at-size-clause-carries g c =
    all_carried c.args.world.now.ledger.plan c.topology.result.now c.args.world.now.ledger.journal c.topology.ensures
    c.configs-size.ensures.keeps c.journal.ensures.run

pub returns-clause-mirrored : goal.returns-clause-mirrored
returns-clause-mirrored g c =
    all_mirrored c.args.world.now.ledger.plan c.topology.result.now c.args.world.now.ledger.journal c.topology.ensures
    c.configs-size.ensures.keeps c.journal.ensures.run

pub returns-clause-carries : goal.returns-clause-carries
returns-clause-carries g c =
    all_carried c.args.world.now.ledger.plan c.topology.result.now c.args.world.now.ledger.journal c.topology.ensures
    c.configs-size.ensures.keeps c.journal.ensures.run
