use Rattle.witnesses.proofs.CarriedOnce.{enters, chain_then, deliveries, kept, carried_once}
use Rattle.witnesses.proofs.laws.a_datum_is_carried.Goals as goal

pub returns-clause-entered : goal.returns-clause-entered
returns-clause-entered c = enters

pub returns-clause-chain : goal.returns-clause-chain
returns-clause-chain c = chain_then

pub returns-clause-deliveries : goal.returns-clause-deliveries
returns-clause-deliveries c = deliveries

pub returns-clause-kept : goal.returns-clause-kept
returns-clause-kept c = kept

pub returns-clause-taken : goal.returns-clause-taken
returns-clause-taken c = carried_once
