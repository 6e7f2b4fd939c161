use Rattle.cip_chain.proofs.Apart.{view_open, view_whole, broken_open}
use Rattle.cip_chain.proofs.laws.answers_exclude_one_another.Goals as goal

pub returns-clause-open : goal.returns-clause-open
returns-clause-open c = view_open

pub returns-clause-whole : goal.returns-clause-whole
returns-clause-whole c = view_whole

pub returns-clause-broken : goal.returns-clause-broken
returns-clause-broken c = broken_open
