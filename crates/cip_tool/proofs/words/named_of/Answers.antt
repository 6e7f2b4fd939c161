use Rattle.std.proofs.Common.{rules}
use Rattle.cip_tool.specs.Words.{named_of}
use Rattle.cip_tool.proofs.words.named_of.Goals as goal

pub returns-then-eq-clause-gives : goal.returns-then-eq-clause-gives
unfolding named_of
returns-then-eq-clause-gives c = search rules

pub returns-then-eq-2-clause-gives : goal.returns-then-eq-2-clause-gives
unfolding named_of
returns-then-eq-2-clause-gives c = search rules

pub returns-then-eq-3-clause-gives : goal.returns-then-eq-3-clause-gives
unfolding named_of
returns-then-eq-3-clause-gives c = search rules

pub returns-then-eq-4-clause-gives : goal.returns-then-eq-4-clause-gives
unfolding named_of
returns-then-eq-4-clause-gives c = search rules

pub returns-then-eq-5-clause-gives : goal.returns-then-eq-5-clause-gives
unfolding named_of
returns-then-eq-5-clause-gives c = search rules

pub returns-then-eq-6-clause-gives : goal.returns-then-eq-6-clause-gives
unfolding named_of
returns-then-eq-6-clause-gives c = search rules

pub returns-then-eq-7-clause-gives : goal.returns-then-eq-7-clause-gives
unfolding named_of
returns-then-eq-7-clause-gives c = search rules

pub returns-then-eq-8-clause-gives : goal.returns-then-eq-8-clause-gives
unfolding named_of
returns-then-eq-8-clause-gives c = search rules

pub returns-else-eq-8-clause-gives : goal.returns-else-eq-8-clause-gives
unfolding named_of
returns-else-eq-8-clause-gives c = search rules
