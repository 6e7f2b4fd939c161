use Rattle.witnesses.proofs.Told.{changes_nothing, late_answered, answered_before, answered_after}
use Rattle.witnesses.proofs.laws.a_late_reply_changes_nothing.Goals as goal

pub returns-clause-late : goal.returns-clause-late
returns-clause-late c = changes_nothing

pub returns-clause-answered : goal.returns-clause-answered
returns-clause-answered c = late_answered

pub returns-clause-before : goal.returns-clause-before
returns-clause-before c = answered_before

pub returns-clause-after : goal.returns-clause-after
returns-clause-after c = answered_after
