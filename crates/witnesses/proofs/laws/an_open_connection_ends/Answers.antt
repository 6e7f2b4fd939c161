use Rattle.witnesses.proofs.ResetTold.{ends_turns, op_is_done, done_at_most_once, op_is_ended, ended_at_most_once, none_behind_the_end}
use Rattle.witnesses.proofs.laws.an_open_connection_ends.Goals as goal

pub returns-clause-turns : goal.returns-clause-turns
returns-clause-turns c = ends_turns

pub returns-clause-done : goal.returns-clause-done
returns-clause-done c = (op_is_done, done_at_most_once)

pub returns-clause-ended : goal.returns-clause-ended
returns-clause-ended c = (op_is_ended, ended_at_most_once)

pub returns-clause-last : goal.returns-clause-last
returns-clause-last c = none_behind_the_end
