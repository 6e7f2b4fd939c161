use Rattle.witnesses.proofs.TimedOutOpen.{timed_out_open}
use Rattle.witnesses.proofs.laws.timed_out_open.Goals as goal

pub returns : goal.returns
returns c = timed_out_open
