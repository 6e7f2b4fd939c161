use Rattle.std.proofs.Common.{arith}
use Rattle.cip_base.proofs.laws.counts_rise_under_incarnations.Goals as goal

pub returns-clause-halves : goal.returns-clause-halves
returns-clause-halves c n some = omega arith

pub returns-clause-low : goal.returns-clause-low
returns-clause-low c n = omega arith

pub returns-clause-count : goal.returns-clause-count
returns-clause-count c n some left = omega arith

pub returns-clause-above : goal.returns-clause-above
returns-clause-above c n = omega arith

pub returns-clause-next : goal.returns-clause-next
returns-clause-next c n = omega arith

pub returns-clause-none_given : goal.returns-clause-none_given
returns-clause-none_given c n = omega arith
