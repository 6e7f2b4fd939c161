use Rattle.std.proofs.Common.{rules, None}
use Rattle.cip_threads.proofs.Meeting.{met_set}
use Rattle.cip_threads.proofs.run.agreed.Goals as goal

pub returns-in-Some-clause-met : goal.returns-in-Some-clause-met
returns-in-Some-clause-met c j all =
    rw c.take_message.ensures.after (met_set j c.args.slots.now.items c.args.m None (search rules) all (search rules))
