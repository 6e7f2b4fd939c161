use Rattle.std.proofs.Common.{rules, Some, []}
use Rattle.cip_threads.proofs.Meeting.{met_set}
use Rattle.cip_threads.proofs.run.place.Goals as goal

pub returns-then-m-len-clause-met : goal.returns-then-m-len-clause-met
returns-then-m-len-clause-met c =
    met_set [] c.args.slots.now.items c.m-m.result.0 (Some c.new.result) (search rules) c.requires (search rules)
