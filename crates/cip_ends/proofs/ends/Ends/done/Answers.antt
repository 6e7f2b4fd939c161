use Rattle.std.proofs.Common.{rules}
use Rattle.cip_ends.proofs.Ending.{the_only, has_none}
use Rattle.cip_ends.proofs.ends.Ends.done.Goals as goal

pub returns-in-Some-clause-only : goal.returns-in-Some-clause-only
returns-in-Some-clause-only c = the_only c.args.journal.now c.args.module_.0 c.args.number c.in-Some.reply.now (search rules)

pub returns-in-Some-known-clause-only : goal.returns-in-Some-known-clause-only
returns-in-Some-known-clause-only c = the_only c.args.journal.now c.args.module_.0 c.args.number c.in-Some-known.reply.now c.in-Some-known.ensures

pub returns-in-Some-last_end-clause-only : goal.returns-in-Some-last_end-clause-only
returns-in-Some-last_end-clause-only c = the_only c.args.journal.now c.args.module_.0 c.args.number c.in-Some-last_end.reply.now (search rules)

pub returns-in-None-clause-only : goal.returns-in-None-clause-only
returns-in-None-clause-only c one = has_none c.args.journal.now c.args.module_.0 c.args.number (search rules)
