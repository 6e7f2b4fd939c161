use Rattle.std.proofs.Common.{sym, ◌∙◌}
use Rattle.cip_chain.proofs.Indexes.{adds_none, adds_known, adds_first}
use Rattle.cip_chain.proofs.index.add_command.Goals as goal

pub returns-clause-ok : goal.returns-clause-ok
returns-clause-ok c =
    adds_first c.args.firsts.now c.insert.new.self c.args.entry.now c.in-Some.command c.args.k (sym c.in-Some.ensures) (sym c.if-contains_key.ensures)
    c.in_ok-insert.ensures.updates.0
