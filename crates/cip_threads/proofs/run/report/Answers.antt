use Rattle.std.proofs.Common.{List, length, reverse, subst}
use Rattle.cip_world.specs.declared.journal.Entry.{Entry}
use Rattle.cip_threads.specs.Reports.{AgreeTo}
use Rattle.cip_threads.proofs.Reporting.{report_is}
use Rattle.cip_threads.proofs.run.report.Goals as goal

pub returns-clause-ok : goal.returns-clause-ok
returns-clause-ok c =
    let agree = subst (λ (l : List Entry). AgreeTo c.args.topology.now (reverse l) c.in-Ok-compare.tables.items (length c.args.topology.now.modules))
    c.as_slice.ensures.value c.in-Ok-compare.ensures in
    let r = c.report_of.ensures in
    rw (r.journal, r.tables, r.feeds, r.frames, r.end) (report_is _ _ _ _ _ _ _ _ c.in-Ok.ensures agree)
