use Rattle.std.proofs.Common.{◌∙◌, List, get_or, reverse, subst}
use Rattle.cip_config.specs.declared.config.ModuleSettings.{ModuleSettings}
use Rattle.cip_threads.specs.Reports.{Agrees}
use Rattle.cip_threads.proofs.Reporting.{agree_more}
use Rattle.cip_threads.proofs.run.compare.Goals as goal

pub loop-m-preserved : goal.loop-m-preserved
loop-m-preserved c =
    let j = reverse c.args.journal.now in
    let here = subst (λ (x : ModuleSettings). Agrees x j c.loop-m.m c.in-Some.one) c.index-configs-m.is
    (c.in-Some.ensures.agrees j c.loop-m.invariant.2) in
    let agrees = subst (λ (l : List ModuleSettings). Agrees (get_or l c.loop-m.m c.index-configs-m.result) j c.loop-m.m c.in-Some.one)
    c.configs-configs.ensures.value here in (
      rw c.in-Ok.ensures.items (agree_more c.args.topology.now j c.loop-m.tables.items c.loop-m.m c.index-configs-m.result
          c.in-Some.one agrees c.loop-m.invariant.0),
      c.agreed.ensures.count ∙ c.loop-m.invariant.1,
      c.agreed.ensures.met j c.loop-m.invariant.2,
    )
