use Rattle.std.proofs.Common.{arith}
use Rattle.cip_world.proofs.Freshness.{differ_at}
use Rattle.cip_world.proofs.StepAt.{at_place}
use Rattle.cip_world.proofs.fresh.first_other.Goals as goal

pub returns-then-not-has_config-clause-some : goal.returns-then-not-has_config-clause-some
returns-then-not-has_config-clause-some g c =
    let l = c.loop-m-test.true in
    let same = c.requires in
    differ_at _ c.args.modules.now c.args.configs.now c.loop-m.m c.index-modules-m.result c.index-configs-m.result c.loop-m.invariant
    (at_place c.args.modules.now c.loop-m.m c.index-modules-m.result l c.index-modules-m.is)
    (at_place c.args.configs.now c.loop-m.m c.index-configs-m.result (omega (arith, l, same)) c.index-configs-m.is)
    (λ e. let yes_ = c.has_config.ensures.1 e in let no_ = c.if-not-has_config.true in cc)
