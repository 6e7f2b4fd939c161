use Rattle.std.proofs.Common.{rules, ◌<◌, length}
use Rattle.std.proofs.Math.Seq.{map-set_same}
use Rattle.cip_world.proofs.StepAt.{step_at_ok, step_at_err, step_at_full, at_place}
use Rattle.cip_world.proofs.step.step_at.Goals as goal

pub returns-clause-configs : goal.returns-clause-configs
returns-clause-configs g c =
    map-set_same _ c.args.modules.now.items c.args.m c.step.new.self c.index_mut.result.now (rw (← c.index_mut.ensures.value) c.step.ensures.config)

pub returns-clause-ok : goal.returns-clause-ok
returns-clause-ok g c =
    let h : c.args.m < length c.args.modules.now.items = search rules in
    step_at_ok _ _ (λ v. v.items) c.args.modules.now.items c.args.m c.index_mut.result.now c.step.new.self c.args.event c.step.result
    (at_place c.args.modules.now.items c.args.m c.index_mut.result.now h c.index_mut.ensures.value) c.step.ensures.ok

pub returns-clause-err : goal.returns-clause-err
returns-clause-err g c = step_at_err (λ b. (goal.Module-dyn g (b.vtable, b.value)).config_of b.value) _ c.args.modules.now.items
    c.args.m c.index_mut.result.now c.step.new.self c.args.event c.step.result c.index_mut.ensures.value c.step.ensures.fault

pub returns-clause-full : goal.returns-clause-full
returns-clause-full g c =
    let h : c.args.m < length c.args.modules.now.items = search rules in
    step_at_full _ _ c.args.modules.now.items c.args.m c.index_mut.result.now c.step.new.self c.args.event c.step.result
    (at_place c.args.modules.now.items c.args.m c.index_mut.result.now h c.index_mut.ensures.value) c.step.ensures.fault
