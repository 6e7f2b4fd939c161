use Rattle.std.proofs.Common.{sym, ap, ◌∙◌}
use Rattle.cip_hops.specs.Hops as hops
use Rattle.cip_steps.specs.Code.Device.{state_of_device}
use Rattle.cip_steps.proofs.TimeOuts.{stands, pending_time_out_is, due_given_up}
use Rattle.cip_routing.proofs.Kept.{fit_gives_up}
use Rattle.cip_steps.proofs.device.Device.time_out_pending.Goals as goal

pub invariant_of-self : goal.invariant_of-self
invariant_of-self c =
    let m = c.args.self.now in
    record {
      fit = fit_gives_up m.config m.pendings c.expire.new.self m.hops c.give_up.new.hops m.target m.ops.ops.items c.in-Some.field-0-0 c.in-Some.entry m.fit
          (stands c.args.now m.pendings (c.in-Some.field-0-0, c.in-Some.entry) (sym c.in-Some.ensures.value)) c.in-Some.ensures.after c.give_up.ensures;
    }

pub returns-in-Some-clause-after : goal.returns-in-Some-clause-after
returns-in-Some-clause-after c =
    let m = c.args.self.now in
    pending_time_out_is m.config c.args.now (state_of_device m) c.expire.new.self c.give_up.new.hops (c.in-Some.field-0-0, c.in-Some.entry)
    c.in-Some.ensures.value c.in-Some.ensures.after c.give_up.ensures

pub returns-in-Some-clause-hops : goal.returns-in-Some-clause-hops
returns-in-Some-clause-hops c = ap (hops.due c.args.now) c.give_up.ensures ∙ due_given_up c.args.now c.in-Some.entry.kind c.args.self.now.hops
