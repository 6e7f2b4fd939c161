use Rattle.std.proofs.Common.{sym, ap, ◌∙◌}
use Rattle.cip_hops.specs.Hops.{is_timed_out}
use Rattle.cip_target.specs.Objects.{Objects}
use Rattle.cip_steps.specs.Code.Device.{state_of_device}
use Rattle.cip_steps.proofs.TimeOuts.{hop_time_out_is}
use Rattle.cip_routing.proofs.Found.{found_held}
use Rattle.cip_routing.proofs.Removed.{fit_gone}
use Rattle.cip_steps.proofs.device.Device.time_out_hop.Goals as goal

pub invariant_of-self : goal.invariant_of-self
invariant_of-self c =
    let m = c.args.self.now in
    record {
      fit = fit_gone m.config m.pendings m.hops c.expire.new.self m.target c.release.new.target m.ops.ops.items c.in-Some.hop.opening.triad c.in-Some.hop m.fit
          (found_held (is_timed_out c.args.now) m.hops c.in-Some.hop (sym c.in-Some.ensures.value) c.is_within.ensures) c.in-Some.ensures.after
          c.release.ensures.after;
    }

pub returns-in-Some-clause-after : goal.returns-in-Some-clause-after
returns-in-Some-clause-after c =
    let m = c.args.self.now in
    ap (λ (objects : Objects). record (state_of_device m) { hops = c.expire.new.self; assemblies = objects.assemblies }) c.release.ensures.objects
    ∙ hop_time_out_is m.config c.args.now (state_of_device m) c.expire.new.self c.in-Some.hop c.is_within.ensures c.in-Some.ensures.value
    c.in-Some.ensures.after
