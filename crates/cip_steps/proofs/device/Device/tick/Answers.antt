use Rattle.std.proofs.Common.{◌*◌, ◌++◌, ℕ, List, Ok, sym, ap, subst, ◌∙◌, arith}
use Rattle.cip_event.specs.declared.event.Output.{Output}
use Rattle.cip_pending.specs.Pendings.{due}
use Rattle.cip_hops.specs.Hops as hops
use Rattle.cip_steps.specs.Code.Does.{Does}
use Rattle.cip_routing.specs.Effects.{applied}
use Rattle.cip_routing.specs.State.{State}
use Rattle.cip_steps.specs.Code.Device.{state_of_device}
use Rattle.cip_routing.specs.Table.{tick_effects, pending_time_outs, hop_time_outs}
use Rattle.cip_steps.specs.Code.Ticks.{pendings_timed_out, hops_timed_out}
use Rattle.cip_steps.proofs.TimeOuts.{ticked, quiet_tick, gives_from}
use Rattle.cip_steps.proofs.device.Device.tick.Goals as goal

pub returns-clause-gives : goal.returns-clause-gives
returns-clause-gives c =
    let m = c.is_quiet.new.self in
    let s = state_of_device m in
    let clock = ap (λ (z : State). z.now) c.is_quiet.ensures.after in
    gives_from (λ v. v.items) c.args.self.now.config m.config (state_of_device c.args.self.now) s (state_of_device c.clear_due.new.self) c.args.by
    (Ok c.in-Ok-timed_out_all.outputs) c.is_quiet.ensures.config c.is_quiet.ensures.after (
      omega (arith, clock, c.in-Ok.ensures.ok, c.now-now.ensures.bound, c.now-now.ensures.value),
      ticked m.config s (state_of_device c.clear_due.new.self) (1000 * c.args.by) c.advance.new.self c.in-Ok-timed_out_all.outputs.items
          (omega (arith, clock, c.in-Ok.ensures.ok))
          (c.clear_due.ensures.after
          ∙ ap (λ (t : ℕ). applied m.config (record s { now = c.advance.new.self }) (pending_time_outs t m.pendings ++ hop_time_outs t m.hops))
          c.now-now.ensures.value)
          (c.in-Ok-timed_out_all.ensures ∙ ap (λ (t : ℕ). pendings_timed_out t m.pendings ++ hops_timed_out t m.hops) c.now-now.ensures.value),
    )

pub returns-then-is_quiet-clause-gives : goal.returns-then-is_quiet-clause-gives
returns-then-is_quiet-clause-gives c =
    let m = c.args.self.now in
    let s = state_of_device m in
    let t = c.advance.new.self in
    let time = c.now-now.ensures.value in
    let waiting = ap (λ (k : ℕ). due k m.pendings) (sym time) ∙ c.is_quiet.ensures.pendings c.if-is_quiet.true in
    let open_ = ap (λ (k : ℕ). hops.due k m.hops) (sym time) ∙ c.is_quiet.ensures.hops c.if-is_quiet.true in (
      omega (arith, c.in-Ok.ensures.ok, c.now-now.ensures.bound, time),
      subst (λ (z : State). Does m.config s (tick_effects s (1000 * c.args.by)) z c.new.result.items)
          (sym (ap (λ (z : State). record z { now = t }) c.is_quiet.ensures.after))
          (subst (λ (outs : List Output). Does m.config s (tick_effects s (1000 * c.args.by)) (record s { now = t }) outs) (sym c.new.ensures.items)
          (quiet_tick m.config s (1000 * c.args.by) t c.in-Ok.ensures.ok waiting open_)),
    )
