use Rattle.std.proofs.Common.{None, Some, refl, ap, ◌∙◌}
use Rattle.cip_routing.specs.State.{State}
use Rattle.cip_device.specs.Shown.{shown_of}
use Rattle.cip_device.proofs.FirstDue.{at_rest, soonest, nothing_waits, something_waits}
use Rattle.cip_device.proofs.held.Held.next_deadline.Goals as goal

pub returns-in_default-clause-nothing : goal.returns-in_default-clause-nothing
returns-in_default-clause-nothing c _ =
    at_rest (shown_of c.args.self.now) (shown_of c.args.self.now).state.now None (record { time_is = refl; due = c.in_default.ensures.value }) refl

pub returns-clause-done : goal.returns-clause-done
returns-clause-done c _ =
    soonest (shown_of c.args.self.now) c.module_now.result (Some c.in-Some.deadline)
    (record { time_is = c.module_now.ensures ∙ ap (λ (s : State). s.now) c.in-Some.ensures.after; due = c.in-Some.ensures.value })
    c.in-Some.deadline c.milliseconds_until.result refl
    c.milliseconds_until.ensures.some c.milliseconds_until.ensures.past c.milliseconds_until.ensures.least

pub returns-in_default-clause-waits : goal.returns-in_default-clause-waits
returns-in_default-clause-waits c = (
  λ done. absurd (cc),
  λ waits. absurd (nothing_waits (shown_of c.args.self.now) (shown_of c.args.self.now).state.now None
      (record { time_is = refl; due = c.in_default.ensures.value }) refl waits),
)

pub returns-clause-waits : goal.returns-clause-waits
returns-clause-waits c = (
  λ done. something_waits (shown_of c.args.self.now) c.module_now.result (Some c.in-Some.deadline)
      (record { time_is = c.module_now.ensures ∙ ap (λ (s : State). s.now) c.in-Some.ensures.after; due = c.in-Some.ensures.value })
      c.in-Some.deadline refl,
  λ waits. refl,
)
