use Rattle.std.proofs.Common.{sym, ap, ◌∙◌, is_some}
use Rattle.cip_open.specs.Reading.{open_of}
use Rattle.cip_steps.specs.Code.Device.{state_of_device}
use Rattle.cip_steps.proofs.Outputs.{here_full, here_ends, here_refused}
use Rattle.cip_steps.proofs.device.Device.open_here.Goals as goal

pub returns-in-Err-clause-row : goal.returns-in-Err-clause-row
returns-in-Err-clause-row c =
    sym (here_refused (state_of_device c.args.self.now) c.args.up.now (open_of c.args.view.now) c.in-Err.refusal
    (sym c.is_link.ensures ∙ c.if-not-is_link.false) c.in-Err.ensures.row)

pub returns-then-is_some-clause-row : goal.returns-then-is_some-clause-row
returns-then-is_some-clause-row c =
    sym (here_full (state_of_device c.args.self.now) c.args.up.now (open_of c.args.view.now) c.in-Ok.link
    (sym c.is_link.ensures ∙ c.if-not-is_link.false) c.in-Ok.ensures.row (ap is_some (sym c.can_begin.ensures) ∙ sym c.if-is_some.ensures))

pub returns-clause-row : goal.returns-clause-row
returns-clause-row c =
    sym (here_ends (state_of_device c.args.self.now) c.args.up.now (open_of c.args.view.now) c.in-Ok.link
    (sym c.is_link.ensures ∙ c.if-not-is_link.false) c.in-Ok.ensures.row (ap is_some (sym c.can_begin.ensures) ∙ sym c.if-is_some.ensures))
