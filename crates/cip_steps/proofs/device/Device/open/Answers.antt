use Rattle.std.proofs.Common.{◌+◌, ap, ◌∙◌}
use Rattle.cip_open.specs.Reading.{open_of}
use Rattle.cip_hops.specs.declared.opening.HopUp.{HopUp}
use Rattle.cip_routing.specs.OpenRows.{Forwarded, Accepted, open_row}
use Rattle.cip_steps.specs.Code.Device.{state_of_device}
use Rattle.cip_steps.proofs.Opened.{multiplier_below}
use Rattle.cip_steps.proofs.InPlace.{opened}
use Rattle.cip_steps.proofs.device.Device.open.Goals as goal

pub begin_below-requires-clause-multiplier : goal.begin_below-requires-clause-multiplier
begin_below-requires-clause-multiplier c =
    let m = c.args.self.now in
    multiplier_below m.config (state_of_device m) c.up_side_of-asker.result (open_of c.args.view.now)
    (Forwarded c.in-Forwarded.port c.in-Forwarded.address c.in-Forwarded.rest.bytes.now) c.in-Forwarded.ensures.row (λ refusal e. cc)

pub open_at_end-requires-clause-multiplier : goal.open_at_end-requires-clause-multiplier
open_at_end-requires-clause-multiplier c =
    let m = c.args.self.now in
    multiplier_below m.config (state_of_device m) c.up_side_of-asker.result (open_of c.args.view.now) (Accepted c.in-Accepted.link)
    c.in-Accepted.ensures.row (λ refusal e. cc)

pub returns-in-Forwarded : goal.returns-in-Forwarded
returns-in-Forwarded c =
    let m = c.args.self.now in
    let asked = open_of c.args.view.now in
    opened m c.begin_below.new.self c.args.making c.in_ok-output-in-Forwarded.output c.args.up asked c.in-Forwarded.port (c.last-down_id.result + 1)
    c.in-Forwarded.address c.in-Forwarded.rest.bytes.now c.in_ok-made-in-Forwarded.made c.with.result c.last-down_id.ensures.value
    (c.in-Forwarded.ensures.row ∙ ap (λ (up : HopUp). open_row m.config (state_of_device m) up asked) c.up_side_of-asker.ensures)
    c.in_ok-made-in-Forwarded.ensures c.in_ok-output-in-Forwarded.ensures c.with.ensures
