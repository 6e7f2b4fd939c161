use Rattle.std.proofs.Common.{ap, ◌∙◌, List, ℕ}
use Rattle.cip_routing.specs.Table.{open_of}
use Rattle.cip_steps.proofs.Sends.{opens}
use Rattle.cip_steps.proofs.device.Device.open_anew.Goals as goal

pub returns : goal.returns
returns c =
    let m = c.args.self.now in
    let spelled = λ (path : List ℕ). open_of m.config.identity c.args.large c.args.timing path c.args.params.now in
    opens m c.reserves_op.new.self c.open.new.self _ c.args.op c.open.result (spelled c.args.path.now)
    (record { fields = c.open_fields-fields.result; path = c.view.result.bytes.now })
    c.requires.absent c.reserves_op.ensures.state c.reserves_op.ensures.config
    (c.open_fields-fields.ensures.spelled c.view.result.bytes.now ∙ ap spelled c.view.ensures) c.open.ensures
