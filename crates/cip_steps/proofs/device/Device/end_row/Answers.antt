use Rattle.std.proofs.Common.{◌∙◌}
use Rattle.cip_open.specs.Reading.{open_of}
use Rattle.cip_steps.proofs.Outputs.{rows_agree}
use Rattle.cip_steps.proofs.device.Device.end_row.Goals as goal

pub returns-clause-row : goal.returns-clause-row
returns-clause-row c =
    let m = c.args.self.now in
    c.end_row.ensures ∙ rows_agree m.hops m.target.objects.assemblies m.target.owners (open_of c.args.view.now) m.fit.owned
