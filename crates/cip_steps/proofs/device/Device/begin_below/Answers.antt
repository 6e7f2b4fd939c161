use Rattle.std.proofs.Common.{rules}
use Rattle.cip_open.specs.Reading.{open_of}
use Rattle.cip_steps.proofs.Opened.{ready}
use Rattle.cip_steps.proofs.device.Device.begin_below.Goals as goal

pub begins-number-requires-clause-ready : goal.begins-number-requires-clause-ready
begins-number-requires-clause-ready c =
    ready c.args.self.now c.spend_for.new.self c.args.up c.args.view.now.fields.to_id c.args.port c.args.address (open_of c.args.view.now)
    c.opening_with-opening.result c.spend_for.ensures.after c.requires.spend
    (search rules) c.requires.multiplier c.requires.room
