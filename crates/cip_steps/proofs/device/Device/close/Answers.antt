use Rattle.cip_close.specs.Reading.{close_of}
use Rattle.cip_steps.proofs.InPlace.{closed}
use Rattle.cip_steps.proofs.device.Device.close.Goals as goal

pub returns-in_ok-made-in-Forwarded : goal.returns-in_ok-made-in-Forwarded
returns-in_ok-made-in-Forwarded c =
    let m = c.args.self.now in
    closed m c.close_below-output.new.self c.args.making c.close_below-output.result c.args.up c.args.sender.now (close_of c.args.view.now)
    c.in-Forwarded.port c.in-Forwarded.address c.in-Forwarded.rest.bytes.now c.in_ok-made-in-Forwarded.made c.with.result c.in-Forwarded.ensures.row
    c.in_ok-made-in-Forwarded.ensures c.close_below-output.ensures c.with.ensures
