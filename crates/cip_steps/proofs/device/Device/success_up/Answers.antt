use Rattle.std.proofs.Common.{rules}
use Rattle.std.specs.FinMap as map
use Rattle.cip_open.specs.Reading.{success_of}
use Rattle.cip_steps.proofs.InPlace.{success_made}
use Rattle.cip_steps.proofs.device.Device.success_up.Goals as goal

pub returns-in-Link-clause-made : goal.returns-in-Link-clause-made
returns-in-Link-clause-made c =
    success_made c.args.making c.args.large (map.get c.args.self.now.hops.held c.args.triad.now) c.in-Some.held.now c.in-Link.port c.in-Link.address
    c.in-Link.their_id
    c.unwrap_or-up_id.result c.args.bytes.now (success_of c.args.success) c.success_with.result
    (search rules) (search rules) (search rules) c.success_with.ensures.made
