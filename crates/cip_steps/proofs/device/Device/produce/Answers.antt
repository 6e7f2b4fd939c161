use Rattle.std.specs.FinMap as map
use Rattle.cip_steps.specs.Code.Device.{state_of_device}
use Rattle.cip_steps.proofs.Made.{makes}
use Rattle.cip_steps.proofs.device.Device.produce.Goals as goal

pub returns : goal.returns
returns c =
    let m = c.args.self.now.target.objects.assemblies in record {
      does = makes c.args.self.now.config (state_of_device c.args.self.now) (state_of_device c.count_data.new.self) c.args.instance c.in-Ok.held.now
          (map.get m c.args.instance) c.in_ok-outputs.outputs.items c.is_within.ensures c.in-Ok.ensures.1.0
          c.count_data.ensures.after c.in_ok-outputs.ensures;
      same_config = c.count_data.ensures.config;
    }
