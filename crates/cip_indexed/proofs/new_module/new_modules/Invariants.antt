use Rattle.std.proofs.Common.{◌≡◌, map, take}
use Rattle.cip_routing.specs.State.{initial_state}
use Rattle.cip_indexed.specs.NewModules.{config_of_new, state_of_new}
use Rattle.cip_indexed.proofs.new_module.new_modules.Given as goal

abbrev pub invariant-loop-i : goal.invariant-loop-i
invariant-loop-i l =
    record {
      configs : map config_of_new l.made.items ≡ take l.i l.configs;
      states : map state_of_new l.made.items ≡ map initial_state (take l.i l.configs);
    }
