-- That the rooms of a state are those of its config.
use Rattle.std.specs.Prelude.{◌≡◌}
use Rattle.cip_config.specs.declared.config.ModuleSettings.{ModuleSettings}
use Rattle.cip_routing.specs.State.{State}

pub record HasRooms (config : ModuleSettings) (s : State) : Type 0 where
  pub pendings : s.pendings.room ≡ config.pending_room
  pub hops : s.hops.room ≡ config.hop_room
