-- The state of a module, and the one that it begins with.
use Rattle.std.specs.Prelude.{ℕ, List, [], ◌∷◌, Bool, ◌==◌, nat_lt, if◌then◌else◌}
use Rattle.std.specs.List.{list_any}
use Rattle.std.specs.FinMap.{empty}
use Rattle.cip_base.specs.Words.{Microseconds, OpNumber}
use Rattle.cip_pending.specs.Pendings.{Pendings}
use Rattle.cip_hops.specs.Hops.{Hops}
use Rattle.cip_target.specs.Assemblies.{AssemblyMap, zeroed}
use Rattle.cip_config.specs.declared.config.ModuleSettings.{ModuleSettings}

pub record State : Type 0 where
  -- microseconds
  pub now : Microseconds
  -- the requests that wait, each under its number, and the next number
  pub pendings : Pendings
  -- the connections that are opening or open, each under its triad, and the next connection id
  pub hops : Hops
  -- the bytes of each assembly, by its instance
  pub assemblies : AssemblyMap
  -- the ops that were used, rising
  pub ops : List ℕ

abbrev pub initial_state : ModuleSettings → State
initial_state config = record {
  now = config.clock;
  pendings = record { room = config.pending_room; next = config.first_number; entries = empty };
  hops = record { room = config.hop_room; next = config.first_id; held = empty };
  assemblies = zeroed config.assemblies;
  ops = [];
}

abbrev pub is_spent : OpNumber → List ℕ → Bool
is_spent op ops = list_any (λ spent. spent == op) ops

-- with op at its place
abbrev pub spent_with : OpNumber → List ℕ → List ℕ
spent_with op [] = op ∷ []
spent_with op (spent ∷ ops) = if nat_lt op spent then op ∷ spent ∷ ops
    else spent ∷ spent_with op ops
