-- A turn in which a module resets itself, and what it is then (Volume 1, chapter 5, Identity
-- object, service Reset).
use Rattle.std.specs.Prelude.{◌≡◌, ℕ, true, List, [], ◌∷◌, Some}
use Rattle.std.specs.FinMap.{empty}
use Rattle.cip_base.specs.Counts.{reborn}
use Rattle.cip_message.specs.Request.{Request}
use Rattle.cip_pending.specs.declared.entry.UpSide.{UpSide}
use Rattle.cip_pending.specs.declared.entry.UpSide.TheVariants.{Link, Local}
use Rattle.cip_target.specs.Assemblies.{zeroed}
use Rattle.cip_config.specs.declared.config.ModuleSettings.{ModuleSettings}
use Rattle.cip_routing.specs.Effects.{Answers, resets}
use Rattle.cip_routing.specs.State.{State, spent_with}
use Rattle.cip_routing.specs.Table.{decide, with_spending}
use Rattle.cip_laws.specs.Histories.{Turn, state_after}

-- the module's own objects answer a request, which came in a frame or by a command, and read it
-- as a reset for which an incarnation is left
pub record ResetIn (config : ModuleSettings) (before : List Turn) (turn : Turn) : Type 0 where
  pub up : UpSide
  pub request : Request
  pub decided : decide config (state_after config before) turn.event
      ≡ Some (with_spending up (Answers up request ∷ []))
  pub read : resets config (state_after config before) request ≡ true

-- the ops that were used, and that of a command that asked for the reset
abbrev pub ops_with : UpSide → List ℕ → List ℕ
ops_with (Link port address number) ops = ops
ops_with (Local op) ops = spent_with op ops

-- the first state of the config: no request waits, no connection is opening or open, and the bytes
-- of each assembly are 00. But numbers and ids begin their next incarnation, and the clock and the
-- ops that were used are as they were.
abbrev pub made_again : ModuleSettings → UpSide → State → State
made_again config up s = record {
  now = s.now;
  pendings = record {
    room = config.pending_room;
    next = reborn s.pendings.next;
    entries = empty;
  };
  hops = record { room = config.hop_room; next = reborn s.hops.next; held = empty };
  assemblies = zeroed config.assemblies;
  ops = ops_with up s.ops;
}
