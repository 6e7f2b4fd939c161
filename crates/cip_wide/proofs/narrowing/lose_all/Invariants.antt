use Rattle.std.proofs.Common.{◌≤◌, length, map}
use Rattle.std.specs.Prelude.{string_len}
use Rattle.cip_world.specs.Worlds.{Stand}
use Rattle.cip_wide.proofs.narrowing.lose_all.Given as goal

abbrev pub invariant-losses : goal.invariant-losses
invariant-losses g l =
    Stand l.world.ledger (map (λ b. (goal.Module-dyn g (b.vtable, b.value)).config_of b.value) l.world.modules.items)
    (map (λ b. (goal.Module-dyn g (b.vtable, b.value)).state_of b.value) l.world.modules.items)
    × (string_len l.initial.narrow.script ≤ 1048576 → string_len l.narrow.script ≤ 1048576)

abbrev pub decreases-losses : goal.decreases-losses
decreases-losses g l = length l.losses.items
