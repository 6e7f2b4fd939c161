use Rattle.std.proofs.Common.{length, map}
use Rattle.cip_world.specs.Worlds.{Stand}
use Rattle.ciptool.proofs.rooms.play_all.Given as goal

abbrev pub invariant-steps : goal.invariant-steps
invariant-steps g l =
    Stand l.world.ledger (map (λ b. (goal.Module-dyn g (b.vtable, b.value)).config_of b.value) l.world.modules.items)
    (map (λ b. (goal.Module-dyn g (b.vtable, b.value)).state_of b.value) l.world.modules.items)

abbrev pub decreases-steps : goal.decreases-steps
decreases-steps g l = length l.left.items
