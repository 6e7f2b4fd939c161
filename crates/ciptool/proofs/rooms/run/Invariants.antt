use Rattle.std.proofs.Common.{map}
use Rattle.cip_world.specs.Worlds.{Stand}
use Rattle.ciptool.proofs.rooms.run.Given as goal

abbrev pub invariant-frames : goal.invariant-frames
invariant-frames g l =
    Stand l.world.ledger (map (λ b. (goal.Module-dyn g (b.vtable, b.value)).config_of b.value) l.world.modules.items)
    (map (λ b. (goal.Module-dyn g (b.vtable, b.value)).state_of b.value) l.world.modules.items)
