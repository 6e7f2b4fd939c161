use Rattle.std.proofs.Common.{map}
use Rattle.cip_world.specs.Worlds.{Stand}
use Rattle.played_worlds.proofs.lines.play_over.Given as goal

abbrev pub invariant-loop-line : goal.invariant-loop-line
invariant-loop-line g l =
    record {
      stand : Stand l.world.ledger (map (λ b. (goal.Module-dyn g (b.vtable, b.value)).config_of b.value) l.world.modules.items)
          (map (λ b. (goal.Module-dyn g (b.vtable, b.value)).state_of b.value) l.world.modules.items);
      twin : Stand l.twin.ledger (map (λ b. (goal.Module-dyn g (b.vtable, b.value)).config_of b.value) l.twin.modules.items)
          (map (λ b. (goal.Module-dyn g (b.vtable, b.value)).state_of b.value) l.twin.modules.items);
    }
