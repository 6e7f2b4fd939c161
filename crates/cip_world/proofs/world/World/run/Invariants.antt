use Rattle.std.proofs.Common.{◌≡◌, ◌≤◌, map}
use Rattle.cip_world.specs.Worlds.{Stand, Delivers}
use Rattle.cip_world.proofs.world.World.run.Given as goal

abbrev pub invariant-loop : goal.invariant-loop
invariant-loop g l =
    Stand l.self.ledger (map (λ b. (goal.Module-dyn g (b.vtable, b.value)).config_of b.value) l.self.modules.items)
    (map (λ b. (goal.Module-dyn g (b.vtable, b.value)).state_of b.value) l.self.modules.items)
    × (l.self.ledger.plan ≡ l.initial.self.ledger.plan)
    × (l.counter ≤ l.limit)
    × Delivers l.initial.self.ledger.plan l.counter l.initial.self.ledger.journal l.self.ledger.journal
