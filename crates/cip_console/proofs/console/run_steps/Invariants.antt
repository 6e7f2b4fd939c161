use Rattle.std.proofs.Common.{◌≡◌, length, map}
use Rattle.cip_world.specs.Worlds.{Stand}
use Rattle.cip_chain.specs.Index.{IsIndexOf}
use Rattle.cip_console.proofs.Running.{Running}
use Rattle.cip_console.proofs.console.run_steps.Given as goal

abbrev pub invariant-loop-numbered : goal.invariant-loop-numbered
invariant-loop-numbered g l =
    record {
      stand : Stand l.world.ledger (map (λ b. (goal.Module-dyn g (b.vtable, b.value)).config_of b.value) l.world.modules.items)
          (map (λ b. (goal.Module-dyn g (b.vtable, b.value)).state_of b.value) l.world.modules.items);
      index : IsIndexOf l.index l.world.ledger.journal;
      plan : l.world.ledger.plan ≡ l.initial.world.ledger.plan;
      taken : g.W.Sink.has_refused l.writer → g.W.Sink.has_refused l.initial.writer;
      running : Running l.initial.world.ledger.plan l.fn.steps.items (g.W.Sink.contents l.initial.writer) (g.W.Sink.contents l.writer) l.text.items
          l.world.ledger.journal l.left.items;
    }

abbrev pub decreases-loop-numbered : goal.decreases-loop-numbered
decreases-loop-numbered g l = length l.left.items
