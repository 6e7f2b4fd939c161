use Rattle.std.proofs.Common.{◌≡◌, ◌-◌, map}
use Rattle.cip_world.specs.Worlds.{Stand}
use Rattle.cip_console.specs.Transcript.{deliveries}
use Rattle.cip_console.proofs.PlayedLaws.{Playing}
use Rattle.cip_console.proofs.playing.deliver.Given as goal

abbrev pub invariant-loop-i : goal.invariant-loop-i
invariant-loop-i g l =
    record {
      stand : Stand l.world.ledger (map (λ b. (goal.Module-dyn g (b.vtable, b.value)).config_of b.value) l.world.modules.items)
          (map (λ b. (goal.Module-dyn g (b.vtable, b.value)).state_of b.value) l.world.modules.items);
      plan : l.world.ledger.plan ≡ l.initial.world.ledger.plan;
      taken : g.W.Sink.has_refused l.writer → g.W.Sink.has_refused l.initial.writer;
      playing : Playing (deliveries l.initial.world.ledger.plan l.limit l.initial.world.ledger.journal) (g.W.Sink.contents l.initial.writer)
          (g.W.Sink.contents l.writer) l.initial.text.items l.text.items
          (deliveries l.initial.world.ledger.plan (l.limit - l.i) l.world.ledger.journal);
    }
