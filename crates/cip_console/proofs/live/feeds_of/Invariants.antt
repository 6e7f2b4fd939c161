use Rattle.std.proofs.Common.{◌≡◌, ◌<◌, length, vec_items}
use Rattle.std.specs.Prelude.{All}
use Rattle.cip_console.specs.Live.{Fed, feeds_of}
use Rattle.cip_console.proofs.LiveLaws.{before}
use Rattle.cip_console.proofs.live.feeds_of.Given as goal

abbrev pub invariant-loop-numbered : goal.invariant-loop-numbered
invariant-loop-numbered l =
    record {
      so_far : before (vec_items l.found) (feeds_of l.modules l.left.items) ≡ feeds_of l.modules l.fn.steps.items;
      within : All (λ (fed : Fed). fed.0.0 < l.modules) (vec_items l.found);
    }

abbrev pub decreases-loop-numbered : goal.decreases-loop-numbered
decreases-loop-numbered l = length l.left.items
