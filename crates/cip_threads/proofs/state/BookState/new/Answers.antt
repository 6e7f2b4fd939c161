use Rattle.std.proofs.lemmas.List.Elements.{recursion_from_All}
use Rattle.cip_threads.proofs.Keeping.{new_keeps}
use Rattle.cip_threads.proofs.state.BookState.new.Goals as goal

pub invariant_of-result : goal.invariant_of-result
invariant_of-result c =
    rw (
      c.in_ok-given.ensures,
      c.as_slice.ensures.value,
      c.as_slice-feed_count.ensures.value,
      c.in_ok-feeds.ensures,
      c.in_ok-frames.ensures,
      c.in_ok-hands.ensures,
      c.configs-count.ensures.value,
      c.new.ensures.items,
    )
    (new_keeps c.args.topology c.args.feeds.items c.args.turns (recursion_from_All _ _ c.requires))
