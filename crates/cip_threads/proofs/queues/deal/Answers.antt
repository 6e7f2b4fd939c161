use Rattle.std.proofs.Common.{◌<◌, map, sym, ap, subst, ◌∙◌}
use Rattle.std.specs.Prelude.{All}
use Rattle.cip_threads.specs.Queues.{enqueue}
use Rattle.std.proofs.lemmas.List.Elements.{All-tail}
use Rattle.cip_base.specs.declared.numbers.ModuleId.{ModuleId}
use Rattle.cip_threads.specs.declared.feed.Feed.{Feed}
use Rattle.cip_threads.proofs.queues.deal.Goals as goal

pub loop-fed-preserved : goal.loop-fed-preserved
loop-fed-preserved c =
    let rest = c.pop_front.new.self.items in
    record {
      so_far = ap (λ l. enqueue l rest) c.in_ok-push_feed.ensures.ok ∙ ap (enqueue (map (λ q. q.items) c.loop-fed.queues.items)) (sym c.in-Some.ensures.items)
          ∙ c.loop-fed.invariant.so_far;
      count = c.push_feed.ensures.count ∙ c.loop-fed.invariant.count;
      within = All-tail (λ (fed : ModuleId × Feed). fed.0.0 < c.args.count) c.in-Some.fed rest
          (subst (All (λ (fed : ModuleId × Feed). fed.0.0 < c.args.count)) c.in-Some.ensures.items c.loop-fed.invariant.within);
    }
