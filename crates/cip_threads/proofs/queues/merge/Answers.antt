use Rattle.std.proofs.Common.{◌+◌, ℕ, length, map, arith, sym, ap, ◌∙◌}
use Rattle.cip_threads.specs.QueueSteps.{IsLeast}
use Rattle.std.proofs.lemmas.List.{length-map, length_push}
use Rattle.cip_threads.proofs.Queueing.{count_taken}
use Rattle.cip_threads.proofs.Merging.{merge_more, merge_done}
use Rattle.cip_threads.proofs.queues.merge.Goals as goal

pub loop-i-preserved : goal.loop-i-preserved
loop-i-preserved c =
    let o : IsLeast (map (λ q. q.items) c.loop-i.queues.items) (length c.loop-i.queues.items) c.in-Some.front.m c.in-Some.front.name =
    rw (sym c.as_slice.ensures.value) c.in-Some.ensures.some in
    let now = c.loop-i.invariant.count in
    let less = count_taken (map (λ q. q.items) c.loop-i.queues.items) c.in-Some.front.m c.in-Some.front.name _ o.within o.here in
    rw (c.take_first-first.ensures.after, c.in_ok-push.ensures.items) (record {
      left = merge_more _ _ c.loop-i.names.items (length c.loop-i.queues.items) c.in-Some.front.m c.in-Some.front.name
          (length-map c.loop-i.queues.items (λ q. q.items)) o c.loop-i.invariant.left;
      count = omega (arith, now, less);
      size = length_push c.loop-i.names.items c.in-Some.front.name ∙ ap (λ (n : ℕ). n + 1) c.loop-i.invariant.size;
    })

pub returns-clause-names : goal.returns-clause-names
returns-clause-names c =
    let now = c.loop-i.invariant.count in
    let done = c.loop-i-test.false in
    let end = c.loop-i.auto._i-end in
    merge_done _ _ _ c.loop-i.invariant.left (omega (arith, now, done, end))
