use Rattle.std.proofs.Common.{rules, arith, refl, sym, subst, None, length, map, drop, ◌<◌, ◌≡◌, ◌∷◌, ◌∙◌, ap, inl, inr, reverse}
use Rattle.cip_event.specs.declared.event.Event.{Event}
use Rattle.cip_threads.specs.declared.feed.Feed.{Feed}
use Rattle.cip_threads.specs.declared.frames.Found.{Found}
use Rattle.cip_threads.specs.Books.{hand_at}
use Rattle.cip_threads.specs.Feeds.{event_of}
use Rattle.cip_threads.specs.Flows.{Comes}
use Rattle.cip_threads.specs.Queues.{queue_at}
use Rattle.cip_threads.proofs.Queueing.{count_taken}
use Rattle.cip_threads.proofs.Merging.{some_at}
use Rattle.cip_threads.proofs.Keeping.{feed_keeps, frame_keeps, queue_goes, first_same}
use Rattle.cip_threads.proofs.state.BookState.hand.Goals as goal

pub invariant_of-self : goal.invariant_of-self
invariant_of-self c =
    let s = c.self.inside in
    let k = c.self.invariant.kept in
    let q = map (λ q. q.items) s.feeds.items in
    let free : hand_at s.hands.items c.args.m.0 ≡ None = subst (λ l. hand_at l c.args.m.0 ≡ None) c.as_slice-2.ensures.value (c.if-is_full.ensures.no refl) in
    let within : c.args.m.0 < length s.hands.items = search rules in
    let left : s.taken < s.turns = search rules in
    let first = c.take_feed-feed.ensures.value in
    let count = k.count in
    let queues = k.feed_queues in
    let less = count_taken q c.args.m.0 c.take_feed-feed.result (drop 1 (queue_at q c.args.m.0)) (omega (arith, within, count, queues)) first in
    let all = c.self.invariant.feed_count in
    rw (c.take_feed-feed.ensures.after, c.put_hand.ensures, c.into_input.ensures) (record {
      kept = feed_keeps _ c.args.m.0 c.take_feed-feed.result _ k within free left first;
      feed_count = omega (arith, less, all);
      frame_count = c.self.invariant.frame_count;
    })

pub returns-in-Some-clause-ok : goal.returns-in-Some-clause-ok
returns-in-Some-clause-ok c =
    let s = c.self.inside in
    let q = map (λ q. q.items) s.feeds.items in
    let free : hand_at s.hands.items c.args.m.0 ≡ None = subst (λ l. hand_at l c.args.m.0 ≡ None) c.as_slice-2.ensures.value (c.if-is_full.ensures.no refl) in
    let within : c.args.m.0 < length s.hands.items = search rules in
    let left : s.taken < s.turns = search rules in
    let first = c.take_feed-feed.ensures.value in
    let e = some_at (λ (event : Event). (feed : Feed) × (queue_at (map (λ q. q.items) c.as_slice-3.result.now) c.args.m.0
    ≡ feed ∷ drop 1 (queue_at (map (λ q. q.items) c.as_slice-3.result.now) c.args.m.0))
    × (event ≡ event_of feed)) _ c.in-Some.event c.in-Some.is c.in_ok-event.ensures.some in
    let f = subst (λ l. (feed : Feed) × (queue_at (map (λ q. q.items) l) c.args.m.0 ≡ feed ∷ drop 1 (queue_at (map (λ q. q.items) l) c.args.m.0))
    × (c.in-Some.event ≡ event_of feed))
    c.as_slice-3.ensures.value e in
    rw (← c.self.view_is) (record {
      ready = record { running = search rules; within = within; free = free };
      left = left;
      gave = inl (record {
        feed = c.take_feed-feed.result;
        rest = drop 1 (queue_at q c.args.m.0);
        first = first;
        is = f.2 ∙ ap event_of (first_same _ _ _ _ (sym f.1 ∙ first));
        gives = rw (c.take_feed-feed.ensures.after, c.put_hand.ensures, c.into_input.ensures) refl;
      });
    })

pub invariant_of-self-in-Some-2 : goal.invariant_of-self-in-Some-2
invariant_of-self-in-Some-2 c =
    let s = c.self.inside in
    let k = c.self.invariant.kept in
    let q = map (λ q. q.items) s.frames.items in
    let free : hand_at s.hands.items c.args.m.0 ≡ None = subst (λ l. hand_at l c.args.m.0 ≡ None) c.as_slice-2.ensures.value (c.if-is_full.ensures.no refl) in
    let within : c.args.m.0 < length s.hands.items = search rules in
    let left : s.taken < s.turns = search rules in
    let e = some_at (λ (r : Found). (queue_at (map (λ q. q.items) c.as_slice-5.result.now) c.args.m.0
    ≡ r.name ∷ drop 1 (queue_at (map (λ q. q.items) c.as_slice-5.result.now) c.args.m.0))
    × Comes s.topology (reverse c.as_slice-4.result.now) r.name c.args.m.0 r.port r.from r.event) _ c.in-Some-2.found
    c.in-Some-2.is c.in_ok-found.ensures.some in
    let first = subst (λ l. queue_at (map (λ q. q.items) l) c.args.m.0 ≡ c.in-Some-2.found.name ∷ drop 1 (queue_at (map (λ q. q.items) l) c.args.m.0))
    c.as_slice-5.ensures.value e.0 in
    let comes = subst (λ l. Comes s.topology (reverse l) c.in-Some-2.found.name c.args.m.0 c.in-Some-2.found.port
    c.in-Some-2.found.from c.in-Some-2.found.event) c.as_slice-4.ensures.value e.1 in
    let count = k.count in
    let queues = k.frame_queues in
    let less = count_taken q c.args.m.0 c.in-Some-2.found.name (drop 1 (queue_at q c.args.m.0)) (omega (arith, within, count, queues)) first in
    let all = c.self.invariant.frame_count in
    rw (c.take_first-name.ensures.after, c.put_hand-in-Some-2.ensures) (record {
      kept = frame_keeps _ c.args.m.0 c.in-Some-2.found.name _ c.in-Some-2.found.port c.in-Some-2.found.from
          c.in-Some-2.found.event k within free left first comes;
      feed_count = c.self.invariant.feed_count;
      frame_count = omega (arith, less, all);
    })

pub frame_for-requires-clause-goes : goal.frame_for-requires-clause-goes
frame_for-requires-clause-goes c =
    rw (c.as_slice-4.ensures.value, c.as_slice-5.ensures.value) (λ name rest is. queue_goes _ c.self.invariant.kept c.args.m.0 name rest is)

pub overflow_sub-self : goal.overflow_sub-self
overflow_sub-self c =
    let s = c.self.inside in
    let k = c.self.invariant.kept in
    let q = map (λ q. q.items) s.feeds.items in
    let within : c.args.m.0 < length s.hands.items = search rules in
    let count = k.count in
    let queues = k.feed_queues in
    let less = count_taken q c.args.m.0 c.take_feed-feed.result (drop 1 (queue_at q c.args.m.0))
    (omega (arith, within, count, queues)) c.take_feed-feed.ensures.value in
    let all = c.self.invariant.feed_count in omega (arith, less, all)

pub overflow_sub-self-in-Some-2 : goal.overflow_sub-self-in-Some-2
overflow_sub-self-in-Some-2 c =
    let s = c.self.inside in
    let k = c.self.invariant.kept in
    let q = map (λ q. q.items) s.frames.items in
    let within : c.args.m.0 < length s.hands.items = search rules in
    let e = some_at (λ (r : Found). (queue_at (map (λ q. q.items) c.as_slice-5.result.now) c.args.m.0
    ≡ r.name ∷ drop 1 (queue_at (map (λ q. q.items) c.as_slice-5.result.now) c.args.m.0))
    × Comes s.topology (reverse c.as_slice-4.result.now) r.name c.args.m.0 r.port r.from r.event) _ c.in-Some-2.found
    c.in-Some-2.is c.in_ok-found.ensures.some in
    let first = subst (λ l. queue_at (map (λ q. q.items) l) c.args.m.0 ≡ c.in-Some-2.found.name ∷ drop 1 (queue_at (map (λ q. q.items) l) c.args.m.0))
    c.as_slice-5.ensures.value e.0 in
    let count = k.count in
    let queues = k.frame_queues in
    let less = count_taken q c.args.m.0 c.in-Some-2.found.name (drop 1 (queue_at q c.args.m.0)) (omega (arith, within, count, queues)) first in
    let all = c.self.invariant.frame_count in omega (arith, less, all)

pub returns-in-Some-2-clause-ok : goal.returns-in-Some-2-clause-ok
returns-in-Some-2-clause-ok c =
    let s = c.self.inside in
    let q = map (λ q. q.items) s.frames.items in
    let free : hand_at s.hands.items c.args.m.0 ≡ None = subst (λ l. hand_at l c.args.m.0 ≡ None) c.as_slice-2.ensures.value (c.if-is_full.ensures.no refl) in
    let within : c.args.m.0 < length s.hands.items = search rules in
    let left : s.taken < s.turns = search rules in
    let e = some_at (λ (r : Found). (queue_at (map (λ q. q.items) c.as_slice-5.result.now) c.args.m.0
    ≡ r.name ∷ drop 1 (queue_at (map (λ q. q.items) c.as_slice-5.result.now) c.args.m.0))
    × Comes s.topology (reverse c.as_slice-4.result.now) r.name c.args.m.0 r.port r.from r.event) _ c.in-Some-2.found
    c.in-Some-2.is c.in_ok-found.ensures.some in
    let first = subst (λ l. queue_at (map (λ q. q.items) l) c.args.m.0 ≡ c.in-Some-2.found.name ∷ drop 1 (queue_at (map (λ q. q.items) l) c.args.m.0))
    c.as_slice-5.ensures.value e.0 in
    let comes = subst (λ l. Comes s.topology (reverse l) c.in-Some-2.found.name c.args.m.0 c.in-Some-2.found.port
    c.in-Some-2.found.from c.in-Some-2.found.event) c.as_slice-4.ensures.value e.1 in
    rw (← c.self.view_is) (record {
      ready = record { running = search rules; within = within; free = free };
      left = left;
      gave = inr (record {
        name = c.in-Some-2.found.name;
        rest = drop 1 (queue_at q c.args.m.0);
        port = c.in-Some-2.found.port;
        from = c.in-Some-2.found.from;
        first = first;
        comes = comes;
        gives = rw (c.take_first-name.ensures.after, c.put_hand-in-Some-2.ensures) refl;
      });
    })
