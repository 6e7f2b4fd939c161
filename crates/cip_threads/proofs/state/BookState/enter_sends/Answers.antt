use Rattle.std.proofs.Common.{refl, sym, arith, ap, map, ◌∙◌, ◌≡◌, ◌<◌, ◌∷◌, [], length, reverse}
use Rattle.std.proofs.lemmas.List.{length-map, length-reverse, reverse-append}
use Rattle.std.proofs.lemmas.List.Elements.{All-from_recursion}
use Rattle.cip_base.specs.declared.numbers.ModuleId.{ModuleId}
use Rattle.cip_event.specs.declared.frame.FrameName.{FrameName}
use Rattle.cip_world.specs.declared.journal.Entry.TheVariants.{Step}
use Rattle.cip_threads.specs.Flows.{sends_of}
use Rattle.cip_threads.specs.Queues.{enqueue}
use Rattle.cip_threads.proofs.Queueing.{count_enqueue}
use Rattle.cip_threads.proofs.Sending.{sends_within}
use Rattle.cip_threads.proofs.Keeping.{enter_keeps}
use Rattle.cip_threads.proofs.state.BookState.enter_sends.Goals as goal

pub reserve_all-requires : goal.reserve_all-requires
reserve_all-requires c =
    let s = c.self.inside in
    let long : length s.topology.modules ≡ length s.frames.items = sym (sym (length-map s.frames.items (λ q. q.items)) ∙ c.self.invariant.kept.frame_queues) in
    rw (c.as_slice-5.ensures.value, c.in-Ok.ensures, sym long)
    (All-from_recursion (λ (x : ModuleId × FrameName). x.0.0 < length s.topology.modules) _
    (sends_within s.topology c.args.m.0 (length c.as_slice-number.result.now) 0 c.as_slice-3.result.now))

pub push_all-requires-clause-within : goal.push_all-requires-clause-within
push_all-requires-clause-within c =
    let s = c.self.inside in
    let long : length s.topology.modules ≡ length c.reserve_all.new.queues.items =
    sym (sym (length-map c.reserve_all.new.queues.items (λ q. q.items)) ∙ ap length c.reserve_all.ensures.same ∙ c.self.invariant.kept.frame_queues) in
    rw (c.as_slice-6.ensures.value, c.in-Ok.ensures, sym long)
    (All-from_recursion (λ (x : ModuleId × FrameName). x.0.0 < length s.topology.modules) _
    (sends_within s.topology c.args.m.0 (length c.as_slice-number.result.now) 0 c.as_slice-3.result.now))

pub push_all-requires-clause-room : goal.push_all-requires-clause-room
push_all-requires-clause-room c = rw (c.as_slice-6.ensures.value, sym c.as_slice-5.ensures.value) c.in-Ok-reserve_all.ensures.room

pub invariant_of-self-2 : goal.invariant_of-self-2
invariant_of-self-2 c =
    let s = c.self.inside in
    let q = map (λ q. q.items) s.frames.items in
    let S = sends_of s.topology c.args.m.0 (length (reverse s.journal.items)) 0 c.args.outputs.items in
    let is : c.in-Ok.sends.items ≡ S = c.in-Ok.ensures
    ∙ rw (c.as_slice-number.ensures.value, c.as_slice-3.ensures.value, length-reverse s.journal.items) refl in
    let f : map (λ q. q.items) c.push_all.new.queues.items ≡ enqueue q S =
    c.push_all.ensures ∙ ap (λ l. enqueue l c.as_slice-6.result.now) c.reserve_all.ensures.same ∙ ap (enqueue q) (c.as_slice-6.ensures.value ∙ is) in
    let j : reverse c.push_reserved.new.self.items ≡ Step c.args.m c.take_hand-input.result c.args.outputs.items ∷ reverse s.journal.items =
    ap reverse c.push_reserved.ensures.items ∙ (reverse-append c.reserve.new.self.items (_ ∷ []) ∙ rw (c.reserve.ensures.items, c.of.ensures) refl) in
    let counted = count_enqueue q (length s.topology.modules) S c.self.invariant.kept.frame_queues
    (sends_within s.topology c.args.m.0 (length (reverse s.journal.items)) 0 c.args.outputs.items) in
    let long = ap length (c.as_slice-4.ensures.value ∙ is) in
    let sum = c.in-Some.ensures in
    let old = c.self.invariant.frame_count in
    rw (f, c.take_hand-input.ensures.after, j) (record {
      kept = enter_keeps _ c.args.m c.take_hand-input.result c.args.outputs.items c.self.invariant.kept c.take_hand-input.ensures.value;
      feed_count = c.self.invariant.feed_count;
      frame_count = omega (arith, counted, long, sum, old);
    })
