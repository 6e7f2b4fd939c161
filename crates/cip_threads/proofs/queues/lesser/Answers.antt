use Rattle.std.proofs.Common.{◌≡◌, ◌<◌, ℕ, [], map, refl}
use Rattle.cip_threads.specs.Queues.{queue_at}
use Rattle.cip_threads.specs.QueueSteps.{IsLeast}
use Rattle.cip_threads.proofs.Merging.{if_some, if_none, none_more, least_past, least_stays, least_new, less_than_least, less_than_none, some_at, when_none}
use Rattle.cip_threads.specs.declared.queues.Front.{Front}
use Rattle.cip_threads.proofs.Queueing.{within_lists}
use Rattle.cip_threads.proofs.queues.lesser.Goals as goal

pub returns-in_default-clause-some : goal.returns-in_default-clause-some
returns-in_default-clause-some c =
    if_some _ _ c.args.least (λ r o. least_past _ c.args.m r.m r.name o c.in_default.ensures.none) c.requires.some

pub returns-in_default-clause-none : goal.returns-in_default-clause-none
returns-in_default-clause-none c =
    if_none _ _ c.args.least (λ none. none_more _ c.args.m none c.in_default.ensures.none) c.requires.none

pub returns-then-not-is_less-clause-some : goal.returns-then-not-is_less-clause-some
returns-then-not-is_less-clause-some c =
    let o = some_at (λ (r : Front). IsLeast (map (λ q. q.items) c.args.queues.now) c.args.m r.m r.name) c.args.least
    c.in-Some-least.front c.in-Some-least.is c.requires.some in
    least_stays _ c.args.m c.in-Some-least.front.m c.in-Some-least.front.name c.in-Some.name.now _ o c.in-Some.ensures.some (c.if-not-is_less.ensures.no refl)

pub returns-else-not-is_less-clause-some : goal.returns-else-not-is_less-clause-some
returns-else-not-is_less-clause-some c =
    let o = some_at (λ (r : Front). IsLeast (map (λ q. q.items) c.args.queues.now) c.args.m r.m r.name) c.args.least
    c.in-Some-least.front c.in-Some-least.is c.requires.some in
    least_new _ c.args.m c.in-Some.name.now (within_lists (λ q. q.items) c.args.queues.now c.args.m c.requires.within) c.in-Some.ensures.some
    (less_than_least _ c.args.m c.in-Some-least.front.m c.in-Some-least.front.name c.in-Some.name.now o (c.if-not-is_less.ensures.yes refl))

pub returns-in_default-least-clause-some : goal.returns-in_default-least-clause-some
returns-in_default-least-clause-some c =
    let none = when_none ((k : ℕ) → k < c.args.m → queue_at (map (λ q. q.items) c.args.queues.now) k ≡ []) c.args.least c.in_default-least.is c.requires.none in
    least_new _ c.args.m c.in-Some.name.now (within_lists (λ q. q.items) c.args.queues.now c.args.m c.requires.within) c.in-Some.ensures.some
    (less_than_none _ c.args.m c.in-Some.name.now none)
