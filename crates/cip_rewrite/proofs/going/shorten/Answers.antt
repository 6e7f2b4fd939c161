use Rattle.std.proofs.Common.{◌≡◌, ℕ, ◌+◌, ◌-◌, ◌/◌, List, ◌++◌, length, take, drop, ap, ◌∙◌, arith}
use Rattle.std.specs.Prelude.{slice_index}
use Rattle.std.proofs.lemmas.List.{take_at}
use Rattle.cip_message.specs.Manager.{manager_bytes}
use Rattle.cip_rewrite.proofs.Shortened.{left}
use Rattle.cip_rewrite.proofs.going.shorten.Goals as goal

pub compact-requires-clause-within : goal.compact-requires-clause-within
compact-requires-clause-within c =
    let (hop, on) = c.requires in
    let l = left c.args.bytes.now.items c.args.start c.args.fixed hop on in
    let n = c.left_behind-left.ensures hop (rw c.deref.ensures.value on) in
    let len : length c.deref_mut.result.now ≡ length c.args.bytes.now.items = ap (λ (z : List ℕ). length z) c.deref_mut.ensures.value in
    omega (arith, l.within, n, len)

pub overflow_add-fixed-2 : goal.overflow_add-fixed-2
overflow_add-fixed-2 c =
    let (hop, on) = c.requires in
    let l = left c.args.bytes.now.items c.args.start c.args.fixed hop on in
    let n = c.left_behind-left.ensures hop (rw c.deref.ensures.value on) in
    omega (arith, l.within, n, on.header, c.deref_mut.ensures.len, c.args.bytes.now.small)

pub overflow_cast-result : goal.overflow_cast-result
overflow_cast-result c =
    let (hop, on) = c.requires in
    let l = left c.args.bytes.now.items c.args.start c.args.fixed hop on in
    let n = c.left_behind-left.ensures hop (rw c.deref.ensures.value on) in
    omega (arith, l.most, n)

pub returns-clause-words : goal.returns-clause-words
returns-clause-words c = λ hop on. ap (λ (n : ℕ). n / 2) (c.left_behind-left.ensures hop (rw c.deref.ensures.value on))

pub returns-clause-items : goal.returns-clause-items
returns-clause-items c =
    λ hop on.
    let b : List ℕ = c.args.bytes.now.items in
    let n = c.left_behind-left.result in
    let new : List ℕ = c.compact.new.bytes in
    let n_is : n ≡ length hop.rest = c.left_behind-left.ensures hop (rw c.deref.ensures.value on) in
    let l = left b c.args.start c.args.fixed hop on in
    let whole : length new ≡ c.args.bytes.now.len = c.compact.ensures.len ∙ c.deref_mut.ensures.len in
    c.truncate.ensures.items
    ∙ ap (λ (z : List ℕ). take (6 + c.args.fixed + n) z) (take_at new (drop (length new) b) c.args.bytes.now.len whole)
    ∙ c.compact.ensures.front
    ∙ ap (λ (z : List ℕ). manager_bytes (slice_index z 0) (take c.args.fixed (drop c.args.start z) ++ drop (length z - n) z)) c.deref_mut.ensures.value
    ∙ ap (λ (i : ℕ). manager_bytes (slice_index b 0) (take c.args.fixed (drop c.args.start b) ++ drop (length b - i) b)) n_is
    ∙ ap (λ (z : List ℕ). manager_bytes (slice_index b 0) (take c.args.fixed (drop c.args.start b) ++ z)) l.stands
