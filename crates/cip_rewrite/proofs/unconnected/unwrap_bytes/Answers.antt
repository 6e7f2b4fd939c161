use Rattle.std.proofs.Common.{◌≡◌, ℕ, ◌+◌, ◌≤◌, List, length, take, drop, ap, ◌∙◌, arith}
use Rattle.std.specs.List.{copy_within}
use Rattle.std.proofs.lemmas.List.{take_at}
use Rattle.cip_rewrite.proofs.Paths.{start_of, octets}
use Rattle.cip_rewrite.proofs.Shortened.{brought}
use Rattle.cip_rewrite.proofs.CameSends.{came_send, sized}
use Rattle.cip_rewrite.proofs.unconnected.unwrap_bytes.Goals as goal

pub data_place-start-requires : goal.data_place-start-requires
data_place-start-requires c =
    let (u, hop, g, none) = c.requires in
    let came = came_send c.args.bytes.now.items u hop (octets c.args.bytes.now.items (λ i lt. omega arith)) g in
    omega (arith, came.two, ap (λ (z : List ℕ). length z) c.deref.ensures.value)

pub embedded_size-size-requires : goal.embedded_size-size-requires
embedded_size-size-requires c =
    let (u, hop, g, none) = c.requires in
    let came = came_send c.args.bytes.now.items u hop (octets c.args.bytes.now.items (λ i lt. omega arith)) g in
    let start = c.data_place-start.ensures ∙ ap (λ (z : List ℕ). start_of z) c.deref.ensures.value in
    omega (arith, came.within, start, ap (λ (z : List ℕ). length z) c.deref-2.ensures.value)

pub move_forward-requires-clause-within : goal.move_forward-requires-clause-within
move_forward-requires-clause-within c =
    let (u, hop, g, none) = c.requires in
    let b : List ℕ = c.args.bytes.now.items in
    let came = came_send b u hop (octets b (λ i lt. omega arith)) g in
    let start = c.data_place-start.ensures ∙ ap (λ (z : List ℕ). start_of z) c.deref.ensures.value in
    let size = sized b c.deref-2.result.now c.data_place-start.result c.embedded_size-size.result u hop came start c.deref-2.ensures.value
    c.embedded_size-size.ensures in
    omega (arith, came.within, start, size, ap (λ (z : List ℕ). length z) c.deref_mut.ensures.value)

pub returns-clause-items : goal.returns-clause-items
returns-clause-items c =
    λ u hop g.
    let b : List ℕ = c.args.bytes.now.items in
    let new : List ℕ = c.move_forward.new.bytes in
    let n = c.embedded_size-size.result in
    let came = came_send b u hop (octets b (λ i lt. omega arith)) g in
    let start = c.data_place-start.ensures ∙ ap (λ (z : List ℕ). start_of z) c.deref.ensures.value in
    let size = sized b c.deref-2.result.now c.data_place-start.result n u hop came start c.deref-2.ensures.value c.embedded_size-size.ensures in
    let at : ℕ = c.data_place-start.result + 4 in
    let from : at ≡ start_of b + 4 = ap (λ (i : ℕ). i + 4) start in
    let within : at + n ≤ length b = omega (arith, came.within, from, size) in
    let whole : length new ≡ c.args.bytes.now.len = c.move_forward.auto.bytes ∙ c.deref_mut.ensures.len in
    c.truncate.ensures.items
    ∙ ap (λ (z : List ℕ). take n z) (take_at new (drop (length new) b) c.args.bytes.now.len whole)
    ∙ ap (λ (z : List ℕ). take n z) (c.move_forward.ensures ∙ ap (λ (z : List ℕ). copy_within z at (at + n) 0) c.deref_mut.ensures.value)
    ∙ brought b at n within
    ∙ ap (λ (i : ℕ). take n (drop i b)) from ∙ ap (λ (i : ℕ). take i (drop (start_of b + 4) b)) size ∙ came.request_is
