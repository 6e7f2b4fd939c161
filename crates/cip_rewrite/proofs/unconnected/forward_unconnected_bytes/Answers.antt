use Rattle.std.proofs.Common.{◌≡◌, ℕ, ◌+◌, ◌%◌, List, ◌∷◌, ◌++◌, length, drop, get_or, ap, subst, sym, ◌∙◌, arith}
use Rattle.std.proofs.lemmas.List.{take_at, length-append}
use Rattle.cip_base.specs.Fields.{pad}
use Rattle.cip_message.specs.Manager.{manager_bytes}
use Rattle.cip_unconnected.specs.declared.unconnected.TheConstants.{UNCONNECTED_SEND}
use Rattle.cip_unconnected.specs.Unconnected.{unconnected_with, unconnected_layout}
use Rattle.cip_unconnected.specs.GoesOn.{lowered}
use Rattle.cip_rewrite.specs.LeadsOn.{LeadsOn}
use Rattle.cip_rewrite.proofs.Paths.{start_of, octets}
use Rattle.cip_rewrite.proofs.CameSends.{fixed_of, came_send, closed_send, sized}
use Rattle.cip_rewrite.proofs.unconnected.forward_unconnected_bytes.Goals as goal

pub data_place-start-requires : goal.data_place-start-requires
data_place-start-requires c =
    let (u, hop, g, ticks, some) = c.requires in
    let came = came_send c.args.bytes.now.items u hop (octets c.args.bytes.now.items (λ i lt. omega arith)) g in
    omega (arith, came.two, ap (λ (z : List ℕ). length z) c.deref.ensures.value)

pub embedded_size-size-requires : goal.embedded_size-size-requires
embedded_size-size-requires c =
    let (u, hop, g, ticks, some) = c.requires in
    let b : List ℕ = c.args.bytes.now.items in
    let came = came_send b u hop (octets b (λ i lt. omega arith)) g in
    let start : c.data_place-start.result ≡ start_of b = c.data_place-start.ensures ∙ ap (λ (z : List ℕ). start_of z) c.deref.ensures.value in
    omega (arith, came.within, start, ap (λ (z : List ℕ). length z) c.deref-2.ensures.value)

pub shorten-words-requires : goal.shorten-words-requires
shorten-words-requires c =
    let (u, hop, g, ticks, some) = c.requires in
    let b : List ℕ = c.args.bytes.now.items in
    let came = came_send b u hop (octets b (λ i lt. omega arith)) g in
    let start : c.data_place-start.result ≡ start_of b = c.data_place-start.ensures ∙ ap (λ (z : List ℕ). start_of z) c.deref.ensures.value in
    let size = sized b c.deref-2.result.now c.data_place-start.result c.embedded_size-size.result u hop came start c.deref-2.ensures.value
    c.embedded_size-size.ensures in (
      hop,
      subst (λ (n : ℕ). LeadsOn b n (fixed_of c.embedded_size-size.result) hop) (sym start)
          (subst (λ (n : ℕ). LeadsOn b (start_of b) (fixed_of n) hop) (sym size) came.on),
    )

pub edit_forwarded-requires-clause-whole : goal.edit_forwarded-requires-clause-whole
edit_forwarded-requires-clause-whole c =
    let (u, hop, g, ticks, some) = c.requires in
    let b : List ℕ = c.args.bytes.now.items in
    let n = c.embedded_size-size.result in
    let came = came_send b u hop (octets b (λ i lt. omega arith)) g in
    let start : c.data_place-start.result ≡ start_of b = c.data_place-start.ensures ∙ ap (λ (z : List ℕ). start_of z) c.deref.ensures.value in
    let size = sized b c.deref-2.result.now c.data_place-start.result n u hop came start c.deref-2.ensures.value c.embedded_size-size.ensures in
    let fixed : fixed_of n ≡ fixed_of (length u.request) = ap (λ (i : ℕ). fixed_of i) size in
    let whole : c.deref_mut.result.now
    ≡ manager_bytes UNCONNECTED_SEND (unconnected_layout came.padding came.words came.x (unconnected_with u.timing u.request hop.rest)) =
    c.deref_mut.ensures.value
    ∙ closed_send b c.shorten-words.new.bytes.items c.data_place-start.result (fixed_of n) u hop came start fixed c.shorten-words.ensures.items in
    let len : length c.deref_mut.result.now ≡ 10 + (length u.request + (length came.padding + (2 + length hop.rest))) =
    ap (λ (z : List ℕ). length z) whole ∙ omega (
      arith,
      length-append u.request (came.padding ++ (came.words ∷ came.x ∷ hop.rest)),
      length-append came.padding (came.words ∷ came.x ∷ hop.rest),
    ) in
    omega (arith, len, size, came.pad_len)

pub edit_forwarded-requires-clause-ticks : goal.edit_forwarded-requires-clause-ticks
edit_forwarded-requires-clause-ticks c =
    let (u, hop, g, ticks, some) = c.requires in
    let b : List ℕ = c.args.bytes.now.items in
    let n = c.embedded_size-size.result in
    let came = came_send b u hop (octets b (λ i lt. omega arith)) g in
    let start : c.data_place-start.result ≡ start_of b = c.data_place-start.ensures ∙ ap (λ (z : List ℕ). start_of z) c.deref.ensures.value in
    let size = sized b c.deref-2.result.now c.data_place-start.result n u hop came start c.deref-2.ensures.value c.embedded_size-size.ensures in
    let fixed : fixed_of n ≡ fixed_of (length u.request) = ap (λ (i : ℕ). fixed_of i) size in
    let whole : c.deref_mut.result.now
    ≡ manager_bytes UNCONNECTED_SEND (unconnected_layout came.padding came.words came.x (unconnected_with u.timing u.request hop.rest)) =
    c.deref_mut.ensures.value
    ∙ closed_send b c.shorten-words.new.bytes.items c.data_place-start.result (fixed_of n) u hop came start fixed c.shorten-words.ensures.items in
    let is : get_or c.deref_mut.result.now 7 0 ≡ u.timing.ticks = ap (λ (z : List ℕ). get_or z 7 0) whole in
    omega (arith, is, ticks)

pub returns-clause-items : goal.returns-clause-items
returns-clause-items c =
    λ u hop g.
    let b : List ℕ = c.args.bytes.now.items in
    let n = c.embedded_size-size.result in
    let came = came_send b u hop (octets b (λ i lt. omega arith)) g in
    let start : c.data_place-start.result ≡ start_of b = c.data_place-start.ensures ∙ ap (λ (z : List ℕ). start_of z) c.deref.ensures.value in
    let size = sized b c.deref-2.result.now c.data_place-start.result n u hop came start c.deref-2.ensures.value c.embedded_size-size.ensures in
    let fixed : fixed_of n ≡ fixed_of (length u.request) = ap (λ (i : ℕ). fixed_of i) size in
    let whole : c.deref_mut.result.now
    ≡ manager_bytes UNCONNECTED_SEND (unconnected_layout came.padding came.words came.x (unconnected_with u.timing u.request hop.rest)) =
    c.deref_mut.ensures.value
    ∙ closed_send b c.shorten-words.new.bytes.items c.data_place-start.result (fixed_of n) u hop came start fixed c.shorten-words.ensures.items in
    let new : List ℕ = c.edit_forwarded.new.message in
    let long : length new ≡ c.shorten-words.new.bytes.len = c.edit_forwarded.auto.message ∙ c.deref_mut.ensures.len in
    let on = subst (λ (i : ℕ). LeadsOn b i (fixed_of n) hop) (sym start)
    (subst (λ (i : ℕ). LeadsOn b (start_of b) (fixed_of i) hop) (sym size) came.on) in
    let padded : length came.padding ≡ n % 2 = omega (arith, came.pad_len, size) in
    take_at new (drop (length new) c.shorten-words.new.bytes.items) c.shorten-words.new.bytes.len long
    ∙ c.edit_forwarded.ensures UNCONNECTED_SEND came.words came.x came.padding (unconnected_with u.timing u.request hop.rest) (sym size) padded whole
    ∙ ap (λ (i : ℕ). manager_bytes UNCONNECTED_SEND (unconnected_layout (pad i) c.shorten-words.result 0 (lowered u hop.rest))) size
    ∙ ap (λ (i : ℕ). manager_bytes UNCONNECTED_SEND (unconnected_layout (pad (length u.request)) i 0 (lowered u hop.rest)))
    (c.shorten-words.ensures.words hop on)
