use Rattle.std.proofs.Common.{◌≡◌, ℕ, ◌+◌, Bool, List, length, drop, get_or, ap, sym, ◌∙◌, arith}
use Rattle.std.proofs.lemmas.List.{take_at}
use Rattle.cip_segment.specs.Reading.{HopAt}
use Rattle.cip_message.specs.Manager.{manager_bytes}
use Rattle.cip_open.specs.Kinds.{open_service, open_fixed_part}
use Rattle.cip_open.specs.Open.{Open, open_with, open_layout}
use Rattle.cip_open.specs.GoesOn.{lowered}
use Rattle.cip_rewrite.specs.LeadsOn.{LeadsOn}
use Rattle.cip_rewrite.proofs.Paths.{start_of, octets}
use Rattle.cip_rewrite.proofs.CameOpens.{CameOpen, came_open, closed_open, leads_at, message_long}
use Rattle.cip_rewrite.proofs.open.forward_open_bytes.Goals as goal

-- the message once it was closed up
abbrev Cut : {b : List ℕ} {o : Open} {hop : HopAt} → CameOpen b o hop → List ℕ
Cut {o = o} {hop = hop} came =
    manager_bytes (open_service o.fields.large) (open_layout o.fields.large came.x came.y came.z came.words (open_with o.fields hop.rest))

pub is_large-large-requires : goal.is_large-large-requires
is_large-large-requires c =
    let (o, hop, g, ticks) = c.requires in
    let b : List ℕ = c.args.bytes.now.items in
    let came = came_open b o hop (octets b (λ i lt. omega arith)) g in
    omega (arith, came.two, ap (λ (z : List ℕ). length z) c.deref.ensures.value)

pub data_place-start-requires : goal.data_place-start-requires
data_place-start-requires c =
    let (o, hop, g, ticks) = c.requires in
    let b : List ℕ = c.args.bytes.now.items in
    let came = came_open b o hop (octets b (λ i lt. omega arith)) g in
    omega (arith, came.two, ap (λ (z : List ℕ). length z) c.deref-2.ensures.value)

pub shorten-words-requires : goal.shorten-words-requires
shorten-words-requires c =
    let (o, hop, g, ticks) = c.requires in
    let b : List ℕ = c.args.bytes.now.items in
    let came = came_open b o hop (octets b (λ i lt. omega arith)) g in
    let large : c.is_large-large.result ≡ o.fields.large =
    c.is_large-large.ensures o.fields.large (ap (λ (z : List ℕ). get_or z 0 0) c.deref.ensures.value ∙ came.service) in
    let start : c.data_place-start.result ≡ start_of b = c.data_place-start.ensures ∙ ap (λ (z : List ℕ). start_of z) c.deref-2.ensures.value in
    let fixed : c.open_fixed_part.result ≡ open_fixed_part o.fields.large = c.open_fixed_part.ensures ∙ ap (λ (l : Bool). open_fixed_part l) large in
    (hop, leads_at b _ _ o hop came start fixed)

pub edit_forwarded-requires-clause-fixed : goal.edit_forwarded-requires-clause-fixed
edit_forwarded-requires-clause-fixed c =
    let (o, hop, g, ticks) = c.requires in
    let b : List ℕ = c.args.bytes.now.items in
    let came = came_open b o hop (octets b (λ i lt. omega arith)) g in
    let large : c.is_large-large.result ≡ o.fields.large =
    c.is_large-large.ensures o.fields.large (ap (λ (z : List ℕ). get_or z 0 0) c.deref.ensures.value ∙ came.service) in
    let start : c.data_place-start.result ≡ start_of b = c.data_place-start.ensures ∙ ap (λ (z : List ℕ). start_of z) c.deref-2.ensures.value in
    let fixed : c.open_fixed_part.result ≡ open_fixed_part o.fields.large = c.open_fixed_part.ensures ∙ ap (λ (l : Bool). open_fixed_part l) large in
    let whole : c.deref_mut.result.now ≡ Cut came =
    c.deref_mut.ensures.value
    ∙ closed_open b c.shorten-words.new.bytes.items c.data_place-start.result c.open_fixed_part.result o hop came start fixed
    c.shorten-words.ensures.items in
    let len : length c.deref_mut.result.now ≡ 6 + (open_fixed_part o.fields.large + length hop.rest) =
    ap (λ (z : List ℕ). length z) whole
    ∙ message_long (open_service o.fields.large) o.fields.large came.x came.y came.z came.words (open_with o.fields hop.rest) in
    omega (arith, len, ap (λ (l : Bool). open_fixed_part l) large)

pub edit_forwarded-requires-clause-ticks : goal.edit_forwarded-requires-clause-ticks
edit_forwarded-requires-clause-ticks c =
    let (o, hop, g, ticks) = c.requires in
    let b : List ℕ = c.args.bytes.now.items in
    let came = came_open b o hop (octets b (λ i lt. omega arith)) g in
    let large : c.is_large-large.result ≡ o.fields.large =
    c.is_large-large.ensures o.fields.large (ap (λ (z : List ℕ). get_or z 0 0) c.deref.ensures.value ∙ came.service) in
    let start : c.data_place-start.result ≡ start_of b = c.data_place-start.ensures ∙ ap (λ (z : List ℕ). start_of z) c.deref-2.ensures.value in
    let fixed : c.open_fixed_part.result ≡ open_fixed_part o.fields.large = c.open_fixed_part.ensures ∙ ap (λ (l : Bool). open_fixed_part l) large in
    let whole : c.deref_mut.result.now ≡ Cut came =
    c.deref_mut.ensures.value
    ∙ closed_open b c.shorten-words.new.bytes.items c.data_place-start.result c.open_fixed_part.result o hop came start fixed
    c.shorten-words.ensures.items in
    let is : get_or c.deref_mut.result.now 7 0 ≡ o.fields.timing.ticks = ap (λ (z : List ℕ). get_or z 7 0) whole in
    omega (arith, is, ticks)

pub returns-clause-items : goal.returns-clause-items
returns-clause-items c =
    λ o hop g.
    let b : List ℕ = c.args.bytes.now.items in
    let came = came_open b o hop (octets b (λ i lt. omega arith)) g in
    let new : List ℕ = c.edit_forwarded.new.message in
    let large : c.is_large-large.result ≡ o.fields.large =
    c.is_large-large.ensures o.fields.large (ap (λ (z : List ℕ). get_or z 0 0) c.deref.ensures.value ∙ came.service) in
    let start : c.data_place-start.result ≡ start_of b = c.data_place-start.ensures ∙ ap (λ (z : List ℕ). start_of z) c.deref-2.ensures.value in
    let fixed : c.open_fixed_part.result ≡ open_fixed_part o.fields.large = c.open_fixed_part.ensures ∙ ap (λ (l : Bool). open_fixed_part l) large in
    let whole : c.deref_mut.result.now ≡ Cut came =
    c.deref_mut.ensures.value
    ∙ closed_open b c.shorten-words.new.bytes.items c.data_place-start.result c.open_fixed_part.result o hop came start fixed
    c.shorten-words.ensures.items in
    let s : ℕ = open_service o.fields.large in
    let long : length new ≡ c.shorten-words.new.bytes.len = c.edit_forwarded.auto.message ∙ c.deref_mut.ensures.len in
    let on : LeadsOn b c.data_place-start.result c.open_fixed_part.result hop = leads_at b _ _ o hop came start fixed in
    take_at new (drop (length new) c.shorten-words.new.bytes.items) c.shorten-words.new.bytes.len long
    ∙ c.edit_forwarded.ensures s came.x came.y came.z came.words (open_with o.fields hop.rest)
    (whole ∙ ap (λ (l : Bool). manager_bytes s (open_layout l came.x came.y came.z came.words (open_with o.fields hop.rest))) (sym large))
    ∙ ap (λ (l : Bool). manager_bytes s (open_layout l 0 0 0 c.shorten-words.result (lowered o c.args.down_id hop.rest))) large
    ∙ ap (λ (n : ℕ). manager_bytes s (open_layout o.fields.large 0 0 0 n (lowered o c.args.down_id hop.rest))) (c.shorten-words.ensures.words hop on)
