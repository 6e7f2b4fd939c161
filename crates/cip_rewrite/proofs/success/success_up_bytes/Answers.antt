use Rattle.std.proofs.Common.{◌≡◌, ℕ, List, length, drop, ap, ◌∙◌, arith}
use Rattle.std.proofs.lemmas.List.{take_at}
use Rattle.cip_message.specs.Reply.{reply_layout, done_with}
use Rattle.cip_open.specs.Kinds.{open_reply_service}
use Rattle.cip_open.specs.Success.{open_reply_layout}
use Rattle.cip_open.specs.GoesOn.{with_ids}
use Rattle.cip_rewrite.proofs.Paths.{octets}
use Rattle.cip_rewrite.proofs.CameSuccesses.{came_success}
use Rattle.cip_rewrite.proofs.success.success_up_bytes.Goals as goal

pub edit_returned-requires : goal.edit_returned-requires
edit_returned-requires c =
    let (large, s, g) = c.requires in
    let came = came_success large c.args.bytes.now.items s (octets c.args.bytes.now.items (λ i lt. omega arith)) g in
    omega (arith, came.long, ap (λ (z : List ℕ). length z) c.deref_mut.ensures.value)

pub returns-clause-items : goal.returns-clause-items
returns-clause-items c =
    λ large s g.
    let b : List ℕ = c.args.bytes.now.items in
    let new : List ℕ = c.edit_returned.new.message in
    let came = came_success large b s (octets b (λ i lt. omega arith)) g in
    let long : length new ≡ c.args.bytes.now.len = c.edit_returned.auto.message ∙ c.deref_mut.ensures.len in
    take_at new (drop (length new) b) c.args.bytes.now.len long
    ∙ c.edit_returned.ensures (open_reply_service large) came.x came.y came.words s (c.deref_mut.ensures.value ∙ came.is)
    ∙ ap (λ (n : ℕ). reply_layout 0 (done_with (open_reply_service large) (open_reply_layout n 0 (with_ids s c.args.up_id c.args.their_id)))) came.words_is
