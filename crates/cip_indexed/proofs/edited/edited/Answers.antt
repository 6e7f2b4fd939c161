use Rattle.std.proofs.Common.{◌≡◌, List, ℕ, sym, ap, subst, ◌∙◌, Global}
use Rattle.std.specs.declared.vec.Vec.{Vec}
use Rattle.cip_steps.specs.declared.reaction.Edit.{Edit}
use Rattle.cip_steps.specs.declared.reaction.Edit.TheVariants.{AsTheyCame, Unwrapped, SentOn, OpenedOn, ClosedOn, SuccessUp}
use Rattle.cip_steps.specs.Reactions.{Becomes}
use Rattle.cip_indexed.proofs.Edits.{unwrapped, sent_on, opened_on, closed_on, success_up}
use Rattle.cip_indexed.proofs.edited.edited.Goals as goal
use Rattle.cip_indexed.proofs.edited.edited.Goals.{in-AsTheyCame, in-Unwrapped, in-SentOn, in-OpenedOn, in-ClosedOn, in-SuccessUp}

pub returns : goal.returns
returns c = λ b becomes.
    let came = c.into_vec-bytes.result.items in
    let from : (x : Edit) → c.args.edit ≡ x → Becomes came x b = λ x is.
    subst (λ (e : Edit). Becomes came e b) is (subst (λ (l : List ℕ). Becomes l c.args.edit b) (sym c.into_vec-bytes.ensures) becomes) in
    let items : (v w : Vec ℕ Global) → v ≡ w → v.items ≡ w.items = λ v w e. ap (λ (x : Vec ℕ Global). x.items) e in
    c.of.ensures ∙ elim c.match-edit.branch as (λ _. c.match-edit.bytes.items ≡ b) [
      | in-AsTheyCame w ↦ items _ _ w.bytes-is ∙ sym (from AsTheyCame w.in-AsTheyCame.is)
      | in-Unwrapped w ↦ items _ _ w.bytes-is ∙ unwrapped came w.unwrap_bytes.new.bytes.items b w.unwrap_bytes.ensures.items (from Unwrapped w.in-Unwrapped.is)
      | in-SentOn w ↦ items _ _ w.bytes-is
          ∙ sent_on came w.forward_unconnected_bytes.new.bytes.items b w.forward_unconnected_bytes.ensures.items (from SentOn w.in-SentOn.is)
      | in-OpenedOn w ↦ items _ _ w.bytes-is
          ∙ opened_on came w.forward_open_bytes.new.bytes.items b w.in-OpenedOn.down_id w.forward_open_bytes.ensures.items
          (from (OpenedOn w.in-OpenedOn.down_id) w.in-OpenedOn.is)
      | in-ClosedOn w ↦ items _ _ w.bytes-is
          ∙ closed_on came w.forward_close_bytes.new.bytes.items b w.forward_close_bytes.ensures.items (from ClosedOn w.in-ClosedOn.is)
      | in-SuccessUp w ↦ items _ _ w.bytes-is
          ∙ success_up came w.success_up_bytes.new.bytes.items b w.in-SuccessUp.up_id w.in-SuccessUp.their_id w.success_up_bytes.ensures.items
          (from (SuccessUp w.in-SuccessUp.up_id w.in-SuccessUp.their_id) w.in-SuccessUp.is)
    ]
