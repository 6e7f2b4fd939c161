-- An edit of what came leaves what it becomes.
use Rattle.std.proofs.Common.{Bool, ◌≡◌, List, ℕ, sym, ◌∙◌}
use Rattle.cip_segment.specs.Reading.{HopAt}
use Rattle.cip_unconnected.specs.Unconnected.{Unconnected, unconnected_bytes}
use Rattle.cip_unconnected.specs.GoesOn.{lowered, IsSendGoingOn}
use Rattle.cip_open.specs.Open.{Open}
use Rattle.cip_open.specs.Success.{OpenSuccess}
use Rattle.cip_open.specs.GoesOn.{open_on, IsOpenGoingOn, success_with, IsOpenSuccess}
use Rattle.cip_close.specs.Close.{Close}
use Rattle.cip_close.specs.GoesOn.{close_on, IsCloseGoingOn}
use Rattle.cip_steps.specs.declared.reaction.Edit.TheVariants.{Unwrapped, SentOn, OpenedOn, ClosedOn, SuccessUp}
use Rattle.cip_steps.specs.Reactions.{Becomes}

module _ (came left b : List ℕ) where
  pub unwrapped : ((u : Unconnected) (hop : HopAt) → IsSendGoingOn came u hop → left ≡ u.request) → Becomes came Unwrapped b → left ≡ b
  unwrapped edit (u, hop, going, none, is) = edit u hop going ∙ sym is

  pub sent_on : ((u : Unconnected) (hop : HopAt) → IsSendGoingOn came u hop → left ≡ unconnected_bytes (lowered u hop.rest)) → Becomes came SentOn b → left ≡ b
  sent_on edit (u, hop, going, ticks, some, is) = edit u hop going ∙ sym is

  pub opened_on : (id : ℕ) → ((o : Open) (hop : HopAt) → IsOpenGoingOn came o hop → left ≡ open_on o id hop.rest) → Becomes came (OpenedOn id) b → left ≡ b
  opened_on id edit (o, hop, going, ticks, is) = edit o hop going ∙ sym is

  pub closed_on : ((c : Close) (hop : HopAt) → IsCloseGoingOn came c hop → left ≡ close_on c hop.rest) → Becomes came ClosedOn b → left ≡ b
  closed_on edit (c, hop, going, ticks, is) = edit c hop going ∙ sym is

  pub success_up : (up their : ℕ) → ((large : Bool) (s : OpenSuccess) → IsOpenSuccess large came s → left ≡ success_with large s up their)
      → Becomes came (SuccessUp up their) b → left ≡ b
  success_up up their edit (large, s, success, is) = edit large s success ∙ sym is
