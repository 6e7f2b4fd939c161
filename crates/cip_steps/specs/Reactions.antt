-- What a frame puts out that stays in the buffer in which it came.
use Rattle.std.specs.Prelude.{◌≡◌, ◌≤◌, ◌<◌, Bool, length, List, [], ◌∷◌}
use Rattle.cip_base.specs.Words.{Octets}
use Rattle.cip_segment.specs.Reading.{HopAt}
use Rattle.cip_unconnected.specs.Unconnected.{Unconnected, unconnected_bytes}
use Rattle.cip_unconnected.specs.GoesOn.{lowered, IsSendGoingOn}
use Rattle.cip_open.specs.Open.{Open}
use Rattle.cip_open.specs.Success.{OpenSuccess}
use Rattle.cip_open.specs.GoesOn.{open_on, IsOpenGoingOn, success_with, IsOpenSuccess}
use Rattle.cip_close.specs.Close.{Close}
use Rattle.cip_close.specs.GoesOn.{close_on, IsCloseGoingOn}
use Rattle.cip_event.specs.declared.event.Output.{Output}
use Rattle.cip_event.specs.Filled.{filled}
use Rattle.cip_steps.specs.declared.reaction.Edit.{Edit}
use Rattle.cip_steps.specs.declared.reaction.Edit.TheVariants as edits
use Rattle.cip_steps.specs.declared.reaction.Reaction.{Reaction}
use Rattle.cip_steps.specs.declared.reaction.Reaction.TheVariants as reactions

-- ---- what an edit makes of the bytes that came

abbrev pub Becomes : Octets → Edit → Octets → Type 0
Becomes came edits.AsTheyCame b = b ≡ came
Becomes came edits.Unwrapped b =
    (u : Unconnected) × (hop : HopAt) × IsSendGoingOn came u hop × (length hop.rest ≡ 0)
    × (b ≡ u.request)
Becomes came edits.SentOn b =
    (u : Unconnected) × (hop : HopAt) × IsSendGoingOn came u hop × (1 ≤ u.timing.ticks)
    × (0 < length hop.rest) × (b ≡ unconnected_bytes (lowered u hop.rest))
Becomes came (edits.OpenedOn down_id) b =
    (o : Open) × (hop : HopAt) × IsOpenGoingOn came o hop × (1 ≤ o.fields.timing.ticks)
    × (b ≡ open_on o down_id hop.rest)
Becomes came edits.ClosedOn b =
    (c : Close) × (hop : HopAt) × IsCloseGoingOn came c hop × (1 ≤ c.fields.timing.ticks)
    × (b ≡ close_on c hop.rest)
Becomes came (edits.SuccessUp up_id their_id) b =
    (large : Bool) × (s : OpenSuccess) × IsOpenSuccess large came s
    × (b ≡ success_with large s up_id their_id)

-- a reaction to these bytes puts out what P holds of
abbrev pub PutsOut : Octets → Reaction → (List Output → Type 0) → Type 0
PutsOut came (reactions.Whole output) P = P (output ∷ [])
PutsOut came (reactions.Edited output edit) P =
    (b : Octets) × Becomes came edit b × P (filled output b ∷ [])
PutsOut came (reactions.Several all) P = P all.items
