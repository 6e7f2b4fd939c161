-- What a function promises that reacts to a message: what goes on or goes up has its bytes, or they
-- stay where they are and become what an edit says.
use Rattle.std.specs.Prelude.{◌≡◌, List, [], ◌∷◌, Result, Ok, Err, ◌==◌, if◌then◌else◌, length, Option, Some, None}
use Rattle.cip_base.specs.Words.{Octets}
use Rattle.cip_message.specs.Received.{IsReceived}
use Rattle.cip_unconnected.specs.declared.unconnected.TheConstants.{UNCONNECTED_SEND}
use Rattle.cip_unconnected.specs.Unconnected.{Unconnected}
use Rattle.cip_unconnected.specs.UnconnectedAt.{unconnected_at}
use Rattle.cip_open.specs.Kinds.{open_service}
use Rattle.cip_open.specs.Open.{Open}
use Rattle.cip_open.specs.OpenAt.{open_at}
use Rattle.cip_close.specs.declared.request.TheConstants.{FORWARD_CLOSE}
use Rattle.cip_close.specs.Close.{Close}
use Rattle.cip_close.specs.CloseAt.{close_at}
use Rattle.cip_event.specs.declared.event.Output.{Output}
use Rattle.cip_event.specs.declared.event.Output.TheVariants as outputs
use Rattle.cip_event.specs.declared.event.Refused.{Refused}
use Rattle.cip_steps.specs.declared.device.Device.{Device}
use Rattle.cip_steps.specs.declared.making.Making.{Making}
use Rattle.cip_steps.specs.declared.making.Making.TheVariants as makings
use Rattle.cip_steps.specs.declared.making.Outgoing.{Outgoing}
use Rattle.cip_steps.specs.declared.reaction.Edit.{Edit}
use Rattle.cip_steps.specs.declared.reaction.Edit.TheVariants.{Unwrapped, SentOn}
use Rattle.cip_steps.specs.declared.reaction.Reaction.{Reaction}
use Rattle.cip_steps.specs.declared.reaction.Reaction.TheVariants as reactions
use Rattle.cip_steps.specs.Code.Device.{state_of_device}
use Rattle.cip_steps.specs.Code.Does.{Handled, IsUnchanged}
use Rattle.cip_routing.specs.Effects.{Effect, Sending}
use Rattle.cip_event.specs.Filled.{filled}
use Rattle.cip_steps.specs.Reactions.{Becomes}

-- ---- what is made for what goes on or goes up: these bytes, or this edit of those that came

abbrev pub outgoing_of : Making → Octets → Edit → Outgoing
outgoing_of makings.Anew bytes edit = record { bytes = bytes; edit = None }
outgoing_of makings.Edited bytes edit = record { bytes = []; edit = Some edit }

-- these bytes were made, from any that came so
pub record IsMade (making : Making) (Came : Octets → Type 0) (bytes : Octets) (made : Outgoing)
    : Type 0 where
  pub edit : Edit
  pub so : made ≡ outgoing_of making bytes edit
  pub becomes : (came : Octets) → Came came → Becomes came edit bytes

-- an output with what was made for it in it
abbrev pub reaction_of : Option Edit → Output → Reaction
reaction_of None output = reactions.Whole output
reaction_of (Some edit) output = reactions.Edited output edit

-- what goes on, as these bytes
abbrev pub with_bytes : Sending → Octets → Sending
with_bytes sending b = record sending { bytes = b }

-- what goes on of an Unconnected_Send, by what is left of its route
abbrev pub send_edit : Octets → Edit
send_edit rest = if length rest == 0 then Unwrapped else SentOn

-- what an Enter puts out, once it has its bytes
abbrev pub entered_output : Octets → Result Output Refused → Output
entered_output bytes (Ok lacking) = filled lacking bytes
entered_output bytes (Err fault) = outputs.Refused fault

-- ---- the bytes in which a message came

abbrev pub SendCame : Unconnected → Octets → Type 0
SendCame u came =
    (d : Octets) × IsReceived UNCONNECTED_SEND d came × (unconnected_at d ≡ Ok u)

abbrev pub OpenCame : Open → Octets → Type 0
OpenCame o came =
    (d : Octets) × IsReceived (open_service o.fields.large) d came
    × (open_at o.fields.large d ≡ Ok o)

abbrev pub CloseCame : Close → Octets → Type 0
CloseCame c came = (d : Octets) × IsReceived FORWARD_CLOSE d came × (close_at d ≡ Ok c)

-- ---- what is promised

abbrev pub IsEdited : Making → Type 0
IsEdited makings.Anew = ⊥
IsEdited makings.Edited = Unit {0}

-- The effects were done. Their outputs are whole; or there is one, which lacks its bytes, where
-- they are edited, and gets them from any that came so.
abbrev pub Reacted : Making → (Octets → Type 0) → Device → Device → List Effect → Reaction → Type 0
Reacted making Came old new es (reactions.Whole output) = Handled old new es (output ∷ [])
Reacted making Came old new es (reactions.Edited output edit) =
    IsEdited making × ((came : Octets) → Came came
    → (b : Octets) × Becomes came edit b × Handled old new es (filled output b ∷ []))
Reacted making Came old new es (reactions.Several all) = Handled old new es all.items

-- the same on Ok; else nothing changed
abbrev pub Reacts : {E : Type 0} → Making → (Octets → Type 0) → Device → Device → List Effect
    → Result Reaction E → Type 0
Reacts making Came old new es (Ok reaction) = Reacted making Came old new es reaction
Reacts making Came old new es (Err fault) =
    IsUnchanged old.config (state_of_device old) new.config (state_of_device new)

-- the same of what came as no bytes
abbrev pub ReactsWhole : {E : Type 0} → Device → Device → List Effect → Result Reaction E → Type 0
ReactsWhole old new es result = Reacts makings.Anew (λ came. ⊥) old new es result
