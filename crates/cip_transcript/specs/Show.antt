-- The lines of a transcript. Numbers are decimal; bytes are upper-case pairs, `-` for none.
use Rattle.std.specs.Prelude.{ℕ, ◌+◌, ◌==◌, List, [], ◌∷◌, ◌/◌, ◌%◌, ◌++◌, length, codes, decimal}
use Rattle.std.specs.Prelude.{if◌then◌else◌, unwrap_or, slice_get, map, Option, Some, None, Ok, Err}
use Rattle.cip_base.specs.declared.numbers.ModuleId.{ModuleId}
use Rattle.cip_base.specs.declared.triad.Triad.{Triad}
use Rattle.cip_chain.specs.declared.chains.ChainFault.TheVariants as chains
use Rattle.cip_event.specs.declared.event.Body.{Body}
use Rattle.cip_event.specs.declared.event.Body.TheVariants.{Request, Reply, Data}
use Rattle.cip_event.specs.declared.event.Command.{Command}
use Rattle.cip_event.specs.declared.event.Command.TheVariants as commands
use Rattle.cip_event.specs.declared.event.Output.{Output}
use Rattle.cip_event.specs.declared.event.Output.TheVariants.{Send, Done, Refused, Consumed}
use Rattle.cip_event.specs.declared.event.Output.TheVariants.{Arrived, Expired, Ended, Dropped}
use Rattle.cip_event.specs.declared.event.Refused.{Refused as Refusal}
use Rattle.cip_event.specs.declared.event.Refused.TheVariants.{OpUsed, NotOpen, WrongSize}
use Rattle.cip_event.specs.declared.event.Refused.TheVariants.{ReservedService, NoInstance}
use Rattle.cip_event.specs.declared.event.Dropped.{Dropped as Drop}
use Rattle.cip_event.specs.declared.event.Dropped.TheVariants.{Malformed, Late, UnknownId}
use Rattle.cip_event.specs.declared.event.Dropped.TheVariants as dropped
use Rattle.cip_text.specs.Texts.{pairs_text}
use Rattle.cip_chassis.specs.Plan.{Plan}
use Rattle.cip_event.specs.declared.frame.FrameName.{FrameName}
use Rattle.cip_world.specs.declared.journal.Input.{Input}
use Rattle.cip_world.specs.declared.journal.Input.TheVariants as inputs
use Rattle.cip_world.specs.declared.journal.Entry.{Entry}
use Rattle.cip_world.specs.declared.journal.Entry.TheVariants.{Step, Lost}
use Rattle.cip_transcript.specs.Chained.{Chained}

-- bytes in upper-case pairs, a dash for none
abbrev pub bytes_text : List ℕ → List ℕ
bytes_text = pairs_text

-- a number, a dash for none
abbrev pub optional_text : Option ℕ → List ℕ
optional_text None = codes "-"
optional_text (Some n) = decimal n

-- `request NUMBER BYTES` and the like
abbrev pub body_text : Body → List ℕ
body_text (Request number bytes) = codes "request " ++ decimal number ++ codes " "
    ++ bytes_text bytes
body_text (Reply number bytes) = codes "reply " ++ decimal number ++ codes " " ++ bytes_text bytes
body_text (Data id bytes) = codes "data " ++ decimal id ++ codes " " ++ bytes_text bytes

-- the serial number, the vendor, and the originator's serial number
abbrev pub triad_text : Triad → List ℕ
triad_text triad = decimal triad.serial ++ codes " " ++ decimal triad.vendor ++ codes " "
    ++ decimal triad.originator

abbrev pub refusal_text : Refusal → List ℕ
refusal_text OpUsed = codes "OpUsed"
refusal_text NotOpen = codes "NotOpen"
refusal_text WrongSize = codes "WrongSize"
refusal_text ReservedService = codes "ReservedService"
refusal_text NoInstance = codes "NoInstance"

abbrev pub drop_text : Drop → List ℕ
drop_text Malformed = codes "Malformed"
drop_text Late = codes "Late"
drop_text UnknownId = codes "UnknownId"
drop_text dropped.WrongSize = codes "WrongSize"

abbrev pub output_text : Output → List ℕ
output_text (Send port to body) = codes "send " ++ decimal port ++ codes " " ++ bytes_text to
    ++ codes " " ++ body_text body
output_text (Done op reply) = codes "done " ++ decimal op ++ codes " " ++ bytes_text reply
output_text (Refused fault) = codes "refused " ++ refusal_text fault
output_text (Consumed triad instance bytes) =
    codes "consumed " ++ triad_text triad ++ codes " " ++ decimal instance ++ codes " "
    ++ bytes_text bytes
output_text (Arrived op bytes) = codes "arrived " ++ decimal op ++ codes " " ++ bytes_text bytes
output_text (Expired triad) = codes "expired " ++ triad_text triad
output_text (Ended op) = codes "ended " ++ decimal op
output_text (Dropped reason) = codes "dropped " ++ drop_text reason

-- the line of an output
abbrev pub output_line : ℕ → Output → List ℕ
output_line i output = codes "  " ++ decimal i ++ codes " " ++ output_text output ++ codes "\n"

-- the lines of outputs, the first of which has this number
abbrev pub outputs_text : ℕ → List Output → List ℕ
outputs_text i [] = []
outputs_text i (output ∷ outputs) = output_line i output ++ outputs_text (i + 1) outputs

abbrev pub frame_text : FrameName → List ℕ
frame_text f = decimal f.entry ++ codes "." ++ decimal f.output

abbrev pub command_text : Command → List ℕ
command_text (commands.Open op timing path params) = codes "open " ++ decimal op
command_text (commands.LargeOpen op timing path params) = codes "large " ++ decimal op
command_text (commands.Close op of timing) = codes "close " ++ decimal op
command_text (commands.Enter of bytes) = codes "enter " ++ decimal of
command_text (commands.Set instance bytes) = codes "set " ++ decimal instance
command_text (commands.Produce instance) = codes "produce " ++ decimal instance
command_text (commands.Send op timing path asked) = codes "send " ++ decimal op

abbrev pub arrived_text : FrameName → List ℕ
arrived_text f = codes "frame " ++ frame_text f

-- a command, a tick, or a frame by its name
abbrev pub input_text : Input → List ℕ
input_text (inputs.Command command) = command_text command
input_text (inputs.Tick ms) = codes "tick " ++ decimal ms
input_text (inputs.Frame port from f) = arrived_text f

-- the names of the modules of a topology, in its order
abbrev pub names_of : Plan → List (List ℕ)
names_of t = map (λ config. config.name) t.modules

-- the name of module m
abbrev pub name_of : List (List ℕ) → ℕ → List ℕ
name_of names m = unwrap_or (slice_get names m) []

-- the line of entry k, before those of its outputs
abbrev pub head_text : ℕ → List ℕ → List ℕ → List ℕ
head_text k name what = decimal k ++ codes " " ++ name ++ codes " " ++ what ++ codes "\n"

-- numbers of entries, each behind a space
abbrev pub numbers_text : List ℕ → List ℕ
numbers_text [] = []
numbers_text (n ∷ more) = codes " " ++ decimal n ++ numbers_text more

-- `trail` and the entries of one
abbrev pub trail_text : List ℕ → List ℕ
trail_text entries = codes "trail" ++ numbers_text entries ++ codes "\n"

-- names of modules, each behind a space
abbrev pub names_text : List (List ℕ) → List ModuleId → List ℕ
names_text names [] = []
names_text names (m ∷ more) = codes " " ++ name_of names m.0 ++ names_text names more

-- `chain`, its modules, and the instances at its end; or why there is none
abbrev pub chain_text : List (List ℕ) → Chained → List ℕ
chain_text names (Ok view) =
    codes "chain" ++ names_text names view.modules ++ codes " " ++ decimal view.end.consume
    ++ codes " " ++ decimal view.end.produce ++ codes "\n"
chain_text names (Err chains.NotOpen) = codes "not open\n"
chain_text names (Err (chains.Broken m)) =
    codes "broken " ++ name_of names m.0 ++ codes "\n"
chain_text names (Err chains.NoMemory) = []

abbrev pub lost_text : ℕ → FrameName → List ℕ
lost_text k frame = decimal k ++ codes " lost " ++ frame_text frame ++ codes "\n"

-- entry k: its own line, and one for each output; the names are those of the modules
abbrev pub entry_text : List (List ℕ) → ℕ → Entry → List ℕ
entry_text names k (Step m input outputs) =
    head_text k (name_of names m.0) (input_text input) ++ outputs_text 0 outputs
entry_text names k (Lost frame) = lost_text k frame
