-- What the values of the program hold: each number is below the bound of its type, each byte below
-- 256, a port and a tick are not 0, an address has 1 to 16 bytes, and a module is one of the
-- topology.
use Rattle.std.specs.Prelude.{ℕ, ◌+◌, ◌<◌, ◌≤◌, ◌^◌, List, [], ◌∷◌, length, Ok, Err}
use Rattle.hex.specs.Hex.{IsBytes}
use Rattle.cip_base.specs.declared.triad.Triad.{Triad}
use Rattle.cip_event.specs.declared.event.Body.{Body}
use Rattle.cip_event.specs.declared.event.Body.TheVariants.{Request, Reply, Data}
use Rattle.cip_event.specs.declared.event.Command.{Command}
use Rattle.cip_event.specs.declared.event.Command.TheVariants as commands
use Rattle.cip_event.specs.declared.event.Output.{Output}
use Rattle.cip_event.specs.declared.event.Output.TheVariants.{Send, Done, Refused, Consumed}
use Rattle.cip_event.specs.declared.event.Output.TheVariants.{Arrived, Expired, Ended, Dropped}
use Rattle.cip_chassis.specs.Plan.{Plan}
use Rattle.cip_transcript.specs.Chained.{Chained}
use Rattle.cip_event.specs.declared.frame.FrameName.{FrameName}
use Rattle.cip_world.specs.declared.journal.Input.{Input}
use Rattle.cip_world.specs.declared.journal.Input.TheVariants as inputs
use Rattle.cip_world.specs.declared.journal.Entry.{Entry}
use Rattle.cip_world.specs.declared.journal.Entry.TheVariants.{Step, Lost}

abbrev pub FitsBody : Body → Type 0
FitsBody (Request number bytes) = (number < 2 ^ 32) × IsBytes bytes
FitsBody (Reply number bytes) = (number < 2 ^ 32) × IsBytes bytes
FitsBody (Data id bytes) = (id < 2 ^ 32) × IsBytes bytes

abbrev pub FitsTriad : Triad → Type 0
FitsTriad triad = (triad.serial < 2 ^ 16) × (triad.vendor < 2 ^ 16) × (triad.originator < 2 ^ 32)

abbrev pub FitsPort : ℕ → Type 0
FitsPort port = (1 ≤ port) × (port < 2 ^ 16)

abbrev pub FitsAddress : List ℕ → Type 0
FitsAddress address = (1 ≤ length address) × (length address ≤ 16) × IsBytes address

abbrev pub FitsOutput : Output → Type 0
FitsOutput (Send port to body) = FitsPort port × FitsAddress to × FitsBody body
FitsOutput (Done op reply) = (op < 2 ^ 32) × IsBytes reply
FitsOutput (Refused fault) = Unit {0}
FitsOutput (Consumed triad instance bytes) = FitsTriad triad × (instance < 2 ^ 32) × IsBytes bytes
FitsOutput (Arrived op bytes) = (op < 2 ^ 32) × IsBytes bytes
FitsOutput (Expired triad) = FitsTriad triad
FitsOutput (Ended op) = op < 2 ^ 32
FitsOutput (Dropped reason) = Unit {0}

-- each output, and their numbers, of which the first is this one
abbrev pub FitsOutputs : ℕ → List Output → Type 0
FitsOutputs i [] = Unit {0}
FitsOutputs i (output ∷ more) = (i < 2 ^ 64) × FitsOutput output × FitsOutputs (i + 1) more

abbrev pub FitsName : FrameName → Type 0
FitsName f = (f.entry < 2 ^ 64) × (f.output < 2 ^ 64)

-- what is shown of a command
abbrev pub FitsCommand : Command → Type 0
FitsCommand (commands.Open op timing path params) = op < 2 ^ 32
FitsCommand (commands.LargeOpen op timing path params) = op < 2 ^ 32
FitsCommand (commands.Close op of timing) = op < 2 ^ 32
FitsCommand (commands.Enter of bytes) = of < 2 ^ 32
FitsCommand (commands.Set instance bytes) = instance < 2 ^ 32
FitsCommand (commands.Produce instance) = instance < 2 ^ 32
FitsCommand (commands.Send op timing path asked) = op < 2 ^ 32

abbrev pub FitsInput : Input → Type 0
FitsInput (inputs.Command command) = FitsCommand command
FitsInput (inputs.Tick ms) = (1 ≤ ms) × (ms < 2 ^ 16)
FitsInput (inputs.Frame port from f) = FitsName f

-- the module of the entry is one of the topology
abbrev pub IsAmong : Plan → Entry → Type 0
IsAmong t (Step m input outputs) = m.0 < length t.modules
IsAmong t (Lost frame) = Unit {0}

abbrev pub FitsEntry : Plan → Entry → Type 0
FitsEntry t (Step m input outputs) =
    (m.0 < length t.modules) × FitsInput input × FitsOutputs 0 outputs
FitsEntry t (Lost frame) = FitsName frame

-- each entry, and their numbers, of which the first is this one
abbrev pub FitsEntries : Plan → ℕ → List Entry → Type 0
FitsEntries t k [] = Unit {0}
FitsEntries t k (entry ∷ more) = (k < 2 ^ 64) × FitsEntry t entry × FitsEntries t (k + 1) more

-- entries of a trail
abbrev pub FitsNumbers : List ℕ → Type 0
FitsNumbers [] = Unit {0}
FitsNumbers (n ∷ more) = (n < 2 ^ 64) × FitsNumbers more

-- the instances at the end of a chain
abbrev pub FitsChain : Chained → Type 0
FitsChain (Ok view) = (view.end.consume < 2 ^ 32) × (view.end.produce < 2 ^ 32)
FitsChain (Err fault) = Unit {0}
