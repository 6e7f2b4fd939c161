-- What the console did, by its answer.
use Rattle.std.specs.Prelude.{◌≡◌, ℕ, List, Option, Some, None, Result, Ok, Err, IfSome}
use Rattle.std.specs.Io.KnownBytes.{Keeps, Appends}
use Rattle.cip_chassis.specs.Plan.{Plan}
use Rattle.cip_script.specs.declared.steps.Mode.TheVariants.{InTurn}
use Rattle.cip_script.specs.declared.steps.Numbered.{Numbered}
use Rattle.cip_script.specs.declared.steps.ScriptFault.{ScriptFault}
use Rattle.cip_console.specs.declared.fault.ConsoleFault.{ConsoleFault}
use Rattle.cip_console.specs.declared.fault.ConsoleFault.TheVariants.{Script, Read, Write}
use Rattle.cip_console.specs.declared.fault.ConsoleFault.TheVariants.{NoMemory, New, Run}
use Rattle.cip_console.specs.Known.{AppendsFront}
use Rattle.cip_script.specs.Steps.{steps}
use Rattle.cip_console.specs.Transcript.{transcript, stop_of}
use Rattle.cip_transcript.specs.Show.{names_of}

abbrev pub Steps : Type 0
Steps = Result (List Numbered) (ℕ × ScriptFault)

-- the script has no faulty line, the run did not stop, and the whole transcript was written
abbrev pub Done : Plan → Option (List ℕ) → Option (List ℕ) → Steps → Type 0
Done t old new (Err first) = ⊥
Done t old new (Ok steps) = (stop_of t steps ≡ None)
    × Appends old new (transcript t steps)

-- that is the first faulty line, and nothing was written; or the run stopped there, and the
-- transcript so far was written
abbrev pub Fails : Plan → Option (List ℕ) → Option (List ℕ) → Steps → ℕ → ScriptFault
    → Type 0
Fails t old new (Err first) line fault = (first ≡ (line, fault)) × Keeps old new
Fails t old new (Ok steps) line fault =
    (stop_of t steps ≡ Some (line, fault)) × Appends old new (transcript t steps)

-- the script has no faulty line, and a prefix of the transcript was written
abbrev pub Cut : Plan → Option (List ℕ) → Option (List ℕ) → Steps → Type 0
Cut t old new (Err first) = ⊥
Cut t old new (Ok steps) = AppendsFront old new (transcript t steps)

-- a prefix of the transcript was written
abbrev pub Front : Plan → Option (List ℕ) → Option (List ℕ) → Steps → Type 0
Front t old new (Err first) = Keeps old new
Front t old new (Ok steps) = AppendsFront old new (transcript t steps)

-- the script has no faulty line, and nothing was written
abbrev pub NotBegun : Option (List ℕ) → Option (List ℕ) → Steps → Type 0
NotBegun old new (Err first) = ⊥
NotBegun old new (Ok steps) = Keeps old new

-- what was written of a script, by the answer
abbrev pub Wrote : Plan → Option (List ℕ) → Option (List ℕ) → Steps
    → Result (Unit {0}) ConsoleFault → Type 0
Wrote t old new script (Ok u) = Done t old new script
Wrote t old new script (Err (Script line fault)) = Fails t old new script line fault
Wrote t old new script (Err Read) = Keeps old new
Wrote t old new script (Err Write) = Cut t old new script
Wrote t old new script (Err NoMemory) = Front t old new script
Wrote t old new script (Err (New fault)) = NotBegun old new script
Wrote t old new script (Err (Run fault)) = ⊥

-- the same of the script that was read: all that the reader had left, where that is known
pub record WroteOf (t : Plan) (left : Option (List ℕ))
    (old new : Option (List ℕ)) (result : Result (Unit {0}) ConsoleFault) : Type 0 where
  pub script : List ℕ
  pub read : IfSome left (λ bytes. script ≡ bytes)
  pub wrote : Wrote t old new (steps InTurn (names_of t) script) result
