-- What a look at the rooms of a script tells of its lines.
use Rattle.std.specs.Prelude.{◌≡◌, ℕ, List, Result, Ok, Err}
use Rattle.cip_check.specs.declared.report.Report.{Report}
use Rattle.cip_script.specs.declared.steps.Numbered.{Numbered}
use Rattle.cip_script.specs.declared.steps.ScriptFault.{ScriptFault}
use Rattle.ciptool.specs.declared.rooms.RoomsFault.{RoomsFault}
use Rattle.ciptool.specs.declared.rooms.RoomsFault.TheVariants.{Script, NoMemory}

-- this line and this fault are what is told, unless memory ran out
abbrev pub Tells : ℕ × ScriptFault → RoomsFault → Type 0
Tells first (Script line fault) = first ≡ (line, fault)
Tells first NoMemory = Unit {0}

-- a script whose lines are all steps is played; of another its first faulty line is told
abbrev pub Follows : Result (List Numbered) (ℕ × ScriptFault) → Result Report RoomsFault → Type 0
Follows (Ok steps) result = Unit {0}
Follows (Err first) (Ok report) = ⊥
Follows (Err first) (Err fault) = Tells first fault
