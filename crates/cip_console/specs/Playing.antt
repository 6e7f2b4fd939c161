-- What is written and gathered while a run is under way.
use Rattle.std.specs.Prelude.{◌≡◌, ℕ, List, ◌++◌, Option, Some, None, Result, Ok, Err}
use Rattle.std.specs.Io.KnownBytes.{Appends}
use Rattle.cip_console.specs.declared.playing.PlayFault.{PlayFault}
use Rattle.cip_console.specs.declared.playing.PlayFault.TheVariants.{Stopped, Write, NoMemory}
use Rattle.cip_console.specs.Known.{AppendsFront}
use Rattle.cip_console.specs.Transcript.{Part}
use Rattle.cip_world.specs.Journals.{Journal}

-- a text went behind what was gathered before: some was written since, and the rest is gathered
pub record Prints (old new : Option (List ℕ)) (before after text : List ℕ) : Type 0 where
  pub done : List ℕ
  pub wrote : Appends old new done
  pub joined : before ++ text ≡ done ++ after

-- a part of a run was played to its end
pub record Played (part : Part) (old new : Option (List ℕ)) (before after : List ℕ) (j : Journal)
    : Type 0 where
  pub ends : part.after ≡ Ok j
  pub prints : Prints old new before after part.text

-- or the run stopped there, or the writer refused, or memory ran out
abbrev pub Plays : Part → Option (List ℕ) → Option (List ℕ) → List ℕ → List ℕ → Journal
    → Result (Unit {0}) PlayFault → Type 0
Plays part old new before after j (Ok u) = Played part old new before after j
Plays part old new before after j (Err (Stopped fault)) =
    (part.after ≡ Err fault) × Prints old new before after part.text
Plays part old new before after j (Err Write) = AppendsFront old new (before ++ part.text)
Plays part old new before after j (Err NoMemory) = AppendsFront old new (before ++ part.text)
