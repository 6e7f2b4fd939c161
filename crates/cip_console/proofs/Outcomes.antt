-- What was written of a script, by the answer.
use Rattle.std.proofs.Common.{ℕ, List, Option, Ok, Err}
use Rattle.std.proofs.KnownBytes.{Keeps-refl}
use Rattle.cip_chassis.specs.Plan.{Plan}
use Rattle.cip_script.specs.declared.steps.Mode.TheVariants.{InTurn}
use Rattle.cip_console.specs.declared.fault.ConsoleFault.TheVariants.{Read, NoMemory}
use Rattle.cip_console.specs.Outcome.{Steps, Front, WroteOf}
use Rattle.cip_script.specs.Steps.{steps}
use Rattle.cip_console.specs.Transcript.{transcript}
use Rattle.cip_transcript.specs.Show.{names_of}
use Rattle.cip_console.proofs.Left.{left_of, is_left}
use Rattle.cip_console.proofs.Prints.{front_nothing}

-- where nothing was written, a prefix was
pub nothing_written : (t : Plan) (old : Option (List ℕ)) (script : Steps) → Front t old old script
nothing_written t old (Ok all) = front_nothing old (transcript t all)
nothing_written t old (Err first) = Keeps-refl old

pub none_read : (t : Plan) (left old : Option (List ℕ)) → WroteOf t left old old (Err Read)
none_read t left old = record { script = left_of left; read = is_left left; wrote = Keeps-refl old }

pub no_memory_to_read : (t : Plan) (left old : Option (List ℕ)) → WroteOf t left old old (Err NoMemory)
no_memory_to_read t left old = record {
  script = left_of left;
  read = is_left left;
  wrote =
      nothing_written t old (steps InTurn (names_of t) (left_of left));
}

pub ruleset unread_laws = (none_read, no_memory_to_read)
