use Rattle.cip_console.proofs.LiveLaws.{none_heard, no_memory_to_run}
use Rattle.cip_console.proofs.Left.{all_lent}
use Rattle.cip_console.proofs.live.run_live.Goals as goal

pub returns-in-Err-NoMemory-clause-wrote : goal.returns-in-Err-NoMemory-clause-wrote
returns-in-Err-NoMemory-clause-wrote g c = no_memory_to_run _ _ _ _

pub returns-in-Err-Failed-clause-wrote : goal.returns-in-Err-Failed-clause-wrote
returns-in-Err-Failed-clause-wrote g c = none_heard _ _ _ _

pub returns-clause-wrote : goal.returns-clause-wrote
returns-clause-wrote g c = none_heard _ _ _ _

pub returns-in-Some-clause-wrote : goal.returns-in-Some-clause-wrote
returns-in-Some-clause-wrote g c =
    record { script = c.in-Some.script.now; read = all_lent _ _ c.in-Some.ensures; wrote = c.play_in_memory.ensures.wrote }
