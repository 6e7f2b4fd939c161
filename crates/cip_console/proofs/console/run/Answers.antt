use Rattle.cip_console.proofs.Left.{all_lent}
use Rattle.cip_console.proofs.Outcomes.{none_read, no_memory_to_read}
use Rattle.cip_console.proofs.console.run.Goals as goal

pub returns-in-Err-NoMemory-clause-wrote : goal.returns-in-Err-NoMemory-clause-wrote
returns-in-Err-NoMemory-clause-wrote g c = no_memory_to_read _ _ _

pub returns-in-Err-Failed-clause-wrote : goal.returns-in-Err-Failed-clause-wrote
returns-in-Err-Failed-clause-wrote g c = none_read _ _ _

pub returns-clause-wrote : goal.returns-clause-wrote
returns-clause-wrote g c = none_read _ _ _

pub returns-in-Some-clause-wrote : goal.returns-in-Some-clause-wrote
returns-in-Some-clause-wrote g c =
    record { script = c.in-Some.script.now; read = all_lent _ _ c.in-Some.ensures; wrote = c.run_in_memory.ensures.wrote }
