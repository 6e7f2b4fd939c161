use Rattle.std.proofs.Common.{◌≡◌, ◌+◌, drop, vec_items}
use Rattle.cip_script.specs.Steps.{texts, steps_from}
use Rattle.cip_script.proofs.StepsLaws.{before}
use Rattle.cip_script.proofs.steps.read_lines.Given as goal

abbrev pub invariant-loop-i : goal.invariant-loop-i
invariant-loop-i l = before (vec_items l.found) (steps_from l.mode l.names (l.i + 1) (texts (drop l.i l.line-items)))
    ≡ steps_from l.mode l.names 1 (texts l.line-items)
