use Rattle.std.proofs.Common.{◌≡◌, ◌++◌}
use Rattle.std.specs.Prelude.{drop}
use Rattle.cip_world.specs.Spots.{names_in}
use Rattle.cip_world.proofs.names.push_waiting.Given as goal

abbrev pub invariant-loop-place : goal.invariant-loop-place
invariant-loop-place l = l.all.items ++ names_in (drop l.place l.spots.items) ≡ l.initial.all.items ++ names_in l.spots.items
