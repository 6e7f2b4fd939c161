use Rattle.std.proofs.Common.{◌≡◌, ◌++◌, length}
use Rattle.std.specs.Prelude.{map}
use Rattle.std.specs.FinMap as finite
use Rattle.cip_routing.specs.Views.{assembly_row_of}
use Rattle.cip_routing.proofs.Walks.{assemblies_above}
use Rattle.cip_routing.proofs.show.assembly_rows.Given as goal

abbrev pub invariant-loop-instance : goal.invariant-loop-instance
invariant-loop-instance l = l.rows.items ++ map assembly_row_of (assemblies_above l.after l.target.objects.assemblies)
    ≡ map assembly_row_of (finite.entries l.target.objects.assemblies)

abbrev pub decreases-loop-instance : goal.decreases-loop-instance
decreases-loop-instance l = length (assemblies_above l.after l.target.objects.assemblies)
