use Rattle.std.proofs.Common.{◌≡◌, ap, ◌∙◌}
use Rattle.std.specs.FinMap as map
use Rattle.cip_base.proofs.Sorted.{from_sorted-none}
use Rattle.cip_target.specs.Held.{holdings}
use Rattle.cip_target.proofs.Changes.{holdings-none}
use Rattle.cip_target.proofs.assemblies.Assemblies.new.Goals as goal

pub returns : goal.returns
returns c = let none : map.from_sorted c.new.result.items ≡ map.empty = ap map.from_sorted c.new.ensures.items ∙ from_sorted-none _ in
    ap holdings none ∙ holdings-none
