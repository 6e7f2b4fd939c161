use Rattle.std.proofs.Common.{ap, ◌∙◌}
use Rattle.std.specs.List.{list_any}
use Rattle.std.specs.FinMap as map
use Rattle.slab.specs.Slab.{get}
use Rattle.cip_base.specs.Joined.{passes}
use Rattle.cip_hops.specs.Hops.{Hops, is_entry_due}
use Rattle.cip_hops.proofs.Quiet.{any_held}
use Rattle.cip_hops.proofs.table.HopTable.first_deadline.Goals as goal

pub returns : goal.returns
returns c = λ time.
    c.first_among.ensures time ∙ ap (list_any (passes (is_entry_due time) (get c.self.inside.records))) c.pairs.ensures.all
    ∙ any_held c.self.inside (is_entry_due time) ∙ ap (λ (p : Hops). list_any (is_entry_due time) (map.entries p.held)) c.self.view_is
