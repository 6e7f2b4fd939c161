use Rattle.std.proofs.Common.{ap, ◌∙◌}
use Rattle.std.specs.List.{list_any}
use Rattle.std.specs.FinMap as map
use Rattle.slab.specs.Slab.{get}
use Rattle.cip_base.specs.Joined.{passes}
use Rattle.cip_pending.specs.Pendings.{Pendings, is_due}
use Rattle.cip_pending.proofs.Quiet.{any_waiting}
use Rattle.cip_pending.proofs.table.PendingTable.first_deadline.Goals as goal

pub returns : goal.returns
returns c = λ time.
    c.first_among.ensures time ∙ ap (list_any (passes (is_due time) (get c.self.inside.records))) c.pairs.ensures.all
    ∙ any_waiting c.self.inside (is_due time) ∙ ap (λ (p : Pendings). list_any (is_due time) (map.entries p.entries)) c.self.view_is
