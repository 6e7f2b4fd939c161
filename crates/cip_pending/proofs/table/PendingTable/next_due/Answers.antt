use Rattle.std.proofs.Common.{ap, ◌∙◌}
use Rattle.std.specs.List.{list_any}
use Rattle.std.specs.FinMap as map
use Rattle.cip_pending.specs.Pendings.{Pendings, is_due}
use Rattle.cip_pending.proofs.Quiet.{first_is, none_is}
use Rattle.cip_pending.proofs.table.PendingTable.next_due.Goals as goal

pub returns-then-first-lt-LAST_BOUND-clause-value : goal.returns-then-first-lt-LAST_BOUND-clause-value
returns-then-first-lt-LAST_BOUND-clause-value c = λ time.
    first_is c.self.inside c.self.invariant c.first_bound-first.result c.first_bound-first.ensures.first c.if-first-lt-LAST_BOUND.true time
    ∙ ap (λ (p : Pendings). list_any (is_due time) (map.entries p.entries)) c.self.view_is

pub returns-then-first-gt-LAST_BOUND-clause-value : goal.returns-then-first-gt-LAST_BOUND-clause-value
returns-then-first-gt-LAST_BOUND-clause-value c = λ time.
    none_is c.self.inside c.self.invariant c.first_bound-first.result c.first_bound-first.ensures.first c.if-first-gt-LAST_BOUND.true time
    ∙ ap (λ (p : Pendings). list_any (is_due time) (map.entries p.entries)) c.self.view_is
