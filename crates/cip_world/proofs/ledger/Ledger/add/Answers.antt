use Rattle.std.proofs.Common.{reverse, ◌∙◌, ap, sym, subst, filter, not, length, Option, nat_lt}
use Rattle.std.specs.Vec.{vec_len, vec_capacity}
use Rattle.cip_event.specs.declared.frame.FrameName.{FrameName}
use Rattle.cip_world.specs.Journals.{is_that}
use Rattle.cip_world.specs.Ledgers.{Told, newest_outputs}
use Rattle.cip_world.specs.Runs.{IsNext}
use Rattle.cip_world.proofs.Listed.{added, looked_at}
use Rattle.cip_world.proofs.ledger.Ledger.add.Goals as goal

pub invariant_of-self : goal.invariant_of-self
invariant_of-self c =
    added c.self.inside.topology c.self.inside.entries.items c.push_reserved.new.self.items c.args.entry c.self.inside.listed
    c.take_out.new.listed c.self.inside.looked
    c.self.invariant
    (looked_at (nat_lt (vec_len c.self.inside.entries) (vec_capacity c.self.inside.entries))
    (length (newest_outputs (reverse c.self.inside.entries.items))) c.self.inside.looked
    (ap (λ (t : Told). t.ready) c.self.view_is ∙ c.requires.ready))
    (subst (λ (t : Told). IsNext t.plan t.journal c.args.entry) (sym c.self.view_is) c.requires.next)
    (c.take_out.ensures ∙ ap (λ (o : Option FrameName). filter (λ f. not (is_that f o)) c.self.inside.listed) c.named.ensures)
    c.push_reserved.ensures.items
