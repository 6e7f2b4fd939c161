use Rattle.std.proofs.Common.{◌∙◌, ap, subst, reverse, length, nat_lt}
use Rattle.std.specs.Vec.{vec_len, vec_capacity}
use Rattle.std.specs.Prelude.{◌↔◌, IsTrue}
use Rattle.cip_world.specs.Ledgers.{Told, newest_outputs}
use Rattle.cip_world.specs.Runs.{IsWaiting}
use Rattle.cip_world.proofs.Comings.{just_listed}
use Rattle.cip_world.proofs.Listed.{looked_at}
use Rattle.cip_world.proofs.ledger.Ledger.waits.Goals as goal

pub returns : goal.returns
returns c =
    let full = looked_at (nat_lt (vec_len c.self.inside.entries) (vec_capacity c.self.inside.entries))
    (length (newest_outputs (reverse c.self.inside.entries.items)))
    c.self.inside.looked (ap (λ (t : Told). t.ready) c.self.view_is ∙ c.requires.ready) in
    subst (λ (t : Told). IsTrue c.has.result ↔ IsWaiting t.plan t.journal c.args.name) c.self.view_is
    (just_listed c.self.inside.topology (reverse c.self.inside.entries.items) c.self.inside.listed c.self.inside.looked c.self.invariant full c.args.name
    c.has.result c.has.ensures)
