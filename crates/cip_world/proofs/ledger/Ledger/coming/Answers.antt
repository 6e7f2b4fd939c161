use Rattle.std.proofs.Common.{◌≡◌, ◌∙◌, List, ap, sym, subst, reverse, Some}
use Rattle.std.specs.Prelude.{IfSome, option_map}
use Rattle.cip_world.specs.Coming.{flight, IsComing}
use Rattle.cip_world.specs.declared.journal.Entry.{Entry}
use Rattle.cip_world.specs.Journals.{frame_at}
use Rattle.cip_world.specs.Ledgers.{Told}
use Rattle.cip_world.specs.Runs.{IsWaiting}
use Rattle.cip_world.proofs.Comings.{comes}
use Rattle.cip_world.proofs.ledger.Ledger.coming.Goals as goal

pub returns-in-Some-clause-some : goal.returns-in-Some-clause-some
returns-in-Some-clause-some c =
    let w = subst (λ (t : Told). IsWaiting t.plan t.journal c.args.name) (sym c.self.view_is) c.requires.waits in
    let there : Some (flight c.in-Some.flying) ≡ frame_at (reverse c.self.inside.entries.items) c.args.name =
    ap (option_map flight) (sym c.in-Some.is) ∙ c.frame_at.ensures ∙ ap (λ (es : List Entry). frame_at (reverse es) c.args.name) c.as_slice.ensures.value in
    subst (λ (t : Told). IfSome c.comes_in.result (IsComing t.plan t.journal c.args.name)) c.self.view_is
    (comes c.self.inside.topology (reverse c.self.inside.entries.items) c.args.name c.in-Some.flying c.comes_in.result w
    there c.comes_in.ensures.way c.comes_in.ensures.body)
