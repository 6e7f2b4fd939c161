use Rattle.std.proofs.Common.{◌∙◌, ap, sym, Bool}
use Rattle.std.specs.List.{list_any}
use Rattle.cip_event.specs.declared.frame.FrameName.{FrameName}
use Rattle.cip_world.specs.Journals.{same_name}
use Rattle.cip_world.proofs.Spotted.{has_at, has_not}
use Rattle.cip_world.proofs.names.Names.has.Goals as goal

pub returns-in-Some : goal.returns-in-Some
returns-in-Some c =
    ap (λ (s : FrameName × Bool). s.1) c.index.ensures
    ∙ sym (has_at c.self.inside.spots.items c.in-Some.place c.index.result.now c.args.name c.self.invariant.rising c.in-Some.ensures.within
    (c.in-Some.ensures.key c.index.result.now))
    ∙ ap (list_any (λ f. same_name f c.args.name)) c.self.view_is

pub returns-in-None : goal.returns-in-None
returns-in-None c =
    sym (has_not c.self.inside.spots.items c.args.name c.in-None.ensures) ∙ ap (list_any (λ f. same_name f c.args.name)) c.self.view_is
