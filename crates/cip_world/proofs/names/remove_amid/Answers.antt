use Rattle.std.proofs.Common.{◌∙◌, ap, sym, subst, false, Bool}
use Rattle.std.specs.Prelude.{slice_set}
use Rattle.cip_event.specs.declared.frame.FrameName.{FrameName}
use Rattle.cip_world.specs.Spots.{names_in, AreInOrder}
use Rattle.cip_world.proofs.Spotted.{order_stays, goes_at, none_goes}
use Rattle.cip_world.proofs.names.remove_amid.Goals as goal

pub give_up_last-requires : goal.give_up_last-requires
give_up_last-requires c =
    subst (λ (s : FrameName × Bool). AreInOrder (slice_set c.args.spots.now.items c.in-Some.place (s.0, false))) (sym c.index_mut.ensures.value)
    (order_stays c.args.spots.now.items c.in-Some.place c.index_mut.result.now false c.requires.rising)

pub returns-in-Some-clause-gone : goal.returns-in-Some-clause-gone
returns-in-Some-clause-gone c =
    c.give_up_first.ensures.same ∙ c.give_up_last.ensures.same
    ∙ ap (λ (s : FrameName × Bool). names_in (slice_set c.args.spots.now.items c.in-Some.place (s.0, false))) c.index_mut.ensures.value
    ∙ goes_at c.args.spots.now.items c.in-Some.place c.index_mut.result.now c.args.name c.requires.rising c.in-Some.ensures.within
    (c.in-Some.ensures.key c.index_mut.result.now)

pub returns-in-None-clause-gone : goal.returns-in-None-clause-gone
returns-in-None-clause-gone c = none_goes c.args.spots.now.items c.args.name c.in-None.ensures
