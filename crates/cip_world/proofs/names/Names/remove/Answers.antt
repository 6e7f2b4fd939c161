use Rattle.std.proofs.Common.{◌∙◌, ap, sym, not, filter}
use Rattle.cip_world.specs.Journals.{same_name}
use Rattle.cip_world.specs.Spots.{names_in}
use Rattle.cip_world.proofs.Spotted.{front_order, front_last, first_goes}
use Rattle.cip_world.proofs.names.Names.remove.Goals as goal

pub give_up_first-requires-clause-rising : goal.give_up_first-requires-clause-rising
give_up_first-requires-clause-rising c =
    front_order c.self.inside.spots.items c.pop_front.new.self.items c.pop_front.result c.self.invariant.rising c.pop_front.ensures.items

pub give_up_first-requires-clause-last : goal.give_up_first-requires-clause-last
give_up_first-requires-clause-last c =
    front_last c.self.inside.spots.items c.pop_front.new.self.items c.pop_front.result c.self.invariant.last c.pop_front.ensures.items

pub returns-then-is_first : goal.returns-then-is_first
returns-then-is_first c =
    c.give_up_first.ensures.same ∙ ap names_in c.pop_front.ensures.rest
    ∙ first_goes c.self.inside.spots.items c.args.name c.self.invariant (sym c.is_first.ensures ∙ c.if-is_first.true)
    ∙ ap (filter (λ f. not (same_name f c.args.name))) c.self.view_is
