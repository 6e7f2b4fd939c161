use Rattle.std.proofs.Common.{subst, sym, ◌∙◌, List, ℕ, rules}
use Rattle.cip_chassis.specs.Seats.{spot, StandsAt}
use Rattle.cip_chassis.proofs.Seating.{stands_at}
use Rattle.cip_chassis.proofs.seats.place_near.Goals as goal

pub returns-in-Equal : goal.returns-in-Equal
returns-in-Equal c =
    subst (λ (address : List ℕ). StandsAt c.args.seats.now (spot c.args.link address) c.args.near) c.as_slice.ensures.value
    (stands_at c.args.seats.now (spot c.args.link c.as_slice.result.now) c.args.near _ (search rules) (sym c.in-Equal.is ∙ c.compare.ensures))
