use Rattle.std.proofs.Common.{List, Some, sym, ap, subst, ◌∙◌}
use Rattle.cip_chassis.specs.declared.seats.Spot.{Spot}
use Rattle.cip_chassis.specs.declared.seats.Seat.{Seat}
use Rattle.cip_chassis.specs.Seats.{spot, StandsAt, FitsAt, seat_at}
use Rattle.cip_chassis.proofs.Seating.{found_at, not_found}
use Rattle.cip_chassis.proofs.seats.Seats.find.Goals as goal

pub returns-in-Ok : goal.returns-in-Ok
returns-in-Ok c =
    let name = spot c.args.link c.args.address.now in
    let at = subst (λ (es : List (Spot × Seat)). StandsAt es name c.in-Ok.at) c.deref.ensures.value c.in-Ok.ensures in
    ap (λ (e : Spot × Seat). Some e.1) c.index.ensures
    ∙ sym (found_at c.self.inside.seats.items name c.in-Ok.at c.index.result.now c.self.invariant at)
    ∙ ap (λ (es : List (Spot × Seat)). seat_at es c.args.link c.args.address.now) c.self.view_is

pub returns-in-Err : goal.returns-in-Err
returns-in-Err c =
    let name = spot c.args.link c.args.address.now in
    let at = subst (λ (es : List (Spot × Seat)). FitsAt es name c.in-Err.field-0) c.deref.ensures.value c.in-Err.ensures in
    sym (not_found c.self.inside.seats.items name c.in-Err.field-0 c.self.invariant at)
    ∙ ap (λ (es : List (Spot × Seat)). seat_at es c.args.link c.args.address.now) c.self.view_is
