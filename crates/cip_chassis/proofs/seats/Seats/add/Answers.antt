use Rattle.std.proofs.Common.{◌≡◌, List, Some, None, sym, ap, subst, ◌∙◌, get_or}
use Rattle.cip_chassis.specs.declared.seats.Spot.{Spot}
use Rattle.cip_chassis.specs.declared.seats.Seat.{Seat}
use Rattle.cip_chassis.specs.Seats.{StandsAt, FitsAt, seat_at, AreRising, seated}
use Rattle.cip_chassis.proofs.Seating.{found_at, rising_insert, seated_insert}
use Rattle.cip_chassis.proofs.seats.Seats.add.Goals as goal

pub unreachable-requires : goal.unreachable-requires
unreachable-requires c =
    let name = c.args.spot in
    let at = subst (λ (es : List (Spot × Seat)). StandsAt es name c.in_default.field-0) c.deref.ensures.value c.in_default.ensures in
    let stands = ap (λ (es : List (Spot × Seat)). seat_at es name.link name.address) (sym c.self.view_is)
    ∙ found_at c.self.inside.seats.items name c.in_default.field-0 (name, c.args.seat) c.self.invariant at in
    let both : None ≡ Some (get_or c.self.inside.seats.items c.in_default.field-0 (name, c.args.seat)).1 = sym c.requires ∙ stands in cc

pub invariant_of-self-2 : goal.invariant_of-self-2
invariant_of-self-2 c =
    let at = subst (λ (es : List (Spot × Seat)). FitsAt es c.args.spot c.in-Err.at) c.deref.ensures.value c.in-Err.ensures in
    subst AreRising (sym c.in_ok-insert.ensures.items) (rising_insert c.self.inside.seats.items c.args.spot c.in-Err.at c.args.seat c.self.invariant at)

pub returns : goal.returns
returns c =
    let at = subst (λ (es : List (Spot × Seat)). FitsAt es c.args.spot c.in-Err.at) c.deref.ensures.value c.in-Err.ensures in
    c.in_ok-insert.ensures.items ∙ sym (seated_insert c.self.inside.seats.items c.args.spot c.in-Err.at c.args.seat at)
    ∙ ap (seated c.args.spot c.args.seat) c.self.view_is
