use Rattle.std.proofs.Common.{◌+◌, ◌-◌, ◌/◌, ◌<◌, length, subst, sym, ◌∙◌, arith, List, ℕ}
use Rattle.cip_chassis.specs.Seats.{spot, StandsAt}
use Rattle.cip_chassis.proofs.Seating.{goes_above, goes_below, stands_at}
use Rattle.cip_chassis.proofs.seats.place_of.Goals as goal

pub loop-low-preserved-in-Less : goal.loop-low-preserved-in-Less
loop-low-preserved-in-Less c =
    let middle = c.loop-low.low + (c.loop-low.high - c.loop-low.low) / 2 in
    let test = c.loop-low-test.true in
    let inside = c.loop-low.invariant.1 in
    let lt : middle < length c.args.seats.now = omega (arith, test, inside) in (
      omega (arith, test),
      inside,
      goes_above c.args.seats.now (spot c.args.link c.as_slice-address.result.now) middle _ c.requires lt (sym c.in-Less.is ∙ c.compare.ensures),
      c.loop-low.invariant.3,
    )

pub returns-in-Equal : goal.returns-in-Equal
returns-in-Equal c =
    let middle = c.loop-low.low + (c.loop-low.high - c.loop-low.low) / 2 in
    let test = c.loop-low-test.true in
    let inside = c.loop-low.invariant.1 in
    let lt : middle < length c.args.seats.now = omega (arith, test, inside) in
    subst (λ (address : List ℕ). StandsAt c.args.seats.now (spot c.args.link address) middle) c.as_slice-address.ensures.value
    (stands_at c.args.seats.now (spot c.args.link c.as_slice-address.result.now) middle _ lt (sym c.in-Equal.is ∙ c.compare.ensures))

pub loop-low-preserved : goal.loop-low-preserved
loop-low-preserved c =
    let middle = c.loop-low.low + (c.loop-low.high - c.loop-low.low) / 2 in
    let test = c.loop-low-test.true in
    let inside = c.loop-low.invariant.1 in
    let lt : middle < length c.args.seats.now = omega (arith, test, inside) in (
      omega (arith, test),
      omega (arith, lt),
      c.loop-low.invariant.2,
      goes_below c.args.seats.now (spot c.args.link c.as_slice-address.result.now) middle _ lt (sym c.in-Greater.is ∙ c.compare.ensures),
    )
