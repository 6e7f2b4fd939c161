use Rattle.std.proofs.Common.{◌≡◌, length, arith, sym}
use Rattle.std.proofs.lemmas.Bool.{eqb-false, eqb-true}
use Rattle.cip_segment.proofs.Paths.{at_start, one_more, at_fault, falls, unreadable}
use Rattle.cip_segment.proofs.PathsRead.{path_at-stops, path_at-TooLong, path_at-readable}
use Rattle.cip_segment.proofs.Paths.{at_end}
use Rattle.cip_segment.proofs.view.view_path.Goals as goal

pub loop-rest-init : goal.loop-rest-init
loop-rest-init c = at_start c.args.bytes.now

pub returns-in-Err-clause-readable : goal.returns-in-Err-clause-readable
returns-in-Err-clause-readable c =
    let some : length c.loop-rest.rest.now ≡ 0 → ⊥ = eqb-false _ 0 (sym c.loop-rest-test.ensures) in
    let wrong =
    at_fault c.args.bytes.now c.loop-rest.rest.now c.in-Err.fault (λ i. omega (arith, c.type_inv.bytes i))
    (omega arith) some c.loop-rest.invariant c.in-Err.ensures in
    (λ e. absurd cc, λ r. absurd (unreadable c.args.bytes.now c.in-Err.fault wrong r))

pub returns-in-Err-clause-fault : goal.returns-in-Err-clause-fault
returns-in-Err-clause-fault c =
    at_fault c.args.bytes.now c.loop-rest.rest.now c.in-Err.fault (λ i. omega (arith, c.type_inv.bytes i)) (omega arith)
    (eqb-false _ 0 (sym c.loop-rest-test.ensures)) c.loop-rest.invariant c.in-Err.ensures

pub loop-rest-smaller : goal.loop-rest-smaller
loop-rest-smaller c =
    falls c.args.bytes.now c.loop-rest.rest.now c.in-Ok.after.now c.in-Ok.ensures.0
    (λ i. omega (arith, c.type_inv.bytes i)) c.loop-rest.invariant c.in-Ok.ensures.1

pub loop-rest-preserved : goal.loop-rest-preserved
loop-rest-preserved c =
    one_more c.args.bytes.now c.loop-rest.rest.now c.in-Ok.after.now c.in-Ok.ensures.0
    (λ i. omega (arith, c.type_inv.bytes i)) c.loop-rest.invariant c.in-Ok.ensures.1

pub returns-then-bytes-gt-MAX_PATH-clause-gives : goal.returns-then-bytes-gt-MAX_PATH-clause-gives
returns-then-bytes-gt-MAX_PATH-clause-gives c = path_at-TooLong c.args.bytes.now (omega arith)

pub returns-in-Err-clause-gives : goal.returns-in-Err-clause-gives
returns-in-Err-clause-gives c =
    path_at-stops c.args.bytes.now c.loop-rest.rest.now c.in-Err.fault (omega arith)
    (eqb-false _ 0 (sym c.loop-rest-test.ensures)) c.loop-rest.invariant c.in-Err.ensures

pub returns-clause-gives : goal.returns-clause-gives
returns-clause-gives c =
    path_at-readable c.args.bytes.now
    (at_end c.args.bytes.now c.loop-rest.rest.now (omega arith) (eqb-true _ 0 (sym c.loop-rest-test.ensures)) c.loop-rest.invariant)
