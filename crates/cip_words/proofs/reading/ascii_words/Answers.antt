use Rattle.std.proofs.Common.{◌≡◌, ◌≤◌, true, get_or, length, refl, append_assoc, arith}
use Rattle.std.proofs.lemmas.List.{map-append}
use Rattle.cip_words.specs.Shown.{is_space}
use Rattle.cip_words.proofs.Splits.{split_step, split_last}
use Rattle.cip_words.proofs.reading.ascii_words.Goals as goal

pub bytes-preserved : goal.bytes-preserved
bytes-preserved c =
    let e : get_or c.args.line.now c.bytes.i 0 ≡ 32 = rw c.as_bytes.ensures.value at c.if-as_bytes-i-ne32.false in
    let is : is_space (get_or c.args.line.now c.bytes.i 0) ≡ true = rw e refl in
    let step = split_step c.args.line.now c.bytes.start c.bytes.i c.bytes.invariant.within c.bytes-test.true c.bytes.invariant.plain is in
    record {
      within = omega arith;
      plain = λ k a b. absurd (omega arith);
      parts = rw (c.in_ok-push.ensures.items, map-append, append_assoc, c.range.ensures.value) (rw step at c.bytes.invariant.parts);
    }

pub returns : goal.returns
returns c =
    let le : c.bytes.start ≤ length c.args.line.now = omega (arith, c.bytes.invariant.within) in
    let last = split_last c.args.line.now c.bytes.start le (λ k a b. c.bytes.invariant.plain k a (omega (arith, c.bytes-test.false))) in
    rw (c.in_ok-push-2.ensures.items, map-append, c.range_from.ensures.value) (rw last at c.bytes.invariant.parts)
