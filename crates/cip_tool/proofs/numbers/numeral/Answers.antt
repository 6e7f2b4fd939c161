use Rattle.std.proofs.Common.{arith, ap, sym, ◌∙◌, ◌≡◌, ◌<◌, ◌≤◌, ◌+◌, ◌*◌, ◌^◌, length, slice_index, ℕ}
use Rattle.std.specs.Char.{digit_value}
use Rattle.cip_tool.proofs.Numerals.{not_empty}
use Rattle.cip_tool.proofs.Numerals.{read_start, read_full, read_done}
use Rattle.cip_tool.proofs.numbers.numeral.Goals as goal

pub returns-in_err-tens : goal.returns-in_err-tens
returns-in_err-tens c =
    let ds = c.args.digits.now in
    let n = c.loop-byte.number in
    let d : ℕ = digit_value (slice_index ds c.loop-byte.byte-index) in
    let is_digit : c.digit-digit.result ≡ d = c.digit-digit.ensures in
    let product : n * c.from.result ≡ n * c.args.radix = ap (λ (r : ℕ). n * r) c.from.ensures in
    let over : 2 ^ 64 ≤ n * c.args.radix + d = omega (arith, c.in_err-tens.ensures, product) in
    let some : 0 < length ds = not_empty (length ds) c.if-is_empty.ensures in
    c.from_residual.ensures ∙ sym (read_start c.args.radix ds some
    ∙ read_full c.args.radix n c.loop-byte.byte-index ds _ (omega arith) (omega arith) (omega arith) over c.loop-byte.invariant.rest)

pub returns-in_err-number : goal.returns-in_err-number
returns-in_err-number c =
    let ds = c.args.digits.now in
    let n = c.loop-byte.number in
    let d : ℕ = digit_value (slice_index ds c.loop-byte.byte-index) in
    let is_digit : c.digit-digit.result ≡ d = c.digit-digit.ensures in
    let product : n * c.from.result ≡ n * c.args.radix = ap (λ (r : ℕ). n * r) c.from.ensures in
    let over : 2 ^ 64 ≤ n * c.args.radix + d = omega (arith, c.in_err-number.ensures, c.in_ok-tens.ensures, c.from-in-loop-byte.ensures, product) in
    c.from_residual-in_err-number.ensures ∙ sym (read_start c.args.radix ds (not_empty (length ds) c.if-is_empty.ensures)
    ∙ read_full c.args.radix n c.loop-byte.byte-index ds _ (omega arith) (omega arith) (omega arith) over c.loop-byte.invariant.rest)

pub returns : goal.returns
returns c = sym (read_start c.args.radix c.args.digits.now (not_empty (length c.args.digits.now) c.if-is_empty.ensures)
    ∙ read_done c.args.radix c.loop-byte.number c.loop-byte.byte-index c.args.digits.now _ (omega arith) (omega arith) c.loop-byte.invariant.rest)
