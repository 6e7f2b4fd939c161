use Rattle.std.proofs.Common.{arith, ℕ, ◌≡◌, slice_index, ◌⊎◌, ◌≤◌, inl, inr, ◌*◌, ◌+◌}
use Rattle.std.specs.Char.{digit_value}
use Rattle.hex.proofs.Pairs.{decode_step, decode_done, decode_err}
use Rattle.cip_script.proofs.BytesLaws.{pair_read, pair_refused, refused, decoded}
use Rattle.cip_script.proofs.text.fill_bytes.Goals as goal
use Rattle.cip_script.proofs.text.fill_bytes.Goals.{then-high-ge16-via-then-high-ge16, then-high-ge16-via-else-high-ge16+then-low-ge16}

pub returns-then-high-ge16 : goal.returns-then-high-ge16
returns-then-high-ge16 c =
    let s = c.args.digits.now in
    let high = slice_index s (2 * c.pairs.i) in
    let low = slice_index s (2 * c.pairs.i + 1) in
    let bad : (16 ≤ digit_value high) ⊎ (16 ≤ digit_value low) = elim c.then-high-ge16.branch [
      | then-high-ge16-via-then-high-ge16 w ↦ inl (omega (arith, c.digit-high.ensures))
      | then-high-ge16-via-else-high-ge16+then-low-ge16 w ↦ inr (omega (arith, c.digit-low.ensures))
    ] in
    let found = pair_refused high low (2 * c.pairs.i) bad in
    refused s _ found.0 c.requires (decode_err s c.pairs.output c.pairs.i found.0 (omega arith) found.1 c.pairs.invariant)

pub pairs-preserved : goal.pairs-preserved
pairs-preserved c =
    let s = c.args.digits.now in
    let high : ℕ = slice_index s (2 * c.pairs.i) in
    let low : ℕ = slice_index s (2 * c.pairs.i + 1) in
    let v : ℕ = 16 * c.digit-high.result + c.digit-low.result in
    let is_high : c.digit-high.result ≡ digit_value high = c.digit-high.ensures in
    let is_low : c.digit-low.result ≡ digit_value low = c.digit-low.ensures in
    decode_step s c.pairs.output c.pairs.i v (omega arith) (omega arith)
    (pair_read high low (2 * c.pairs.i) v (omega arith) (omega arith) (omega arith)) c.pairs.invariant

pub returns : goal.returns
returns c = decoded c.args.digits.now _ _ c.requires (decode_done _ c.pairs.output c.pairs.i (omega arith) (omega arith) c.pairs.invariant)
