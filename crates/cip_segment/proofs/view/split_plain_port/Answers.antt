use Rattle.std.proofs.Common.{◌≡◌, [], ◌∷◌, ◌<◌, ◌≤◌, length, sym, ◌∙◌, arith}
use Rattle.std.specs.Prelude.{slice_index}
use Rattle.cip_segment.specs.declared.segment.Segment.TheVariants.{Port}
use Rattle.cip_segment.proofs.Brief.{plain_splits}
use Rattle.cip_segment.proofs.Paths.{Splits-readable}
use Rattle.cip_segment.proofs.PathsRead.{split}
use Rattle.cip_segment.proofs.view.split_plain_port.Goals as goal

pub invariant_of-result : goal.invariant_of-result
invariant_of-result c =
    let b = c.args.path.bytes.now in
    let two : 2 ≤ length b = omega (arith, c.in-len2-up.len_at_least) in
    let is : slice_index b 0 ≡ c.in_ok-port.port = sym (c.in_ok-port.ensures.1 ∙ c.from.ensures) in
    let below : c.in_ok-port.port < 15 = omega (arith, c.if-low-lt15.true, is) in
    let some : 0 < c.in_ok-port.port = omega (arith, c.in_ok-port.ensures.0, c.in_ok-port.ensures.1) in
    let splits = plain_splits b two c.in_ok-port.port is some below in
    record { readable = Splits-readable b _ (Port c.in_ok-port.port (slice_index b 1 ∷ [])) splits c.args.path.readable }

pub returns-then-low-lt15-clause-splits : goal.returns-then-low-lt15-clause-splits
returns-then-low-lt15-clause-splits c =
    let b = c.args.path.bytes.now in
    let two : 2 ≤ length b = omega (arith, c.in-len2-up.len_at_least) in
    let is : slice_index b 0 ≡ c.in_ok-port.port = sym (c.in_ok-port.ensures.1 ∙ c.from.ensures) in
    let below : c.in_ok-port.port < 15 = omega (arith, c.if-low-lt15.true, is) in
    let some : 0 < c.in_ok-port.port = omega (arith, c.in_ok-port.ensures.0, c.in_ok-port.ensures.1) in
    let splits = plain_splits b two c.in_ok-port.port is some below in
    splits

pub returns-then-low-lt15-clause-gives : goal.returns-then-low-lt15-clause-gives
returns-then-low-lt15-clause-gives c =
    let b = c.args.path.bytes.now in
    let two : 2 ≤ length b = omega (arith, c.in-len2-up.len_at_least) in
    let is : slice_index b 0 ≡ c.in_ok-port.port = sym (c.in_ok-port.ensures.1 ∙ c.from.ensures) in
    let below : c.in_ok-port.port < 15 = omega (arith, c.if-low-lt15.true, is) in
    let some : 0 < c.in_ok-port.port = omega (arith, c.in_ok-port.ensures.0, c.in_ok-port.ensures.1) in
    let splits = plain_splits b two c.in_ok-port.port is some below in
    split b _ (Port c.in_ok-port.port (slice_index b 1 ∷ [])) c.args.path.readable splits
