use Rattle.std.proofs.Common.{◌≡◌, length, sym, ap, arith}
use Rattle.cip_segment.proofs.PathsRead.{segments_of-empty}
use Rattle.cip_routing.specs.Keys.{leading_mismatch}
use Rattle.cip_routing.proofs.KeysRead.{no_key}
use Rattle.cip_routing.proofs.keys.leading_mismatch.Goals as goal

pub returns-in_default : goal.returns-in_default
returns-in_default c =
    let none : length c.args.path.bytes.now ≡ 0 = omega (arith, c.in_default.len_below) in
    sym (ap (leading_mismatch c.args.settings.now) (segments_of-empty c.args.path.bytes.now none))

pub returns-then-head-ne52 : goal.returns-then-head-ne52
returns-then-head-ne52 c =
    sym (no_key c.args.settings.now c.args.path.bytes.now c.if-head-ne52.true c.args.path.readable)
