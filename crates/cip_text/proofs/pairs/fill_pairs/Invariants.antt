use Rattle.std.proofs.Common.{◌≡◌, ◌*◌, ◌++◌, take, drop}
use Rattle.hex.specs.Hex.{encode_upper}
use Rattle.cip_text.proofs.pairs.fill_pairs.Given as goal

abbrev pub invariant-bytes : goal.invariant-bytes
invariant-bytes l =
    take (2 * l.i) l.output ++ encode_upper (drop l.i l.bytes) ≡ encode_upper l.bytes
