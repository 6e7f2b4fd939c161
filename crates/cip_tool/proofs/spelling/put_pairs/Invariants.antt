use Rattle.std.proofs.Common.{◌≡◌, ◌++◌, drop, string_bytes}
use Rattle.hex.specs.Hex.{encode_upper}
use Rattle.cip_tool.proofs.spelling.put_pairs.Given as goal

abbrev pub invariant-loop-byte : goal.invariant-loop-byte
invariant-loop-byte l = string_bytes l.text ++ encode_upper (drop l.byte-index l.bytes) ≡ string_bytes l.fn.text ++ encode_upper l.bytes
