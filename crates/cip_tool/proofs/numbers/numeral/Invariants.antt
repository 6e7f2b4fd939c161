use Rattle.std.proofs.Common.{◌≡◌, ◌<◌, ◌^◌, drop}
use Rattle.cip_tool.proofs.Numerals.{read_after}
use Rattle.cip_tool.proofs.numbers.numeral.Given as goal

abbrev pub invariant-loop-byte : goal.invariant-loop-byte
invariant-loop-byte l = record {
  fits : l.number < 2 ^ 64;
  rest : read_after l.radix l.number (drop l.byte-index l.digits) ≡ read_after l.radix 0 l.digits;
}
