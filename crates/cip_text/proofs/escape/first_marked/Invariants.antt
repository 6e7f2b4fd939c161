use Rattle.std.proofs.Common.{◌≡◌, ◌++◌, take, drop}
use Rattle.cip_text.specs.Escapes.{escaped}
use Rattle.cip_text.proofs.escape.first_marked.Given as goal

abbrev pub invariant-bytes : goal.invariant-bytes
invariant-bytes l = escaped l.bytes ≡ take l.at l.bytes ++ escaped (drop l.at l.bytes)
