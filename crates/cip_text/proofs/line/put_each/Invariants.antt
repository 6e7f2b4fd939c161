use Rattle.std.proofs.Common.{◌≡◌, ◌++◌, take}
use Rattle.cip_text.proofs.line.put_each.Given as goal

abbrev pub invariant-bytes : goal.invariant-bytes
invariant-bytes l = l.text.items ≡ l.initial.text.items ++ take l.i l.bytes
