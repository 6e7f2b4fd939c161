use Rattle.std.proofs.Common.{◌≡◌, take}
use Rattle.cip_ends.specs.Names.{key_of}
use Rattle.cip_ends.proofs.names.key_of.Given as goal

abbrev pub invariant-loop-i : goal.invariant-loop-i
invariant-loop-i l = l.key ≡ key_of (take l.i l.bytes)
