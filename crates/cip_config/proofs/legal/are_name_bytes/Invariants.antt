use Rattle.std.proofs.Common.{◌≡◌, drop}
use Rattle.std.specs.List.{list_all}
use Rattle.cip_config.specs.Config.{is_name_byte}
use Rattle.cip_config.proofs.legal.are_name_bytes.Given as goal

abbrev pub invariant-loop-byte : goal.invariant-loop-byte
invariant-loop-byte l = list_all is_name_byte (drop l.byte-index l.bytes) ≡ list_all is_name_byte l.bytes
