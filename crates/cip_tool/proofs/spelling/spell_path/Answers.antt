use Rattle.std.proofs.Common.{string_bytes}
use Rattle.cip_tool.proofs.Joined.{read_back}
use Rattle.cip_tool.proofs.spelling.spell_path.Goals as goal

pub returns-clause-read : goal.returns-clause-read
returns-clause-read c =
    read_back string_bytes c.args.path.bytes.now c.spelled.result c.as_slice.result.now c.in_ok-segments.segments.items c.as_slice.ensures.value
    c.in_ok-segments.ensures.gives c.spelled.ensures.text c.spelled.ensures.ranged c.spelled.ensures.bytes c.in_ok-segments.ensures.writable
