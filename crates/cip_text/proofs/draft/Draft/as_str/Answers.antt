use Rattle.std.proofs.lemmas.Str.{IsUtf8-had}
use Rattle.cip_text.proofs.draft.Draft.as_str.Goals as goal

pub from_utf8_unchecked-requires : goal.from_utf8_unchecked-requires
from_utf8_unchecked-requires c = rw c.as_slice.ensures.value (IsUtf8-had _ c.self.invariant.1)
