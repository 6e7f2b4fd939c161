use Rattle.cip_segment.specs.Short.{short}
use Rattle.cip_segment.proofs.PathsRead.{path_at-Spells}
use Rattle.cip_segment.proofs.Shorts.{short_spells}
use Rattle.cip_segment.proofs.laws.written_is_read.Goals as goal

pub returns : goal.returns
returns c = λ s ranged writable fits. path_at-Spells (short s) s fits (short_spells s ranged writable)
