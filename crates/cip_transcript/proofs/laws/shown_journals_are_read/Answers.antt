use Rattle.cip_transcript.proofs.Entries.{entries_read}
use Rattle.cip_transcript.proofs.laws.shown_journals_are_read.Goals as goal

pub returns : goal.returns
returns c = entries_read
