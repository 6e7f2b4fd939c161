use Rattle.cip_transcript.proofs.Entries.{entry_read}
use Rattle.cip_transcript.proofs.laws.shown_entries_are_read.Goals as goal

pub returns : goal.returns
returns c = entry_read
