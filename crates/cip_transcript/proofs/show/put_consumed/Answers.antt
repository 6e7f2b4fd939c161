use Rattle.std.proofs.Common.{append_assoc}
use Rattle.cip_transcript.proofs.show.put_consumed.Goals as goal

pub returns-clause-text : goal.returns-clause-text
returns-clause-text c =
    simp append_assoc (simp (append_assoc, c.triad_at-instance_at.ensures.text, c.word-triad_from.ensures.text) at c.put_message.ensures.text)
