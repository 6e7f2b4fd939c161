use Rattle.cip_words.proofs.Back.{bytes_back}
use Rattle.cip_words.proofs.laws.shown_bytes_are_read.Goals as goal

pub returns : goal.returns
returns c = bytes_back
