use Rattle.cip_words.proofs.Back.{number_back}
use Rattle.cip_words.proofs.laws.shown_numbers_are_read.Goals as goal

pub returns : goal.returns
returns c = number_back
