use Rattle.cip_words.proofs.Back.{words_back}
use Rattle.cip_words.proofs.laws.shown_words_are_parted.Goals as goal

pub returns : goal.returns
returns c = words_back
