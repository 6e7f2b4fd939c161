use Rattle.cip_chain.proofs.Indexes.{none_read}
use Rattle.cip_chain.proofs.index.TrailIndex.new.Goals as goal

pub returns : goal.returns
returns c = λ j. none_read _ j c.new.ensures.items c.new-2.ensures.empty
