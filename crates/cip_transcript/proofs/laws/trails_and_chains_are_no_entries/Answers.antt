use Rattle.cip_transcript.proofs.Notes.{trail_none, chain_none}
use Rattle.cip_transcript.proofs.laws.trails_and_chains_are_no_entries.Goals as goal

pub returns-clause-trail : goal.returns-clause-trail
returns-clause-trail c = trail_none

pub returns-clause-chain : goal.returns-clause-chain
returns-clause-chain c = chain_none
