use Rattle.cip_laws.proofs.Shown.{fresh}
use Rattle.cip_laws.proofs.views.fresh_tables_are_of_the_first_state.Goals as goal

pub returns : goal.returns
returns c = λ config s tables rooms paired shows first. fresh config s tables paired shows first rooms
