use Rattle.std.proofs.Common.{refl}
use Rattle.cip_unconnected.proofs.Unconnecteds.{unconnected_at-Short}
use Rattle.cip_unconnected.proofs.unconnected.unconnected.Goals as goal

pub returns-in_default-clause-gives : goal.returns-in_default-clause-gives
returns-in_default-clause-gives c = unconnected_at-Short c.args.data_.now (c.in_default.ensures.none.0 refl)
