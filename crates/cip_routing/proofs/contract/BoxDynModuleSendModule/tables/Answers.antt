use Rattle.std.proofs.Common.{subst}
use Rattle.std.specs.Prelude.{IfOk}
use Rattle.cip_routing.specs.Views.{ShowsState}
use Rattle.cip_routing.proofs.contract.BoxDynModuleSendModule.tables.Goals as goal

pub returns : goal.returns
returns g c = subst (λ x. IfOk c.tables.result (ShowsState ((goal.Module-dyn g x).state_of x.1))) c.as_ref.ensures.1 c.tables.ensures
