use Rattle.std.proofs.Common.{◌≡◌, subst}
use Rattle.std.specs.Option.{option_map}
use Rattle.std.specs.Prelude.{IfOk}
use Rattle.cip_hops.specs.Hops.{hop_by_up}
use Rattle.cip_routing.specs.Views.{hop_row_of}
use Rattle.cip_routing.proofs.contract.BoxDynModuleSendModule.row_by_up.Goals as goal

pub returns : goal.returns
returns g c =
    subst (λ x. IfOk c.row_by_up.result
    (λ row. row ≡ option_map hop_row_of (hop_by_up ((goal.Module-dyn g x).state_of x.1).hops c.args.id c.args.port c.args.address.now)))
    c.as_ref.ensures.1 c.row_by_up.ensures
