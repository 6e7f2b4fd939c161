use Rattle.std.proofs.Common.{◌∙◌, ap}
use Rattle.cip_routing.proofs.contract.BoxDynModuleSendModule.config.Goals as goal

pub returns : goal.returns
returns g c = c.config.ensures ∙ ap (λ x. (goal.Module-dyn g x).config_of x.1) c.as_ref.ensures.1
