use Rattle.std.proofs.Common.{◌∙◌, ap, subst}
use Rattle.std.specs.Prelude.{IfOk}
use Rattle.cip_routing.specs.Steps.{IsStep, IsStepFault}
use Rattle.cip_routing.proofs.contract.BoxDynModuleSendModule.step.Goals as goal

pub returns-clause-ok : goal.returns-clause-ok
returns-clause-ok g c =
    subst (λ x. IfOk c.step.result (λ outputs. IsStep ((goal.Module-dyn g x).config_of x.1) ((goal.Module-dyn g x).state_of x.1) c.args.event
    ((goal.Module-dyn g c.as_mut.result.now).state_of c.step.new.self) outputs.items))
    c.as_mut.ensures.value.1 c.step.ensures.0

pub returns-clause-fault : goal.returns-clause-fault
returns-clause-fault g c =
    subst (λ x. IsStepFault ((goal.Module-dyn g x).config_of x.1) ((goal.Module-dyn g x).state_of x.1) c.args.event
    ((goal.Module-dyn g c.as_mut.result.now).state_of c.step.new.self) c.step.result)
    c.as_mut.ensures.value.1 c.step.ensures.1.0

pub returns-clause-config : goal.returns-clause-config
returns-clause-config g c = c.step.ensures.1.1 ∙ ap (λ x. (goal.Module-dyn g x).config_of x.1) c.as_mut.ensures.value.1
