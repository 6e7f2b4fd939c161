use Rattle.std.proofs.Common.{ℕ, List, subst}
use Rattle.cip_event.specs.declared.event.Body.TheVariants as bodies
use Rattle.cip_event.specs.declared.event.Event.TheVariants as events
use Rattle.cip_event.specs.declared.event.Output.{Output}
use Rattle.cip_steps.specs.Code.Device.{state_of_device}
use Rattle.cip_steps.specs.Reactions.{PutsOut}
use Rattle.cip_routing.specs.Steps.{IsStep}
use Rattle.cip_indexed.specs.Indexed.{config_of_indexed, state_of_indexed}
use Rattle.cip_indexed.proofs.Reacted.{put}
use Rattle.cip_indexed.proofs.indexed.IndexedModule.request.Goals as goal

pub returns-in-Ok-react_to_request-clause-ok : goal.returns-in-Ok-react_to_request-clause-ok
returns-in-Ok-react_to_request-clause-ok c =
    let m = c.args.self.now in
    let Stepped : List ℕ → List Output → Type 0 = λ bytes outputs. IsStep (config_of_indexed m) (state_of_indexed m)
    (events.Frame c.args.port c.args.from (bodies.Request c.args.number bytes)) (state_of_device c.react_to_request.new.device) outputs in
    put c.args.bytes c.in-Ok-react_to_request.reaction (Stepped c.args.bytes) c.put_out.result.items
    (subst (λ (bytes : List ℕ). PutsOut bytes c.in-Ok-react_to_request.reaction (λ outs. Stepped bytes outs)) c.as_slice.ensures
    c.in-Ok-react_to_request.ensures.done)
    c.put_out.ensures
