use Rattle.std.proofs.Common.{ℕ, List, subst}
use Rattle.cip_event.specs.declared.event.Body.TheVariants as bodies
use Rattle.cip_event.specs.declared.event.Event.TheVariants as events
use Rattle.cip_event.specs.declared.event.Output.{Output}
use Rattle.cip_steps.specs.Code.Device.{state_of_device}
use Rattle.cip_steps.specs.Reactions.{PutsOut}
use Rattle.cip_routing.specs.Steps.{IsStep}
use Rattle.cip_indexed.specs.Indexed.{config_of_indexed, state_of_indexed}
use Rattle.cip_indexed.proofs.Reacted.{put}
use Rattle.cip_indexed.proofs.indexed.IndexedModule.reply.Goals as goal

pub returns-clause-ok : goal.returns-clause-ok
returns-clause-ok c =
    let m = c.args.self.now in
    let Stepped : List ℕ → List Output → Type 0 = λ bytes outputs. IsStep (config_of_indexed m) (state_of_indexed m)
    (events.Frame c.args.port c.args.from (bodies.Reply c.args.number bytes)) (state_of_device c.react_to_reply-reaction.new.device) outputs in
    put c.args.bytes c.react_to_reply-reaction.result (Stepped c.args.bytes) c.put_out.result.items
    (subst (λ (bytes : List ℕ). PutsOut bytes c.react_to_reply-reaction.result (λ outs. Stepped bytes outs)) c.as_slice.ensures
    c.react_to_reply-reaction.ensures.done)
    c.put_out.ensures
