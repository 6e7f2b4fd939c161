use Rattle.std.proofs.Common.{refl, sym, ap, ◌∙◌, []}
use Rattle.cip_message.specs.Reading.{request_of}
use Rattle.cip_routing.specs.Answers.{answered, failure_bytes}
use Rattle.cip_routing.specs.Effects.{reply_up}
use Rattle.cip_steps.specs.Code.Device.{state_of_device}
use Rattle.cip_steps.proofs.Ended.{conflicts, carried_out}
use Rattle.cip_steps.proofs.device.Device.reset_here.Goals as goal

pub returns-then-not-can_reset-clause-handled : goal.returns-then-not-can_reset-clause-handled
returns-then-not-can_reset-clause-handled c =
    let m = c.args.self.now in
    record {
      does = conflicts m.config (state_of_device m) c.args.up (request_of c.args.asked) c.requires c.reply_to.result
          (sym c.can_reset.ensures ∙ c.if-not-can_reset.true)
          (c.reply_to.ensures ∙ ap (reply_up c.args.up) (c.in_ok-bytes.ensures ∙ ap (failure_bytes 0x05) c.plain_status.ensures));
      same_config = refl;
    }

pub returns-clause-handled : goal.returns-clause-handled
returns-clause-handled c =
    let m = c.args.self.now in
    record {
      does = carried_out m.config (state_of_device m) c.args.up (request_of c.args.asked) c.requires (state_of_device c.resets.new.self) c.reply_to-2.result
          c.in_ok-outputs.outputs.items (sym c.can_reset.ensures ∙ c.if-not-can_reset.false)
          (c.reply_to-2.ensures ∙ ap (reply_up c.args.up) (c.in_ok-bytes-2.ensures ∙ ap (λ status. answered 0x05 status []) c.plain_status-2.ensures))
          c.in_ok-outputs.ensures c.resets.ensures.after;
      same_config = c.resets.ensures.config;
    }
