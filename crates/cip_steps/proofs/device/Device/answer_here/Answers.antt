use Rattle.std.proofs.Common.{is_ok}
use Rattle.cip_message.specs.Reading.{request_of}
use Rattle.cip_steps.proofs.Sizes.{fit_answered}
use Rattle.cip_steps.proofs.device.Device.answer_here.Goals as goal

pub invariant_of-self : goal.invariant_of-self
invariant_of-self c =
    let m = c.args.self.now in
    record {
      fit = fit_answered m.config m.pendings m.hops m.target c.answer.new.self m.ops.ops.items (request_of c.args.request) (is_ok c.answer.result) m.fit
          c.answer.ensures.after;
    }
