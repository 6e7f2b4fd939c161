use Rattle.std.proofs.Common.{refl}
use Rattle.cip_event.specs.declared.event.Body.TheVariants.{Reply}
use Rattle.cip_event.specs.declared.event.Event.TheVariants.{Frame}
use Rattle.cip_world.proofs.Answered.{answers}
use Rattle.cip_world.proofs.Chassis.{chassis}
use Rattle.cip_world.proofs.laws.replies_answer_their_requests.Goals as goal

pub returns : goal.returns
returns c t is j f m port n from bytes run a = answers (chassis t is) j f m port n from bytes (Frame port from (Reply n bytes)) run refl a
