use Rattle.std.proofs.Common.{refl}
use Rattle.cip_event.specs.declared.event.Body.TheVariants.{Data}
use Rattle.cip_event.specs.declared.event.Command.TheVariants.{Enter}
use Rattle.cip_event.specs.declared.event.Event.TheVariants.{Command, Frame}
use Rattle.cip_laws.proofs.Births.{born_once_a_turn}
use Rattle.cip_laws.proofs.Light.{light_once}
use Rattle.cip_laws.proofs.PassedBy.{frame_alone, enter_alone}
use Rattle.cip_laws.proofs.ProducedStand.{produced_made}
use Rattle.cip_laws.proofs.Standing.{all_stand}
use Rattle.cip_laws.proofs.TakenUp.{takes_once}
use Rattle.cip_laws.proofs.Tells.{decide_tells}
use Rattle.cip_laws.proofs.effects.effects_tell.Goals as goal

pub returns-clause-each : goal.returns-clause-each
returns-clause-each c = decide_tells

pub returns-clause-light : goal.returns-clause-light
returns-clause-light c = light_once

pub returns-clause-taken_up : goal.returns-clause-taken_up
returns-clause-taken_up c = takes_once

pub returns-clause-born : goal.returns-clause-born
returns-clause-born c = born_once_a_turn

pub returns-clause-standing : goal.returns-clause-standing
returns-clause-standing c = all_stand

pub returns-clause-datum_first : goal.returns-clause-datum_first
returns-clause-datum_first c config s port id from bytes es before after triad side datum decided is =
    frame_alone config s (Frame port from (Data id bytes)) es before after triad side datum bytes from port id refl decided is

pub returns-clause-entered_first : goal.returns-clause-entered_first
returns-clause-entered_first c config s of bytes es before after triad side datum decided is =
    enter_alone config s (Command (Enter of bytes)) es before after triad side datum bytes of refl decided is

pub returns-clause-produced : goal.returns-clause-produced
returns-clause-produced c = produced_made
