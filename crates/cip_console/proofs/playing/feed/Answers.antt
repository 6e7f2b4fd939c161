use Rattle.std.proofs.Common.{refl, subst}
use Rattle.cip_event.specs.declared.event.Event.TheVariants as events
use Rattle.cip_world.specs.declared.fault.WorldFault.TheVariants.{NoModule}
use Rattle.cip_world.specs.declared.journal.Input.TheVariants as inputs
use Rattle.cip_world.specs.Worlds.{IsFeedFault}
use Rattle.cip_script.specs.declared.steps.ScriptFault.TheVariants.{ClockFull}
use Rattle.cip_console.specs.Transcript.{given}
use Rattle.cip_console.proofs.PlayedLaws.{given_none, stops}
use Rattle.cip_console.proofs.playing.feed.Goals as goal

pub returns-in-Err-NoModule-clause-plays : goal.returns-in-Err-NoModule-clause-plays
returns-in-Err-NoModule-clause-plays g c =
    let t = c.args.world.now.ledger.plan in
    let j = c.args.world.now.ledger.journal in
    stops (given t j c.args.at (inputs.Command c.args.command)) ClockFull _ _
    (given_none t j c.args.at (inputs.Command c.args.command) (events.Command c.args.command) NoModule refl
    (subst (IsFeedFault t j c.args.at.0 (events.Command c.args.command)) c.in-Err-NoModule.field-0-is c.in-Err-NoModule.ensures.fault) (λ e. cc))
