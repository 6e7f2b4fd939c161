use Rattle.std.proofs.Common.{ap, ◌∙◌, Err}
use Rattle.cip_world.specs.declared.fault.WorldFault.{WorldFault}
use Rattle.cip_console.specs.Transcript.{tabled}
use Rattle.cip_console.specs.Playing.{Played}
use Rattle.cip_console.proofs.PlayedLaws.{tabled_none, none_played}
use Rattle.cip_console.proofs.playing.show_tables.Goals as goal

pub returns-in-Err-NoModule-clause-plays : goal.returns-in-Err-NoModule-clause-plays
returns-in-Err-NoModule-clause-plays g c =
    none_played (tabled c.args.world.now.ledger.plan c.args.world.now.ledger.journal c.args.at) c.args.world.now.ledger.journal _ _
    (tabled_none c.args.world.now.ledger.plan c.args.world.now.ledger.journal c.args.at
    (c.tables.ensures.no_module.0 (c.in-Err-NoModule.is ∙ ap (λ (f : WorldFault). Err f) c.in-Err-NoModule.field-0-is)))
