use Rattle.std.proofs.Common.{sym, ap, subst, ◌∙◌, ◌∷◌, List}
use Rattle.cip_event.specs.declared.event.Output.{Output}
use Rattle.cip_world.specs.declared.journal.Entry.TheVariants.{Step}
use Rattle.cip_world.specs.Runs.{IsStepAt}
use Rattle.cip_world.proofs.Stepped.{is_step, still_stand}
use Rattle.cip_world.proofs.world.step_module.Goals as goal

pub add-requires-clause-next : goal.add-requires-clause-next
add-requires-clause-next g c =
    subst (λ (outs : List Output). IsStepAt c.args.ledger.now.plan c.args.ledger.now.journal c.args.at.0 c.args.input outs) (sym c.of.ensures)
    (is_step c.args.ledger.now _ _ _ c.args.at c.args.event c.in-Ok.outputs.items c.requires.stand c.in-Ok.ensures.ok c.args.input c.requires.given)

pub returns-in-Ok-clause-stand : goal.returns-in-Ok-clause-stand
returns-in-Ok-clause-stand g c =
    still_stand c.args.ledger.now _ _ _ c.args.at c.args.event c.in-Ok.outputs.items c.requires.stand c.in-Ok.ensures.ok c.args.input c.requires.given
    c.add.new.self _ c.add.ensures.plan
    (c.add.ensures.journal ∙ ap (λ (outs : List Output). Step c.args.at c.args.input outs ∷ c.args.ledger.now.journal) c.of.ensures)
    c.in-Ok.ensures.configs
