use Rattle.std.proofs.Common.{◌∙◌, sym, ap, subst, Some, length, reverse, ◌-◌, List}
use Rattle.std.specs.Option.{option_copied}
use Rattle.cip_event.specs.declared.event.Output.{Output}
use Rattle.cip_world.specs.declared.journal.Entry.{Entry}
use Rattle.cip_world.specs.Ledgers.{IsNewest}
use Rattle.cip_world.proofs.Newest.{is_newest}
use Rattle.cip_world.proofs.ledger.newest_step.Goals as goal

pub returns-in-Some-Step-clause-some : goal.returns-in-Some-Step-clause-some
returns-in-Some-Step-clause-some c =
    subst (λ (outs : List Output). IsNewest (reverse c.args.entries.now) (length c.args.entries.now - 1) c.in-Some-Step.at.0 outs) (sym c.as_slice.ensures)
    (is_newest c.args.entries.now c.in-Some-Step.at c.in-Some-Step.field-0-1 c.in-Some-Step.outputs
    (sym c.last.ensures.value ∙ ap option_copied c.in-Some-Step.is ∙ ap (λ (e : Entry). Some e) c.in-Some-Step.field-0-is))
