use Rattle.std.proofs.Common.{is_some, sym, ap, ◌∙◌, arith}
use Rattle.cip_hops.specs.Hops.{refusal}
use Rattle.cip_hops.proofs.Answering.{refusal_used, refusal_full, refusal_spent, refusal_none}
use Rattle.cip_hops.proofs.table.HopTable.can_begin.Goals as goal

pub returns-then-is_some : goal.returns-then-is_some
returns-then-is_some c =
    sym (refusal_used c.self.inside c.self.invariant c.args.triad.now c.args.ids (ap is_some (sym c.find.ensures) ∙ sym c.if-is_some.ensures))
    ∙ ap (λ p. refusal p c.args.triad.now c.args.ids) c.self.view_is

pub returns-then-len-self : goal.returns-then-len-self
returns-then-len-self c =
    sym (refusal_full c.self.inside c.self.invariant c.args.triad.now c.args.ids (ap is_some (sym c.find.ensures) ∙ sym c.if-is_some.ensures)
    (omega (arith, c.len.ensures, c.if-len-self.true))) ∙ ap (λ p. refusal p c.args.triad.now c.args.ids) c.self.view_is

pub returns-then-counts_given-from-gt-LAST_COUNT : goal.returns-then-counts_given-from-gt-LAST_COUNT
returns-then-counts_given-from-gt-LAST_COUNT c =
    sym (refusal_spent c.self.inside c.self.invariant c.args.triad.now c.args.ids (ap is_some (sym c.find.ensures) ∙ sym c.if-is_some.ensures)
    (omega (arith, c.len.ensures, c.if-len-self.false)) (omega (arith, c.counts_given.ensures, c.from.ensures, c.if-counts_given-from-gt-LAST_COUNT.true)))
    ∙ ap (λ p. refusal p c.args.triad.now c.args.ids) c.self.view_is

pub returns-else-counts_given-from-gt-LAST_COUNT : goal.returns-else-counts_given-from-gt-LAST_COUNT
returns-else-counts_given-from-gt-LAST_COUNT c =
    sym (refusal_none c.self.inside c.self.invariant c.args.triad.now c.args.ids (ap is_some (sym c.find.ensures) ∙ sym c.if-is_some.ensures)
    (omega (arith, c.len.ensures, c.if-len-self.false)) (omega (arith, c.counts_given.ensures, c.from.ensures, c.if-counts_given-from-gt-LAST_COUNT.false)))
    ∙ ap (λ p. refusal p c.args.triad.now c.args.ids) c.self.view_is
