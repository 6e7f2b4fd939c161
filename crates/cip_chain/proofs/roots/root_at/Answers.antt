use Rattle.std.proofs.Common.{reverse, take, ap, sym, ◌∙◌, arith}
use Rattle.cip_world.specs.Roots.{root_from}
use Rattle.cip_chain.proofs.Walked.{root_at, root_past, shown}
use Rattle.cip_chain.proofs.roots.root_at.Goals as goal

pub loop-at-preserved : goal.loop-at-preserved
loop-at-preserved c =
    let most = c.loop-at.invariant.0 in let l = c.loop-at-test.true in (
      omega (arith, most, l),
      c.loop-at.invariant.1
          ∙ root_at c.args.journal.now c.loop-at.below c.loop-at.at c.index-journal-at.result _ most l c.index-journal-at.is c.in-Step.is
          ∙ ap (root_from _ c.loop-at.at) (sym c.brought.ensures ∙ c.in-Some.is),
    )

pub returns-in-None : goal.returns-in-None
returns-in-None c =
    let most = c.loop-at.invariant.0 in let l = c.loop-at-test.true in
    sym (c.loop-at.invariant.1
    ∙ root_at c.args.journal.now c.loop-at.below c.loop-at.at c.index-journal-at.result _ most l c.index-journal-at.is c.in-Step.is
    ∙ ap (root_from _ c.loop-at.at) (sym c.brought.ensures ∙ c.in-None.is))

pub returns-in-Lost : goal.returns-in-Lost
returns-in-Lost c =
    let most = c.loop-at.invariant.0 in let l = c.loop-at-test.true in
    sym (c.loop-at.invariant.1
    ∙ root_at c.args.journal.now c.loop-at.below c.loop-at.at c.index-journal-at.result _ most l c.index-journal-at.is c.in-Lost.is)

pub returns : goal.returns
returns c =
    let most = c.loop-at.invariant.0 in let l = c.loop-at-test.false in
    let long = shown c.args.journal.now c.loop-at.below most in
    sym (c.loop-at.invariant.1 ∙ root_past (reverse (take c.loop-at.below c.args.journal.now)) c.loop-at.at (omega (arith, long, l)))
