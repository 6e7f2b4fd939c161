use Rattle.std.proofs.Common.{rules, subst, sym, ◌≡◌, ◌-◌, ◌+◌}
use Rattle.cip_ends.specs.Ends.{HasNoEnd}
use Rattle.cip_ends.proofs.Ending.{end_here, none_before}
use Rattle.cip_ends.proofs.ends.last_end.Goals as goal

pub returns-in-Some-clause-some : goal.returns-in-Some-clause-some
returns-in-Some-clause-some c =
    end_here c.args.journal.now c.args.module_.0 c.args.number (c.loop-left.left - 1) c.index-journal-left.result c.in-Some.reply.now
    (search rules) c.index-journal-left.is (search rules)

pub loop-left-preserved : goal.loop-left-preserved
loop-left-preserved c =
    let left = c.loop-left.left in
    let back : left - 1 + 1 ≡ left = search rules in (
      search rules,
      none_before c.args.journal.now c.args.module_.0 c.args.number (left - 1) c.args.to c.index-journal-left.result
          (search rules) c.index-journal-left.is (search rules)
          (subst (λ k. HasNoEnd c.args.journal.now c.args.module_.0 c.args.number k c.args.to) (sym back) c.loop-left.invariant.1),
    )
