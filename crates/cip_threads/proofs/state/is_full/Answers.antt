use Rattle.std.proofs.Common.{rules, sym, ◌∙◌}
use Rattle.cip_threads.proofs.Holding.{some_of, hand_read}
use Rattle.cip_threads.proofs.state.is_full.Goals as goal

pub returns-clause-yes : goal.returns-clause-yes
returns-clause-yes c is =
    let s = some_of c.index-hands-m.result (sym c.is_some.ensures ∙ is) in
    (s.0, hand_read c.args.hands.now c.args.m c.index-hands-m.result (search rules) c.index-hands-m.is ∙ s.1)
