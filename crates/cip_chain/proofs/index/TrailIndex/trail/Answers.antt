use Rattle.std.proofs.Common.{◌≡◌, ℕ, List, length, reverse, subst, ◌∙◌}
use Rattle.std.specs.Prelude.{IfOk}
use Rattle.cip_chain.specs.Index.{along}
use Rattle.cip_chain.proofs.Indexes.{so_far, trail_along, all_read, some_read}
use Rattle.cip_chain.proofs.index.TrailIndex.trail.Goals as goal

pub add_entries-requires : goal.add_entries-requires
add_entries-requires c = so_far c.args.self.now c.args.journal.now c.requires.part

pub returns-in-Ok-clause-trail : goal.returns-in-Ok-clause-trail
returns-in-Ok-clause-trail c =
    let onwards = c.as_slice.ensures.value in
    let first = c.copied-first.ensures ∙ c.get.ensures.value in
    subst (λ (ks : List ℕ). IfOk c.follow.result (λ v. v.items ≡ ks))
    ((λ i. along (length (onwards i)) (onwards i) (first i))
    ∙ trail_along c.add_entries.new.onwards.items c.add_entries.new.firsts (reverse c.args.journal.now) c.args.at.0 c.args.op c.in-Ok.ensures.ok)
    c.follow.ensures

pub returns-in-Ok-clause-part : goal.returns-in-Ok-clause-part
returns-in-Ok-clause-part c = all_read _ c.args.journal.now c.in-Ok.ensures.ok

pub returns-in-Err-clause-part : goal.returns-in-Err-clause-part
returns-in-Err-clause-part c = some_read _ c.args.journal.now c.add_entries.ensures.so_far
