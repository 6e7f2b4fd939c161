use Rattle.std.proofs.Common.{ℕ, rules}
use Rattle.std.proofs.lemmas.List.Sorted.{answers_always}
use Rattle.cip_base.specs.declared.triad.Triad.{Triad}
use Rattle.cip_base.proofs.Triads.{triads_total, exact_triads}
use Rattle.cip_base.proofs.Search.{searched, past_last}
use Rattle.cip_hops.proofs.triads.place_of.Goals as goal

pub returns-in-Less : goal.returns-in-Less
returns-in-Less c =
    past_last triads_total c.args.pairs.now c.args.triad.now c.in-Some.field-0.now c.requires (search rules) (search rules)

pub returns-in-Greater : goal.returns-in-Greater
returns-in-Greater c =
    let facts = c.binary_search_by_key.ensures in
    searched triads_total exact_triads c.args.pairs.now c.args.triad.now c.binary_search_by_key.result c.requires facts.bound
    (facts.position (λ (p : Triad × ℕ). p.0) (answers_always _ _ _ (λ f a r g called. search rules)))
