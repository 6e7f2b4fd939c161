use Rattle.std.proofs.Common.{ℕ, rules}
use Rattle.std.specs.Cmp.{nat_cmp_total}
use Rattle.std.specs.FinMap.{nat_cmp-IsAntisymmetric}
use Rattle.std.proofs.lemmas.List.Sorted.{answers_always}
use Rattle.cip_base.proofs.Search.{searched, past_last}
use Rattle.cip_base.proofs.index.place_of.Goals as goal

pub returns-in_default-Some : goal.returns-in_default-Some
returns-in_default-Some c =
    past_last nat_cmp_total c.args.pairs.now c.args.number c.in_default-Some.field-0-1.now c.requires (search rules) (search rules)

pub returns-in_default : goal.returns-in_default
returns-in_default c =
    let facts = c.binary_search_by_key.ensures in
    searched nat_cmp_total nat_cmp-IsAntisymmetric c.args.pairs.now c.args.number c.binary_search_by_key.result c.requires facts.bound
    (facts.position (λ (p : ℕ × ℕ). p.0) (answers_always _ _ _ (λ f a r g called. search rules)))
