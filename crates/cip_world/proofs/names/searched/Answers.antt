use Rattle.std.proofs.Common.{Bool, subst, rules}
use Rattle.std.specs.List.Sorted.{IsSearchInRange}
use Rattle.std.proofs.lemmas.List.Sorted.{answers_always}
use Rattle.cip_event.specs.declared.frame.FrameName.{FrameName}
use Rattle.cip_world.proofs.Spotted.{searched}
use Rattle.cip_world.proofs.names.searched.Goals as goal

pub returns : goal.returns
returns c =
    let facts = c.binary_search_by_key.ensures in
    searched c.args.spots.now.items c.args.name c.binary_search_by_key.result c.requires
    (subst (λ n. IsSearchInRange c.binary_search_by_key.result n) c.args.spots.now.ok.0 facts.bound)
    (facts.position (λ (p : FrameName × Bool). p.0) (answers_always _ _ _ (λ f a r g called. search rules)))
