use Rattle.std.proofs.Common.{◌≡◌, List, length, sym, ap, subst, ◌∙◌}
use Rattle.std.proofs.lemmas.List.{with_items_is}
use Rattle.cip_target.specs.Held.{IsHeld, holdings, all_cleared}
use Rattle.cip_target.proofs.Keeping.{Entry, the_map}
use Rattle.cip_target.proofs.Resets.{kept_cleared, holdings-cleared}
use Rattle.cip_target.proofs.assemblies.Assemblies.reset.Goals as goal

pub invariant_of-self : goal.invariant_of-self
invariant_of-self c =
    let as_many : length c.clear_all.new.held ≡ c.self.inside.held.len = c.clear_all.auto.held ∙ c.deref_mut.ensures.len in
    let all : c.clear_all.new.held ≡ all_cleared c.self.inside.held.items = c.clear_all.ensures ∙ ap all_cleared c.deref_mut.ensures.value in
    subst IsHeld (sym (with_items_is c.self.inside.held c.clear_all.new.held as_many ∙ all)) (kept_cleared c.self.inside.held.items c.self.invariant)

pub returns : goal.returns
returns c =
    let as_many : length c.clear_all.new.held ≡ c.self.inside.held.len = c.clear_all.auto.held ∙ c.deref_mut.ensures.len in
    let all : c.clear_all.new.held ≡ all_cleared c.self.inside.held.items = c.clear_all.ensures ∙ ap all_cleared c.deref_mut.ensures.value in
    ap (λ (es : List Entry). holdings (the_map es)) (with_items_is c.self.inside.held c.clear_all.new.held as_many ∙ all)
    ∙ holdings-cleared c.self.inside.held.items c.args.self.now c.self.invariant c.self.view_is
