use Rattle.std.proofs.Common.{◌≡◌, ◌∙◌, ◌++◌, ◌∷◌, [], List, OnOk, ap, sym, subst}
use Rattle.std.specs.Prelude.{is_ok}
use Rattle.cip_event.specs.declared.frame.FrameName.{FrameName}
use Rattle.cip_world.specs.Names.{AllBefore}
use Rattle.cip_world.specs.Spots.{names_in}
use Rattle.cip_world.proofs.Spotted.{pushed_spots, pushed_names}
use Rattle.cip_world.proofs.names.Names.add.Goals as goal
use Rattle.cip_world.proofs.names.Names.add.Goals.{in-Ok, in-Err}

pub invariant_of-self : goal.invariant_of-self
invariant_of-self c =
    pushed_spots (is_ok c.push_back.result) c.self.inside.spots.items c.push_back.new.self.items c.args.name c.self.invariant
    (subst (AllBefore c.args.name) (sym c.self.view_is) c.requires) c.push_back.ensures.items

pub returns-clause-ok : goal.returns-clause-ok
returns-clause-ok c =
    elim c.match-push_back.branch [
      | in-Ok w ↦ subst (λ r. OnOk r (names_in c.push_back.new.self.items ≡ c.args.self.now ++ c.args.name ∷ [])) (sym w.result-is)
          (pushed_names (is_ok c.push_back.result) c.self.inside.spots.items c.push_back.new.self.items c.args.name
          (ap is_ok w.in-Ok.is) c.push_back.ensures.items
          ∙ ap (λ (fs : List FrameName). fs ++ c.args.name ∷ []) c.self.view_is)
      | in-Err w ↦ subst (λ r. OnOk r (names_in c.push_back.new.self.items ≡ c.args.self.now ++ c.args.name ∷ [])) (sym w.result-is) tt
    ]
