-- The newest entry of a journal that is kept oldest first.
use Rattle.std.proofs.Common.{◌≡◌, ℕ, ◌-◌, List, [], ◌∷◌, length, reverse, Some, take, refl, sym, subst, ◌∙◌, arith, ◌≤◌}
use Rattle.std.specs.Prelude.{slice_get}
use Rattle.std.proofs.lemmas.List.{length-reverse, length-take}
use Rattle.cip_base.specs.declared.numbers.ModuleId.{ModuleId}
use Rattle.cip_event.specs.declared.event.Output.{Output}
use Rattle.cip_world.specs.declared.journal.Input.{Input}
use Rattle.cip_world.specs.declared.journal.Entry.{Entry}
use Rattle.cip_world.specs.declared.journal.Entry.TheVariants.{Step}
use Rattle.cip_world.specs.Ledgers.{IsNewest}
use Rattle.cip_world.proofs.Reversed.{last_first}

shorter : (n : ℕ) (ys : List Entry) → n ≤ length ys → length (take n ys) ≡ n
shorter n ys l = length-take n ys ∙ (omega (arith, l))

pub is_newest : (entries : List Entry) (m : ModuleId) (input : Input) (outs : List Output) → slice_get entries (length entries - 1) ≡ Some (Step m input outs)
    → IsNewest (reverse entries) (length entries - 1) m.0 outs
is_newest [] m input outs e = absurd (cc)
is_newest (y ∷ ys) m input outs e =
    let less : length (y ∷ ys) - 1 ≡ length ys = omega arith in
    let at : slice_get (y ∷ ys) (length ys) ≡ Some (Step m input outs) = subst (λ (k : ℕ). slice_get (y ∷ ys) k ≡ Some (Step m input outs)) less e in
    record {
      before = reverse (take (length ys) (y ∷ ys));
      input = input;
      is = last_first (y ∷ ys) (length ys) (Step m input outs) refl at;
      number = less ∙ sym (length-reverse (take (length ys) (y ∷ ys)) ∙ shorter (length ys) (y ∷ ys) (omega arith));
    }
