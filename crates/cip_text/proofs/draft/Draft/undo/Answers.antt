use Rattle.std.proofs.Common.{◌≤◌, take, arith, refl, take-take, length-take-le, subst, sym, ◌∙◌, IsUtf8}
use Rattle.std.specs.Str.{IsCharBoundary}
use Rattle.std.proofs.lemmas.Str.{IsUtf8-had, IsUtf8-take}
use Rattle.cip_text.proofs.draft.Draft.undo.Goals as goal

pub invariant_of-self : goal.invariant_of-self
invariant_of-self c =
    let inside = c.self.inside in
    let n = c.args.end in
    let found = c.if-is_char_boundary.ensures.test.0 refl in
    let boundary : IsCharBoundary (take inside.end inside.room.items) n =
    subst (λ bs. IsCharBoundary bs n) (c.as_str.ensures ∙ sym c.self.view_is) found in
    let long = length-take-le inside.end inside.room.items c.self.invariant.0 in
    let within : n ≤ inside.end = omega (arith, boundary.0, long) in
    let front = IsUtf8-take _ n (IsUtf8-had _ c.self.invariant.1) boundary in
    (omega (arith, within, c.self.invariant.0), ∣ subst IsUtf8 (take-take n inside.end inside.room.items within) front ∣₁)
