-- What a caller of the table concludes from its clauses.
use Rattle.std.proofs.Common.{◌≡◌, ℕ, cond, refl, sym, ap, subst, ◌∙◌, Option, Some, None}
use Rattle.std.specs.Prelude.{IsSome, option_and_then}
use Rattle.std.specs.Ordering.{is_eq}
use Rattle.std.specs.Cmp.{tied_itself}
use Rattle.std.specs.FinMap as map
use Rattle.cip_base.specs.Triads.{triad_cmp}
use Rattle.cip_base.proofs.Triads.{triads_total}
use Rattle.cip_hops.specs.declared.opening.Opening.{Opening}
use Rattle.cip_hops.specs.declared.hop.Held.{Held}
use Rattle.cip_hops.specs.declared.hop.Held.TheVariants.{Opening as IsOpening}
use Rattle.cip_hops.specs.Sides.{own_ids}
use Rattle.cip_hops.specs.Hops.{Hops, IsOpFree, as_opening, opening_at, begun}

-- what was begun is being opened
pub begun_opening : (h : Hops) (o : Opening) → opening_at (begun h o) o.triad ≡ Some o
begun_opening h o =
    ap (option_and_then as_opening)
    (map.get-insert triads_total h.held o.triad (IsOpening o (own_ids h.next o)) o.triad
    ∙ ap (λ r. cond (is_eq r) (Some (IsOpening o (own_ids h.next o))) (map.get h.held o.triad)) (tied_itself triads_total o.triad))

pub is_opening : (h after : Hops) (o : Opening) → after ≡ begun h o → IsSome (opening_at after o.triad)
is_opening h after o is = subst (λ (p : Option Opening). IsSome p) (sym (ap (λ (p : Hops). opening_at p o.triad) is ∙ begun_opening h o)) refl

-- what comes by a link is of no op
pub no_op : (h : Hops) (up : Option ℕ) → up ≡ None → IsOpFree h up
no_op h up none = record { differs = λ triad x op held is named. let some : None ≡ Some op = sym none ∙ is in absurd cc }

-- an empty table has no op
pub none_held : (h : Hops) (room next : ℕ) (up : Option ℕ) → h ≡ record { room = room; next = next; held = map.empty } → IsOpFree h up
none_held h room next up is = record {
  differs = λ triad x op held at named.
      let none : None ≡ Some x = sym (map.get-empty {X = Held} triad_cmp triad) ∙ ap (λ (p : Hops). map.get p.held triad) (sym is) ∙ held in absurd cc;
}
