-- The order of names is total and tells any two apart; what is taken out of names that are all above it.
use Rattle.std.proofs.Common.{◌≡◌, ℕ, true, false, cond, not, ◌&&◌, List, [], ◌∷◌, refl, sym, ap, ◌∙◌, arith, eqb, nat_lt, filter}
use Rattle.std.specs.Cmp.{IsTotalOrder, nat_cmp_total, both_ways}
use Rattle.std.specs.List.{AllByRecursion}
use Rattle.std.specs.Ordering.{nat_cmp, ordering_then, is_eq}
use Rattle.std.specs.BTreeMap.{is_at}
use Rattle.std.specs.declared.cmp.Ordering.{Ordering}
use Rattle.std.specs.declared.cmp.Ordering.TheVariants.{Less, Equal, Greater}
use Rattle.std.proofs.lemmas.Bool.Decides.{nat_tests}
use Rattle.std.proofs.lemmas.Bool.{and_parts, and_from, eqb-true, eq-eqb}
use Rattle.std.proofs.lemmas.Cmp.{on_total, then_total}
use Rattle.cip_event.specs.declared.frame.FrameName.{FrameName}
use Rattle.cip_world.specs.Journals.{same_name}
use Rattle.cip_world.specs.Names.{name_cmp}

pub names_total : IsTotalOrder name_cmp
names_total = then_total (on_total (λ f. f.entry) nat_cmp_total) (on_total (λ f. f.output) nat_cmp_total)

pub name_eq : (f g : FrameName) → same_name f g ≡ true → f ≡ g
name_eq f g t =
    let both = and_parts (eqb f.entry g.entry) (eqb f.output g.output) t in
    let entries = eqb-true f.entry g.entry both.0 in
    let outputs = eqb-true f.output g.output both.1 in
    λ i. record { entry = entries i; output = outputs i }

pub same_self : (f : FrameName) → same_name f f ≡ true
same_self f = and_from (eqb f.entry f.entry) (eqb f.output f.output) (eq-eqb f.entry f.entry refl) (eq-eqb f.output f.output refl)

less_apart : (x y : ℕ) → nat_lt x y ≡ true → eqb x y ≡ false
less_apart x y t = grind (arith, nat_tests)

eq_nat : (x y : ℕ) → is_eq (nat_cmp x y) ≡ eqb x y
eq_nat x y =
    elim (nat_lt x y) as (λ b. nat_lt x y ≡ b → is_eq (cond b Less (cond (eqb x y) Equal Greater)) ≡ eqb x y) [
      | true ↦ λ t. sym (less_apart x y t)
      | false ↦ λ t. elim (eqb x y) as (λ c. is_eq (cond c Equal Greater) ≡ c) [ true ↦ refl | false ↦ refl ]
    ] refl

eq_then : (o p : Ordering) → is_eq (ordering_then o p) ≡ (is_eq o && is_eq p)
eq_then Less p = refl
eq_then Equal p = refl
eq_then Greater p = refl

pub same_sym : (f g : FrameName) → same_name f g ≡ same_name g f
same_sym f g = both_ways (same_name f g) (same_name g f) (λ t. ap (same_name g) (name_eq f g t)
    ∙ same_self g) (λ t. ap (same_name f) (name_eq g f t) ∙ same_self f)

at_same_name : (f g : FrameName) → is_at (name_cmp f) g ≡ same_name f g
at_same_name f g =
    eq_then (nat_cmp f.entry g.entry) (nat_cmp f.output g.output) ∙ ap (λ b. b && is_eq (nat_cmp f.output g.output)) (eq_nat f.entry g.entry)
    ∙ ap (λ b. eqb f.entry g.entry && b) (eq_nat f.output g.output)

pub at_same : (f g : FrameName) → is_at (name_cmp f) g ≡ same_name g f
at_same f g = at_same_name f g ∙ same_sym f g

pub less_differ : (f g : FrameName) → name_cmp f g ≡ Less → same_name g f ≡ false
less_differ f g h = sym (at_same f g) ∙ ap is_eq h

pub all_stay : (f : FrameName) (gs : List FrameName) → AllByRecursion (λ g. name_cmp f g ≡ Less) gs → filter (λ g. not (same_name g f)) gs ≡ gs
all_stay f [] h = refl
all_stay f (g ∷ gs) h =
    ap (λ b. cond (not b) (g ∷ filter (λ g. not (same_name g f)) gs) (filter (λ g. not (same_name g f)) gs)) (less_differ f g h.0)
    ∙ ap (λ (xs : List FrameName). g ∷ xs) (all_stay f gs h.1)
