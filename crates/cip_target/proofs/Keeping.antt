-- What each change of the list of assemblies is in the finite map.
use Rattle.std.proofs.Common.{◌≡◌, ℕ, zero, suc, ◌<◌, ◌≤◌, true, false, T, List, [], ◌∷◌, ◌++◌, length, get_or, refl, sym, ap, subst, ◌∙◌, arith, Option, Some}
use Rattle.std.proofs.Common.{None, ◌==◌, nat_le, inl, inr}
use Rattle.std.specs.List.{insert, remove, position, find}
use Rattle.std.specs.Option.{option_map}
use Rattle.std.specs.Ordering.{nat_cmp}
use Rattle.std.specs.Cmp.{nat_cmp_total}
use Rattle.std.specs.FinMap as map
use Rattle.std.specs.FinMap.{nat_cmp-IsAntisymmetric}
use Rattle.std.specs.declared.cmp.Ordering.TheVariants.{Less, Greater}
use Rattle.std.proofs.Math.ListN.{set}
use Rattle.std.proofs.lemmas.Bool.Decides.{nat_tests}
use Rattle.std.proofs.lemmas.Bool.{eqb-true, cases_eq}
use Rattle.std.proofs.lemmas.List.{get_or-set_same, get_or-set_other}
use Rattle.std.proofs.lemmas.List.Quantifiers.{position-Some}
use Rattle.cip_base.specs.declared.limits.TheConstants.{MAX_DATUM}
use Rattle.cip_base.proofs.Sorted.{sorted_push, sorted_insert, sorted_at, from_sorted-push, from_sorted-insert, from_sorted-at}
use Rattle.cip_base.proofs.Places.{find-None, find-Some, find-number, all_miss}
use Rattle.cip_target.specs.Assemblies.{is_above}
use Rattle.cip_target.specs.declared.assembly.Assembly.{Assembly}
use Rattle.cip_target.specs.Held.{IsHeld, Kept, nothing}

abbrev pub Entry : Type 0
Entry = ℕ × Assembly

abbrev pub the_map : List Entry → Kept
the_map es = map.from_sorted es

-- which default does not matter within the list
pub same_at : {X : Type 0} (xs : List X) (i : ℕ) (c d : X) → i < length xs → get_or xs i c ≡ get_or xs i d
same_at [] i c d lt = absurd (omega arith)
same_at (x ∷ xs) zero c d lt = refl
same_at (x ∷ xs) (suc i) c d lt = same_at xs i c d (omega arith)

-- ---- what is found

pub get_none : (es : List Entry) (q : ℕ) → IsHeld es → position (λ e. e.0 == q) es ≡ None → map.get (the_map es) q ≡ None
get_none es q h e = map.get-from_sorted nat_cmp _ q h.sorted ∙ find-number q _ ∙ ap (option_map (λ (f : Entry). f.1)) (find-None (λ f. f.0 == q) es e)

pub get_is : (es : List Entry) (q i : ℕ) (x : Entry) → IsHeld es → position (λ e. e.0 == q) es ≡ Some i → x ≡ get_or es i x
    → map.get (the_map es) q ≡ Some x.1
get_is es q i x h e stands =
    map.get-from_sorted nat_cmp _ q h.sorted ∙ find-number q _ ∙ ap (option_map (λ (f : Entry). f.1)) (find-Some _ _ i x e)
    ∙ ap (λ (f : Entry). Some f.1) (sym stands)

pub key_is : (es : List Entry) (q i : ℕ) (x : Entry) → position (λ e. e.0 == q) es ≡ Some i → x ≡ get_or es i x → (i < length es) × (x.0 ≡ q)
key_is es q i x e stands =
    let h = position-Some _ es i x e in
    (h.0, ap (λ (f : Entry). f.0) stands ∙ eqb-true _ _ h.1)

pub fits_at : (es : List Entry) (i : ℕ) (x : Entry) → IsHeld es → i < length es → x ≡ get_or es i x → length x.1.bytes ≤ MAX_DATUM
fits_at es i x h lt stands = subst (λ (f : Entry). length f.1.bytes ≤ MAX_DATUM) (sym (stands ∙ same_at es i x nothing lt)) (h.fits i)

pub above_none : (es : List Entry) (after : Option ℕ) → IsHeld es → position (λ e. is_above after e.0) es ≡ None
    → find (λ e. is_above after e.0) (map.entries (the_map es)) ≡ None
above_none es after h e = ap (find (λ (e : Entry). is_above after e.0)) (map.entries-from_sorted nat_cmp _ h.sorted)
    ∙ find-None (λ f. is_above after f.0) es e

pub above_is : (es : List Entry) (after : Option ℕ) (i : ℕ) (x : Entry) → IsHeld es → position (λ e. is_above after e.0) es ≡ Some i → x ≡ get_or es i x
    → find (λ e. is_above after e.0) (map.entries (the_map es)) ≡ Some x
above_is es after i x h e stands =
    ap (find (λ (e : Entry). is_above after e.0)) (map.entries-from_sorted nat_cmp _ h.sorted) ∙ find-Some _ _ i x e ∙ ap (λ y. Some y) (sym stands)

-- ---- an entry written over

set_is : {X : Type 0} (es : List X) (i : ℕ) (x : X) → i < length es → set es i x ≡ insert (remove es i) i x
set_is [] i x lt = absurd (omega arith)
set_is (e ∷ es) zero x lt = refl
set_is (e ∷ es) (suc i) x lt = ap (λ t. e ∷ t) (set_is es i x (omega arith))

abbrev Fits : List Entry → Type 0
Fits es = (i : ℕ) → length (get_or es i nothing).1.bytes ≤ MAX_DATUM

fits_set : (es : List Entry) (i : ℕ) (x : Entry) → i < length es → Fits es → length x.1.bytes ≤ MAX_DATUM → Fits (set es i x)
fits_set es i x lt h p k =
    elim (cases_eq k i) [
      | inl same ↦ subst (λ (f : Entry). length f.1.bytes ≤ MAX_DATUM)
          (sym (ap (λ (j : ℕ). get_or (set es i x) j nothing) same ∙ get_or-set_same es i x nothing lt)) p
      | inr other ↦ subst (λ (f : Entry). length f.1.bytes ≤ MAX_DATUM) (sym (get_or-set_other es i k x nothing other)) (h k)
    ]

pub kept_set : (es : List Entry) (i : ℕ) (x y : Entry) → IsHeld es → i < length es → x ≡ get_or es i x → y.0 ≡ x.0 → length y.1.bytes ≤ MAX_DATUM
    → IsHeld (set es i y)
kept_set es i x y h lt stands key p = record {
  sorted =
      subst (λ t. T (map.is_sorted nat_cmp t))
      (sym (set_is es i y lt ∙ ap (λ (k : ℕ). insert (remove es i) i (k, y.1)) (key ∙ ap (λ (f : Entry). f.0) stands)))
      (sorted_at nat_cmp nat_cmp_total es i x y.1 h.sorted lt);
  fits = fits_set es i y lt h.fits p;
}

pub view_set : (es : List Entry) (i : ℕ) (x y : Entry) → IsHeld es → i < length es → x ≡ get_or es i x → y.0 ≡ x.0
    → the_map (set es i y) ≡ map.insert (the_map es) x.0 y.1
view_set es i x y h lt stands key =
    ap the_map (set_is es i y lt ∙ ap (λ (k : ℕ). insert (remove es i) i (k, y.1)) (key ∙ ap (λ (f : Entry). f.0) stands))
    ∙ from_sorted-at nat_cmp nat_cmp_total es i x y.1 h.sorted lt
    ∙ ap (λ (k : ℕ). map.insert (the_map es) k y.1) (sym (ap (λ (f : Entry). f.0) stands))

-- ---- a new entry

less_is : (m n : ℕ) → nat_le n m ≡ false → nat_cmp m n ≡ Less
less_is m n e = grind (arith, nat_tests)

greater_is : (m n : ℕ) → nat_le m n ≡ false → nat_cmp m n ≡ Greater
greater_is m n e = grind (arith, nat_tests)

strictly : (m n : ℕ) → nat_le m n ≡ true → (n ≡ m → ⊥) → nat_cmp m n ≡ Less
strictly m n e d = grind (arith, nat_tests)

fits_push : (es : List Entry) (x : Entry) → Fits es → length x.1.bytes ≤ MAX_DATUM → Fits (es ++ x ∷ [])
fits_push [] x h p zero = p
fits_push [] x h p (suc k) = h 0
fits_push (e ∷ es) x h p zero = h 0
fits_push (e ∷ es) x h p (suc k) = fits_push es x (λ j. h (suc j)) p k

fits_insert : (es : List Entry) (i : ℕ) (x : Entry) → i ≤ length es → Fits es → length x.1.bytes ≤ MAX_DATUM → Fits (insert es i x)
fits_insert es zero x le h p zero = p
fits_insert es zero x le h p (suc k) = h k
fits_insert [] (suc i) x le h p k = absurd (omega arith)
fits_insert (e ∷ es) (suc i) x le h p zero = h 0
fits_insert (e ∷ es) (suc i) x le h p (suc k) = fits_insert es i x (omega arith) (λ j. h (suc j)) p k

above_all : (es : List Entry) (k : ℕ) → position (λ e. nat_le k e.0) es ≡ None → (i : ℕ) (d : Entry) → i < length es → nat_cmp (get_or es i d).0 k ≡ Less
above_all es k e i d lt = less_is _ _ (all_miss (λ (f : Entry). nat_le k f.0) es e i d lt)

pub kept_push : (es : List Entry) (k : ℕ) (v : Assembly) → IsHeld es → position (λ e. nat_le k e.0) es ≡ None → length v.bytes ≤ MAX_DATUM
    → IsHeld (es ++ (k, v) ∷ [])
kept_push es k v h e p = record {
  sorted = sorted_push nat_cmp es k v h.sorted (above_all es k e);
  fits = fits_push es (k, v) h.fits p;
}

pub view_push : (es : List Entry) (k : ℕ) (v : Assembly) → IsHeld es → position (λ e. nat_le k e.0) es ≡ None
    → the_map (es ++ (k, v) ∷ []) ≡ map.insert (the_map es) k v
view_push es k v h e = from_sorted-push nat_cmp nat_cmp_total nat_cmp-IsAntisymmetric es k v h.sorted (above_all es k e)

low : (es : List Entry) (k i : ℕ) → position (λ e. nat_le k e.0) es ≡ Some i → (j : ℕ) (d : Entry) → j < i → nat_cmp k (get_or es j d).0 ≡ Greater
low es k i e j d lt = greater_is _ _ ((position-Some (λ (f : Entry). nat_le k f.0) es i d e).2 j lt)

high : (es : List Entry) (k i : ℕ) (x : Entry) → position (λ e. nat_le k e.0) es ≡ Some i → x ≡ get_or es i x → (x.0 ≡ k → ⊥) → (d : Entry) → i < length es
    → nat_cmp k (get_or es i d).0 ≡ Less
high es k i x e stands other d lt =
    let h = position-Some (λ (f : Entry). nat_le k f.0) es i d e in
    let same : x.0 ≡ (get_or es i d).0 = ap (λ (f : Entry). f.0) (stands ∙ same_at es i x d lt) in
    strictly _ _ h.1 (λ e. other (same ∙ e))

pub within : (es : List Entry) (k i : ℕ) → position (λ e. nat_le k e.0) es ≡ Some i → i < length es
within es k i e = (position-Some (λ (f : Entry). nat_le k f.0) es i nothing e).0

pub kept_insert : (es : List Entry) (k i : ℕ) (x : Entry) (v : Assembly) → IsHeld es → position (λ e. nat_le k e.0) es ≡ Some i → x ≡ get_or es i x
    → (x.0 ≡ k → ⊥) → length v.bytes ≤ MAX_DATUM → IsHeld (insert es i (k, v))
kept_insert es k i x v h e stands other p =
    let lt = within es k i e in
    record {
      sorted = sorted_insert nat_cmp nat_cmp_total es i k v h.sorted (low es k i e) (high es k i x e stands other) (omega arith);
      fits = fits_insert es i (k, v) (omega arith) h.fits p;
    }

pub view_insert : (es : List Entry) (k i : ℕ) (x : Entry) (v : Assembly) → IsHeld es → position (λ e. nat_le k e.0) es ≡ Some i → x ≡ get_or es i x
    → (x.0 ≡ k → ⊥) → the_map (insert es i (k, v)) ≡ map.insert (the_map es) k v
view_insert es k i x v h e stands other =
    let lt = within es k i e in
    from_sorted-insert nat_cmp nat_cmp_total es i k v h.sorted (low es k i e) (high es k i x e stands other) (omega arith)
