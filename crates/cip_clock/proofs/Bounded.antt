-- Bounds stay bounds when a record comes, changes or goes, and when one is written anew.
use Rattle.std.proofs.Common.{◌≡◌, ◌≢◌, inl, inr, ℕ, ◌<◌, ◌≤◌, List, Option, Some, None, length, get_or, set, min, refl, sym, ap, subst, ◌∙◌, arith}
use Rattle.std.specs.Option.{option_and_then}
use Rattle.std.proofs.lemmas.Bool.{cases_eq}
use Rattle.std.proofs.lemmas.List.{get_or-set_same, get_or-set_other, length-set}
use Rattle.cip_clock.specs.Bounds.{bound_of, bound_under, AreBounds, IsFirstBound}

module _ {X : Type 0} (deadline_of : X → Option ℕ) where
  -- a bound is written, and at most the record of its key is another
  pub rebounded : (old new : ℕ → Option X) (bounds : List ℕ) (key time : ℕ) → AreBounds deadline_of old bounds → key < length bounds
      → ((other : ℕ) → other ≢ key → new other ≡ old other) → ((x : X) → new key ≡ Some x → time ≤ bound_of (deadline_of x))
      → AreBounds deadline_of new (set bounds key time)
  rebounded old new bounds key time are within others here =
      let same = length-set bounds key time in
      record {
        early = λ k x found. elim (cases_eq k key) [
          | inl one ↦
              let written = get_or-set_same bounds key time 0 within in
              let low = here x (ap new (sym one) ∙ found) in
              let moved = ap (λ n. get_or (set bounds key time) n 0) one in
              (omega arith, omega (arith, written, low, moved))
          | inr other ↦
              let was = are.early k x (sym (others k other) ∙ found) in
              let kept = get_or-set_other bounds key k time 0 other in
              (omega (arith, was.0), omega (arith, was.1, kept))
        ];
      }

  -- a bound becomes earlier
  pub lowered : (old new : ℕ → Option X) (bounds : List ℕ) (key : ℕ) (x : X) → AreBounds deadline_of old bounds → key < length bounds
      → ((other : ℕ) → other ≢ key → new other ≡ old other) → new key ≡ Some x
      → AreBounds deadline_of new (set bounds key (min (get_or bounds key 0) (bound_of (deadline_of x))))
  lowered old new bounds key x are within others here =
      rebounded old new bounds key (min (get_or bounds key 0) (bound_of (deadline_of x))) are within others (λ y found.
      let both : Some x ≡ Some y = sym here ∙ found in let one : x ≡ y = cc in
      subst (λ (z : X). min (get_or bounds key 0) (bound_of (deadline_of x)) ≤ bound_of (deadline_of z)) one (omega arith))

  -- a record goes
  pub removed : (old new : ℕ → Option X) (bounds : List ℕ) (key : ℕ) → AreBounds deadline_of old bounds
      → ((other : ℕ) → other ≢ key → new other ≡ old other) → new key ≡ None → AreBounds deadline_of new bounds
  removed old new bounds key are others gone = record {
    early = λ k x found. elim (cases_eq k key) [
      | inl one ↦ let never : None ≡ Some x = sym gone ∙ ap new (sym one) ∙ found in absurd (cc)
      | inr other ↦ are.early k x (sym (others k other) ∙ found)
    ];
  }

  -- a bound is written as it is
  pub settled : (found : ℕ → Option X) (bounds : List ℕ) (key : ℕ) → AreBounds deadline_of found bounds → key < length bounds
      → AreBounds deadline_of found (set bounds key (bound_under deadline_of found key))
  settled found bounds key are within =
      rebounded found found bounds key (bound_under deadline_of found key) are within (λ other ne. refl) (λ x here.
      subst (λ (o : Option X). bound_of (option_and_then deadline_of o) ≤ bound_of (deadline_of x)) (sym here) (omega arith))

  -- the least, where it is what it stands for
  pub first : (found : ℕ → Option X) (bounds : List ℕ) (key : ℕ) → AreBounds deadline_of found bounds
      → ((k : ℕ) → k < length bounds → get_or bounds key 0 ≤ get_or bounds k 0) → get_or bounds key 0 ≡ bound_under deadline_of found key
      → IsFirstBound deadline_of found (bound_under deadline_of found key)
  first found bounds key are least is = record {
    key = key;
    reached = refl;
    least = λ other x stands. let was = are.early other x stands in let low = least other was.0 in omega (arith, was.1, low, is);
  }
