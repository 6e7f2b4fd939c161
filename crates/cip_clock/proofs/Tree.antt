-- The least of all bounds stands at the top of the tree, also after one of them has changed.
use Rattle.std.proofs.Common.{◌≡◌, ◌≢◌, ◌⊎◌, inl, inr, ℕ, zero, suc, ◌+◌, ◌-◌, ◌*◌, ◌/◌, ◌<◌, ◌≤◌, Bool, true, false, nat_le, List, length, get_or, set, drop}
use Rattle.std.proofs.Common.{min, refl, sym, ap, subst, ◌∙◌, arith}
use Rattle.std.proofs.lemmas.Bool.{cases_eq}
use Rattle.std.proofs.lemmas.Bool.Decides.{nat_tests}
use Rattle.std.proofs.lemmas.List.{get_or-set_same, get_or-set_other, get_or-drop, length-set, length-drop}
use Rattle.cip_clock.specs.Bounds.{IsTree}

half : (n : ℕ) → (n ≡ 2 * (n / 2)) ⊎ (n ≡ 2 * (n / 2) + 1)
half n = elim (cases_eq n (2 * (n / 2))) [ inl even ↦ inl even | inr odd ↦ inr (omega arith) ]

at_most : (m n : ℕ) → nat_le m n ≡ true → m ≤ n
at_most m n e = grind (arith, nat_tests)

less : (m n : ℕ) → nat_le m n ≡ false → n < m
less m n e = grind (arith, nat_tests)

module _ (times : List ℕ) (room : ℕ) (size : length times ≡ 2 * room) where
  -- a place is not later than those below it
  not_later : IsTree times → (at : ℕ) → 1 < at → at < length times → get_or times (at / 2) 0 ≤ get_or times at 0
  not_later tree at some lt =
      let e = tree.earlier (at / 2) (omega arith) (omega arith) in
      elim (half at) [
        | inl even ↦ subst (λ (k : ℕ). get_or times (at / 2) 0 ≤ get_or times k 0) (sym even) (omega (arith, e))
        | inr odd ↦ subst (λ (k : ℕ). get_or times (at / 2) 0 ≤ get_or times k 0) (sym odd) (omega (arith, e))
      ]

  top_not_later : IsTree times → (fuel at : ℕ) → at ≤ fuel → 0 < at → at < length times → get_or times 1 0 ≤ get_or times at 0
  top_not_later tree zero at le some lt = absurd (omega arith)
  top_not_later tree (suc fuel) at le some lt =
      elim (cases_eq at 1) [
        | inl top ↦ subst (λ (k : ℕ). get_or times 1 0 ≤ get_or times k 0) (sym top) (omega arith)
        | inr below ↦
            let up = top_not_later tree fuel (at / 2) (omega arith) (omega arith) (omega arith) in
            let here = not_later tree at (omega arith) lt in
            omega (arith, up, here)
      ]

  here : (at : ℕ) → room ≤ at → at < length times → get_or times at 0 ≡ get_or times 1 0
      → (key : ℕ) × (key < room) × (get_or times (room + key) 0 ≡ get_or times 1 0)
  here at past lt is =
      let there : room + (at - room) ≡ at = omega arith in
      (at - room, omega arith, ap (λ k. get_or times k 0) there ∙ is)

  -- from a place that is as early as the top down to a bound that is
  reached_from : IsTree times → (fuel at : ℕ) → room ≤ at + fuel → 0 < at → at < length times → get_or times at 0 ≡ get_or times 1 0
      → (key : ℕ) × (key < room) × (get_or times (room + key) 0 ≡ get_or times 1 0)
  reached_from tree zero at past some lt is = here at (omega arith) lt is
  reached_from tree (suc fuel) at past some lt is =
      elim (nat_le room at) as (λ (b : Bool). nat_le room at ≡ b
      → (key : ℕ) × (key < room) × (get_or times (room + key) 0 ≡ get_or times 1 0)) [
        | true ↦ λ e. here at (at_most room at e) lt is
        | false ↦ λ e.
            let above = less room at e in
            let both = tree.earlier at some (omega arith) in
            elim (nat_le (get_or times (2 * at) 0) (get_or times (2 * at + 1) 0)) as
            (λ (b : Bool). nat_le (get_or times (2 * at) 0) (get_or times (2 * at + 1) 0) ≡ b
            → (key : ℕ) × (key < room) × (get_or times (room + key) 0 ≡ get_or times 1 0)) [
              | true ↦ λ left. let le = at_most (get_or times (2 * at) 0) (get_or times (2 * at + 1) 0) left in
                  reached_from tree fuel (2 * at) (omega arith) (omega arith) (omega arith) (omega (arith, both, is, le))
              | false ↦ λ right. let lt = less (get_or times (2 * at) 0) (get_or times (2 * at + 1) 0) right in
                  reached_from tree fuel (2 * at + 1) (omega arith) (omega arith) (omega arith) (omega (arith, both, is, lt))
            ] refl
      ] refl

  -- a bound is as early as the top
  pub top_reached : IsTree times → 0 < room → (bounds : List ℕ) → drop room times ≡ bounds
      → (key : ℕ) × (key < length bounds) × (get_or bounds key 0 ≡ get_or times 1 0)
  top_reached tree some bounds is =
      let found = reached_from tree room 1 (omega arith) (omega arith) (omega arith) refl in
      let stands : get_or bounds found.0 0 ≡ get_or times (room + found.0) 0 =
      ap (λ (xs : List ℕ). get_or xs found.0 0) (sym is) ∙ get_or-drop room times found.0 0 in
      let count : length bounds ≡ room = ap length (sym is) ∙ length-drop room times ∙ omega arith in
      (found.0, omega (arith, found.1), stands ∙ found.2)

  -- no bound is earlier than the top
  pub top_least : IsTree times → 0 < room → (bounds : List ℕ) → drop room times ≡ bounds → (key : ℕ) → key < length bounds
      → get_or times 1 0 ≤ get_or bounds key 0
  top_least tree some bounds is key lt =
      let stands : get_or bounds key 0 ≡ get_or times (room + key) 0 = ap (λ (xs : List ℕ). get_or xs key 0) (sym is) ∙ get_or-drop room times key 0 in
      let count : length bounds ≡ room = ap length (sym is) ∙ length-drop room times ∙ omega arith in
      let low = top_not_later tree (room + key) (room + key) (omega arith) (omega arith) (omega arith) in
      omega (arith, stands, low)

-- each place but one has the earlier of the two below it
pub record IsTreeBut (times : List ℕ) (but : ℕ) : Type 0 where
  pub earlier : (at : ℕ) → 0 < at → 2 * at + 1 < length times → at ≢ but
      → get_or times at 0 ≡ min (get_or times (2 * at) 0) (get_or times (2 * at + 1) 0)

-- where a place and those below it keep what they had
kept_there : (times : List ℕ) (place time at : ℕ) → at ≢ place → 2 * at ≢ place → 2 * at + 1 ≢ place
    → get_or times at 0 ≡ min (get_or times (2 * at) 0) (get_or times (2 * at + 1) 0)
    → get_or (set times place time) at 0 ≡ min (get_or (set times place time) (2 * at) 0) (get_or (set times place time) (2 * at + 1) 0)
kept_there times place time at one two three e =
    let a = get_or-set_other times place at time 0 one in
    let b = get_or-set_other times place (2 * at) time 0 two in
    let d = get_or-set_other times place (2 * at + 1) time 0 three in
    a ∙ e ∙ sym (ap (λ k. min k (get_or (set times place time) (2 * at + 1) 0)) b ∙ ap (min (get_or times (2 * at) 0)) d)

-- a bound is written: only the place above it may be wrong
pub written : (times : List ℕ) (room key time : ℕ) → IsTree times → length times ≡ 2 * room → key < room
    → IsTreeBut (set times (room + key) time) ((room + key) / 2)
written times room key time tree size within =
    let same = length-set times (room + key) time in
    record {
      earlier = λ at some lt ne.
          kept_there times (room + key) time at (omega arith) (omega arith) (omega arith) (tree.earlier at some (omega arith));
    }

-- the place that may be wrong is written: only the one above it may then be
pub raised : (times : List ℕ) (place time : ℕ) → IsTreeBut times place → 0 < place → 2 * place + 1 < length times
    → time ≡ min (get_or times (2 * place) 0) (get_or times (2 * place + 1) 0) → IsTreeBut (set times place time) (place / 2)
raised times place time tree some low is =
    let same = length-set times place time in
    record {
      earlier = λ at here lt ne. elim (cases_eq at place) [
        | inl one ↦
            let written = get_or-set_same times place time 0 (omega arith) in
            let left = get_or-set_other times place (2 * place) time 0 (omega arith) in
            let right = get_or-set_other times place (2 * place + 1) time 0 (omega arith) in
            subst (λ (k : ℕ). get_or (set times place time) k 0
            ≡ min (get_or (set times place time) (2 * k) 0) (get_or (set times place time) (2 * k + 1) 0)) (sym one)
            (written ∙ is
            ∙ sym (ap (λ k. min k (get_or (set times place time) (2 * place + 1) 0)) left ∙ ap (min (get_or times (2 * place) 0)) right))
        | inr other ↦ kept_there times place time at other (omega arith) (omega arith) (tree.earlier at here (omega arith) other)
      ];
    }

-- none is wrong where the one that may be is above the top
pub whole : (times : List ℕ) → IsTreeBut times 0 → IsTree times
whole times tree = record { earlier = λ at some lt. tree.earlier at some lt (omega arith) }
