-- A segment of two bytes is read at its first byte.
use Rattle.std.proofs.Common.{◌≡◌, ℕ, ◌<◌, ◌≤◌, ◌-◌, true, inl, inr, List, [], ◌∷◌, length, take, drop, Ok, refl, sym, ap, ◌∙◌, arith}
use Rattle.std.specs.Prelude.{slice_index}
use Rattle.std.proofs.lemmas.Bool.{cases_eq}
use Rattle.std.proofs.lemmas.List.{take_all}
use Rattle.cip_base.specs.Fields.{IsBytes}
use Rattle.std.proofs.lemmas.Bool.Decides.{nat_tests}
use Rattle.cip_segment.specs.declared.segment.Segment.{Segment}
use Rattle.cip_segment.specs.declared.segment.Segment.TheVariants.{Port, Class, Instance, Member, Point, Attribute}
use Rattle.cip_segment.specs.Spelling.{IsForm, Splits}
use Rattle.cip_segment.specs.Scan.{At, segment_at}
use Rattle.cip_segment.specs.Brief.{is_short}
use Rattle.cip_segment.proofs.Forms.{form_scans}

module _ (h n : ℕ) (rest : List ℕ) where
  scans : (g : Segment) → IsForm (h ∷ n ∷ []) g → (g : Segment) × (segment_at (h ∷ n ∷ rest) ≡ Ok (g, rest))
  scans g form = (g, form_scans g (h ∷ n ∷ []) rest form)

  head_is : (k : ℕ) → h ≡ k → h ∷ n ∷ [] ≡ k ∷ n ∷ []
  head_is k e = ap (λ (z : ℕ). z ∷ n ∷ []) e

  pub short_scans : n < 256 → is_short h ≡ true → (g : Segment) × (segment_at (h ∷ n ∷ rest) ≡ Ok (g, rest))
  short_scans small e =
      elim (cases_eq h 0x20) [
        | inl is ↦ scans (Class n) (inl (small, head_is 0x20 is))
        | inr a ↦ elim (cases_eq h 0x24) [
          | inl is ↦ scans (Instance n) (inl (small, head_is 0x24 is))
          | inr b ↦ elim (cases_eq h 0x28) [
            | inl is ↦ scans (Member n) (inl (small, head_is 0x28 is))
            | inr c ↦ elim (cases_eq h 0x2C) [
              | inl is ↦ scans (Point n) (inl (small, head_is 0x2C is))
              | inr d ↦ elim (cases_eq h 0x30) [
                | inl is ↦ scans (Attribute n) (inl (small, head_is 0x30 is))
                | inr f ↦
                    let some : 0 < h = grind (arith, nat_tests) in
                    let low : h < 15 = grind (arith, nat_tests) in
                    scans (Port h (n ∷ [])) (h, [], (some, inl (low, refl, refl)), inl (refl, refl))
              ]
            ]
          ]
        ]
      ]

abbrev answer : Segment → List ℕ → At Segment
answer g z = Ok (g, z)

pub short_at : (b : List ℕ) → 2 ≤ length b → IsBytes b → is_short (slice_index b 0) ≡ true
    → (g : Segment) × (segment_at b ≡ Ok (g, take (length b - 2) (drop 2 b)))
short_at [] two fits e = absurd (omega (arith, two))
short_at (h ∷ []) two fits e = absurd (omega (arith, two))
short_at (h ∷ n ∷ rest) two fits e =
    let some = short_scans h n rest (fits 1) e in
    let all : take (length (h ∷ n ∷ rest) - 2) rest ≡ rest = take_all (length (h ∷ n ∷ rest) - 2) rest (omega arith) in
    (some.0, some.1 ∙ ap (λ (z : List ℕ). answer some.0 z) (sym all))

-- the segment of two bytes that is read at their first, and what is left
module _ (b : List ℕ) (two : 2 ≤ length b) (g : Segment) where
  behind_two : (h n : ℕ) (rest : List ℕ) → take (length (h ∷ n ∷ rest) - 2) rest ≡ rest
  behind_two h n rest = take_all (length (h ∷ n ∷ rest) - 2) rest (omega arith)

  pub brief_at : IsForm (slice_index b 0 ∷ slice_index b 1 ∷ []) g → segment_at b ≡ Ok (g, take (length b - 2) (drop 2 b))
  brief_at = by b two
    where
      by : (b : List ℕ) → 2 ≤ length b → IsForm (slice_index b 0 ∷ slice_index b 1 ∷ []) g → segment_at b ≡ Ok (g, take (length b - 2) (drop 2 b))
      by [] two form = absurd (omega (arith, two))
      by (h ∷ []) two form = absurd (omega (arith, two))
      by (h ∷ n ∷ rest) two form = form_scans g (h ∷ n ∷ []) rest form ∙ ap (λ (z : List ℕ). answer g z) (sym (behind_two h n rest))

  pub brief_splits : IsForm (slice_index b 0 ∷ slice_index b 1 ∷ []) g → Splits b g (take (length b - 2) (drop 2 b))
  brief_splits = by b two
    where
      by : (b : List ℕ) → 2 ≤ length b → IsForm (slice_index b 0 ∷ slice_index b 1 ∷ []) g → Splits b g (take (length b - 2) (drop 2 b))
      by [] two form = absurd (omega (arith, two))
      by (h ∷ []) two form = absurd (omega (arith, two))
      by (h ∷ n ∷ rest) two form = (h ∷ n ∷ [], ap (λ (z : List ℕ). h ∷ n ∷ z) (sym (behind_two h n rest)), form)

pub small_at : (b : List ℕ) → IsBytes b → 2 ≤ length b → slice_index b 1 < 256
small_at b fits two = fits 1

-- a port below 15 with an address of one byte
pub plain_splits : (b : List ℕ) → 2 ≤ length b → (port : ℕ) → slice_index b 0 ≡ port → 0 < port → port < 15
    → Splits b (Port port (slice_index b 1 ∷ [])) (take (length b - 2) (drop 2 b))
plain_splits b two port is some below =
    brief_splits b two (Port port (slice_index b 1 ∷ []))
    (port, [], (some, inl (below, refl, refl)), inl (refl, ap (λ (h : ℕ). h ∷ slice_index b 1 ∷ []) is))
