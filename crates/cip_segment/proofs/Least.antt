-- No form of a segment is shorter than its shortest one, and none as short is another.
use Rattle.std.proofs.Common.{◌≡◌, ℕ, ◌+◌, ◌/◌, ◌%◌, ◌<◌, ◌≤◌, true, cond, ltb, eqb, ◌⊎◌, inl, inr}
use Rattle.std.proofs.Common.{List, [], ◌∷◌, ◌++◌, length, refl, ap, ◌∙◌, arith, length-append}
use Rattle.std.proofs.lemmas.Bool.{cond_both, lt-ltb, eq-eqb}
use Rattle.cip_segment.specs.declared.segment.Segment.{Segment}
use Rattle.cip_segment.specs.declared.segment.Segment.TheVariants.{Port, Class, Instance, Member, Point, Attribute, Key, Words, Symbol, Inhibit}
use Rattle.cip_segment.specs.Spelling.{IsNarrow, IsWide, IsLong, IsPort, IsForm, Spells}
use Rattle.cip_base.specs.Fields.{IsWord, pad, word}
use Rattle.cip_segment.specs.Short.{short_number, short_port, short_form, short, IsWritable, IsRanged, IsShortest}
use Rattle.cip_segment.proofs.Shorts.{form_of}

-- s is no longer than x, and x where they are as long
abbrev pub IsLeast : List ℕ → List ℕ → Type 0
IsLeast s x = (length s ≤ length x) × (length x ≤ length s → x ≡ s)

word_is : (n : ℕ) (w : List ℕ) → IsWord n w → w ≡ word n
word_is n w (lo, hi, pl, ph, e, d) =
    let low : n % 256 ≡ lo = omega arith in
    let high : n / 256 ≡ hi = omega arith in
    d ∙ rw (low, high) refl

same_least : (s x : List ℕ) → x ≡ s → IsLeast s x
same_least s x e = (rw e (omega arith), λ le. e)

longer_least : (s x : List ℕ) → length s < length x → IsLeast s x
longer_least s x lt = (omega arith, λ le. absurd (omega arith))

number_least : (h n : ℕ) (x : List ℕ) → IsNarrow h n x ⊎ (IsWide h n x ⊎ IsLong h n x) → IsLeast (short_number h n) x
number_least h n x (inl (lt, e)) =
    let one : ltb n 256 ≡ true = lt-ltb _ _ lt in same_least (short_number h n) x (e ∙ rw one refl)
number_least h n x (inr (inl (w, (lo, hi, pl, ph, d, v), e))) =
    let four : x ≡ (h + 1) ∷ 0 ∷ lo ∷ hi ∷ [] = e ∙ ap (λ (z : List ℕ). (h + 1) ∷ 0 ∷ z) v in
    let len : length x ≡ 4 = ap (λ (z : List ℕ). length z) four in
    let in_two : n < 65536 = omega arith in
    let two : ltb n 65536 ≡ true = lt-ltb _ _ in_two in
    cond_both (ltb n 256) (h ∷ n ∷ []) (cond (ltb n 65536) ((h + 1) ∷ 0 ∷ word n) ((h + 2) ∷ 0 ∷ word (n % 65536) ++ word (n / 65536))) (λ z. IsLeast z x)
    (λ _. longer_least (h ∷ n ∷ []) x (rw len (omega arith)))
    (λ _. rw two (same_least ((h + 1) ∷ 0 ∷ word n) x (e ∙ ap (λ (z : List ℕ). (h + 1) ∷ 0 ∷ z) (word_is n w (lo, hi, pl, ph, d, v)))))
number_least h n x (inr (inr (w, (low, high, u, v, iu, iv, d, parts), e))) =
    let whole : x ≡ (h + 2) ∷ 0 ∷ word low ++ word high =
    e ∙ ap (λ (z : List ℕ). (h + 2) ∷ 0 ∷ z) (parts ∙ ap (λ (z : List ℕ). z ++ v) (word_is low u iu)
    ∙ ap (λ (z : List ℕ). word low ++ z) (word_is high v iv)) in
    let len : length x ≡ 6 = ap (λ (z : List ℕ). length z) whole in
    let small : low < 65536 = (let a = iu.2 in let b = iu.3 in let c = iu.4 in omega arith) in
    let l : n % 65536 ≡ low = omega arith in
    let r : n / 65536 ≡ high = omega arith in
    cond_both (ltb n 256) (h ∷ n ∷ []) (cond (ltb n 65536) ((h + 1) ∷ 0 ∷ word n) ((h + 2) ∷ 0 ∷ word (n % 65536) ++ word (n / 65536))) (λ z. IsLeast z x)
    (λ _. longer_least (h ∷ n ∷ []) x (rw len (omega arith)))
    (λ _. cond_both (ltb n 65536) ((h + 1) ∷ 0 ∷ word n) ((h + 2) ∷ 0 ∷ word (n % 65536) ++ word (n / 65536)) (λ z. IsLeast z x)
    (λ _. longer_least ((h + 1) ∷ 0 ∷ word n) x (rw len (omega arith)))
    (λ _. same_least ((h + 2) ∷ 0 ∷ word (n % 65536) ++ word (n / 65536)) x (whole ∙ rw (l, r) refl)))

abbrev IsPortForm : ℕ → List ℕ → List ℕ → List ℕ → Type 0
IsPortForm low w a x = ((length a ≡ 1) × (x ≡ low ∷ w ++ a)) ⊎ ((1 ≤ length a) × (length a ≤ 16) × (x ≡ (16 + low) ∷ length a ∷ w ++ a ++ pad (length a)))

pub plain_len : (low : ℕ) (w a x : List ℕ) → x ≡ low ∷ w ++ a → length x ≡ 1 + (length w + length a)
plain_len low w a x e = ap (λ (z : List ℕ). length z) e ∙ rw (length-append (low ∷ w) a) (omega arith)

pub sized_len : (low : ℕ) (w a x : List ℕ) → x ≡ (16 + low) ∷ length a ∷ w ++ a ++ pad (length a)
    → length x ≡ 2 + (length w + length a) + length (pad (length a))
sized_len low w a x e =
    ap (λ (z : List ℕ). length z) e ∙ length-append (((16 + low) ∷ length a ∷ w) ++ a) (pad (length a))
    ∙ ap (λ (n : ℕ). n + length (pad (length a))) (length-append ((16 + low) ∷ length a ∷ w) a ∙ (omega arith))

port_form_least : (low k : ℕ) (w v a x : List ℕ) → ((low ≡ k) × (w ≡ v)) ⊎ (length v < length w) → IsPortForm low w a x → IsLeast (short_port k v a) x
port_form_least low k w v a x (inl (same, w_is)) (inl (one, e)) =
    let b : eqb (length a) 1 ≡ true = eq-eqb _ _ one in
    rw b (same_least (k ∷ v ++ a) x (e ∙ rw (same, w_is) refl))
port_form_least low k w v a x (inr more) (inl (one, e)) =
    let b : eqb (length a) 1 ≡ true = eq-eqb _ _ one in
    let len = plain_len low w a x e in
    let short_len : length (k ∷ v ++ a) ≡ 1 + (length v + length a) = plain_len k v a (k ∷ v ++ a) refl in
    rw b (longer_least (k ∷ v ++ a) x (omega arith))
port_form_least low k w v a x which (inr (least, most, e)) =
    let len = sized_len low w a x e in
    let not_less : length v ≤ length w = elim which [ inl s ↦ rw s.1 (omega arith) | inr more ↦ omega arith ] in
    cond_both (eqb (length a) 1) (k ∷ v ++ a) ((16 + k) ∷ length a ∷ v ++ a ++ pad (length a)) (λ z. IsLeast z x)
    (λ _. let short_len : length (k ∷ v ++ a) ≡ 1 + (length v + length a) = plain_len k v a (k ∷ v ++ a) refl in longer_least (k ∷ v ++ a) x (omega arith))
    (λ _. elim which [
      | inl s ↦ same_least ((16 + k) ∷ length a ∷ v ++ a ++ pad (length a)) x (e ∙ rw (s.0, s.1) refl)
      | inr more ↦ (let short_len = sized_len k v a ((16 + k) ∷ length a ∷ v ++ a ++ pad (length a)) refl in
          longer_least ((16 + k) ∷ length a ∷ v ++ a ++ pad (length a)) x (omega arith))
    ])

port_least : (q : ℕ) (a x : List ℕ) → IsPort q a x → IsLeast (short_form (Port q a)) x
port_least q a x (low, w, (pos, inl (lt, same, none)), form) =
    let b : ltb q 15 ≡ true = lt-ltb _ _ lt in rw b (port_form_least low q w [] a x (inl (same, none)) form)
port_least q a x (low, w, (pos, inr (is15, wd)), form) =
    let len : length w ≡ 2 = ap (λ (z : List ℕ). length z) (word_is q w wd) in
    cond_both (ltb q 15) (short_port q [] a) (short_port 15 (word q) a) (λ z. IsLeast z x)
    (λ _. port_form_least low q w [] a x (inr (rw len (omega arith))) form)
    (λ _. port_form_least low 15 w (word q) a x (inl (is15, word_is q w wd)) form)

class_case : {A B C : Type 0} → A ⊎ B → A ⊎ (B ⊎ C)
class_case (inl a) = inl a
class_case (inr b) = inr (inl b)

form_least : (g : Segment) (x : List ℕ) → IsForm x g → IsLeast (short_form g) x
form_least (Port q a) x f = port_least q a x f
form_least (Class n) x f = number_least 0x20 n x (class_case f)
form_least (Instance n) x f = number_least 0x24 n x f
form_least (Member n) x f = number_least 0x28 n x (class_case f)
form_least (Point n) x f = number_least 0x2C n x f
form_least (Attribute n) x f = number_least 0x30 n x (class_case f)
form_least (Key k) x (v, t, p, hv, ht, hp, major, minor, e) =
    same_least (short_form (Key k)) x (e ∙ rw (word_is k.vendor v hv, word_is k.device_type t ht, word_is k.product p hp) refl)
form_least (Words d) x (n, lt, len, e) = same_least (short_form (Words d)) x (e ∙ (let h : length d / 2 ≡ n = omega arith in rw h refl))
form_least (Symbol d) x (lt, e) = same_least (short_form (Symbol d)) x e
form_least (Inhibit n) x (lt, e) = same_least (short_form (Inhibit n)) x e

word_below : (n : ℕ) (w : List ℕ) → IsWord n w → n < 65536
word_below n w (lo, hi, pl, ph, e, d) = omega arith

class_below : (h n : ℕ) (x : List ℕ) → IsNarrow h n x ⊎ IsWide h n x → n < 65536
class_below h n x (inl f) = omega (arith, f.0)
class_below h n x (inr f) = word_below n f.0 f.1

long_below : (h n : ℕ) (x : List ℕ) → IsNarrow h n x ⊎ (IsWide h n x ⊎ IsLong h n x) → n < 4294967296
long_below h n x (inl f) = omega (arith, f.0)
long_below h n x (inr (inl f)) = omega (arith, word_below n f.0 f.1)
long_below h n x (inr (inr (w, (low, high, u, v, iu, iv, d, parts), e))) = omega (arith, word_below low u iu, word_below high v iv)

port_ranged : (q : ℕ) (a x : List ℕ) → IsPort q a x → IsRanged (Port q a)
port_ranged q a x (low, w, (pos, num), form) =
    let q_small : q < 65536 = elim num [ inl f ↦ omega (arith, f.0) | inr f ↦ word_below q w f.1 ] in
    let least : 1 ≤ length a = elim form [ inl f ↦ omega (arith, f.0) | inr f ↦ f.0 ] in
    let most : length a ≤ 16 = elim form [ inl f ↦ omega (arith, f.0) | inr f ↦ f.1 ] in
    (omega arith, q_small, least, most)

ranged : (g : Segment) (x : List ℕ) → IsForm x g → IsRanged g × IsWritable g
ranged (Port q a) x f = (port_ranged q a x f, tt)
ranged (Class n) x f = (class_below 0x20 n x f, tt)
ranged (Instance n) x f = (long_below 0x24 n x f, tt)
ranged (Member n) x f = (class_below 0x28 n x f, tt)
ranged (Point n) x f = (long_below 0x2C n x f, tt)
ranged (Attribute n) x f = (class_below 0x30 n x f, tt)
ranged (Key k) x (v, t, p, hv, ht, hp, major, minor, e) = ((word_below _ v hv, word_below _ t ht, word_below _ p hp, major, minor), tt)
ranged (Words d) x (n, lt, len, e) = (tt, (omega arith, omega arith))
ranged (Symbol d) x (lt, e) = (tt, omega arith)
ranged (Inhibit n) x (lt, e) = (lt, tt)

spells_short : (b : List ℕ) (s : List Segment) → Spells b s → Spells (short s) s
spells_short b [] h = refl
spells_short b (g ∷ s) (x, y, e, f, h) = (short_form g, short s, refl, form_of g (ranged g x f).0 (ranged g x f).1, spells_short y s h)

least : (s : List Segment) (b : List ℕ) → Spells b s → IsLeast (short s) b
least [] b h = same_least [] b h
least (g ∷ s) b (x, y, e, f, h) =
    let one = form_least g x f in
    let others = least s y h in
    let whole : length b ≡ length x + length y = ap (λ (z : List ℕ). length z) e ∙ length-append x y in
    let parts : length (short_form g ++ short s) ≡ length (short_form g) + length (short s) = length-append (short_form g) (short s) in (
      omega (arith, one.0, others.0),
      λ le. e ∙ ap (λ (z : List ℕ). z ++ y) (one.1 (omega (arith, one.0, others.0)))
          ∙ ap (λ (z : List ℕ). short_form g ++ z) (others.1 (omega (arith, one.0, others.0))),
    )

pub one_shortest : (b : List ℕ) (s : List Segment) → Spells b s → IsShortest (short s) s
one_shortest b s h = (spells_short b s h, λ c d. least s c d)
