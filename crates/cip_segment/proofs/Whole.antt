-- A path is whole words, and a text has one fault.
use Rattle.std.proofs.Common.{◌≡◌, ℕ, suc, ◌+◌, ◌*◌, ◌/◌, ◌%◌, eqb, ◌⊎◌, inl, inr, List, [], ◌∷◌, ◌++◌}
use Rattle.std.proofs.Common.{length, refl, sym, ap, subst, ◌∙◌, append_assoc, arith, length-append}
use Rattle.std.proofs.lemmas.Bool.{eqb-true, eqb-false, cond_both}
use Rattle.std.proofs.Math.Logic.{∥∥₁_elim}
use Rattle.std.proofs.Math.Nat.{ℕ_set}
use Rattle.cip_segment.specs.declared.segment.Segment.{Segment}
use Rattle.cip_segment.specs.declared.segment.Segment.TheVariants.{Port, Class, Instance, Member, Point, Attribute, Key, Words, Symbol, Inhibit}
use Rattle.cip_segment.specs.declared.fault.PathFault.{PathFault}
use Rattle.cip_segment.specs.declared.fault.PathFault.TheVariants.{Truncated, Reserved, BadPad, TooLong, NoMemory}
use Rattle.cip_segment.specs.Spelling.{IsNarrow, IsWide, IsLong, IsPort, IsForm, Spells, IsReadable, Begins, IsPadDue, StopsAt, IsFault}
use Rattle.cip_base.specs.Fields.{IsWord, pad}
use Rattle.cip_segment.proofs.Paths.{Begins-front}
use Rattle.cip_segment.proofs.Least.{plain_len, sized_len}

-- either the bytes before a place are the same, or one text stops within the other
meets : (p q : List ℕ) (v w : ℕ) (m n : List ℕ) → p ++ v ∷ m ≡ q ++ w ∷ n
    → ((p ≡ q) × (v ≡ w)) ⊎ (((t : List ℕ) × (q ≡ (p ++ v ∷ []) ++ t)) ⊎ ((t : List ℕ) × (p ≡ (q ++ w ∷ []) ++ t)))
meets [] [] v w m n e = inl (refl, cc)
meets [] (y ∷ q) v w m n e = let hd : y ≡ v = cc in inr (inl (q, ap (λ (z : ℕ). z ∷ q) hd))
meets (x ∷ p) [] v w m n e = let hd : x ≡ w = cc in inr (inr (p, ap (λ (z : ℕ). z ∷ p) hd))
meets (x ∷ p) (y ∷ q) v w m n e =
    let hd : x ≡ y = cc in
    let tl : p ++ v ∷ m ≡ q ++ w ∷ n = cc in
    elim (meets p q v w m n tl) [
      | inl (pq, vw) ↦ inl (ap (λ (z : ℕ). z ∷ p) hd ∙ ap (λ (z : List ℕ). y ∷ z) pq, vw)
      | inr (inl (t, d)) ↦ inr (inl (t, ap (λ (z : ℕ). z ∷ q) (sym hd) ∙ ap (λ (z : List ℕ). x ∷ z) d))
      | inr (inr (t, d)) ↦ inr (inr (t, ap (λ (z : ℕ). z ∷ p) hd ∙ ap (λ (z : List ℕ). y ∷ z) d))
    ]

same_stop : (b p q : List ℕ) (v w : ℕ) → StopsAt b p v → StopsAt b q w → (p ≡ q) × (v ≡ w)
same_stop b p q v w (m, e, begins, ends) (n, d, starts, stops) =
    elim (meets p q v w m n (sym e ∙ d)) [
      | inl same ↦ same
      | inr (inl (t, k)) ↦ absurd (ends (Begins-front (p ++ v ∷ []) t (subst Begins k starts)))
      | inr (inr (t, k)) ↦ absurd (stops (Begins-front (q ++ w ∷ []) t (subst Begins k begins)))
    ]

not_whole : (b p : List ℕ) (v : ℕ) → StopsAt b p v → Begins b → ⊥
not_whole b p v (more, e, begins, ends) whole =
    ends (Begins-front (p ++ v ∷ []) more (subst Begins (e ∙ sym (append_assoc p (v ∷ []) more)) whole))

pub one_fault : (b : List ℕ) (f g : PathFault) → IsFault b f → IsFault b g → f ≡ g
one_fault b TooLong TooLong h k = refl
one_fault b TooLong Truncated h k = absurd (omega (arith, h, k.0))
one_fault b TooLong BadPad h k = absurd (omega (arith, h, k.0))
one_fault b TooLong (Reserved w) h k = absurd (omega (arith, h, k.0))
one_fault b Truncated TooLong h k = absurd (omega (arith, k, h.0))
one_fault b Truncated Truncated h k = refl
one_fault b Truncated BadPad h (len, (q, w, stops, due)) = absurd (not_whole b q w stops h.1)
one_fault b Truncated (Reserved w) h (len, (q, stops, due)) = absurd (not_whole b q w stops h.1)
one_fault b BadPad TooLong h k = absurd (omega (arith, k, h.0))
one_fault b BadPad Truncated (len, (p, v, stops, due)) k = absurd (not_whole b p v stops k.1)
one_fault b BadPad BadPad h k = refl
one_fault b BadPad (Reserved w) (len, (p, v, stops, due)) (n, (q, ends, other)) = absurd (other (subst IsPadDue (same_stop b p q v w stops ends).0 due))
one_fault b (Reserved v) TooLong h k = absurd (omega (arith, k, h.0))
one_fault b (Reserved v) Truncated (len, (p, stops, due)) k = absurd (not_whole b p v stops k.1)
one_fault b (Reserved v) BadPad (len, (p, stops, other)) (n, (q, w, ends, due)) =
    absurd (other (subst IsPadDue (sym (same_stop b p q v w stops ends).0) due))
one_fault b (Reserved v) (Reserved w) (len, (p, stops, due)) (n, (q, ends, other)) = ap (λ (z : ℕ). Reserved z) (same_stop b p q v w stops ends).1
one_fault b NoMemory g h k = absurd h
one_fault b TooLong NoMemory h k = absurd k
one_fault b Truncated NoMemory h k = absurd k
one_fault b BadPad NoMemory h k = absurd k
one_fault b (Reserved v) NoMemory h k = absurd k

-- a number of bytes is whole words
abbrev IsEven : ℕ → Type 0
IsEven n = (m : ℕ) × (n ≡ 2 * m)

padded_even : (n k : ℕ) → n + length (pad n) ≡ k → IsEven k
padded_even n k e =
    let P : List ℕ → Type 0 = λ z. n + length z ≡ k → IsEven k in
    cond_both (eqb (n % 2) 1) (0 ∷ []) [] P
    (λ odd d. let h : n % 2 ≡ 1 = eqb-true _ _ odd in (n / 2 + 1, omega arith))
    (λ even d. let h : n % 2 ≡ 1 → ⊥ = eqb-false _ _ even in (n / 2, omega arith)) e

word_two : (n : ℕ) (w : List ℕ) → IsWord n w → length w ≡ 2
word_two n w h = ap (λ (z : List ℕ). length z) h.5

narrow_even : (h n : ℕ) (x : List ℕ) → IsNarrow h n x → IsEven (length x)
narrow_even h n x f = (1, ap (λ (z : List ℕ). length z) f.1)

wide_even : (h n : ℕ) (x : List ℕ) → IsWide h n x → IsEven (length x)
wide_even h n x (w, d, e) = (2, ap (λ (z : List ℕ). length z) e ∙ ap (λ (k : ℕ). suc (suc k)) (word_two n w d))

long_even : (h n : ℕ) (x : List ℕ) → IsLong h n x → IsEven (length x)
long_even h n x (w, (low, high, u, v, iu, iv, d, parts), e) =
    let len : length w ≡ 4 = ap (λ (z : List ℕ). length z) parts ∙ length-append u v ∙ rw (word_two low u iu, word_two high v iv) refl in
    (3, ap (λ (z : List ℕ). length z) e ∙ ap (λ (k : ℕ). suc (suc k)) len)

class_even : (h n : ℕ) (x : List ℕ) → IsNarrow h n x ⊎ IsWide h n x → IsEven (length x)
class_even h n x (inl f) = narrow_even h n x f
class_even h n x (inr f) = wide_even h n x f

number_even : (h n : ℕ) (x : List ℕ) → IsNarrow h n x ⊎ (IsWide h n x ⊎ IsLong h n x) → IsEven (length x)
number_even h n x (inl f) = narrow_even h n x f
number_even h n x (inr (inl f)) = wide_even h n x f
number_even h n x (inr (inr f)) = long_even h n x f

port_even : (q : ℕ) (a x : List ℕ) → IsPort q a x → IsEven (length x)
port_even q a x (low, w, (pos, num), form) =
    let w_len : (length w ≡ 0) ⊎ (length w ≡ 2) = elim num [ inl f ↦ inl (ap (λ (z : List ℕ). length z) f.2) | inr f ↦ inr (word_two q w f.1) ] in
    let pads = padded_even (length a) (length a + length (pad (length a))) refl in
    elim form [
      | inl f ↦ (let len = plain_len low w a x f.1 in elim w_len [ inl z ↦ (1, omega (arith, f.0)) | inr z ↦ (2, omega (arith, f.0)) ])
      | inr f ↦ (let len = sized_len low w a x f.2 in
          elim w_len [ inl z ↦ (1 + pads.0, omega (arith, pads.1)) | inr z ↦ (2 + pads.0, omega (arith, pads.1)) ])
    ]

form_even : (g : Segment) (x : List ℕ) → IsForm x g → IsEven (length x)
form_even (Port q a) x f = port_even q a x f
form_even (Class n) x f = class_even 0x20 n x f
form_even (Instance n) x f = number_even 0x24 n x f
form_even (Member n) x f = class_even 0x28 n x f
form_even (Point n) x f = number_even 0x2C n x f
form_even (Attribute n) x f = class_even 0x30 n x f
form_even (Key k) x (v, t, p, hv, ht, hp, major, minor, e) =
    let len : length x ≡ 10 = ap (λ (z : List ℕ). length z) e ∙ rw (hv.5, ht.5, hp.5) refl in
    (5, len)
form_even (Words d) x (n, lt, len, e) = (n + 1, ap (λ (z : List ℕ). length z) e ∙ omega (arith, len))
form_even (Symbol d) x (lt, e) =
    let pads = padded_even (length d) (length d + length (pad (length d))) refl in
    let len : length x ≡ 2 + (length d + length (pad (length d))) = ap (λ (z : List ℕ). length z) e ∙ length-append (0x91 ∷ length d ∷ d) (pad (length d))
    ∙ omega arith in
    (1 + pads.0, omega (arith, pads.1))
form_even (Inhibit n) x f = narrow_even 0x43 n x f

spelled_even : (s : List Segment) (b : List ℕ) → Spells b s → IsEven (length b)
spelled_even [] b h = (0, ap (λ (z : List ℕ). length z) h)
spelled_even (g ∷ s) b (x, y, e, f, h) =
    let one = form_even g x f in
    let others = spelled_even s y h in
    let len : length b ≡ length x + length y = ap (λ (z : List ℕ). length z) e ∙ length-append x y in
    (one.0 + others.0, omega (arith, one.1, others.1))

-- a path is whole words
pub whole_words : (b : List ℕ) → IsReadable b → length b ≡ 2 * (length b / 2)
whole_words b h =
    ∥∥₁_elim h.1 (ℕ_set _ _) (λ r. let e = spelled_even r.0 b r.1 in omega (arith, e.1))
