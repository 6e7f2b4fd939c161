-- Bytes that are shorter or longer than their layout wants are cut off or overlong.
use Rattle.std.proofs.Common.{◌≡◌, ℕ, zero, suc, ◌+◌, ◌-◌, ◌*◌, ◌<◌, List, [], ◌∷◌, ◌++◌, length, take, drop, get_or, refl, sym, ap, ◌∙◌, arith, inl, inr}
use Rattle.std.specs.Prelude.{replicate}
use Rattle.std.proofs.lemmas.Bool.{cases_lt}
use Rattle.std.proofs.lemmas.List.{get_or-take, length-append, length-take-le, length-drop, length-replicate, take-append-drop}
use Rattle.cip_base.specs.Fields.{IsBytes}
use Rattle.cip_message.specs.Numbers.{word_in}
use Rattle.cip_message.specs.Cut.{IsCutOff, IsOverlong}
use Rattle.cip_message.specs.Counted.{whole_length}
use Rattle.cip_message.proofs.Readers.{IsBytes-take}

-- 0 stands past the end, so zeros behind the bytes change none
pub zeros_index : (b : List ℕ) (k i : ℕ) → get_or (b ++ replicate k 0) i 0 ≡ get_or b i 0
zeros_index [] zero i = refl
zeros_index [] (suc k) zero = refl
zeros_index [] (suc k) (suc i) = zeros_index [] k i ∙ nothing i
  where
    nothing : (i : ℕ) → get_or {A = ℕ} [] i 0 ≡ 0
    nothing zero = refl
    nothing (suc i) = refl
zeros_index (x ∷ b) k zero = refl
zeros_index (x ∷ b) k (suc i) = zeros_index b k i

zeros_bytes : (b : List ℕ) (k : ℕ) → IsBytes b → IsBytes (b ++ replicate k 0)
zeros_bytes b k fits i = rw (zeros_index b k i) (fits i)

-- `whole` says how long bytes with the layout are, by the bytes themselves
pub cut_off : (H : List ℕ → Type 0) (whole : List ℕ → ℕ) → ((c : List ℕ) → IsBytes c → length c ≡ whole c → H c)
    → ((b : List ℕ) (k : ℕ) → whole (b ++ replicate k 0) ≡ whole b)
    → (b : List ℕ) → IsBytes b → length b < whole b → IsCutOff H b
cut_off H whole has same b fits short =
    let k : ℕ = whole b - length b in
    let zeros : List ℕ = replicate k 0 in
    let len : length zeros ≡ k = length-replicate {A = ℕ} k 0 in
    let whole_is : length (b ++ zeros) ≡ whole b = omega (arith, length-append b zeros, len) in
    (zeros, omega (arith, len), has (b ++ zeros) (zeros_bytes b k fits) (whole_is ∙ sym (same b k)))

pub overlong : (H : List ℕ → Type 0) (whole : List ℕ → ℕ) → ((c : List ℕ) → IsBytes c → length c ≡ whole c → H c)
    → ((b : List ℕ) → whole b < length b → whole (take (whole b) b) ≡ whole b)
    → (b : List ℕ) → IsBytes b → whole b < length b → IsOverlong H b
overlong H whole has same b fits long =
    let front : length (take (whole b) b) ≡ whole b = length-take-le (whole b) b (omega arith) in
    let rest : 0 < length (drop (whole b) b) = omega (arith, length-drop (whole b) b) in (
      take (whole b) b,
      drop (whole b) b,
      rest,
      sym (take-append-drop (whole b) b),
      has (take (whole b) b) (IsBytes-take (whole b) b fits) (front ∙ sym (same b long)),
    )

-- where the size stands at a place of its own
pub whole-zeros : (size start : ℕ) (b : List ℕ) (k : ℕ) → whole_length size start (b ++ replicate k 0) ≡ whole_length size start b
whole-zeros size start b k = ap (λ (n : ℕ). start + 2 * n) (zeros_index b k size)

pub whole-take : (size start : ℕ) (b : List ℕ) → size < start → whole_length size start (take (whole_length size start b) b) ≡ whole_length size start b
whole-take size start b lt = ap (λ (n : ℕ). start + 2 * n) (get_or-take (whole_length size start b) b size 0 (omega arith))

pub word_in-zeros : (b : List ℕ) (k i : ℕ) → word_in (b ++ replicate k 0) i ≡ word_in b i
word_in-zeros b k i = rw (zeros_index b k i, zeros_index b k (i + 1)) refl

pub word_in-take : (n : ℕ) (b : List ℕ) (i : ℕ) → i + 1 < n → word_in (take n b) i ≡ word_in b i
word_in-take n b i lt = rw (get_or-take n b i 0 (omega arith), get_or-take n b (i + 1) 0 lt) refl

pub index_front : (xs ys : List ℕ) (i : ℕ) → i < length xs → get_or (xs ++ ys) i 0 ≡ get_or xs i 0
index_front [] ys i lt = absurd (omega arith)
index_front (x ∷ xs) ys zero lt = refl
index_front (x ∷ xs) ys (suc i) lt = index_front xs ys i (omega arith)

-- and the other way round: what is cut off is shorter than its size byte says, and what is overlong is longer
pub cut_short : (H : List ℕ → Type 0) (size start : ℕ) → size < start → ((c : List ℕ) → H c → length c ≡ whole_length size start c)
    → (b : List ℕ) → IsCutOff H b → length b < whole_length size start b
cut_short H size start lt len b (more, some, h) =
    let both : length (b ++ more) ≡ whole_length size start (b ++ more) = len (b ++ more) h in
    elim (cases_lt size (length b)) [
      | inl within ↦ (let same = index_front b more size within in omega (arith, both, length-append b more, same))
      | inr beyond ↦ omega (arith, beyond)
    ]

pub over_long : (H : List ℕ → Type 0) (size start : ℕ) → size < start → ((c : List ℕ) → H c → length c ≡ whole_length size start c)
    → (b : List ℕ) → IsOverlong H b → whole_length size start b < length b
over_long H size start lt len b (front, more, some, e, h) =
    let front_len : length front ≡ whole_length size start front = len front h in
    let same : get_or b size 0 ≡ get_or front size 0 = ap (λ (z : List ℕ). get_or z size 0) e ∙ index_front front more size (omega (arith, front_len)) in
    let long : length b ≡ length front + length more = ap (λ (z : List ℕ). length z) e ∙ length-append front more in
    omega (arith, front_len, same, long)
