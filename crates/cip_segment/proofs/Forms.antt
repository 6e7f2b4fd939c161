-- Each form of a segment is read as that segment, whatever follows it.
use Rattle.std.proofs.Common.{◌≡◌, ℕ, ◌+◌, ◌*◌, ◌-◌, ◌%◌, ◌<◌, ◌≤◌, true, false, ltb, eqb, inl, inr, List}
use Rattle.std.proofs.Common.{[], ◌∷◌, ◌++◌, length, Ok, refl, sym, ap, ◌∙◌, append_assoc, arith}
use Rattle.std.proofs.lemmas.Bool.{lt-ltb, le-ltb, ne_eqb, cases_Bool}
use Rattle.std.proofs.lemmas.List.{take_at, drop_at, length-append}
use Rattle.cip_segment.specs.declared.segment.Segment.{Segment}
use Rattle.cip_segment.specs.declared.segment.Segment.TheVariants.{Port, Class, Instance, Member, Point, Attribute, Key, Words, Symbol, Inhibit}
use Rattle.cip_segment.specs.declared.segment.Kind.{Kind}
use Rattle.cip_segment.specs.declared.segment.Kind.TheVariants as kinds
use Rattle.cip_segment.specs.Spelling.{IsPortNumber, IsForm}
use Rattle.cip_base.specs.Fields.{IsDouble, IsWord, pad}
use Rattle.cip_segment.specs.Scan.{At, word_at, bytes_at, padded_at, numbered, narrow_at, wide_at, double_at}
use Rattle.cip_segment.specs.Scan.{instance_at, point_at, fields_at, key_at, words_at, symbol_at, inhibit_at, number_at}
use Rattle.cip_segment.specs.Scan.{size_at, plain_port_at, sized_port_at, port_at, other_at, logical_at, segment_at}
use Rattle.cip_base.specs.declared.key.KeyFields.{KeyFields}

abbrev pub found : {A : Type 0} → A → List ℕ → At A
found a y = Ok (a, y)

pub word_scans : (n : ℕ) (w y : List ℕ) → IsWord n w → word_at (w ++ y) ≡ found n y
word_scans n w y h = rw h.5 (ap (λ (m : ℕ). found m y) (sym h.4))

pub double_scans : (n : ℕ) (w y : List ℕ) → IsDouble n w → double_at (w ++ y) ≡ found n y
unfolding double_at
double_scans n w y h =
    let low : word_at (h.2 ++ (h.3 ++ y)) ≡ found h.0 (h.3 ++ y) = word_scans h.0 h.2 (h.3 ++ y) h.4 in
    let high : word_at (h.3 ++ y) ≡ found h.1 y = word_scans h.1 h.3 y h.5 in
    rw (h.7, append_assoc h.2 h.3 y, low, high) (ap (λ (m : ℕ). found m y) (sym h.6))

pub bytes_scans : (n : ℕ) (d y : List ℕ) → length d ≡ n → bytes_at n (d ++ y) ≡ found d y
unfolding bytes_at
bytes_scans n d y e =
    let fits : ltb (length (d ++ y)) n ≡ false = le-ltb _ _ (omega (arith, length-append d y)) in
    rw (fits, take_at d y n e, drop_at d y n e) refl

pub padded_scans : (n : ℕ) (d y : List ℕ) → length d ≡ n → padded_at n (d ++ (pad n ++ y)) ≡ found d y
unfolding padded_at
padded_scans n d y e =
    rw (bytes_scans n d (pad n ++ y) e)
    (elim (cases_Bool (eqb (n % 2) 1)) [ inl odd ↦ rw odd refl | inr even ↦ rw even refl ])

pub low_range : (q low : ℕ) (w : List ℕ) → IsPortNumber q low w → (0 < low) × (low < 16)
low_range q low w (pos, inl h) = (omega (arith, h.1), omega (arith, h.0, h.1))
low_range q low w (pos, inr h) = (omega (arith, h.0), omega (arith, h.0))

pub number_scans : (q low : ℕ) (w y : List ℕ) → IsPortNumber q low w → number_at low (w ++ y) ≡ found q y
unfolding number_at
number_scans q low w y (pos, inl h) =
    let other : eqb low 15 ≡ false = ne_eqb low 15 (λ e. omega (arith, h.0, h.1)) in
    rw (other, h.2, h.1) refl
number_scans q low w y (pos, inr h) =
    let some : eqb q 0 ≡ false = ne_eqb q 0 (λ e. omega arith) in
    rw (h.0, word_scans q w y h.1, some) refl

pub narrow_scans : (k : Kind) (n : ℕ) (y : List ℕ) → narrow_at k (n ∷ y) ≡ found (numbered k n) y
unfolding narrow_at
narrow_scans k n y = refl

pub wide_scans : (k : Kind) (n : ℕ) (w y : List ℕ) → IsWord n w → wide_at k (0 ∷ (w ++ y)) ≡ found (numbered k n) y
unfolding wide_at
wide_scans k n w y h = rw (word_scans n w y h) refl

pub plain_port_scans : (q : ℕ) (a : List ℕ) (low : ℕ) (w y : List ℕ) → IsPortNumber q low w → length a ≡ 1
    → segment_at (low ∷ (w ++ (a ++ y))) ≡ found (Port q a) y
unfolding segment_at port_at plain_port_at
plain_port_scans q a low w y num one =
    let range = low_range q low w num in
    let logical : ltb low 32 ≡ true = lt-ltb _ _ (omega (arith, range)) in
    let nonzero : eqb (low % 16) 0 ≡ false = ne_eqb _ _ (λ e. omega (arith, range)) in
    let plain : ltb low 16 ≡ true = lt-ltb _ _ (omega (arith, range)) in
    rw (logical, nonzero, plain, number_scans q low w (a ++ y) num, bytes_scans 1 a y one) refl

pub size_scans : (n : ℕ) (y : List ℕ) → 1 ≤ n → n ≤ 16 → size_at (n ∷ y) ≡ found n y
unfolding size_at
size_scans n y least most =
    let nonzero : eqb n 0 ≡ false = ne_eqb n 0 (λ e. omega arith) in
    let small : ltb 16 n ≡ false = le-ltb _ _ most in
    rw (nonzero, small) refl

pub sized_port_scans : (q : ℕ) (a : List ℕ) (low : ℕ) (w y : List ℕ) → IsPortNumber q low w → 1 ≤ length a → length a ≤ 16
    → segment_at ((16 + low) ∷ (length a ∷ (w ++ (a ++ (pad (length a) ++ y))))) ≡ found (Port q a) y
unfolding segment_at port_at sized_port_at
sized_port_scans q a low w y num least most =
    let range = low_range q low w num in
    let logical : ltb (16 + low) 32 ≡ true = lt-ltb _ _ (omega (arith, range)) in
    let nonzero : eqb ((16 + low) % 16) 0 ≡ false = ne_eqb _ _ (λ e. omega (arith, range)) in
    let sized : ltb (16 + low) 16 ≡ false = le-ltb _ _ (omega arith) in
    let back : 16 + low - 16 ≡ low = omega arith in
    rw (
      logical,
      nonzero,
      sized,
      size_scans (length a) (w ++ (a ++ (pad (length a) ++ y))) least most,
      back,
      number_scans q low w (a ++ (pad (length a) ++ y)) num,
      padded_scans (length a) a y refl,
    ) refl

pub fields_scan : (k : KeyFields) (v t p y : List ℕ) → IsWord k.vendor v → IsWord k.device_type t → IsWord k.product p
    → fields_at (v ++ (t ++ (p ++ (k.major ∷ k.minor ∷ y)))) ≡ found k y
unfolding fields_at
fields_scan k v t p y hv ht hp =
    rw (
      word_scans k.vendor v (t ++ (p ++ (k.major ∷ k.minor ∷ y))) hv,
      word_scans k.device_type t (p ++ (k.major ∷ k.minor ∷ y)) ht,
      word_scans k.product p (k.major ∷ k.minor ∷ y) hp,
    ) refl

pub key_scans : (k : KeyFields) (v t p y : List ℕ) → IsWord k.vendor v → IsWord k.device_type t → IsWord k.product p
    → segment_at (0x34 ∷ (0x04 ∷ (v ++ (t ++ (p ++ (k.major ∷ k.minor ∷ y)))))) ≡ found (Key k) y
unfolding segment_at logical_at other_at key_at
key_scans k v t p y hv ht hp = rw (fields_scan k v t p y hv ht hp) refl

pub symbol_scans : (d y : List ℕ) → segment_at (0x91 ∷ (length d ∷ (d ++ (pad (length d) ++ y)))) ≡ found (Symbol d) y
unfolding segment_at logical_at other_at symbol_at
symbol_scans d y = rw (padded_scans (length d) d y refl) refl

pub form_scans : (g : Segment) (x y : List ℕ) → IsForm x g → segment_at (x ++ y) ≡ found g y
unfolding segment_at logical_at other_at instance_at point_at key_at words_at symbol_at inhibit_at
form_scans (Port q a) x y (low, w, num, inl h) =
    ap segment_at (ap (λ (t : List ℕ). t ++ y) h.1 ∙ append_assoc (low ∷ w) a y) ∙ plain_port_scans q a low w y num h.0
form_scans (Port q a) x y (low, w, num, inr h) =
    ap segment_at (ap (λ (t : List ℕ). t ++ y) h.2 ∙ append_assoc (((16 + low) ∷ length a ∷ w) ++ a) (pad (length a)) y
    ∙ append_assoc ((16 + low) ∷ length a ∷ w) a (pad (length a) ++ y))
    ∙ sized_port_scans q a low w y num h.0 h.1
form_scans (Class n) x y (inl h) = rw h.1 (narrow_scans kinds.Class n y)
form_scans (Class n) x y (inr h) = rw h.2 (wide_scans kinds.Class n h.0 y h.1)
form_scans (Instance n) x y (inl h) = rw h.1 (narrow_scans kinds.Instance n y)
form_scans (Instance n) x y (inr (inl h)) = rw h.2 (wide_scans kinds.Instance n h.0 y h.1)
form_scans (Instance n) x y (inr (inr h)) = rw (h.2, double_scans n h.0 y h.1) refl
form_scans (Member n) x y (inl h) = rw h.1 (narrow_scans kinds.Member n y)
form_scans (Member n) x y (inr h) = rw h.2 (wide_scans kinds.Member n h.0 y h.1)
form_scans (Point n) x y (inl h) = rw h.1 (narrow_scans kinds.Point n y)
form_scans (Point n) x y (inr (inl h)) = rw h.2 (wide_scans kinds.Point n h.0 y h.1)
form_scans (Point n) x y (inr (inr h)) = rw (h.2, double_scans n h.0 y h.1) refl
form_scans (Attribute n) x y (inl h) = rw h.1 (narrow_scans kinds.Attribute n y)
form_scans (Attribute n) x y (inr h) = rw h.2 (wide_scans kinds.Attribute n h.0 y h.1)
form_scans (Key k) x y h =
    ap segment_at (ap (λ (t : List ℕ). t ++ y) h.8 ∙ append_assoc (((0x34 ∷ 0x04 ∷ h.0) ++ h.1) ++ h.2) (k.major ∷ k.minor ∷ []) y
    ∙ append_assoc ((0x34 ∷ 0x04 ∷ h.0) ++ h.1) h.2 (k.major ∷ k.minor ∷ y) ∙ append_assoc (0x34 ∷ 0x04 ∷ h.0) h.1 (h.2 ++ (k.major ∷ k.minor ∷ y)))
    ∙ key_scans k h.0 h.1 h.2 y h.3 h.4 h.5
form_scans (Words d) x y h = rw (h.3, bytes_scans (2 * h.0) d y h.2) refl
form_scans (Symbol d) x y h =
    ap segment_at (ap (λ (t : List ℕ). t ++ y) h.1 ∙ append_assoc (0x91 ∷ length d ∷ d) (pad (length d)) y) ∙ symbol_scans d y
form_scans (Inhibit n) x y h = rw h.1 refl
