-- The shortest forms are forms.
use Rattle.std.proofs.Common.{◌≡◌, ℕ, zero, suc, ◌+◌, ◌/◌, ◌%◌, ◌<◌, ◌≤◌, true, cond, ltb, eqb, ◌⊎◌, inl, inr, List, []}
use Rattle.std.proofs.Common.{◌∷◌, ◌++◌, length, get_or, take, refl, sym, ap, subst, ◌∙◌, append-nil, arith}
use Rattle.std.specs.Prelude.{All}
use Rattle.std.proofs.lemmas.Bool.{ltb-true, eqb-true, cond_both, lt-ltb}
use Rattle.std.proofs.lemmas.List.{take_more}
use Rattle.std.proofs.lemmas.List.Elements.{All-append}
use Rattle.std.proofs.lemmas.Grind.{flat_map-append}
use Rattle.cip_segment.specs.declared.segment.Segment.{Segment}
use Rattle.cip_segment.specs.declared.segment.Segment.TheVariants.{Port, Class, Instance, Member, Point, Attribute, Key, Words, Symbol, Inhibit}
use Rattle.cip_segment.specs.Spelling.{IsNarrow, IsWide, IsLong, IsPort, IsPortNumber, IsForm, Spells, IsReadable}
use Rattle.cip_base.specs.Fields.{IsWord, pad, word}
use Rattle.cip_segment.specs.Short.{short_number, short_port, short_form, short, IsWritable, IsRanged}

pub short_more : (s : List Segment) (i : ℕ) (g : Segment) → i < length s → g ≡ get_or s i g → short (take (i + 1) s) ≡ short (take i s) ++ short_form g
short_more s i g lt e =
    ap (λ (t : List Segment). short t) (take_more s i g lt ∙ ap (λ (k : Segment). take i s ++ k ∷ []) (sym e))
    ∙ flat_map-append short_form (take i s) (g ∷ []) ∙ ap (λ (b : List ℕ). short (take i s) ++ b) (append-nil (short_form g))

one_all : (P : Segment → Type 0) (g : Segment) → P g → All P (g ∷ [])
one_all P g h zero d lt = h
one_all P g h (suc k) d lt = absurd (omega arith)

pub all_more : (P : Segment → Type 0) (s : List Segment) (i : ℕ) (g : Segment) → i < length s → g ≡ get_or s i g → All P (take i s) → P g
    → All P (take (i + 1) s)
all_more P s i g lt e all here =
    subst (λ (t : List Segment). All P t) (sym (take_more s i g lt ∙ ap (λ (k : Segment). take i s ++ k ∷ []) (sym e)))
    (All-append P (take i s) (g ∷ []) all (one_all P g here))

word_of : (n : ℕ) → n < 65536 → IsWord n (word n)
word_of n lt = (n % 256, n / 256, omega arith, omega arith, omega arith, refl)

short_class : (h n : ℕ) → n < 65536 → IsNarrow h n (short_number h n) ⊎ IsWide h n (short_number h n)
short_class h n lt =
    cond_both (ltb n 256) (h ∷ n ∷ []) (cond (ltb n 65536) ((h + 1) ∷ 0 ∷ word n) ((h + 2) ∷ 0 ∷ word (n % 65536) ++ word (n / 65536)))
    (λ z. IsNarrow h n z ⊎ IsWide h n z)
    (λ e. inl (ltb-true _ _ e, refl))
    (λ e. let two : ltb n 65536 ≡ true = lt-ltb _ _ lt in inr (word n, word_of n lt, rw two refl))

short_long : (h n : ℕ) → n < 4294967296 → IsNarrow h n (short_number h n) ⊎ (IsWide h n (short_number h n) ⊎ IsLong h n (short_number h n))
short_long h n lt =
    cond_both (ltb n 256) (h ∷ n ∷ []) (cond (ltb n 65536) ((h + 1) ∷ 0 ∷ word n) ((h + 2) ∷ 0 ∷ word (n % 65536) ++ word (n / 65536)))
    (λ z. IsNarrow h n z ⊎ (IsWide h n z ⊎ IsLong h n z))
    (λ e. inl (ltb-true _ _ e, refl))
    (λ e. cond_both (ltb n 65536) ((h + 1) ∷ 0 ∷ word n) ((h + 2) ∷ 0 ∷ word (n % 65536) ++ word (n / 65536))
    (λ z. IsNarrow h n z ⊎ (IsWide h n z ⊎ IsLong h n z))
    (λ d. inr (inl (word n, word_of n (ltb-true _ _ d), refl)))
    (λ d. inr
    (inr (
      word (n % 65536) ++ word (n / 65536),
      (n % 65536, n / 65536, word (n % 65536), word (n / 65536), word_of _ (omega arith), word_of _ (omega arith), omega arith, refl),
      refl,
    ))))

short_port_form : (q low : ℕ) (w a : List ℕ) → IsPortNumber q low w → 1 ≤ length a → length a ≤ 16 → IsPort q a (short_port low w a)
short_port_form q low w a num least most =
    cond_both (eqb (length a) 1) (low ∷ w ++ a) ((16 + low) ∷ length a ∷ w ++ a ++ pad (length a)) (λ z. IsPort q a z)
    (λ e. (low, w, num, inl (eqb-true _ _ e, refl)))
    (λ e. (low, w, num, inr (least, most, refl)))

pub form_of : (g : Segment) → IsRanged g → IsWritable g → IsForm (short_form g) g
form_of (Port q a) (pos, small, least, most) w =
    cond_both (ltb q 15) (short_port q [] a) (short_port 15 (word q) a) (λ z. IsPort q a z)
    (λ e. short_port_form q q [] a (omega arith, inl (ltb-true _ _ e, refl, refl)) least most)
    (λ e. short_port_form q 15 (word q) a (omega arith, inr (refl, word_of q small)) least most)
form_of (Class n) r w = short_class 0x20 n r
form_of (Instance n) r w = short_long 0x24 n r
form_of (Member n) r w = short_class 0x28 n r
form_of (Point n) r w = short_long 0x2C n r
form_of (Attribute n) r w = short_class 0x30 n r
form_of (Key k) r w =
    (word k.vendor, word k.device_type, word k.product, word_of k.vendor r.0, word_of k.device_type r.1, word_of k.product r.2, r.3, r.4, refl)
form_of (Words d) r w = (length d / 2, omega (arith, w), omega (arith, w), refl)
form_of (Symbol d) r w = (omega (arith, w), refl)
form_of (Inhibit n) r w = (r, refl)

pub short_spells : (s : List Segment) → All IsRanged s → All IsWritable s → Spells (short s) s
short_spells [] r w = refl
short_spells (g ∷ s) r w = (
  short_form g,
  short s,
  refl,
  form_of g (r 0 g (omega arith)) (w 0 g (omega arith)),
  short_spells s (λ k d lt. r (suc k) d (omega arith)) (λ k d lt. w (suc k) d (omega arith)),
)

pub short_readable : (b : List ℕ) (s : List Segment) → b ≡ short s → length b ≤ 510 → All IsRanged s → All IsWritable s → IsReadable b
short_readable b s e len r w = (len, ∣ (s, subst (λ (z : List ℕ). Spells z s) (sym e) (short_spells s r w)) ∣₁)

-- what is spelled can be written
form_writable : (g : Segment) (x : List ℕ) → IsForm x g → IsWritable g
form_writable (Port q a) x f = tt
form_writable (Class n) x f = tt
form_writable (Instance n) x f = tt
form_writable (Member n) x f = tt
form_writable (Point n) x f = tt
form_writable (Attribute n) x f = tt
form_writable (Key k) x f = tt
form_writable (Words d) x (n, small, len, e) = (omega arith, omega arith)
form_writable (Symbol d) x (small, e) = omega arith
form_writable (Inhibit n) x f = tt

pub spelled_writable : (s : List Segment) (b : List ℕ) → Spells b s → All IsWritable s
spelled_writable [] b h k d lt = absurd (omega arith)
spelled_writable (g ∷ s) b (x, y, e, f, h) zero d lt = form_writable g x f
spelled_writable (g ∷ s) b (x, y, e, f, h) (suc k) d lt = spelled_writable s y h k d (omega arith)
