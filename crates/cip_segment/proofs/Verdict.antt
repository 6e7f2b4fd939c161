-- What reading the first segment says of the text: the form that stands there, or the byte where no form goes on.
use Rattle.std.proofs.Common.{◌≡◌, ℕ, suc, ◌+◌, ◌*◌, ◌-◌, ◌%◌, ◌<◌, ◌≤◌, Bool, true, false, cond, ltb, eqb, inl, inr, List, [], ◌∷◌}
use Rattle.std.proofs.Common.{◌++◌, length, take, drop, Ok, Err, refl, sym, ap, subst, ◌∙◌, append_assoc, append-nil, arith}
use Rattle.std.specs.Prelude.{replicate}
use Rattle.std.proofs.lemmas.Bool.{lt-ltb, le-ltb, ne_eqb, eqb-true, eqb-false, ltb-true, ltb-false, cond_both, cases_lt}
use Rattle.std.proofs.lemmas.List.{length-append, length-take-le, length-replicate, take-append-drop}
use Rattle.cip_segment.specs.declared.segment.Segment.{Segment}
use Rattle.cip_segment.specs.declared.segment.Segment.TheVariants.{Port, Instance, Point, Key, Words, Symbol, Inhibit}
use Rattle.cip_segment.specs.declared.segment.Kind.{Kind}
use Rattle.cip_segment.specs.declared.segment.Kind.TheVariants as kinds
use Rattle.cip_segment.specs.declared.fault.PathFault.{PathFault}
use Rattle.cip_segment.specs.declared.fault.PathFault.TheVariants.{Truncated, Reserved, BadPad, TooLong, NoMemory}
use Rattle.cip_segment.specs.Spelling.{IsPortNumber, IsForm}
use Rattle.cip_base.specs.Fields.{IsBytes, IsDouble, IsWord, pad}
use Rattle.cip_segment.specs.Scan.{◌>>=◌, At, byte_at, word_at, after_pad, bytes_at, padded_at, numbered, narrow_at, wide_at}
use Rattle.cip_segment.specs.Scan.{double_at, instance_at, point_at, fields_at, key_at, words_at, symbol_at, inhibit_at}
use Rattle.cip_segment.specs.Scan.{number_at, size_at, plain_port_at, sized_port_at, port_at, other_at, logical_at, segment_at}
use Rattle.cip_segment.proofs.Forms.{found, bytes_scans}

-- some form begins with b
abbrev pub FormBegins : List ℕ → Type 0
FormBegins b = (g : Segment) × (x : List ℕ) × (y : List ℕ) × IsForm x g × (x ≡ b ++ y)

-- no text that begins with p and then v is read
abbrev pub Refuses : List ℕ → ℕ → Type 0
Refuses p v = (y : List ℕ) → (f : PathFault) × (segment_at (p ++ v ∷ y) ≡ Err f)

abbrev pub Stops : List ℕ → PathFault → Type 0
Stops b Truncated = FormBegins b
Stops b (Reserved v) = (p : List ℕ) × (more : List ℕ) × (w : ℕ) × (b ≡ p ++ v ∷ more) × FormBegins (p ++ w ∷ []) × (w ≡ 0 → ⊥) × Refuses p v
Stops b BadPad = (p : List ℕ) × (more : List ℕ) × (v : ℕ) × (b ≡ p ++ v ∷ more) × FormBegins (p ++ 0 ∷ []) × (v ≡ 0 → ⊥)
    × ((w : ℕ) → (w ≡ 0 → ⊥) → Refuses p w)
Stops b TooLong = ⊥
Stops b NoMemory = ⊥

abbrev pub Verdict : List ℕ → At Segment → Type 0
Verdict b (Ok r) = (x : List ℕ) × IsForm x r.0 × (b ≡ x ++ r.1)
Verdict b (Err f) = Stops b f

pub FormBegins-front : (p q : List ℕ) → FormBegins (p ++ q) → FormBegins p
FormBegins-front p q h = (h.0, h.1, q ++ h.2, h.3, h.4 ∙ append_assoc p q h.2)

IsBytes-rest : (n : ℕ) (b : List ℕ) → IsBytes (n ∷ b) → IsBytes b
IsBytes-rest n b h i = h (suc i)

-- ---- one byte

byte_verdict : (g : ℕ → Segment) (h : ℕ) → ((n : ℕ) → n < 256 → IsForm (h ∷ n ∷ []) (g n)) → (r : List ℕ) → IsBytes r
    → Verdict (h ∷ r) (byte_at r >>= λ n. Ok (g n.0, n.1))
byte_verdict g h forms [] fits = (g 0, h ∷ 0 ∷ [], 0 ∷ [], forms 0 (omega arith), refl)
byte_verdict g h forms (n ∷ r) fits = (h ∷ n ∷ [], forms n (fits 0), refl)

-- ---- a pad, and two bytes or four

word_verdict : (g : ℕ → Segment) (h : ℕ) → ((lo hi : ℕ) → lo < 256 → hi < 256 → IsForm (h ∷ 0 ∷ lo ∷ hi ∷ []) (g (lo + 256 * hi))) → (r : List ℕ)
    → IsBytes r → Verdict (h ∷ 0 ∷ r) (word_at r >>= λ n. Ok (g n.0, n.1))
word_verdict g h forms [] fits = (g (0 + 256 * 0), h ∷ 0 ∷ 0 ∷ 0 ∷ [], 0 ∷ 0 ∷ [], forms 0 0 (omega arith) (omega arith), refl)
word_verdict g h forms (lo ∷ []) fits = (g (lo + 256 * 0), h ∷ 0 ∷ lo ∷ 0 ∷ [], 0 ∷ [], forms lo 0 (fits 0) (omega arith), refl)
word_verdict g h forms (lo ∷ hi ∷ r) fits = (h ∷ 0 ∷ lo ∷ hi ∷ [], forms lo hi (fits 0) (fits 1), refl)

-- the pad, and what follows it
after_pad_verdict : (h : ℕ) (k : List ℕ → At Segment) → FormBegins (h ∷ 0 ∷ []) → ((y : List ℕ) → segment_at (h ∷ y) ≡ (after_pad y >>= k))
    → ((r : List ℕ) → IsBytes r → Verdict (h ∷ 0 ∷ r) (k r)) → (r : List ℕ) → IsBytes r → Verdict (h ∷ r) (after_pad r >>= k)
after_pad_verdict h k begins scans rest [] fits = FormBegins-front (h ∷ []) (0 ∷ []) begins
after_pad_verdict h k begins scans rest (p ∷ r) fits =
    cond_both (eqb p 0) (Ok r) (Err BadPad) (λ z. Verdict (h ∷ p ∷ r) (z >>= k))
    (λ e. subst (λ (q : ℕ). Verdict (h ∷ q ∷ r) (k r)) (sym (eqb-true p 0 e)) (rest r (IsBytes-rest p r fits)))
    (λ e. (h ∷ [], r, p, refl, begins, eqb-false p 0 e, λ w other y. (BadPad, scans (w ∷ y) ∙ rw (ne_eqb w 0 other) refl)))

double_verdict : (g : ℕ → Segment) (h : ℕ)
    → ((a b c d : ℕ) → a < 256 → b < 256 → c < 256 → d < 256 → IsForm (h ∷ 0 ∷ a ∷ b ∷ c ∷ d ∷ []) (g ((a + 256 * b) + 65536 * (c + 256 * d))))
    → (r : List ℕ) → IsBytes r → Verdict (h ∷ 0 ∷ r) (double_at r >>= λ n. Ok (g n.0, n.1))
unfolding double_at
double_verdict g h forms [] fits = (
  g ((0 + 256 * 0) + 65536 * (0 + 256 * 0)),
  h ∷ 0 ∷ 0 ∷ 0 ∷ 0 ∷ 0 ∷ [],
  0 ∷ 0 ∷ 0 ∷ 0 ∷ [],
  forms 0 0 0 0 (omega arith) (omega arith) (omega arith) (omega arith),
  refl,
)
double_verdict g h forms (a ∷ []) fits = (
  g ((a + 256 * 0) + 65536 * (0 + 256 * 0)),
  h ∷ 0 ∷ a ∷ 0 ∷ 0 ∷ 0 ∷ [],
  0 ∷ 0 ∷ 0 ∷ [],
  forms a 0 0 0 (fits 0) (omega arith) (omega arith) (omega arith),
  refl,
)
double_verdict g h forms (a ∷ b ∷ []) fits =
    (g ((a + 256 * b) + 65536 * (0 + 256 * 0)), h ∷ 0 ∷ a ∷ b ∷ 0 ∷ 0 ∷ [], 0 ∷ 0 ∷ [], forms a b 0 0 (fits 0) (fits 1) (omega arith) (omega arith), refl)
double_verdict g h forms (a ∷ b ∷ c ∷ []) fits =
    (g ((a + 256 * b) + 65536 * (c + 256 * 0)), h ∷ 0 ∷ a ∷ b ∷ c ∷ 0 ∷ [], 0 ∷ [], forms a b c 0 (fits 0) (fits 1) (fits 2) (omega arith), refl)
double_verdict g h forms (a ∷ b ∷ c ∷ d ∷ r) fits = (h ∷ 0 ∷ a ∷ b ∷ c ∷ d ∷ [], forms a b c d (fits 0) (fits 1) (fits 2) (fits 3), refl)

pub word : (lo hi : ℕ) → lo < 256 → hi < 256 → IsWord (lo + 256 * hi) (lo ∷ hi ∷ [])
word lo hi p q = (lo, hi, p, q, refl, refl)

pub double : (a b c d : ℕ) → a < 256 → b < 256 → c < 256 → d < 256 → IsDouble ((a + 256 * b) + 65536 * (c + 256 * d)) (a ∷ b ∷ c ∷ d ∷ [])
double a b c d pa pb pc pd = (a + 256 * b, c + 256 * d, a ∷ b ∷ [], c ∷ d ∷ [], word a b pa pb, word c d pc pd, refl, refl)

-- ---- counted bytes

bytes_verdict : (n : ℕ) (g : List ℕ → Segment) (front : List ℕ) → ((d : List ℕ) → length d ≡ n → IsForm (front ++ d) (g d)) → (r : List ℕ)
    → Verdict (front ++ r) (bytes_at n r >>= λ d. Ok (g d.0, d.1))
unfolding bytes_at
bytes_verdict n g front forms r =
    cond_both (ltb (length r) n) (Err Truncated) (Ok (take n r, drop n r)) (λ z. Verdict (front ++ r) (z >>= λ d. Ok (g d.0, d.1)))
    (λ e. let short : length r < n = ltb-true _ _ e in
    let zeros : List ℕ = replicate (n - length r) 0 in
    let len : length (r ++ zeros) ≡ n = omega (arith, length-append r zeros, length-replicate {A = ℕ} (n - length r) 0) in
    (g (r ++ zeros), front ++ (r ++ zeros), zeros, forms (r ++ zeros) len, sym (append_assoc front r zeros)))
    (λ e. let enough : n ≤ length r = ltb-false _ _ e in (
      front ++ take n r,
      forms (take n r) (length-take-le n r enough),
      ap (λ (t : List ℕ). front ++ t) (sym (take-append-drop n r))
          ∙ sym (append_assoc front (take n r) (drop n r)),
    ))

-- the pad after n bytes, where they are there
tail_verdict : (n : ℕ) (g : List ℕ → Segment) (front : List ℕ) → ((d : List ℕ) → length d ≡ n → IsForm (front ++ (d ++ pad n)) (g d))
    → ((y : List ℕ) → segment_at (front ++ y) ≡ (padded_at n y >>= λ d. Ok (g d.0, d.1))) → (d rest : List ℕ) → length d ≡ n → (odd : Bool)
    → eqb (n % 2) 1 ≡ odd
    → Verdict (front ++ (d ++ rest)) (cond odd (after_pad rest >>= λ t. found d t) (found d rest) >>= λ d. Ok (g d.0, d.1))
unfolding padded_at
tail_verdict n g front forms scans d rest len false e =
    let no_pad : pad n ≡ [] = rw e refl in
    let form : IsForm (front ++ d) (g d) =
    subst (λ (t : List ℕ). IsForm (front ++ t) (g d)) (ap (λ (t : List ℕ). d ++ t) no_pad ∙ append-nil d) (forms d len) in
    (front ++ d, form, sym (append_assoc front d rest))
tail_verdict n g front forms scans d [] len true e = (
  g d,
  front ++ (d ++ pad n),
  pad n,
  forms d len,
  ap (λ (t : List ℕ). front ++ (t ++ pad n)) (sym (append-nil d))
      ∙ sym (append_assoc front (d ++ []) (pad n)),
)
tail_verdict n g front forms scans d (p ∷ rest) len true e =
    let one_pad : pad n ≡ 0 ∷ [] = rw e refl in
    let form : IsForm (front ++ (d ++ 0 ∷ [])) (g d) = subst (λ (t : List ℕ). IsForm (front ++ (d ++ t)) (g d)) one_pad (forms d len) in
    cond_both (eqb p 0) (Ok rest) (Err BadPad) (λ z. Verdict (front ++ (d ++ p ∷ rest)) ((z >>= λ t. found d t) >>= λ d. Ok (g d.0, d.1)))
    (λ zero_is. subst (λ (q : ℕ). Verdict (front ++ (d ++ q ∷ rest)) (Ok (g d, rest))) (sym (eqb-true p 0 zero_is))
    (front ++ (d ++ 0 ∷ []), form, ap (λ (t : List ℕ). front ++ t) (sym (append_assoc d (0 ∷ []) rest)) ∙ sym (append_assoc front (d ++ 0 ∷ []) rest)))
    (λ other. (
      front ++ d,
      rest,
      p,
      sym (append_assoc front d (p ∷ rest)),
      (g d, front ++ (d ++ 0 ∷ []), [], form, sym (append_assoc front d (0 ∷ [])) ∙ sym (append-nil ((front ++ d) ++ 0 ∷ []))),
      eqb-false p 0 other,
      λ w not_zero y. (
        BadPad,
        ap segment_at (append_assoc front d (w ∷ y)) ∙ scans (d ++ w ∷ y)
            ∙ rw (bytes_scans n d (w ∷ y) len, e, ne_eqb w 0 not_zero) refl,
      ),
    ))

padded_verdict : (n : ℕ) (g : List ℕ → Segment) (front : List ℕ) → ((d : List ℕ) → length d ≡ n → IsForm (front ++ (d ++ pad n)) (g d))
    → ((y : List ℕ) → segment_at (front ++ y) ≡ (padded_at n y >>= λ d. Ok (g d.0, d.1))) → (r : List ℕ)
    → Verdict (front ++ r) (padded_at n r >>= λ d. Ok (g d.0, d.1))
unfolding padded_at bytes_at
padded_verdict n g front forms scans r =
    cond_both (ltb (length r) n) (Err Truncated) (found (take n r) (drop n r))
    (λ z. Verdict (front ++ r) ((z >>= λ d. cond (eqb (n % 2) 1) (after_pad d.1 >>= λ t. found d.0 t) (Ok d)) >>= λ d. Ok (g d.0, d.1)))
    (λ e. let short : length r < n = ltb-true _ _ e in
    let zeros : List ℕ = replicate (n - length r) 0 in
    let len : length (r ++ zeros) ≡ n = omega (arith, length-append r zeros, length-replicate {A = ℕ} (n - length r) 0) in (
      g (r ++ zeros),
      front ++ ((r ++ zeros) ++ pad n),
      zeros ++ pad n,
      forms (r ++ zeros) len,
      ap (λ (t : List ℕ). front ++ t) (append_assoc r zeros (pad n)) ∙ sym (append_assoc front r (zeros ++ pad n)),
    ))
    (λ e. let enough : n ≤ length r = ltb-false _ _ e in
    subst (λ (t : List ℕ). Verdict (front ++ t)
    (cond (eqb (n % 2) 1) (after_pad (drop n r) >>= λ t. found (take n r) t) (found (take n r) (drop n r)) >>= λ d. Ok (g d.0, d.1)))
    (take-append-drop n r)
    (tail_verdict n g front forms scans (take n r) (drop n r) (length-take-le n r enough) (eqb (n % 2) 1) refl))

-- ---- a key

abbrev fields_of : (a b c d e f g h : ℕ) → Segment
fields_of a b c d e f g h = Key (record { vendor = a + 256 * b; device_type = c + 256 * d; product = e + 256 * f; major = g; minor = h })

key_form : (a b c d e f g h : ℕ) → a < 256 → b < 256 → c < 256 → d < 256 → e < 256 → f < 256 → g < 256 → h < 256
    → IsForm (0x34 ∷ 0x04 ∷ a ∷ b ∷ c ∷ d ∷ e ∷ f ∷ g ∷ h ∷ []) (fields_of a b c d e f g h)
key_form a b c d e f g h pa pb pc pd pe pf pg ph = (a ∷ b ∷ [], c ∷ d ∷ [], e ∷ f ∷ [], word a b pa pb, word c d pc pd, word e f pe pf, pg, ph, refl)

fields_verdict : (r : List ℕ) → IsBytes r → Verdict (0x34 ∷ 0x04 ∷ r) (fields_at r >>= λ k. Ok (Key k.0, k.1))
unfolding fields_at
fields_verdict [] fits = (
  fields_of 0 0 0 0 0 0 0 0,
  0x34 ∷ 0x04 ∷ 0 ∷ 0 ∷ 0 ∷ 0 ∷ 0 ∷ 0 ∷ 0 ∷ 0 ∷ [],
  0 ∷ 0 ∷ 0 ∷ 0 ∷ 0 ∷ 0 ∷ 0 ∷ 0 ∷ [],
  key_form 0 0 0 0 0 0 0 0 (omega arith) (omega arith) (omega arith) (omega arith) (omega arith) (omega arith) (omega arith) (omega arith),
  refl,
)
fields_verdict (a ∷ []) fits = (
  fields_of a 0 0 0 0 0 0 0,
  0x34 ∷ 0x04 ∷ a ∷ 0 ∷ 0 ∷ 0 ∷ 0 ∷ 0 ∷ 0 ∷ 0 ∷ [],
  0 ∷ 0 ∷ 0 ∷ 0 ∷ 0 ∷ 0 ∷ 0 ∷ [],
  key_form a 0 0 0 0 0 0 0 (fits 0) (omega arith) (omega arith) (omega arith) (omega arith) (omega arith) (omega arith) (omega arith),
  refl,
)
fields_verdict (a ∷ b ∷ []) fits = (
  fields_of a b 0 0 0 0 0 0,
  0x34 ∷ 0x04 ∷ a ∷ b ∷ 0 ∷ 0 ∷ 0 ∷ 0 ∷ 0 ∷ 0 ∷ [],
  0 ∷ 0 ∷ 0 ∷ 0 ∷ 0 ∷ 0 ∷ [],
  key_form a b 0 0 0 0 0 0 (fits 0) (fits 1) (omega arith) (omega arith) (omega arith) (omega arith) (omega arith) (omega arith),
  refl,
)
fields_verdict (a ∷ b ∷ c ∷ []) fits = (
  fields_of a b c 0 0 0 0 0,
  0x34 ∷ 0x04 ∷ a ∷ b ∷ c ∷ 0 ∷ 0 ∷ 0 ∷ 0 ∷ 0 ∷ [],
  0 ∷ 0 ∷ 0 ∷ 0 ∷ 0 ∷ [],
  key_form a b c 0 0 0 0 0 (fits 0) (fits 1) (fits 2) (omega arith) (omega arith) (omega arith) (omega arith) (omega arith),
  refl,
)
fields_verdict (a ∷ b ∷ c ∷ d ∷ []) fits = (
  fields_of a b c d 0 0 0 0,
  0x34 ∷ 0x04 ∷ a ∷ b ∷ c ∷ d ∷ 0 ∷ 0 ∷ 0 ∷ 0 ∷ [],
  0 ∷ 0 ∷ 0 ∷ 0 ∷ [],
  key_form a b c d 0 0 0 0 (fits 0) (fits 1) (fits 2) (fits 3) (omega arith) (omega arith) (omega arith) (omega arith),
  refl,
)
fields_verdict (a ∷ b ∷ c ∷ d ∷ e ∷ []) fits = (
  fields_of a b c d e 0 0 0,
  0x34 ∷ 0x04 ∷ a ∷ b ∷ c ∷ d ∷ e ∷ 0 ∷ 0 ∷ 0 ∷ [],
  0 ∷ 0 ∷ 0 ∷ [],
  key_form a b c d e 0 0 0 (fits 0) (fits 1) (fits 2) (fits 3) (fits 4) (omega arith) (omega arith) (omega arith),
  refl,
)
fields_verdict (a ∷ b ∷ c ∷ d ∷ e ∷ f ∷ []) fits = (
  fields_of a b c d e f 0 0,
  0x34 ∷ 0x04 ∷ a ∷ b ∷ c ∷ d ∷ e ∷ f ∷ 0 ∷ 0 ∷ [],
  0 ∷ 0 ∷ [],
  key_form a b c d e f 0 0 (fits 0) (fits 1) (fits 2) (fits 3) (fits 4) (fits 5) (omega arith) (omega arith),
  refl,
)
fields_verdict (a ∷ b ∷ c ∷ d ∷ e ∷ f ∷ g ∷ []) fits = (
  fields_of a b c d e f g 0,
  0x34 ∷ 0x04 ∷ a ∷ b ∷ c ∷ d ∷ e ∷ f ∷ g ∷ 0 ∷ [],
  0 ∷ [],
  key_form a b c d e f g 0 (fits 0) (fits 1) (fits 2) (fits 3) (fits 4) (fits 5) (fits 6) (omega arith),
  refl,
)
fields_verdict (a ∷ b ∷ c ∷ d ∷ e ∷ f ∷ g ∷ h ∷ r) fits = (
  0x34 ∷ 0x04 ∷ a ∷ b ∷ c ∷ d ∷ e ∷ f ∷ g ∷ h ∷ [],
  key_form a b c d e f g h (fits 0) (fits 1) (fits 2) (fits 3) (fits 4) (fits 5) (fits 6) (fits 7),
  refl,
)

key_begins : FormBegins (0x34 ∷ 0x04 ∷ [])
unfolding fields_at
key_begins = fields_verdict [] (λ i. omega arith)

key_verdict : (r : List ℕ) → IsBytes r → Verdict (0x34 ∷ r) (key_at r)
unfolding key_at segment_at logical_at other_at
key_verdict [] fits = FormBegins-front (0x34 ∷ []) (0x04 ∷ []) key_begins
key_verdict (f ∷ r) fits =
    cond_both (eqb f 4) (fields_at r >>= λ k. Ok (Key k.0, k.1)) (Err (Reserved f)) (λ z. Verdict (0x34 ∷ f ∷ r) z)
    (λ e. subst (λ (q : ℕ). Verdict (0x34 ∷ q ∷ r) (fields_at r >>= λ k. Ok (Key k.0, k.1))) (sym (eqb-true f 4 e))
    (fields_verdict r (IsBytes-rest f r fits)))
    (λ e. (0x34 ∷ [], r, 4, refl, key_begins, (λ bad. absurd cc), λ y. (Reserved f, rw e refl)))

-- ---- a port

number_verdict : (low : ℕ) (front : List ℕ) (k : ℕ × List ℕ → At Segment) → 0 < low → low < 16
    → ((y : List ℕ) → segment_at (front ++ y) ≡ (number_at low y >>= k))
    → ((q : ℕ) (w : List ℕ) → IsPortNumber q low w → FormBegins (front ++ w))
    → ((q : ℕ) (w rest : List ℕ) → IsPortNumber q low w → IsBytes rest → ((y : List ℕ) → segment_at ((front ++ w) ++ y) ≡ k (q, y))
    → Verdict ((front ++ w) ++ rest) (k (q, rest)))
    → (r : List ℕ) → IsBytes r → (wide : Bool) → eqb low 15 ≡ wide
    → Verdict (front ++ r) (cond wide (word_at r >>= λ q. cond (eqb q.0 0) (Err (Reserved 0)) (Ok q)) (Ok (low, r)) >>= k)
unfolding number_at
number_verdict low front k pos fits16 scans begins then r fits false e =
    let plain : low < 15 = (let other : low ≡ 15 → ⊥ = eqb-false low 15 e in omega arith) in
    let num : IsPortNumber low low [] = (pos, inl (plain, refl, refl)) in
    subst (λ (t : List ℕ). Verdict (t ++ r) (k (low, r))) (append-nil front)
    (then low [] r num fits (λ y. ap (λ (t : List ℕ). segment_at (t ++ y)) (append-nil front) ∙ scans y ∙ rw e refl))
number_verdict low front k pos fits16 scans begins then [] fits true e =
    let num : IsPortNumber (1 + 256 * 0) low (1 ∷ 0 ∷ []) = (omega arith, inr (eqb-true low 15 e, word 1 0 (omega arith) (omega arith))) in
    FormBegins-front (front ++ []) (1 ∷ 0 ∷ [])
    (subst FormBegins (ap (λ (t : List ℕ). t ++ 1 ∷ 0 ∷ []) (sym (append-nil front))) (begins (1 + 256 * 0) (1 ∷ 0 ∷ []) num))
number_verdict low front k pos fits16 scans begins then (lo ∷ []) fits true e =
    let num : IsPortNumber (lo + 256 * 1) low (lo ∷ 1 ∷ []) = (omega arith, inr (eqb-true low 15 e, word lo 1 (fits 0) (omega arith))) in
    FormBegins-front (front ++ lo ∷ []) (1 ∷ []) (subst FormBegins (sym (append_assoc front (lo ∷ []) (1 ∷ []))) (begins (lo + 256 * 1) (lo ∷ 1 ∷ []) num))
number_verdict low front k pos fits16 scans begins then (lo ∷ hi ∷ r) fits true e =
    let is15 : low ≡ 15 = eqb-true low 15 e in
    cond_both (eqb (lo + 256 * hi) 0) (Err (Reserved 0)) (Ok (lo + 256 * hi, r)) (λ z. Verdict (front ++ lo ∷ hi ∷ r) (z >>= k))
    (λ none.
    let sum : lo + 256 * hi ≡ 0 = eqb-true _ 0 none in
    let lo0 : lo ≡ 0 = omega arith in
    let hi0 : hi ≡ 0 = omega arith in
    let num : IsPortNumber (lo + 256 * 1) low (lo ∷ 1 ∷ []) = (omega arith, inr (is15, word lo 1 (fits 0) (omega arith))) in (
      front ++ lo ∷ [],
      r,
      1,
      ap (λ (t : ℕ). front ++ lo ∷ t ∷ r) hi0 ∙ sym (append_assoc front (lo ∷ []) (0 ∷ r)),
      subst FormBegins (sym (append_assoc front (lo ∷ []) (1 ∷ []))) (begins (lo + 256 * 1) (lo ∷ 1 ∷ []) num),
      (λ bad. absurd (omega arith)),
      λ y. (Reserved 0, ap segment_at (append_assoc front (lo ∷ []) (0 ∷ y)) ∙ scans (lo ∷ 0 ∷ y) ∙ rw (e, lo0) refl),
    ))
    (λ some.
    let not_zero : lo + 256 * hi ≡ 0 → ⊥ = eqb-false _ 0 some in
    let num : IsPortNumber (lo + 256 * hi) low (lo ∷ hi ∷ []) = (omega arith, inr (is15, word lo hi (fits 0) (fits 1))) in
    subst (λ (t : List ℕ). Verdict t (k (lo + 256 * hi, r))) (append_assoc front (lo ∷ hi ∷ []) r)
    (then (lo + 256 * hi) (lo ∷ hi ∷ []) r num (IsBytes-rest hi r (IsBytes-rest lo (hi ∷ r) fits))
    (λ y. ap segment_at (append_assoc front (lo ∷ hi ∷ []) y) ∙ scans (lo ∷ hi ∷ y) ∙ rw (e, some) refl)))

plain_form : (q : ℕ) (a : List ℕ) (low : ℕ) (w : List ℕ) → IsPortNumber q low w → length a ≡ 1 → IsForm (low ∷ (w ++ a)) (Port q a)
plain_form q a low w num one = (low, w, num, inl (one, refl))

sized_form : (q : ℕ) (a : List ℕ) (low : ℕ) (w : List ℕ) (n : ℕ) → IsPortNumber q low w → 1 ≤ n → n ≤ 16 → length a ≡ n
    → IsForm ((16 + low) ∷ (n ∷ (w ++ (a ++ pad n)))) (Port q a)
sized_form q a low w n num least most len = (
  low,
  w,
  num,
  inr (
    omega arith,
    omega arith,
    ap (λ (m : ℕ). (16 + low) ∷ (m ∷ (w ++ (a ++ pad m)))) (sym len)
        ∙ sym (append_assoc ((16 + low) ∷ length a ∷ w) a (pad (length a))),
  ),
)

plain_port_verdict : (low : ℕ) → 0 < low → low < 16 → (r : List ℕ) → IsBytes r → Verdict (low ∷ r) (plain_port_at low r)
unfolding plain_port_at number_at segment_at port_at
plain_port_verdict low pos small r fits =
    let logical : ltb low 32 ≡ true = lt-ltb _ _ (omega arith) in
    let nonzero : eqb (low % 16) 0 ≡ false = ne_eqb _ _ (λ e. omega arith) in
    let plain : ltb low 16 ≡ true = lt-ltb _ _ small in
    number_verdict low (low ∷ []) (λ q. bytes_at 1 q.1 >>= λ a. Ok (Port q.0 a.0, a.1)) pos small
    (λ y. rw (logical, nonzero, plain) refl)
    (λ q w num. (Port q (0 ∷ []), low ∷ (w ++ 0 ∷ []), 0 ∷ [], plain_form q (0 ∷ []) low w num refl, refl))
    (λ q w rest num fit scans. bytes_verdict 1 (λ a. Port q a) (low ∷ w) (λ d one. plain_form q d low w num one) rest)
    r fits (eqb low 15) refl

sized_number_verdict : (low n : ℕ) → 0 < low → low < 16 → 1 ≤ n → n ≤ 16 → (r : List ℕ) → IsBytes r
    → Verdict ((16 + low) ∷ (n ∷ r)) (number_at low r >>= λ q. padded_at n q.1 >>= λ a. Ok (Port q.0 a.0, a.1))
unfolding number_at sized_port_at segment_at port_at size_at
sized_number_verdict low n pos small least most r fits =
    let logical : ltb (16 + low) 32 ≡ true = lt-ltb _ _ (omega arith) in
    let nonzero : eqb ((16 + low) % 16) 0 ≡ false = ne_eqb _ _ (λ e. omega arith) in
    let sized : ltb (16 + low) 16 ≡ false = le-ltb _ _ (omega arith) in
    let back : 16 + low - 16 ≡ low = omega arith in
    let some : eqb n 0 ≡ false = ne_eqb _ _ (λ e. omega arith) in
    let within : ltb 16 n ≡ false = le-ltb _ _ most in
    let zeros : List ℕ = replicate n 0 in
    let len : length zeros ≡ n = length-replicate {A = ℕ} n 0 in
    number_verdict low ((16 + low) ∷ n ∷ []) (λ q. padded_at n q.1 >>= λ a. Ok (Port q.0 a.0, a.1)) pos small
    (λ y. rw (logical, nonzero, sized, some, within, back) refl)
    (λ q w num. (Port q zeros, (16 + low) ∷ (n ∷ (w ++ (zeros ++ pad n))), zeros ++ pad n, sized_form q zeros low w n num least most len, refl))
    (λ q w rest num fit scans. padded_verdict n (λ a. Port q a) ((16 + low) ∷ n ∷ w) (λ d e. sized_form q d low w n num least most e) scans rest)
    r fits (eqb low 15) refl

one_begins : (low : ℕ) → 0 < low → low < 16 → FormBegins ((16 + low) ∷ 1 ∷ [])
one_begins low pos small =
    elim (cases_lt low 15) [
      | inl lt ↦ (
        Port low (0 ∷ []),
        (16 + low) ∷ 1 ∷ 0 ∷ 0 ∷ [],
        0 ∷ 0 ∷ [],
        sized_form low (0 ∷ []) low [] 1 (pos, inl (lt, refl, refl)) (omega arith) (omega arith) refl,
        refl,
      )
      | inr ge ↦ (
        Port (1 + 256 * 0) (0 ∷ []),
        (16 + low) ∷ 1 ∷ 1 ∷ 0 ∷ 0 ∷ 0 ∷ [],
        1 ∷ 0 ∷ 0 ∷ 0 ∷ [],
        sized_form (1 + 256 * 0) (0 ∷ []) low (1 ∷ 0 ∷ []) 1 (omega arith, inr (omega arith, word 1 0 (omega arith) (omega arith))) (omega arith)
            (omega arith) refl,
        refl,
      )
    ]

sized_port_verdict : (low : ℕ) → 0 < low → low < 16 → (r : List ℕ) → IsBytes r → Verdict ((16 + low) ∷ r) (sized_port_at low r)
unfolding sized_port_at size_at segment_at port_at
sized_port_verdict low pos small [] fits =
    FormBegins-front ((16 + low) ∷ []) (1 ∷ []) (one_begins low pos small)
sized_port_verdict low pos small (n ∷ r) fits =
    let logical : ltb (16 + low) 32 ≡ true = lt-ltb _ _ (omega arith) in
    let nonzero : eqb ((16 + low) % 16) 0 ≡ false = ne_eqb _ _ (λ e. omega arith) in
    let sized : ltb (16 + low) 16 ≡ false = le-ltb _ _ (omega arith) in
    cond_both (eqb n 0) (Err (Reserved n)) (cond (ltb 16 n) (Err (Reserved n)) (Ok (n, r)))
    (λ z. Verdict ((16 + low) ∷ n ∷ r) (z >>= λ n. number_at (low) n.1 >>= λ q. padded_at n.0 q.1 >>= λ a. Ok (Port q.0 a.0, a.1)))
    (λ e. ((16 + low) ∷ [], r, 1, refl, one_begins low pos small, (λ bad. absurd (omega arith)), λ y. (Reserved n, rw (logical, nonzero, sized, e) refl)))
    (λ e. let some : n ≡ 0 → ⊥ = eqb-false n 0 e in
    cond_both (ltb 16 n) (Err (Reserved n)) (Ok (n, r))
    (λ z. Verdict ((16 + low) ∷ n ∷ r) (z >>= λ n. number_at (low) n.1 >>= λ q. padded_at n.0 q.1 >>= λ a. Ok (Port q.0 a.0, a.1)))
    (λ over. (
      (16 + low) ∷ [],
      r,
      1,
      refl,
      one_begins low pos small,
      (λ bad. absurd (omega arith)),
      λ y. (Reserved n, rw (logical, nonzero, sized, e, over) refl),
    ))
    (λ within. sized_number_verdict low n pos small (omega arith) (ltb-false _ _ within) r (IsBytes-rest n r fits)))

-- ---- the first byte

-- a text whose first byte begins no form
refused : (h : ℕ) (r : List ℕ) → ((y : List ℕ) → segment_at (h ∷ y) ≡ Err (Reserved h)) → Stops (h ∷ r) (Reserved h)
refused h r scans = (
  [],
  r,
  1,
  refl,
  (Port 1 (0 ∷ []), 1 ∷ 0 ∷ [], 0 ∷ [], plain_form 1 (0 ∷ []) 1 [] (omega arith, inl (omega arith, refl, refl)) refl, refl),
  (λ bad. absurd (omega arith)),
  λ y. (Reserved h, scans y),
)

port_verdict : (h : ℕ) (r : List ℕ) → h < 32 → IsBytes r → Verdict (h ∷ r) (port_at h r)
unfolding port_at segment_at
port_verdict h r small fits =
    let logical : ltb h 32 ≡ true = lt-ltb _ _ small in
    cond_both (eqb (h % 16) 0) (Err (Reserved h)) (cond (ltb h 16) (plain_port_at h r) (sized_port_at (h - 16) r)) (λ z. Verdict (h ∷ r) z)
    (λ none. refused h r (λ y. rw (logical, none) refl))
    (λ some. let nonzero : h % 16 ≡ 0 → ⊥ = eqb-false _ 0 some in
    cond_both (ltb h 16) (plain_port_at h r) (sized_port_at (h - 16) r) (λ z. Verdict (h ∷ r) z)
    (λ plain. let low : h < 16 = ltb-true _ _ plain in
    let pos : 0 < h = omega arith in
    plain_port_verdict h pos low r fits)
    (λ sized. let high : 16 ≤ h = ltb-false _ _ sized in
    let back : 16 + (h - 16) ≡ h = omega arith in
    subst (λ (k : ℕ). Verdict (k ∷ r) (sized_port_at (h - 16) r)) back (sized_port_verdict (h - 16) (omega arith) (omega arith) r fits)))

inhibit_verdict : (r : List ℕ) → IsBytes r → Verdict (0x43 ∷ r) (inhibit_at r)
unfolding inhibit_at
inhibit_verdict r fits = byte_verdict (λ n. Inhibit n) 0x43 (λ n lt. (lt, refl)) r fits

words_verdict : (r : List ℕ) → IsBytes r → Verdict (0x80 ∷ r) (words_at r)
unfolding words_at
words_verdict [] fits = (Words [], 0x80 ∷ 0 ∷ [], 0 ∷ [], (0, omega arith, refl, refl), refl)
words_verdict (n ∷ r) fits = bytes_verdict (2 * n) (λ d. Words d) (0x80 ∷ n ∷ []) (λ d len. (n, fits 0, len, refl)) r

symbol_verdict : (r : List ℕ) → IsBytes r → Verdict (0x91 ∷ r) (symbol_at r)
unfolding symbol_at segment_at logical_at other_at
symbol_verdict [] fits = (Symbol [], 0x91 ∷ 0 ∷ [], 0 ∷ [], (omega arith, refl), refl)
symbol_verdict (n ∷ r) fits =
    let small : n < 256 = fits 0 in
    padded_verdict n (λ d. Symbol d) (0x91 ∷ n ∷ []) (λ d len. (omega arith, ap (λ (m : ℕ). 0x91 ∷ m ∷ d ++ pad m) (sym len))) (λ y. refl) r

other_verdict : (h : ℕ) (r : List ℕ) → ((y : List ℕ) → segment_at (h ∷ y) ≡ other_at h y) → IsBytes r → Verdict (h ∷ r) (other_at h r)
unfolding other_at
other_verdict h r scans fits =
    cond_both (eqb h 0x34) (key_at r)
    (cond (eqb h 0x43) (inhibit_at r) (cond (eqb h 0x80) (words_at r) (cond (eqb h 0x91) (symbol_at r) (Err (Reserved h))))) (λ z. Verdict (h ∷ r) z)
    (λ e. subst (λ (k : ℕ). Verdict (k ∷ r) (key_at r)) (sym (eqb-true h 0x34 e)) (key_verdict r fits))
    (λ no0.
    cond_both (eqb h 0x43) (inhibit_at r) (cond (eqb h 0x80) (words_at r) (cond (eqb h 0x91) (symbol_at r) (Err (Reserved h)))) (λ z. Verdict (h ∷ r) z)
    (λ e. subst (λ (k : ℕ). Verdict (k ∷ r) (inhibit_at r)) (sym (eqb-true h 0x43 e)) (inhibit_verdict r fits))
    (λ no1.
    cond_both (eqb h 0x80) (words_at r) (cond (eqb h 0x91) (symbol_at r) (Err (Reserved h))) (λ z. Verdict (h ∷ r) z)
    (λ e. subst (λ (k : ℕ). Verdict (k ∷ r) (words_at r)) (sym (eqb-true h 0x80 e)) (words_verdict r fits))
    (λ no2.
    cond_both (eqb h 0x91) (symbol_at r) (Err (Reserved h)) (λ z. Verdict (h ∷ r) z)
    (λ e. subst (λ (k : ℕ). Verdict (k ∷ r) (symbol_at r)) (sym (eqb-true h 0x91 e)) (symbol_verdict r fits))
    (λ no3.
    refused h r (λ y. scans y ∙ rw (no0, no1, no2, no3) refl)))))

narrow_verdict : (k : Kind) (h : ℕ) → ((n : ℕ) → n < 256 → IsForm (h ∷ n ∷ []) (numbered k n)) → (r : List ℕ) → IsBytes r → Verdict (h ∷ r) (narrow_at k r)
unfolding narrow_at
narrow_verdict k h forms r fits = byte_verdict (numbered k) h forms r fits

wide_verdict : (k : Kind) (h : ℕ) → ((lo hi : ℕ) → lo < 256 → hi < 256 → IsForm (h ∷ 0 ∷ lo ∷ hi ∷ []) (numbered k (lo + 256 * hi)))
    → ((y : List ℕ) → segment_at (h ∷ y) ≡ wide_at k y) → (r : List ℕ) → IsBytes r → Verdict (h ∷ r) (wide_at k r)
unfolding wide_at
wide_verdict k h forms scans r fits =
    after_pad_verdict h (λ rest. word_at rest >>= λ n. Ok (numbered k n.0, n.1))
    (numbered k (0 + 256 * 0), h ∷ 0 ∷ 0 ∷ 0 ∷ [], 0 ∷ 0 ∷ [], forms 0 0 (omega arith) (omega arith), refl)
    scans (λ t fit. word_verdict (numbered k) h forms t fit) r fits

instance_verdict : (r : List ℕ) → IsBytes r → Verdict (0x26 ∷ r) (instance_at r)
unfolding instance_at segment_at logical_at
instance_verdict r fits =
    after_pad_verdict 0x26 (λ rest. double_at rest >>= λ n. Ok (Instance n.0, n.1)) (
      Instance ((0 + 256 * 0) + 65536 * (0 + 256 * 0)),
      0x26 ∷ 0 ∷ 0 ∷ 0 ∷ 0 ∷ 0 ∷ [],
      0 ∷ 0 ∷ 0 ∷ 0 ∷ [],
      inr (inr (0 ∷ 0 ∷ 0 ∷ 0 ∷ [], double 0 0 0 0 (omega arith) (omega arith) (omega arith) (omega arith), refl)),
      refl,
    )
    (λ y. refl)
    (λ t fit. double_verdict (λ n. Instance n) 0x26
    (λ a b c d pa pb pc pd. inr (inr (a ∷ b ∷ c ∷ d ∷ [], double a b c d pa pb pc pd, refl))) t fit) r fits

point_verdict : (r : List ℕ) → IsBytes r → Verdict (0x2E ∷ r) (point_at r)
unfolding point_at segment_at logical_at
point_verdict r fits =
    after_pad_verdict 0x2E (λ rest. double_at rest >>= λ n. Ok (Point n.0, n.1)) (
      Point ((0 + 256 * 0) + 65536 * (0 + 256 * 0)),
      0x2E ∷ 0 ∷ 0 ∷ 0 ∷ 0 ∷ 0 ∷ [],
      0 ∷ 0 ∷ 0 ∷ 0 ∷ [],
      inr (inr (0 ∷ 0 ∷ 0 ∷ 0 ∷ [], double 0 0 0 0 (omega arith) (omega arith) (omega arith) (omega arith), refl)),
      refl,
    )
    (λ y. refl)
    (λ t fit. double_verdict (λ n. Point n) 0x2E (λ a b c d pa pb pc pd. inr (inr (a ∷ b ∷ c ∷ d ∷ [], double a b c d pa pb pc pd, refl))) t fit) r fits

logical_verdict : (h : ℕ) (r : List ℕ) → ((y : List ℕ) → segment_at (h ∷ y) ≡ logical_at h y) → IsBytes r → Verdict (h ∷ r) (logical_at h r)
unfolding logical_at segment_at
logical_verdict h r scans fits =
    cond_both (eqb h 0x20) (narrow_at kinds.Class r)
    (cond (eqb h 0x21) (wide_at kinds.Class r)
    (cond (eqb h 0x24) (narrow_at kinds.Instance r)
    (cond (eqb h 0x25) (wide_at kinds.Instance r)
    (cond (eqb h 0x26) (instance_at r)
    (cond (eqb h 0x28) (narrow_at kinds.Member r)
    (cond (eqb h 0x29) (wide_at kinds.Member r)
    (cond (eqb h 0x2C) (narrow_at kinds.Point r)
    (cond (eqb h 0x2D) (wide_at kinds.Point r)
    (cond (eqb h 0x2E) (point_at r)
    (cond (eqb h 0x30) (narrow_at kinds.Attribute r) (cond (eqb h 0x31) (wide_at kinds.Attribute r) (other_at h r)))))))))))) (λ z. Verdict (h ∷ r) z)
    (λ e. subst (λ (k : ℕ). Verdict (k ∷ r) (narrow_at kinds.Class r)) (sym (eqb-true h 0x20 e))
    (narrow_verdict kinds.Class 0x20 (λ n lt. inl (lt, refl)) r fits))
    (λ no0.
    cond_both (eqb h 0x21) (wide_at kinds.Class r)
    (cond (eqb h 0x24) (narrow_at kinds.Instance r)
    (cond (eqb h 0x25) (wide_at kinds.Instance r)
    (cond (eqb h 0x26) (instance_at r)
    (cond (eqb h 0x28) (narrow_at kinds.Member r)
    (cond (eqb h 0x29) (wide_at kinds.Member r)
    (cond (eqb h 0x2C) (narrow_at kinds.Point r)
    (cond (eqb h 0x2D) (wide_at kinds.Point r)
    (cond (eqb h 0x2E) (point_at r)
    (cond (eqb h 0x30) (narrow_at kinds.Attribute r) (cond (eqb h 0x31) (wide_at kinds.Attribute r) (other_at h r))))))))))) (λ z. Verdict (h ∷ r) z)
    (λ e. subst (λ (k : ℕ). Verdict (k ∷ r) (wide_at kinds.Class r)) (sym (eqb-true h 0x21 e))
    (wide_verdict kinds.Class 0x21 (λ lo hi p q. inr (lo ∷ hi ∷ [], word lo hi p q, refl)) (λ y. refl) r fits))
    (λ no1.
    cond_both (eqb h 0x24) (narrow_at kinds.Instance r)
    (cond (eqb h 0x25) (wide_at kinds.Instance r)
    (cond (eqb h 0x26) (instance_at r)
    (cond (eqb h 0x28) (narrow_at kinds.Member r)
    (cond (eqb h 0x29) (wide_at kinds.Member r)
    (cond (eqb h 0x2C) (narrow_at kinds.Point r)
    (cond (eqb h 0x2D) (wide_at kinds.Point r)
    (cond (eqb h 0x2E) (point_at r)
    (cond (eqb h 0x30) (narrow_at kinds.Attribute r) (cond (eqb h 0x31) (wide_at kinds.Attribute r) (other_at h r)))))))))) (λ z. Verdict (h ∷ r) z)
    (λ e. subst (λ (k : ℕ). Verdict (k ∷ r) (narrow_at kinds.Instance r)) (sym (eqb-true h 0x24 e))
    (narrow_verdict kinds.Instance 0x24 (λ n lt. inl (lt, refl)) r fits))
    (λ no2.
    cond_both (eqb h 0x25) (wide_at kinds.Instance r)
    (cond (eqb h 0x26) (instance_at r)
    (cond (eqb h 0x28) (narrow_at kinds.Member r)
    (cond (eqb h 0x29) (wide_at kinds.Member r)
    (cond (eqb h 0x2C) (narrow_at kinds.Point r)
    (cond (eqb h 0x2D) (wide_at kinds.Point r)
    (cond (eqb h 0x2E) (point_at r)
    (cond (eqb h 0x30) (narrow_at kinds.Attribute r) (cond (eqb h 0x31) (wide_at kinds.Attribute r) (other_at h r))))))))) (λ z. Verdict (h ∷ r) z)
    (λ e. subst (λ (k : ℕ). Verdict (k ∷ r) (wide_at kinds.Instance r)) (sym (eqb-true h 0x25 e))
    (wide_verdict kinds.Instance 0x25 (λ lo hi p q. inr (inl (lo ∷ hi ∷ [], word lo hi p q, refl))) (λ y. refl) r fits))
    (λ no3.
    cond_both (eqb h 0x26) (instance_at r)
    (cond (eqb h 0x28) (narrow_at kinds.Member r)
    (cond (eqb h 0x29) (wide_at kinds.Member r)
    (cond (eqb h 0x2C) (narrow_at kinds.Point r)
    (cond (eqb h 0x2D) (wide_at kinds.Point r)
    (cond (eqb h 0x2E) (point_at r)
    (cond (eqb h 0x30) (narrow_at kinds.Attribute r) (cond (eqb h 0x31) (wide_at kinds.Attribute r) (other_at h r)))))))) (λ z. Verdict (h ∷ r) z)
    (λ e. subst (λ (k : ℕ). Verdict (k ∷ r) (instance_at r)) (sym (eqb-true h 0x26 e)) (instance_verdict r fits))
    (λ no4.
    cond_both (eqb h 0x28) (narrow_at kinds.Member r)
    (cond (eqb h 0x29) (wide_at kinds.Member r)
    (cond (eqb h 0x2C) (narrow_at kinds.Point r)
    (cond (eqb h 0x2D) (wide_at kinds.Point r)
    (cond (eqb h 0x2E) (point_at r)
    (cond (eqb h 0x30) (narrow_at kinds.Attribute r) (cond (eqb h 0x31) (wide_at kinds.Attribute r) (other_at h r))))))) (λ z. Verdict (h ∷ r) z)
    (λ e. subst (λ (k : ℕ). Verdict (k ∷ r) (narrow_at kinds.Member r)) (sym (eqb-true h 0x28 e))
    (narrow_verdict kinds.Member 0x28 (λ n lt. inl (lt, refl)) r fits))
    (λ no5.
    cond_both (eqb h 0x29) (wide_at kinds.Member r)
    (cond (eqb h 0x2C) (narrow_at kinds.Point r)
    (cond (eqb h 0x2D) (wide_at kinds.Point r)
    (cond (eqb h 0x2E) (point_at r) (cond (eqb h 0x30) (narrow_at kinds.Attribute r) (cond (eqb h 0x31) (wide_at kinds.Attribute r) (other_at h r))))))
    (λ z. Verdict (h ∷ r) z)
    (λ e. subst (λ (k : ℕ). Verdict (k ∷ r) (wide_at kinds.Member r)) (sym (eqb-true h 0x29 e))
    (wide_verdict kinds.Member 0x29 (λ lo hi p q. inr (lo ∷ hi ∷ [], word lo hi p q, refl)) (λ y. refl) r fits))
    (λ no6.
    cond_both (eqb h 0x2C) (narrow_at kinds.Point r)
    (cond (eqb h 0x2D) (wide_at kinds.Point r)
    (cond (eqb h 0x2E) (point_at r) (cond (eqb h 0x30) (narrow_at kinds.Attribute r) (cond (eqb h 0x31) (wide_at kinds.Attribute r) (other_at h r)))))
    (λ z. Verdict (h ∷ r) z)
    (λ e. subst (λ (k : ℕ). Verdict (k ∷ r) (narrow_at kinds.Point r)) (sym (eqb-true h 0x2C e))
    (narrow_verdict kinds.Point 0x2C (λ n lt. inl (lt, refl)) r fits))
    (λ no7.
    cond_both (eqb h 0x2D) (wide_at kinds.Point r)
    (cond (eqb h 0x2E) (point_at r) (cond (eqb h 0x30) (narrow_at kinds.Attribute r) (cond (eqb h 0x31) (wide_at kinds.Attribute r) (other_at h r))))
    (λ z. Verdict (h ∷ r) z)
    (λ e. subst (λ (k : ℕ). Verdict (k ∷ r) (wide_at kinds.Point r)) (sym (eqb-true h 0x2D e))
    (wide_verdict kinds.Point 0x2D (λ lo hi p q. inr (inl (lo ∷ hi ∷ [], word lo hi p q, refl))) (λ y. refl) r fits))
    (λ no8.
    cond_both (eqb h 0x2E) (point_at r) (cond (eqb h 0x30) (narrow_at kinds.Attribute r) (cond (eqb h 0x31) (wide_at kinds.Attribute r) (other_at h r)))
    (λ z. Verdict (h ∷ r) z)
    (λ e. subst (λ (k : ℕ). Verdict (k ∷ r) (point_at r)) (sym (eqb-true h 0x2E e)) (point_verdict r fits))
    (λ no9.
    cond_both (eqb h 0x30) (narrow_at kinds.Attribute r) (cond (eqb h 0x31) (wide_at kinds.Attribute r) (other_at h r)) (λ z. Verdict (h ∷ r) z)
    (λ e. subst (λ (k : ℕ). Verdict (k ∷ r) (narrow_at kinds.Attribute r)) (sym (eqb-true h 0x30 e))
    (narrow_verdict kinds.Attribute 0x30 (λ n lt. inl (lt, refl)) r fits))
    (λ no10.
    cond_both (eqb h 0x31) (wide_at kinds.Attribute r) (other_at h r) (λ z. Verdict (h ∷ r) z)
    (λ e. subst (λ (k : ℕ). Verdict (k ∷ r) (wide_at kinds.Attribute r)) (sym (eqb-true h 0x31 e))
    (wide_verdict kinds.Attribute 0x31 (λ lo hi p q. inr (lo ∷ hi ∷ [], word lo hi p q, refl)) (λ y. refl) r fits))
    (λ no11.
    other_verdict h r (λ y. scans y ∙ rw (no0, no1, no2, no3, no4, no5, no6, no7, no8, no9, no10, no11) refl) fits))))))))))))

-- Reading the first segment gives a form that stands there, or stops at the byte where no form goes on.
pub verdict : (b : List ℕ) → IsBytes b → Verdict b (segment_at b)
unfolding segment_at
verdict [] fits = (Port 1 (0 ∷ []), 1 ∷ 0 ∷ [], 1 ∷ 0 ∷ [], plain_form 1 (0 ∷ []) 1 [] (omega arith, inl (omega arith, refl, refl)) refl, refl)
verdict (h ∷ r) fits =
    cond_both (ltb h 32) (port_at h r) (logical_at h r) (λ z. Verdict (h ∷ r) z)
    (λ e. port_verdict h r (ltb-true _ _ e) (IsBytes-rest h r fits))
    (λ e. logical_verdict h r (λ y. rw e refl) (IsBytes-rest h r fits))
