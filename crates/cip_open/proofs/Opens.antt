-- Reading the data of an open, large or not, gives exactly the record that has its layout.
use Rattle.std.proofs.Common.{◌≡◌, ◌<◌, ℕ, Bool, true, false, ◌*◌, ◌/◌, List, [], ◌∷◌, ◌++◌, length, drop, get_or, Result, Ok, Err, refl, sym, ap, subst, ◌∙◌}
use Rattle.std.proofs.Common.{arith, ◌+◌}
use Rattle.std.specs.Prelude.{MatchResult}
use Rattle.std.proofs.lemmas.List.{length-drop}
use Rattle.cip_base.specs.Fields.{IsBytes}
use Rattle.cip_base.specs.declared.triad.Triad.{Triad}
use Rattle.cip_segment.specs.Spelling.{IsReadable}
use Rattle.cip_segment.proofs.Whole.{whole_words}
use Rattle.cip_message.specs.declared.fault.DataFault.{DataFault}
use Rattle.cip_message.specs.Counted.{whole_length, with_part}
use Rattle.cip_message.proofs.Words.{word_again, double_again, triad_again, word_back, double_back, triad_back}
use Rattle.cip_message.proofs.Counteds.{counted_path_at-whole}
use Rattle.cip_message.proofs.Parts.{path_verdict, path_faults}
use Rattle.cip_message.proofs.Fronts.{fronts}
use Rattle.cip_open.specs.declared.request.OpenFields.{OpenFields}
use Rattle.cip_open.specs.Kinds.{words_place, open_fixed_part}
use Rattle.cip_open.specs.Open.{Open, open_layout, LaysOpen, ReadsOpen, IsOpenFault, open_data}
use Rattle.cip_open.specs.OpenAt.{open_fields_in, open_in, open_at}

-- ---- what has the layout is read

abbrev made : ℕ → ℕ → ℕ → ℕ → Triad → ℕ → ℕ → ℕ → ℕ → ℕ → ℕ → Bool → OpenFields
made tick ticks ot_id to_id triad multiplier ot_rpi ot_params to_rpi to_params transport large = record {
  timing = record { tick = tick; ticks = ticks };
  ot_id = ot_id;
  to_id = to_id;
  triad = triad;
  multiplier = multiplier;
  ot_rpi = ot_rpi;
  ot_params = ot_params;
  to_rpi = to_rpi;
  to_params = to_params;
  transport = transport;
  large = large;
}

same_fields : (t s : ℕ) (a a' b b' : ℕ) (x x' : Triad) (m : ℕ) (c c' d d' e e' f f' : ℕ) (w : ℕ) (l l' : Bool)
    → a ≡ a' → b ≡ b' → x ≡ x' → c ≡ c' → d ≡ d' → e ≡ e' → f ≡ f' → l ≡ l' → made t s a b x m c d e f w l ≡ made t s a' b' x' m c' d' e' f' w l'
same_fields t s a a' b b' x x' m c c' d d' e e' f f' w l l' ea eb ex ec ed ee ef el = rw (ea, eb, ex, ec, ed, ee, ef, el) refl

pub layout_fields : (large : Bool) (x y z n : ℕ) (o : Open) → large ≡ o.fields.large → open_fields_in large (open_layout large x y z n o) ≡ o.fields
layout_fields true x y z n o is =
    same_fields _ _ _ _ _ _ _ _ _ _ _ _ _ _ _ _ _ _ _ _ (double_again o.fields.ot_id) (double_again o.fields.to_id) (triad_again o.fields.triad [])
    (double_again o.fields.ot_rpi) (double_again o.fields.ot_params) (double_again o.fields.to_rpi) (double_again o.fields.to_params) is
layout_fields false x y z n o is =
    same_fields _ _ _ _ _ _ _ _ _ _ _ _ _ _ _ _ _ _ _ _ (double_again o.fields.ot_id) (double_again o.fields.to_id) (triad_again o.fields.triad [])
    (double_again o.fields.ot_rpi) (word_again o.fields.ot_params) (double_again o.fields.to_rpi) (word_again o.fields.to_params) is

abbrev opened : OpenFields → List ℕ → Result Open DataFault
opened fields path = Ok (record { fields = fields; path = path })

layout_read : (large : Bool) (x y z n : ℕ) (o : Open) → large ≡ o.fields.large → IsReadable o.path → length o.path ≡ 2 * n
    → open_at large (open_layout large x y z n o) ≡ Ok o
unfolding open_at
layout_read true x y z n o is readable len =
    ap (with_part (open_in true (open_layout true x y z n o))) (counted_path_at-whole 39 40 (open_layout true x y z n o) (omega (arith, len)) readable)
    ∙ ap (λ (f : OpenFields). opened f o.path) (layout_fields true x y z n o is)
layout_read false x y z n o is readable len =
    ap (with_part (open_in false (open_layout false x y z n o))) (counted_path_at-whole 35 36 (open_layout false x y z n o) (omega (arith, len)) readable)
    ∙ ap (λ (f : OpenFields). opened f o.path) (layout_fields false x y z n o is)

pub layout_path : (large : Bool) (x y z n : ℕ) (o : Open) → drop (open_fixed_part large) (open_layout large x y z n o) ≡ o.path
layout_path true x y z n o = refl
layout_path false x y z n o = refl

pub layout_long : (large : Bool) (x y z n : ℕ) (o : Open) → length (open_layout large x y z n o) ≡ open_fixed_part large + length o.path
layout_long true x y z n o = omega arith
layout_long false x y z n o = omega arith

pub open_read : (large : Bool) (b : List ℕ) (o : Open) → ReadsOpen large b o → open_at large b ≡ Ok o
open_read large b o (readable, (x, y, z, n, len, e, is)) =
    subst (λ (c : List ℕ). open_at large c ≡ Ok o) (sym e) (layout_read large x y z n o (sym is) readable len)

-- ---- what is read has the layout, and each fault is the one that fits

abbrev parts : ℕ → ℕ → List ℕ → List ℕ → List ℕ → ℕ → ℕ → ℕ → ℕ → List ℕ → List ℕ → List ℕ → List ℕ → ℕ → ℕ → List ℕ → List ℕ
parts t s ot_id to_id triad m x y z ot_rpi ot_params to_rpi to_params w n path =
    t ∷ s ∷ ot_id ++ (to_id ++ (triad ++ (m ∷ x ∷ y ∷ z ∷ ot_rpi ++ (ot_params ++ (to_rpi ++ (to_params ++ (w ∷ n ∷ path)))))))

same_parts : (t s : ℕ) (a a' b b' c c' : List ℕ) (m x y z : ℕ) (d d' e e' f f' g g' : List ℕ) (w n : ℕ) (path : List ℕ)
    → a ≡ a' → b ≡ b' → c ≡ c' → d ≡ d' → e ≡ e' → f ≡ f' → g ≡ g'
    → parts t s a b c m x y z d e f g w n path ≡ parts t s a' b' c' m x y z d' e' f' g' w n path
same_parts t s a a' b b' c c' m x y z d d' e e' f f' g g' w n path ea eb ec ed ee ef eg = rw (ea, eb, ec, ed, ee, ef, eg) refl

abbrev Lays : Bool → List ℕ → Type 0
Lays large b = LaysOpen large b (record { fields = open_fields_in large b; path = drop (open_fixed_part large) b })

standard_lays : (b : List ℕ) → IsBytes b → length b ≡ whole_length 35 36 b → Lays false b
standard_lays b fits len =
    let at : ℕ → ℕ = λ i. get_or b i 0 in (
      at 19,
      at 20,
      at 21,
      at 35,
      omega (arith, len, length-drop 36 b),
      fronts 36 b (omega (arith, len))
          ∙ sym (same_parts (at 0) (at 1) _ (at 2 ∷ at 3 ∷ at 4 ∷ at 5 ∷ []) _ (at 6 ∷ at 7 ∷ at 8 ∷ at 9 ∷ [])
          _ (at 10 ∷ at 11 ∷ at 12 ∷ at 13 ∷ at 14 ∷ at 15 ∷ at 16 ∷ at 17 ∷ []) (at 18) (at 19) (at 20) (at 21)
          _ (at 22 ∷ at 23 ∷ at 24 ∷ at 25 ∷ []) _ (at 26 ∷ at 27 ∷ []) _ (at 28 ∷ at 29 ∷ at 30 ∷ at 31 ∷ []) _ (at 32 ∷ at 33 ∷ []) (at 34) (at 35)
          (drop 36 b)
          (double_back (at 2) (at 3) (at 4) (at 5) (fits 2) (fits 3) (fits 4) (fits 5))
          (double_back (at 6) (at 7) (at 8) (at 9) (fits 6) (fits 7) (fits 8) (fits 9))
          (triad_back (at 10) (at 11) (at 12) (at 13) (at 14) (at 15) (at 16) (at 17) (fits 10) (fits 11) (fits 12) (fits 13) (fits 14) (fits 15) (fits 16)
          (fits 17))
          (double_back (at 22) (at 23) (at 24) (at 25) (fits 22) (fits 23) (fits 24) (fits 25))
          (word_back (at 26) (at 27) (fits 26))
          (double_back (at 28) (at 29) (at 30) (at 31) (fits 28) (fits 29) (fits 30) (fits 31))
          (word_back (at 32) (at 33) (fits 32))),
      refl,
    )

large_lays : (b : List ℕ) → IsBytes b → length b ≡ whole_length 39 40 b → Lays true b
large_lays b fits len =
    let at : ℕ → ℕ = λ i. get_or b i 0 in (
      at 19,
      at 20,
      at 21,
      at 39,
      omega (arith, len, length-drop 40 b),
      fronts 40 b (omega (arith, len))
          ∙ sym (same_parts (at 0) (at 1) _ (at 2 ∷ at 3 ∷ at 4 ∷ at 5 ∷ []) _ (at 6 ∷ at 7 ∷ at 8 ∷ at 9 ∷ [])
          _ (at 10 ∷ at 11 ∷ at 12 ∷ at 13 ∷ at 14 ∷ at 15 ∷ at 16 ∷ at 17 ∷ []) (at 18) (at 19) (at 20) (at 21)
          _ (at 22 ∷ at 23 ∷ at 24 ∷ at 25 ∷ []) _ (at 26 ∷ at 27 ∷ at 28 ∷ at 29 ∷ []) _ (at 30 ∷ at 31 ∷ at 32 ∷ at 33 ∷ [])
          _ (at 34 ∷ at 35 ∷ at 36 ∷ at 37 ∷ []) (at 38) (at 39)
          (drop 40 b)
          (double_back (at 2) (at 3) (at 4) (at 5) (fits 2) (fits 3) (fits 4) (fits 5))
          (double_back (at 6) (at 7) (at 8) (at 9) (fits 6) (fits 7) (fits 8) (fits 9))
          (triad_back (at 10) (at 11) (at 12) (at 13) (at 14) (at 15) (at 16) (at 17) (fits 10) (fits 11) (fits 12) (fits 13) (fits 14) (fits 15) (fits 16)
          (fits 17))
          (double_back (at 22) (at 23) (at 24) (at 25) (fits 22) (fits 23) (fits 24) (fits 25))
          (double_back (at 26) (at 27) (at 28) (at 29) (fits 26) (fits 27) (fits 28) (fits 29))
          (double_back (at 30) (at 31) (at 32) (at 33) (fits 30) (fits 31) (fits 32) (fits 33))
          (double_back (at 34) (at 35) (at 36) (at 37) (fits 34) (fits 35) (fits 36) (fits 37))),
      refl,
    )

abbrev whole : Bool → List ℕ → ℕ
whole large b = whole_length (words_place large) (open_fixed_part large) b

lays : (large : Bool) (b : List ℕ) → IsBytes b → length b ≡ whole large b → Lays large b
lays true b fits len = large_lays b fits len
lays false b fits len = standard_lays b fits len

layout_len : (large : Bool) (b : List ℕ) (o : Open) → LaysOpen large b o → length b ≡ whole large b
layout_len true b o (x, y, z, n, len, e, is) = subst (λ (c : List ℕ). length c ≡ whole_length 39 40 c) (sym e) (omega (arith, len))
layout_len false b o (x, y, z, n, len, e, is) = subst (λ (c : List ℕ). length c ≡ whole_length 35 36 c) (sym e) (omega (arith, len))

path_is : (large : Bool) (b : List ℕ) (o : Open) → LaysOpen large b o → drop (open_fixed_part large) b ≡ o.path
path_is true b o (x, y, z, n, len, e, is) = ap (λ (c : List ℕ). drop 40 c) e
path_is false b o (x, y, z, n, len, e, is) = ap (λ (c : List ℕ). drop 36 c) e

before : (large : Bool) → words_place large < open_fixed_part large
before true = omega arith
before false = omega arith

pub open_verdict : (large : Bool) (b : List ℕ) → IsBytes b → MatchResult (open_at large b) (ReadsOpen large b) (IsOpenFault large b)
unfolding open_at
open_verdict large b fits =
    path_verdict (words_place large) (open_fixed_part large) (before large) (open_in large) (LaysOpen large) (lays large) (layout_len large)
    (λ o. o.path) (λ c p. refl) (path_is large) b fits

pub open_faults : (large : Bool) (b : List ℕ) (f : DataFault) → IsBytes b → IsOpenFault large b f → open_at large b ≡ Err f
unfolding open_at
open_faults large b f fits h =
    path_faults (words_place large) (open_fixed_part large) (before large) (open_in large) (LaysOpen large) (lays large) (layout_len large)
    (λ o. o.path) (λ c p. refl) (path_is large) b f fits h

-- ---- what is written is read back

pub open_back : (o : Open) → IsReadable o.path → open_at o.fields.large (open_data o) ≡ Ok o
open_back o readable = layout_read o.fields.large 0 0 0 (length o.path / 2) o refl readable (whole_words o.path readable)
