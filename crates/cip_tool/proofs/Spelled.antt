-- What is written of segments is read as them.
use Rattle.std.proofs.Common.{◌≡◌, ℕ, ◌+◌, ◌≤◌, ◌<◌, ◌^◌, ◌%◌, ◌++◌, ◌∷◌, ◌==◌, Bool, true, false, not, List, [], length, Ok, refl, ap, ◌∙◌, arith, inl, inr}
use Rattle.std.specs.Prelude.{decimal, codes, All, map}
use Rattle.std.specs.List.{list_all, slice_split, join_with_byte}
use Rattle.std.specs.Str.{bytes_eq}
use Rattle.std.proofs.Math.Bool.{and-false}
use Rattle.std.proofs.lemmas.Bool.{cases_Bool, and_parts}
use Rattle.std.proofs.lemmas.Bool.Decides.{nat_tests}
use Rattle.std.proofs.lemmas.List.Elements.{All-head, All-tail}
use Rattle.std.proofs.lemmas.List.Splits.{slice_split_none}
use Rattle.std.proofs.lemmas.Slice.Eq.{bytes_eq-Decides}
use Rattle.hex.specs.Hex.{encode_upper}
use Rattle.hex.proofs.HexLemmas.{decode_of-encode_upper}
use Rattle.cip_base.specs.Fields.{IsBytes}
use Rattle.cip_base.specs.declared.key.KeyFields.{KeyFields}
use Rattle.cip_segment.specs.declared.segment.Segment.{Segment}
use Rattle.cip_segment.specs.declared.segment.Segment.TheVariants.{Port, Class, Instance, Member, Point, Attribute, Key, Words, Symbol, Inhibit}
use Rattle.cip_segment.specs.Short.{IsRanged, IsWritable}
use Rattle.cip_tool.specs.declared.fault.WordFault.{WordFault}
use Rattle.cip_tool.specs.declared.fault.WordFault.TheVariants as faults
use Rattle.cip_tool.specs.Numbers.{number_of}
use Rattle.cip_tool.specs.Words.{is_decimal_digit, is_marked, is_equals, is_slash, is_plain, is_name, bounded, or_fault, port_of, address_of, object_by, key_by}
use Rattle.cip_tool.specs.Words.{symbol_of, named_of, hex_of, decoded}
use Rattle.cip_tool.specs.Routes.{is_comma, is_segment, segments_of, hop_at, placed, words_from, route_of, named_by, before}
use Rattle.cip_tool.specs.Spelling.{slashed, address_text, symbol_text, is_symbol, object_text, key_text, words_of, spelling_of, HasBytes}
use Rattle.cip_tool.proofs.Numerals.{lt_true, lt_false}
use Rattle.cip_tool.proofs.Routed.{segment_first, hop_first, none_left}
use Rattle.cip_tool.proofs.Texts.{lacks, not_true, none_pass, all_both, are_digits, digits_no_comma, digits_no_slash, digits_no_equals, plain_no_comma}
use Rattle.cip_tool.proofs.Texts.{plain_no_equals}
use Rattle.cip_tool.proofs.Texts.{pairs_no_comma, pairs_no_equals, digits_other, digits_not_marked, digits_no_segment, number_back, AllLack, split_joined}
use Rattle.cip_tool.proofs.Texts.{name_plain}

eq_false : (m n : ℕ) → n < m → (m == n) ≡ false
eq_false m n h = grind (arith, nat_tests)

-- numbers below a bound of the formats
bounded_back : (fault : WordFault) (bound n : ℕ) → n < bound → n < 2 ^ 64 → bounded fault bound (decimal n) ≡ Ok n
bounded_back fault bound n h k = ap (or_fault fault) (number_back bound n h k)

no_slash : (n : ℕ) → n < 2 ^ 64 → lacks is_slash (decimal n) ≡ true
no_slash n h = digits_no_slash (decimal n) (are_digits n h)

no_comma : (n : ℕ) → n < 2 ^ 64 → lacks is_comma (decimal n) ≡ true
no_comma n h = digits_no_comma (decimal n) (are_digits n h)

no_equals : (n : ℕ) → n < 2 ^ 64 → lacks is_equals (decimal n) ≡ true
no_equals n h = digits_no_equals (decimal n) (are_digits n h)

-- words that are read as the segments, and in none of them a comma
record Reads (words : List (List ℕ)) (segments : List Segment) : Type 0 where
  clean : AllLack is_comma words
  read : (n : ℕ) → words_from n words ≡ Ok segments

-- a word that names segments by itself
record Names (word : List ℕ) (segments : List Segment) : Type 0 where
  clean : lacks is_comma word ≡ true
  segment : is_segment word ≡ true
  read : segments_of word ≡ Ok segments

reads_none : Reads [] []
reads_none = record { clean = tt; read = none_left }

reads_more : (word : List ℕ) (more : List Segment) (words : List (List ℕ)) (rest : List Segment) → Names word more → Reads words rest
    → Reads (word ∷ words) (more ++ rest)
reads_more word more words rest h k = record {
  clean = (h.clean, k.clean);
  read = λ n. segment_first n word words more h.segment (ap (placed n) h.read) ∙ ap (before more) (k.read (n + 1));
}

reads_hop : (port : ℕ) (address : List ℕ) (words : List (List ℕ)) (rest : List Segment) → 1 ≤ port → port < 2 ^ 16
    → lacks is_comma (address_text address) ≡ true → address_of (address_text address) ≡ Ok address → Reads words rest
    → Reads (decimal port ∷ address_text address ∷ words) (Port port address ∷ rest)
reads_hop port address words rest low high clean is k =
    let digits = are_digits port (omega (arith, high)) in
    let names_port : port_of (decimal port) ≡ Ok port =
    rw (
      digits_other (decimal port) 98 (97 ∷ 99 ∷ 107 ∷ 112 ∷ 108 ∷ 97 ∷ 110 ∷ 101 ∷ []) digits refl,
      digits_other (decimal port) 101 (110 ∷ 101 ∷ 116 ∷ []) digits refl,
      bounded_back faults.Port (2 ^ 16) port high (omega (arith, high)),
      eq_false port 0 (omega arith),
    ) refl in
    let hop : (n : ℕ) → hop_at n (decimal port) (address_text address) ≡ Ok (Port port address ∷ []) = λ n. rw (names_port, is) refl in
    record {
      clean = (digits_no_comma (decimal port) digits, (clean, k.clean));
      read = λ n. hop_first n (decimal port) (address_text address) words _ (digits_no_segment (decimal port) digits) (hop n)
          ∙ ap (before (Port port address ∷ [])) (k.read (n + 2));
    }

-- objects
object_one : (c : ℕ) → c < 65536 → Names (object_text (c ∷ [])) (Class c ∷ [])
object_one c hc =
    let split : slice_split is_slash (slashed (c ∷ [])) ≡ decimal c ∷ [] = split_joined is_slash 47 refl (decimal c) [] (no_slash c (omega arith)) tt in
    record {
      clean = no_comma c (omega arith);
      segment = refl;
      read = ap object_by split ∙ rw (bounded_back faults.Class (2 ^ 16) c (omega arith) (omega arith)) refl;
    }

object_two : (c i : ℕ) → c < 65536 → i < 4294967296 → Names (object_text (c ∷ i ∷ [])) (Class c ∷ Instance i ∷ [])
object_two c i hc hi =
    let split : slice_split is_slash (slashed (c ∷ i ∷ [])) ≡ decimal c ∷ decimal i ∷ [] =
    split_joined is_slash 47 refl (decimal c) (decimal i ∷ []) (no_slash c (omega arith)) (no_slash i (omega arith), tt) in
    record {
      clean = all_both (λ b. not (is_comma b)) (decimal c) (47 ∷ decimal i) (no_comma c (omega arith)) (no_comma i (omega arith));
      segment = refl;
      read = ap object_by split ∙ rw (
        bounded_back faults.Class (2 ^ 16) c (omega arith) (omega arith),
        bounded_back faults.Instance (2 ^ 32) i (omega arith) (omega arith),
      ) refl;
    }

object_three : (c i a : ℕ) → c < 65536 → i < 4294967296 → a < 65536
    → Names (object_text (c ∷ i ∷ a ∷ [])) (Class c ∷ Instance i ∷ Attribute a ∷ [])
object_three c i a hc hi ha =
    let split : slice_split is_slash (slashed (c ∷ i ∷ a ∷ [])) ≡ decimal c ∷ decimal i ∷ decimal a ∷ [] =
    split_joined is_slash 47 refl (decimal c) (decimal i ∷ decimal a ∷ []) (no_slash c (omega arith))
    (no_slash i (omega arith), (no_slash a (omega arith), tt)) in
    record {
      clean = all_both (λ b. not (is_comma b)) (decimal c) (47 ∷ slashed (i ∷ a ∷ [])) (no_comma c (omega arith))
          (all_both (λ b. not (is_comma b)) (decimal i) (47 ∷ decimal a) (no_comma i (omega arith)) (no_comma a (omega arith)));
      segment = refl;
      read = ap object_by split ∙ rw (
        bounded_back faults.Class (2 ^ 16) c (omega arith) (omega arith),
        bounded_back faults.Instance (2 ^ 32) i (omega arith) (omega arith),
        bounded_back faults.Attribute (2 ^ 16) a (omega arith) (omega arith),
      ) refl;
    }

-- NAME=VALUE
named_back : (name value : List ℕ) (segment : Segment) → lacks is_equals value ≡ true → named_of name value ≡ Ok segment
    → named_by (name ∷ slice_split is_equals value) ≡ Ok (segment ∷ [])
named_back name value segment h e = rw (slice_split_none is_equals value (none_pass is_equals value h), e) refl

instance_named : (n : ℕ) → n < 4294967296 → Names (codes "instance=" ++ decimal n) (Instance n ∷ [])
unfolding named_of
instance_named n h = record {
  clean = no_comma n (omega arith);
  segment = refl;
  read = named_back (codes "instance") (decimal n) (Instance n) (no_equals n (omega arith))
      (rw (bounded_back faults.Instance (2 ^ 32) n (omega arith) (omega arith)) refl);
}

attribute_named : (n : ℕ) → n < 65536 → Names (codes "attribute=" ++ decimal n) (Attribute n ∷ [])
unfolding named_of
attribute_named n h = record {
  clean = no_comma n (omega arith);
  segment = refl;
  read = named_back (codes "attribute") (decimal n) (Attribute n) (no_equals n (omega arith))
      (rw (bounded_back faults.Attribute (2 ^ 16) n (omega arith) (omega arith)) refl);
}

member_named : (n : ℕ) → n < 65536 → Names (codes "member=" ++ decimal n) (Member n ∷ [])
unfolding named_of
member_named n h = record {
  clean = no_comma n (omega arith);
  segment = refl;
  read = named_back (codes "member") (decimal n) (Member n) (no_equals n (omega arith))
      (rw (bounded_back faults.Member (2 ^ 16) n (omega arith) (omega arith)) refl);
}

point_named : (n : ℕ) → n < 4294967296 → Names (codes "point=" ++ decimal n) (Point n ∷ [])
unfolding named_of
point_named n h = record {
  clean = no_comma n (omega arith);
  segment = refl;
  read = named_back (codes "point") (decimal n) (Point n) (no_equals n (omega arith))
      (rw (bounded_back faults.Point (2 ^ 32) n (omega arith) (omega arith)) refl);
}

inhibit_named : (n : ℕ) → n < 256 → Names (codes "inhibit=" ++ decimal n) (Inhibit n ∷ [])
unfolding named_of
inhibit_named n h = record {
  clean = no_comma n (omega arith);
  segment = refl;
  read = named_back (codes "inhibit") (decimal n) (Inhibit n) (no_equals n (omega arith))
      (rw (bounded_back faults.Inhibit (2 ^ 8) n (omega arith) (omega arith)) refl);
}

-- five numbers with slashes between them have no such character
five_lack : (p : ℕ → Bool) → ((n : ℕ) → n < 2 ^ 64 → lacks p (decimal n) ≡ true) → not (p 47) ≡ true → (v t q j m : ℕ)
    → v < 2 ^ 64 → t < 2 ^ 64 → q < 2 ^ 64 → j < 2 ^ 64 → m < 2 ^ 64 → lacks p (slashed (v ∷ t ∷ q ∷ j ∷ m ∷ [])) ≡ true
five_lack p each slash v t q j m hv ht hq hj hm =
    let behind : (n : ℕ) (more : List ℕ) → n < 2 ^ 64 → lacks p more ≡ true → lacks p (decimal n ++ 47 ∷ more) ≡ true =
    λ n more h k. all_both (λ b. not (p b)) (decimal n) (47 ∷ more) (each n h) (rw slash k) in
    behind v _ hv (behind t _ ht (behind q _ hq (behind j _ hj (each m hm))))

key_named : (key : KeyFields) → IsRanged (Key key) → Names (key_text key) (Key key ∷ [])
unfolding named_of
key_named key h =
    let v : key.vendor < 2 ^ 64 = omega (arith, h.0) in
    let t : key.device_type < 2 ^ 64 = omega (arith, h.1) in
    let q : key.product < 2 ^ 64 = omega (arith, h.2) in
    let j : key.major < 2 ^ 64 = omega (arith, h.3) in
    let m : key.minor < 2 ^ 64 = omega (arith, h.4) in
    let numbers : List ℕ = key.vendor ∷ key.device_type ∷ key.product ∷ key.major ∷ key.minor ∷ [] in
    let split : slice_split is_slash (slashed numbers) ≡ map decimal numbers =
    split_joined is_slash 47 refl (decimal key.vendor) (decimal key.device_type ∷ decimal key.product ∷ decimal key.major ∷ decimal key.minor ∷ [])
    (no_slash key.vendor v) (no_slash key.device_type t, (no_slash key.product q, (no_slash key.major j, (no_slash key.minor m, tt)))) in
    record {
      clean = five_lack is_comma no_comma refl key.vendor key.device_type key.product key.major key.minor v t q j m;
      segment = refl;
      read = named_back (codes "key") (slashed numbers) (Key key)
          (five_lack is_equals no_equals refl key.vendor key.device_type key.product key.major key.minor v t q j m)
          (ap key_by split ∙ rw (
            bounded_back faults.Key (2 ^ 16) key.vendor h.0 v,
            bounded_back faults.Key (2 ^ 16) key.device_type h.1 t,
            bounded_back faults.Key (2 ^ 16) key.product h.2 q,
            bounded_back faults.Key (2 ^ 8) key.major h.3 j,
            bounded_back faults.Key (2 ^ 8) key.minor h.4 m,
          ) refl);
    }

-- bytes
hex_back : (fault : WordFault) (bytes : List ℕ) → IsBytes bytes → hex_of fault (encode_upper bytes) ≡ Ok bytes
hex_back fault bytes h = ap (decoded fault) (decode_of-encode_upper bytes h)

data_named : (bytes : List ℕ) → IsBytes bytes → length bytes ≤ 510 → length bytes % 2 ≡ 0 → Names (codes "data=" ++ encode_upper bytes) (Words bytes ∷ [])
unfolding named_of
data_named bytes h most even = record {
  clean = pairs_no_comma bytes;
  segment = refl;
  read = named_back (codes "data") (encode_upper bytes) (Words bytes) (pairs_no_equals bytes)
      (rw (hex_back faults.Data bytes h, lt_false 510 (length bytes) most, even) refl);
}

symbol_back : (bytes : List ℕ) → IsBytes bytes → length bytes ≤ 255
    → (lacks is_comma (symbol_text bytes) ≡ true) × (lacks is_equals (symbol_text bytes) ≡ true) × (symbol_of (symbol_text bytes) ≡ Ok (Symbol bytes))
symbol_back bytes h most =
    let short = lt_false 255 (length bytes) most in
    elim (cases_Bool (is_symbol bytes)) [
      | inl is ↦
          let parts = and_parts (not (is_marked bytes)) (list_all is_plain bytes) is in
          let unmarked : is_marked bytes ≡ false = not_true (is_marked bytes) parts.0 in
          rw is (plain_no_comma bytes parts.1, plain_no_equals bytes parts.1, rw (unmarked, parts.1, short) refl)
      | inr other ↦ rw other (pairs_no_comma bytes, pairs_no_equals bytes, rw (hex_back faults.Symbol bytes h, short) refl)
    ]

symbol_named : (bytes : List ℕ) → IsBytes bytes → length bytes ≤ 255 → Names (codes "symbol=" ++ symbol_text bytes) (Symbol bytes ∷ [])
unfolding named_of
symbol_named bytes h most =
    let back = symbol_back bytes h most in
    record {
      clean = back.0;
      segment = refl;
      read = named_back (codes "symbol") (symbol_text bytes) (Symbol bytes) back.1 back.2;
    }

-- addresses
digits_no_name : (word : List ℕ) → list_all is_decimal_digit word ≡ true → is_name word ≡ false
digits_no_name word h = rw h (and-false _)

marked_no_name : (more : List ℕ) → is_name (48 ∷ 120 ∷ more) ≡ false
marked_no_name more = simp and-false

address_back : (bytes : List ℕ) → IsBytes bytes → 1 ≤ length bytes → length bytes ≤ 16
    → (lacks is_comma (address_text bytes) ≡ true) × (address_of (address_text bytes) ≡ Ok bytes)
address_back [] h least most = absurd (omega arith)
address_back (b ∷ []) h least most =
    let small : b < 256 = h 0 in
    let digits = are_digits b (omega arith) in (
      digits_no_comma (decimal b) digits,
      rw (digits_no_name (decimal b) digits, digits_not_marked (decimal b) digits, bounded_back faults.Address (2 ^ 8) b small (omega arith)) refl,
    )
address_back (a ∷ b ∷ more) h least most =
    let some = lt_true 0 (length (a ∷ b ∷ more)) (omega arith) in
    let few = lt_true (length (a ∷ b ∷ more)) 17 (omega arith) in
    let many : (length (a ∷ b ∷ more) == 1) ≡ false = eq_false (length (a ∷ b ∷ more)) 1 (omega arith) in
    rw many (elim (cases_Bool (is_name (a ∷ b ∷ more))) [
      | inl is ↦
          rw is (plain_no_comma (a ∷ b ∷ more) (name_plain (a ∷ b ∷ more) is), rw is refl)
      | inr other ↦
          rw other (
            pairs_no_comma (a ∷ b ∷ more),
            rw (marked_no_name (encode_upper (a ∷ b ∷ more)), hex_back faults.Address (a ∷ b ∷ more) h, some, few) refl,
          )
    ])

-- every list of segments
abbrev AllFit : List Segment → Type 0
AllFit [] = Unit {0}
AllFit (g ∷ rest) = (IsRanged g × HasBytes g × IsWritable g) × AllFit rest

all_fit : (s : List Segment) → All IsRanged s → All HasBytes s → All IsWritable s → AllFit s
all_fit [] h k m = tt
all_fit (g ∷ rest) h k m = (
  (All-head IsRanged g rest h, All-head HasBytes g rest k, All-head IsWritable g rest m),
  all_fit rest (All-tail IsRanged g rest h) (All-tail HasBytes g rest k) (All-tail IsWritable g rest m),
)

reads : (s : List Segment) → AllFit s → Reads (words_of s) s
unfolding words_of
reads [] h = reads_none
reads (Class c ∷ Instance i ∷ Attribute a ∷ rest) h =
    reads_more _ _ _ _ (object_three c i a h.0.0 h.1.0.0 h.1.1.0.0) (reads rest h.1.1.1)
reads (Class c ∷ Instance i ∷ rest) h = reads_more _ _ _ _ (object_two c i h.0.0 h.1.0.0) (reads rest h.1.1)
reads (Class c ∷ rest) h = reads_more _ _ _ _ (object_one c h.0.0) (reads rest h.1)
reads (Port port address ∷ rest) h =
    let back = address_back address h.0.1 h.0.0.2 h.0.0.3 in
    reads_hop port address _ rest h.0.0.0 h.0.0.1 back.0 back.1 (reads rest h.1)
reads (Instance n ∷ rest) h = reads_more _ _ _ _ (instance_named n h.0.0) (reads rest h.1)
reads (Member n ∷ rest) h = reads_more _ _ _ _ (member_named n h.0.0) (reads rest h.1)
reads (Point n ∷ rest) h = reads_more _ _ _ _ (point_named n h.0.0) (reads rest h.1)
reads (Attribute n ∷ rest) h = reads_more _ _ _ _ (attribute_named n h.0.0) (reads rest h.1)
reads (Inhibit n ∷ rest) h = reads_more _ _ _ _ (inhibit_named n h.0.0) (reads rest h.1)
reads (Key key ∷ rest) h = reads_more _ _ _ _ (key_named key h.0.0) (reads rest h.1)
reads (Words bytes ∷ rest) h = reads_more _ _ _ _ (data_named bytes h.0.1 h.0.2.0 h.0.2.1) (reads rest h.1)
reads (Symbol bytes ∷ rest) h = reads_more _ _ _ _ (symbol_named bytes h.0.1 h.0.2) (reads rest h.1)

-- a dash alone is no word
dash_not_read : (segments : List Segment) → words_from 1 ((45 ∷ []) ∷ []) ≡ Ok segments → ⊥
unfolding words_from number_of
dash_not_read segments e = cc

joined_back : (word : List ℕ) (words : List (List ℕ)) (segments : List Segment) → Reads (word ∷ words) segments
    → route_of (join_with_byte 44 (word ∷ words)) ≡ Ok segments
joined_back word words segments h =
    let text : List ℕ = join_with_byte 44 (word ∷ words) in
    let split : slice_split is_comma (join_with_byte 44 (word ∷ words)) ≡ word ∷ words =
    split_joined is_comma 44 refl word words h.clean.0 h.clean.1 in
    let read : words_from 1 (slice_split is_comma (join_with_byte 44 (word ∷ words))) ≡ Ok segments = rw split (h.read 1) in
    elim (cases_Bool (bytes_eq (join_with_byte 44 (word ∷ words)) (45 ∷ []))) [
      | inl same ↦
          let dash : join_with_byte 44 (word ∷ words) ≡ 45 ∷ [] = (bytes_eq-Decides (join_with_byte 44 (word ∷ words)) (45 ∷ [])).0 same in
          absurd (dash_not_read segments (rw dash at read))
      | inr other ↦ rw other read
    ]

-- no words are no segments
some_words : (words : List (List ℕ)) (g : Segment) (rest : List Segment) → Reads words (g ∷ rest) → route_of (join_with_byte 44 words) ≡ Ok (g ∷ rest)
some_words [] g rest h = let none = none_left 1 in let read = h.read 1 in absurd cc
some_words (word ∷ words) g rest h = joined_back word words (g ∷ rest) h

pub spelling_back : (s : List Segment) → All IsRanged s → All HasBytes s → All IsWritable s → route_of (spelling_of s) ≡ Ok s
spelling_back [] h k m = refl
spelling_back (g ∷ rest) h k m = some_words (words_of (g ∷ rest)) g rest (reads (g ∷ rest) (all_fit (g ∷ rest) h k m))
