-- The bounds in numbers are those of the definitions.
use Rattle.std.proofs.Common.{◌≡◌, ◌⊎◌, ℕ, ◌≤◌, Bool, true, false, List, [], ◌∷◌, length, refl, sym, ap, ◌∙◌, inl, inr, arith}
use Rattle.std.specs.Prelude.{◌&&◌, ◌||◌, ◌==◌, nat_le, slice_index}
use Rattle.std.specs.List.{list_all}
use Rattle.std.proofs.lemmas.Bool.{and_parts, eqb-true}
use Rattle.std.proofs.lemmas.Bool.Decides.{nat_tests}
use Rattle.cip_config.specs.declared.config.LegalAddresses.{LegalAddresses}
use Rattle.cip_config.specs.declared.config.LegalAddresses.TheVariants.{Byte, Text}
use Rattle.cip_config.specs.Config.{is_name_byte, is_name, is_text_byte, is_range, is_legal}
use Rattle.cip_target.specs.Identity.{is_printable, is_product_name}
use Rattle.witnesses.specs.Bounds.{Each, IsFromTo, IsOfNames, IsNameOfSixteen, IsRangeOfSixteen, IsAddressFrom21, IsProductNameOf32}

-- ---- each character

each_of : (p : ℕ → Bool) (P : ℕ → Type 0) → ((c : ℕ) → p c ≡ true → P c) → (s : List ℕ) → list_all p s ≡ true → Each P s
each_of p P is [] h = tt
each_of p P is (c ∷ s) h = let parts = and_parts (p c) (list_all p s) h in (is c parts.0, each_of p P is s parts.1)

both : (a b : Bool) → a ≡ true → b ≡ true → (a && b) ≡ true
both a b e f = ap (λ (x : Bool). x && b) e ∙ f

all_of : (p : ℕ → Bool) (P : ℕ → Type 0) → ((c : ℕ) → P c → p c ≡ true) → (s : List ℕ) → Each P s → list_all p s ≡ true
all_of p P is [] h = refl
all_of p P is (c ∷ s) h = both (p c) (list_all p s) (is c h.0) (all_of p P is s h.1)

le_is : (a b : ℕ) → nat_le a b ≡ true → a ≤ b
le_is a b h = grind (arith, nat_tests)

is_le : (a b : ℕ) → a ≤ b → nat_le a b ≡ true
is_le a b h = grind (arith, nat_tests)

from_to : (first last c : ℕ) → (nat_le first c && nat_le c last) ≡ true → IsFromTo first last c
from_to first last c h = let parts = and_parts (nat_le first c) (nat_le c last) h in (le_is first c parts.0, le_is c last parts.1)

in_range : (first last c : ℕ) → IsFromTo first last c → (nat_le first c && nat_le c last) ≡ true
in_range first last c h = both (nat_le first c) (nat_le c last) (is_le first c h.0) (is_le c last h.1)

-- ---- names

by_line : (c : ℕ) (b : Bool) → (c == 95) ≡ b → (nat_le 48 c && nat_le c 57) ≡ false → (nat_le 65 c && nat_le c 90) ≡ false
    → (nat_le 97 c && nat_le c 122) ≡ false → is_name_byte c ≡ true → IsOfNames c
by_line c true e digit capital low h = inr (inr (inr (inl (eqb-true c 95 e))))
by_line c false e digit capital low h =
    inr (inr (inr (inr (eqb-true c 45 (sym (λ i. digit i || (capital i || (low i || (e i || c == 45)))) ∙ h)))))

by_low : (c : ℕ) (b : Bool) → (nat_le 97 c && nat_le c 122) ≡ b → (nat_le 48 c && nat_le c 57) ≡ false → (nat_le 65 c && nat_le c 90) ≡ false
    → is_name_byte c ≡ true → IsOfNames c
by_low c true e digit capital h = inr (inr (inl (from_to 97 122 c e)))
by_low c false e digit capital h = by_line c (c == 95) refl digit capital e h

by_capital : (c : ℕ) (b : Bool) → (nat_le 65 c && nat_le c 90) ≡ b → (nat_le 48 c && nat_le c 57) ≡ false → is_name_byte c ≡ true → IsOfNames c
by_capital c true e digit h = inr (inl (from_to 65 90 c e))
by_capital c false e digit h = by_low c (nat_le 97 c && nat_le c 122) refl digit e h

by_digit : (c : ℕ) (b : Bool) → (nat_le 48 c && nat_le c 57) ≡ b → is_name_byte c ≡ true → IsOfNames c
by_digit c true e h = inl (from_to 48 57 c e)
by_digit c false e h = by_capital c (nat_le 65 c && nat_le c 90) refl e h

of_names : (c : ℕ) → is_name_byte c ≡ true → IsOfNames c
of_names c h = by_digit c (nat_le 48 c && nat_le c 57) refl h

is_of_names : (c : ℕ) → IsOfNames c → is_name_byte c ≡ true
is_of_names c h = grind (arith, nat_tests)

pub name_in_numbers : (s : List ℕ) → is_name s ≡ true → IsNameOfSixteen s
name_in_numbers s h =
    let some = and_parts (nat_le 1 (length s)) (nat_le (length s) 16 && list_all is_name_byte s) h in
    let short = and_parts (nat_le (length s) 16) (list_all is_name_byte s) some.1 in
    record { least = le_is 1 (length s) some.0; most = le_is (length s) 16 short.0; each = each_of is_name_byte IsOfNames of_names s short.1 }

pub numbers_name : (s : List ℕ) → IsNameOfSixteen s → is_name s ≡ true
numbers_name s h =
    both (nat_le 1 (length s)) (nat_le (length s) 16 && list_all is_name_byte s) (is_le 1 (length s) h.least)
    (both (nat_le (length s) 16) (list_all is_name_byte s) (is_le (length s) 16 h.most) (all_of is_name_byte IsOfNames is_of_names s h.each))

-- ---- addresses

pub range_in_numbers : (legal : LegalAddresses) → is_range legal ≡ true → IsRangeOfSixteen legal
range_in_numbers (Byte first last) h = le_is first last h
range_in_numbers (Text longest) h = from_to 1 16 longest h

pub numbers_range : (legal : LegalAddresses) → IsRangeOfSixteen legal → is_range legal ≡ true
numbers_range (Byte first last) h = is_le first last h
numbers_range (Text longest) h = in_range 1 16 longest h

pub address_in_numbers : (legal : LegalAddresses) (a : List ℕ) → is_legal legal a ≡ true → IsAddressFrom21 legal a
address_in_numbers (Byte first last) [] h = absurd (cc)
address_in_numbers (Byte first last) (c ∷ []) h = (c, refl, from_to first last c h)
address_in_numbers (Byte first last) (c ∷ d ∷ a) h =
    let one = eqb-true (length (c ∷ d ∷ a)) 1 (and_parts (length (c ∷ d ∷ a) == 1) (nat_le first c && nat_le c last) h).0 in absurd (omega (arith, one))
address_in_numbers (Text longest) a h =
    let parts = and_parts (nat_le (length a) longest) (list_all is_text_byte a) h in
    (le_is (length a) longest parts.0, each_of is_text_byte (IsFromTo 0x21 0x7E) (from_to 0x21 0x7E) a parts.1)

pub numbers_address : (legal : LegalAddresses) (a : List ℕ) → IsAddressFrom21 legal a → is_legal legal a ≡ true
numbers_address (Byte first last) a (c, is, range) = ap (is_legal (Byte first last)) is ∙ in_range first last c range
numbers_address (Text longest) a h =
    both (nat_le (length a) longest) (list_all is_text_byte a) (is_le (length a) longest h.0)
    (all_of is_text_byte (IsFromTo 0x21 0x7E) (in_range 0x21 0x7E) a h.1)

-- ---- product names

pub product_name_in_numbers : (s : List ℕ) → is_product_name s ≡ true → IsProductNameOf32 s
product_name_in_numbers s h =
    let parts = and_parts (nat_le (length s) 32) (list_all is_printable s) h in
    record { most = le_is (length s) 32 parts.0; each = each_of is_printable (IsFromTo 0x20 0x7E) (from_to 0x20 0x7E) s parts.1 }

pub numbers_product_name : (s : List ℕ) → IsProductNameOf32 s → is_product_name s ≡ true
numbers_product_name s h =
    both (nat_le (length s) 32) (list_all is_printable s) (is_le (length s) 32 h.most)
    (all_of is_printable (IsFromTo 0x20 0x7E) (in_range 0x20 0x7E) s h.each)
