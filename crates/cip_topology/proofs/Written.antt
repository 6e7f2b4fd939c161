-- Rules that are kept by what a document writes.
use Rattle.std.proofs.Common.{◌≡◌, ℕ, ◌≤◌, ◌*◌, Bool, true, false, cond, List, [], length, Option, Some, None, Ok, pos, refl, sym, ap, ◌∙◌, arith}
use Rattle.std.proofs.Common.{nat_le, nat_lt, inl, inr, ◌⊎◌}
use Rattle.std.specs.Result.{result_ok}
use Rattle.std.proofs.lemmas.Bool.{and_from}
use Rattle.std.proofs.lemmas.Bool.Decides.{nat_tests}
use Rattle.hex.specs.Hex.{decode_of}
use Rattle.toml.specs.Data.{Data, Members, get_member, string, integer, as_str}
use Rattle.cip_topology.specs.declared.key.Key.{Key}
use Rattle.cip_topology.specs.declared.key.Key.TheVariants as key
use Rattle.cip_topology.specs.declared.place.Place.{Place}
use Rattle.cip_topology.specs.Words.{word_of}
use Rattle.cip_topology.specs.Documents.{HasNumber, HasNumberOr, HasText, HasAddress}
use Rattle.cip_topology.specs.Keys.{Read, ◌>>=◌, needed, value_at, out_of_range, within, number_of, number_at, number_or, number_or_at, with_count, counted}
use Rattle.cip_topology.specs.Keys.{counted_at, text_if, text_at}
use Rattle.cip_topology.specs.Keys.{sized, pairs_of, address_in, address_of, address_at}
use Rattle.cip_base.specs.Counts.{count_of}
use Rattle.cip_topology.proofs.Rules.{le_true, le_of}

-- one rule after the other
pub then_ok : {A B : Type 0} (r : Read A) (f : A → Read B) (x : A) (y : Read B) → r ≡ Ok x → f x ≡ y → (r >>= f) ≡ y
then_ok r f x y e g = ap (λ (o : Read _). o >>= f) e ∙ g

-- a test that is passed
pub if_true : {A : Type 0} (b : Bool) (x y : Read A) → b ≡ true → cond b x y ≡ x
if_true b x y e = ap (λ (c : Bool). cond c x y) e

pub if_false : {A : Type 0} (b : Bool) (x y : Read A) → b ≡ false → cond b x y ≡ y
if_false b x y e = ap (λ (c : Bool). cond c x y) e

pub value_is : (place : Place) (k : Key) (m : Members) (d : Data) → get_member (word_of k) m ≡ Some d → value_at place k m ≡ Ok d
value_is place k m d e = ap (needed place k) e

within_is : (place : Place) (k : Key) (least most : ℕ) (d : Data) (n : ℕ) → least ≤ n → n ≤ most → within place k least most d (Some n) ≡ Ok n
within_is place k least most d n low high =
    if_true _ (Ok n) (out_of_range place k d) (and_from (nat_le least n) (nat_le n most) (le_true least n low) (le_true n most high))

pub number_is : (place : Place) (k : Key) (least most n : ℕ) (m : Members) → HasNumber k n m → least ≤ n → n ≤ most → number_at place k least most m ≡ Ok n
number_is place k least most n m at low high =
    then_ok (value_at place k m) (number_of place k least most) (integer (pos n)) (Ok n) (value_is place k m (integer (pos n)) at)
    (within_is place k least most (integer (pos n)) n low high)

pub number_or_is : (place : Place) (k : Key) (otherwise least most n : ℕ) (m : Members) → HasNumberOr k otherwise n m → least ≤ n → n ≤ most
    → number_or_at place k otherwise least most m ≡ Ok n
number_or_is place k otherwise least most n m (inl at) low high =
    ap (number_or place k otherwise least most) at ∙ within_is place k least most (integer (pos n)) n low high
number_or_is place k otherwise least most n m (inr out) low high =
    ap (number_or place k otherwise least most) out.0 ∙ ap (λ (x : ℕ). Ok x) (sym out.1)

pub counted_is : (place : Place) (k : Key) (n : ℕ) (m : Members) → HasNumberOr k 1 n m → nat_le 1 (count_of n) ≡ true → n ≤ 4294967295
    → counted_at place k m ≡ Ok n
counted_is place k n m (inl at) some high =
    let d = integer (pos n) in
    let test : 1 ≤ count_of n = le_of 1 (count_of n) some in
    ap (counted place k) at
    ∙ then_ok (number_of place k 1 4294967295 d) (with_count place k d) n (Ok n) (within_is place k 1 4294967295 d n (omega arith) high)
    (if_true _ (Ok n) (out_of_range place k d) some)
counted_is place k n m (inr out) some high = ap (counted place k) out.0 ∙ ap (λ (x : ℕ). Ok x) (sym out.1)

pub text_is : (test : List ℕ → Bool) (place : Place) (k : Key) (s : List ℕ) (m : Members) → HasText k s m → test s ≡ true → text_at test place k m ≡ Ok s
text_is test place k s m at t =
    then_ok (value_at place k m) (λ d. text_if test place k d (as_str d)) (string s) (Ok s) (value_is place k m (string s) at)
    (if_true (test s) (Ok s) (out_of_range place k (string s)) t)

short : (n d : ℕ) → d ≡ 2 * n → n ≤ 16 → nat_lt 32 d ≡ false
short n d e h = grind (arith, nat_tests)

pub address_is : (place : Place) (a : List ℕ) (m : Members) → HasAddress a m → 1 ≤ length a → length a ≤ 16 → address_at place m ≡ Ok a
address_is place a m h low high =
    let size : sized (Some a) ≡ Some a =
    ap (λ (b : Bool). cond b (Some a) None) (and_from (nat_le 1 (length a)) (nat_le (length a) 16) (le_true 1 (length a) low) (le_true (length a) 16 high)) in
    let pairs : pairs_of h.digits ≡ Some a =
    ap (λ (b : Bool). cond b None (sized (result_ok (decode_of h.digits)))) (short (length a) (length h.digits) h.count high)
    ∙ ap (λ r. sized (result_ok r)) h.decoded ∙ size in
    then_ok (value_at place key.Address m) (λ d. address_of place d (as_str d)) (string h.digits) (Ok a) (value_is place key.Address m (string h.digits) h.at)
    (ap (address_in place (string h.digits)) pairs)
