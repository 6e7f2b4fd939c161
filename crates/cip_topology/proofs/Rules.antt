-- What a rule that was kept tells of the value that was read by it.
use Rattle.std.proofs.Common.{◌≡◌, ℕ, ◌≤◌, Bool, true, false, cond, ◌&&◌, List, Option, Some, None}
use Rattle.std.proofs.Common.{Ok, Err, refl, sym, ap, ◌∙◌, subst, arith, nat_le, nat_lt, cond}
use Rattle.std.proofs.lemmas.Bool.{and_parts}
use Rattle.std.proofs.lemmas.Bool.Decides.{nat_tests}
use Rattle.toml.specs.Data.{Data, Members, get_member, as_integer, as_str}
use Rattle.cip_topology.specs.declared.key.Key.{Key}
use Rattle.cip_topology.specs.declared.place.Place.{Place}
use Rattle.cip_topology.specs.declared.fault.LoadFault.{LoadFault}
use Rattle.cip_topology.specs.Words.{word_of}
use Rattle.cip_topology.specs.Keys.{Read, ◌>>=◌, value_at, natural, within, number_of, number_at, number_or, number_or_at, with_count, counted, counted_at}
use Rattle.cip_topology.specs.Keys.{text_if, text_at}
use Rattle.cip_base.specs.Counts.{count_of}

-- the first of two rules is kept where both are
pub bind_ok : {A B : Type 0} (r : Read A) (f : A → Read B) (y : B) → (r >>= f) ≡ Ok y → (x : A) × (r ≡ Ok x) × (f x ≡ Ok y)
bind_ok (Ok x) f y h = (x, refl, h)
bind_ok (Err e) f y h = cc

pub same_ok : {A : Type 0} (x y : A) → ◌≡◌ {A = Read A} (Ok x) (Ok y) → x ≡ y
same_ok x y h = cc

pub kept : {A : Type 0} (b : Bool) (e : LoadFault) (x y : A) → ◌≡◌ {A = Read A} (cond b (Ok x) (Err e)) (Ok y) → (b ≡ true) × (x ≡ y)
kept true e x y h = (refl, cc)
kept false e x y h = cc

pub passed : {A : Type 0} (b : Bool) (e : LoadFault) (r : Read A) (y : A) → ◌≡◌ {A = Read A} (cond b (Err e) r) (Ok y) → (b ≡ false) × (r ≡ Ok y)
passed true e r y h = cc
passed false e r y h = (refl, h)

pub le_of : (m n : ℕ) → nat_le m n ≡ true → m ≤ n
le_of m n h = grind (arith, nat_tests)

pub le_true : (m n : ℕ) → m ≤ n → nat_le m n ≡ true
le_true m n h = grind (arith, nat_tests)

pub not_over : (m n : ℕ) → nat_lt m n ≡ false → n ≤ m
not_over m n h = grind (arith, nat_tests)

within_bounds : (place : Place) (k : Key) (least most : ℕ) (d : Data) (o : Option ℕ) (n : ℕ) → within place k least most d o ≡ Ok n → (least ≤ n) × (n ≤ most)
within_bounds place k least most d None n h = cc
within_bounds place k least most d (Some x) n h =
    let (test, same) = kept (nat_le least x && nat_le x most) _ x n h in
    let (low, high) = and_parts (nat_le least x) (nat_le x most) test in
    (subst (λ y. least ≤ y) same (le_of least x low), subst (λ y. y ≤ most) same (le_of x most high))

pub number_bounds : (place : Place) (k : Key) (least most : ℕ) (m : Members) (n : ℕ) → number_at place k least most m ≡ Ok n → (least ≤ n) × (n ≤ most)
number_bounds place k least most m n h =
    let (d, found, fits) = bind_ok (value_at place k m) (number_of place k least most) n h in
    within_bounds place k least most d (natural (as_integer d)) n fits

pub number_or_bounds : (place : Place) (k : Key) (otherwise least most : ℕ) (m : Members) (n : ℕ) → least ≤ otherwise → otherwise ≤ most
    → number_or_at place k otherwise least most m ≡ Ok n → (least ≤ n) × (n ≤ most)
number_or_bounds place k otherwise least most m n low high h = by_value (get_member (word_of k) m) h
  where
    by_value : (o : Option Data) → number_or place k otherwise least most o ≡ Ok n → (least ≤ n) × (n ≤ most)
    by_value None e = let same = same_ok otherwise n e in (subst (λ y. least ≤ y) same low, subst (λ y. y ≤ most) same high)
    by_value (Some d) e = within_bounds place k least most d (natural (as_integer d)) n e

pub counted_some : (place : Place) (k : Key) (m : Members) (n : ℕ) → counted_at place k m ≡ Ok n → nat_le 1 (count_of n) ≡ true
counted_some place k m n h = by_value (get_member (word_of k) m) h
  where
    by_value : (o : Option Data) → counted place k o ≡ Ok n → nat_le 1 (count_of n) ≡ true
    by_value None e = ap (λ x. nat_le 1 (count_of x)) (sym (same_ok 1 n e))
    by_value (Some d) e =
        let (x, found, counts) = bind_ok (number_of place k 1 4294967295 d) (with_count place k d) n e in
        let (t, same) = kept (nat_le 1 (count_of x)) _ x n counts in
        ap (λ y. nat_le 1 (count_of y)) (sym same) ∙ t

text_if_passes : (test : List ℕ → Bool) (place : Place) (k : Key) (d : Data) (o : Option (List ℕ)) (s : List ℕ)
    → text_if test place k d o ≡ Ok s → test s ≡ true
text_if_passes test place k d None s h = cc
text_if_passes test place k d (Some x) s h =
    let (t, same) = kept (test x) _ x s h in
    ap test (sym same) ∙ t

pub text_passes : (test : List ℕ → Bool) (place : Place) (k : Key) (m : Members) (s : List ℕ) → text_at test place k m ≡ Ok s → test s ≡ true
text_passes test place k m s h =
    let (d, found, passes) = bind_ok (value_at place k m) (λ d. text_if test place k d (as_str d)) s h in
    text_if_passes test place k d (as_str d) s passes
