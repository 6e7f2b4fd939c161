-- A trail grows at its end: by the command, and then by the arrival of the request that its last entry sent.
use Rattle.std.proofs.Common.{◌≡◌, ℕ, zero, suc, ◌+◌, ◌≤◌, ◌<◌, Bool, true, false, cond, ◌&&◌, List, [], ◌∷◌, ◌++◌, length, Option, Some, None, refl, sym, ap}
use Rattle.std.proofs.Common.{◌∙◌, leb, arith}
use Rattle.std.specs.Prelude.{option_and_then, nat_le}
use Rattle.std.proofs.lemmas.Bool.{ne_eqb, and_parts}
use Rattle.std.proofs.lemmas.Bool.Decides.{nat_tests}
use Rattle.cip_laws.specs.Births.{or_else}
use Rattle.cip_world.specs.declared.journal.Entry.{Entry}
use Rattle.cip_event.specs.declared.frame.FrameName.{FrameName}
use Rattle.cip_world.specs.Journals.{Journal, entry_at}
use Rattle.cip_world.specs.Trails.{is_command, request_by, request_of, arrived_in, first_from, next_of, and_so_on, trail_of}

-- the last of a trail
abbrev pub tip : List ℕ → Option ℕ
tip [] = None
tip (k ∷ []) = Some k
tip (k ∷ l ∷ ks) = tip (l ∷ ks)

abbrev pub arrived : Option FrameName → Entry → Bool
arrived None e = false
arrived (Some f) e = arrived_in f e

-- entry e goes on behind the trail in j that ends so
abbrev pub goes_on : Journal → ℕ → ℕ → Option ℕ → Entry → Bool
goes_on j m op None e = is_command m op e
goes_on j m op (Some k) e = arrived (request_of j k) e

abbrev pub if_so : Bool → ℕ → List ℕ
if_so true k = k ∷ []
if_so false k = []

-- ---- the first entry

first_here : (test : Entry → Bool) (n : ℕ) (x : Entry) (j : Journal) (k : ℕ) (b : Bool) → (nat_le n (length j) && test x) ≡ b
    → cond b (Some (length j)) None ≡ Some k
    → (k < length (x ∷ j)) × (n ≤ k)
first_here test n x j k false t h = absurd (cc)
first_here test n x j k true t h =
    let is : length j ≡ k = cc in
    let most : leb n (length j) ≡ true = (and_parts (nat_le n (length j)) (test x) t).0 in
    (omega (arith, is), grind (arith, nat_tests, is, most))

first_old : (test : Entry → Bool) (n : ℕ) (x : Entry) (j : Journal) (k : ℕ) (o : Option ℕ) → ((i : ℕ) → o ≡ Some i → (i < length j) × (n ≤ i))
    → or_else o (cond (nat_le n (length j) && test x) (Some (length j)) None) ≡ Some k → (k < length (x ∷ j)) × (n ≤ k)
first_old test n x j k None old h = first_here test n x j k (nat_le n (length j) && test x) refl h
first_old test n x j k (Some i) old h =
    let same : i ≡ k = cc in
    let was = old i refl in
    let less = was.0 in let most = was.1 in
    (omega (arith, same, less), omega (arith, same, most))

pub first_within : (test : Entry → Bool) (n : ℕ) (j : Journal) (k : ℕ) → first_from test n j ≡ Some k → (k < length j) × (n ≤ k)
first_within test n [] k e = absurd (cc)
first_within test n (x ∷ j) k e = first_old test n x j k (first_from test n j) (λ i f. first_within test n j i f) e

-- the newest entry is behind none
pub first_past : (test : Entry → Bool) (n : ℕ) (j : Journal) → length j ≤ n → first_from test n j ≡ None
first_past test n [] l = refl
first_past test n (x ∷ j) l =
    let none = first_past test n j (omega (arith, l)) in
    let low : leb n (length j) ≡ false = grind (arith, nat_tests, l) in
    ap (λ o. or_else o (cond (nat_le n (length j) && test x) (Some (length j)) None)) none
    ∙ ap (λ b. cond (b && test x) (Some (length j)) None) low

-- ---- an older entry

pub entry_older : (e : Entry) (j : Journal) (k : ℕ) → k < length j → entry_at (e ∷ j) k ≡ entry_at j k
entry_older e j k l = ap (λ b. cond b (Some e) (entry_at j k)) (ne_eqb k (length j) (λ same. omega (arith, l, same)))

pub request_older : (e : Entry) (j : Journal) (k : ℕ) → k < length j → request_of (e ∷ j) k ≡ request_of j k
request_older e j k l = ap (option_and_then (request_by k)) (entry_older e j k l)

-- no arrival stands behind the newest entry
last_next : (e : Entry) (j : Journal) → next_of (e ∷ j) (length j) ≡ None
last_next e j = by_request (request_of (e ∷ j) (length j))
  where
    by_request : (o : Option FrameName) → option_and_then (λ f. first_from (arrived_in f) (length j + 1) (e ∷ j)) o ≡ None
    by_request None = refl
    by_request (Some f) = first_past (arrived_in f) (length j + 1) (e ∷ j) (omega arith)

no_more : (n : ℕ) (j : Journal) → and_so_on n j None ≡ []
no_more zero j = refl
no_more (suc n) j = refl

just_it : (n : ℕ) (e : Entry) (j : Journal) → and_so_on (suc n) (e ∷ j) (Some (length j)) ≡ length j ∷ []
just_it n e j = ap (λ o. length j ∷ and_so_on n (e ∷ j) o) (last_next e j) ∙ ap (λ ks. length j ∷ ks) (no_more n (e ∷ j))

if_then : (n : ℕ) (e : Entry) (j : Journal) (b : Bool) → and_so_on (suc n) (e ∷ j) (cond b (Some (length j)) None) ≡ if_so b (length j)
if_then n e j true = just_it n e j
if_then n e j false = refl

-- ---- from an entry on

abbrev more_of : Entry → Journal → List ℕ → List ℕ
more_of e j ks = ks ++ if_so (arrived (option_and_then (request_of j) (tip ks)) e) (length j)

behind : (n : ℕ) (e : Entry) (j : Journal) (k i : ℕ) → and_so_on (suc n) (e ∷ j) (Some i) ≡ more_of e j (and_so_on n j (Some i)) → i < length j → k + 1 ≤ i
    → length j ≤ suc n + k → k ∷ and_so_on (suc n) (e ∷ j) (Some i) ≡ more_of e j (k ∷ and_so_on n j (Some i))
behind zero e j k i h less more most = absurd (omega (arith, less, more, most))
behind (suc n) e j k i h less more most = ap (λ ks. k ∷ ks) h

from_next : (n : ℕ) (e : Entry) (j : Journal) (k : ℕ) (f : FrameName) (o : Option ℕ) → k < length j → length j ≤ suc n + k → request_of j k ≡ Some f
    → ((i : ℕ) → o ≡ Some i → (i < length j) × (k + 1 ≤ i))
    → ((i : ℕ) → i < length j → length j ≤ n + i → and_so_on (suc n) (e ∷ j) (Some i) ≡ more_of e j (and_so_on n j (Some i)))
    → k ∷ and_so_on (suc n) (e ∷ j) (or_else o (cond (nat_le (k + 1) (length j) && arrived_in f e) (Some (length j)) None)) ≡ more_of e j (k ∷ and_so_on n j o)
from_next n e j k f None l most is within ih =
    let low : leb (k + 1) (length j) ≡ true = grind (arith, nat_tests, l) in
    ap (λ b. k ∷ and_so_on (suc n) (e ∷ j) (cond (b && arrived_in f e) (Some (length j)) None)) low
    ∙ ap (λ ks. k ∷ ks) (if_then n e j (arrived_in f e))
    ∙ ap (λ o. k ∷ if_so (arrived o e) (length j)) (sym is)
    ∙ ap (λ ks. more_of e j (k ∷ ks)) (sym (no_more n j))
from_next n e j k f (Some i) l most is within ih =
    let at = within i refl in
    let less = at.0 in let more = at.1 in
    behind n e j k i (ih i less (omega (arith, most, more))) less more most

from_request : (n : ℕ) (e : Entry) (j : Journal) (k : ℕ) (o : Option FrameName) → k < length j → length j ≤ suc n + k → request_of j k ≡ o
    → ((i : ℕ) → i < length j → length j ≤ n + i → and_so_on (suc n) (e ∷ j) (Some i) ≡ more_of e j (and_so_on n j (Some i)))
    → k ∷ and_so_on (suc n) (e ∷ j) (option_and_then (λ f. first_from (arrived_in f) (k + 1) (e ∷ j)) o)
    ≡ more_of e j (k ∷ and_so_on n j (option_and_then (λ f. first_from (arrived_in f) (k + 1) j) o))
from_request n e j k None l most is ih =
    ap (λ o. k ∷ if_so (arrived o e) (length j)) (sym is) ∙ ap (λ ks. more_of e j (k ∷ ks)) (sym (no_more n j))
from_request n e j k (Some f) l most is ih =
    from_next n e j k f (first_from (arrived_in f) (k + 1) j) l most is (first_within (arrived_in f) (k + 1) j) ih

from_on : (n : ℕ) (e : Entry) (j : Journal) (k : ℕ) → k < length j → length j ≤ n + k
    → and_so_on (suc n) (e ∷ j) (Some k) ≡ more_of e j (and_so_on n j (Some k))
from_on zero e j k l most = absurd (omega (arith, l, most))
from_on (suc n) e j k l most =
    ap (λ o. k ∷ and_so_on (suc n) (e ∷ j) (option_and_then (λ f. first_from (arrived_in f) (k + 1) (e ∷ j)) o)) (request_older e j k l)
    ∙ from_request n e j k (request_of j k) l most refl (λ i less more. from_on n e j i less more)
    ∙ ap (λ o. more_of e j (k ∷ and_so_on n j (option_and_then (λ f. first_from (arrived_in f) (k + 1) j) o))) refl

-- ---- the whole trail

some_tip : (e : Entry) (j : Journal) (m op : ℕ) (ks : List ℕ) (i : ℕ)
    → if_so (arrived (option_and_then (request_of j) (tip (i ∷ ks))) e) (length j) ≡ if_so (goes_on j m op (tip (i ∷ ks)) e) (length j)
some_tip e j m op [] i = refl
some_tip e j m op (x ∷ ks) i = some_tip e j m op ks x

tip_there : (n : ℕ) (e : Entry) (j : Journal) (m op k : ℕ) → length j ≤ n + k → k < length j
    → if_so (arrived (option_and_then (request_of j) (tip (and_so_on n j (Some k)))) e) (length j) ≡ if_so (goes_on j m op (tip (and_so_on n j (Some k))) e)
    (length j)
tip_there zero e j m op k most l = absurd (omega (arith, l, most))
tip_there (suc n) e j m op k most l = by_tip (next_of j k)
  where
    by_tip : (o : Option ℕ)
        → if_so (arrived (option_and_then (request_of j) (tip (k ∷ and_so_on n j o))) e) (length j) ≡ if_so (goes_on j m op (tip (k ∷ and_so_on n j o)) e)
        (length j)
    by_tip o = some_tip e j m op (and_so_on n j o) k

by_first : (e : Entry) (j : Journal) (m op : ℕ) (o : Option ℕ) → ((k : ℕ) → o ≡ Some k → k < length j)
    → and_so_on (suc (length j)) (e ∷ j) (or_else o (cond (is_command m op e) (Some (length j)) None))
    ≡ and_so_on (length j) j o ++ if_so (goes_on j m op (tip (and_so_on (length j) j o)) e) (length j)
by_first e j m op None within =
    if_then (length j) e j (is_command m op e) ∙ ap (λ ks. ks ++ if_so (goes_on j m op (tip ks) e) (length j)) (sym (no_more (length j) j))
by_first e j m op (Some k) within =
    let l = within k refl in
    from_on (length j) e j k l (omega arith)
    ∙ ap (λ ks. and_so_on (length j) j (Some k) ++ ks) (tip_there (length j) e j m op k (omega arith) l)

-- a trail with one more entry of the journal
pub grows : (e : Entry) (j : Journal) (m op : ℕ) → trail_of (e ∷ j) m op ≡ trail_of j m op ++ if_so (goes_on j m op (tip (trail_of j m op)) e) (length j)
unfolding trail_of
grows e j m op =
    let all : leb 0 (length j) ≡ true = grind (arith, nat_tests) in
    ap (λ b. and_so_on (suc (length j)) (e ∷ j) (or_else (first_from (is_command m op) 0 j) (cond (b && is_command m op e) (Some (length j)) None))) all
    ∙ by_first e j m op (first_from (is_command m op) 0 j) (λ k h. (first_within (is_command m op) 0 j k h).0)

pub no_trail : (m op : ℕ) → trail_of [] m op ≡ []
unfolding trail_of
no_trail m op = refl
