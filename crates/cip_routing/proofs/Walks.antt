-- A walk over the entries of a table in rising key, one after another.
use Rattle.std.proofs.Common.{◌≡◌, ℕ, suc, ◌<◌, Bool, true, false, cond, ltb, T, List, [], ◌∷◌, ◌++◌, length, get_or, refl, sym, ap, subst, ◌∙◌, arith}
use Rattle.std.proofs.Common.{append_assoc, append-nil, Option, Some, None}
use Rattle.std.specs.Option.{option_and_then}
use Rattle.std.specs.List.{find, filter, filter_map, cons_option}
use Rattle.std.specs.Prelude.{map as mapped}
use Rattle.std.specs.Ordering.{nat_cmp, is_lt}
use Rattle.std.specs.declared.cmp.Ordering.{Ordering}
use Rattle.std.specs.declared.cmp.Ordering.TheVariants.{Less, Equal, Greater}
use Rattle.std.specs.Cmp.{IsTotalOrder, nat_cmp_total, tied_itself}
use Rattle.std.proofs.lemmas.Bool.Decides.{nat_tests}
use Rattle.std.specs.FinMap.Entries.{below_all, is_sorted}
use Rattle.std.specs.FinMap as map
use Rattle.cip_base.specs.Triads.{triad_cmp}
use Rattle.cip_base.specs.declared.triad.Triad.{Triad}
use Rattle.cip_base.proofs.Sorted.{first, second}
use Rattle.cip_base.proofs.Triads.{triads_total}
use Rattle.cip_pending.specs.declared.entry.Entry.{Entry}
use Rattle.cip_pending.specs.Pendings.{Pendings, is_after, first_after}
use Rattle.cip_hops.specs.declared.hop.Hop.{Hop}
use Rattle.cip_hops.specs.declared.hop.Held.{Held}
use Rattle.cip_hops.specs.declared.hop.Held.TheVariants.{Opening as IsOpening, Open}
use Rattle.cip_hops.specs.Hops.{Hops, IsWithin, triad_of, as_hop, is_hop, is_hop_due, is_timed_out, due}
use Rattle.cip_hops.specs.Hops as hops
use Rattle.cip_hops.proofs.Steps.{triads_apart}
use Rattle.cip_base.proofs.Views.{get-at}
use Rattle.cip_target.specs.Assemblies.{AssemblyMap, is_above, first_above}

-- ---- a list in rising key, walked by a test of what stands above a key

-- each stands above k
abbrev pub AreAbove : {K X : Type 0} → (K → K → Ordering) → (X → K) → K → List X → Type 0
AreAbove R key k [] = Unit {0}
AreAbove R key k (x ∷ xs) = (R k (key x) ≡ Less) × AreAbove R key k xs

abbrev pub Rises : {K X : Type 0} → (K → K → Ordering) → (X → K) → List X → Type 0
Rises R key [] = Unit {0}
Rises R key (x ∷ xs) = AreAbove R key (key x) xs × Rises R key xs

-- whether a key stands above the last one; before the first, each does
pub record IsAfter {K : Type 0} (R : K → K → Ordering) (test : Option K → K → Bool) : Type 0 where
  pub all : (k : K) → test None k ≡ true
  pub above : (n k : K) → test (Some n) k ≡ is_lt (R n k)

-- what is left of the walk
abbrev pub above_by : {K X : Type 0} → (Option K → K → Bool) → (X → K) → Option K → List X → List X
above_by test key after xs = filter (λ x. test after (key x)) xs

less : (r : Ordering) → T (is_lt r) → r ≡ Less
less Less p = refl
less Equal p = absurd p
less Greater p = absurd p

less_is : (r : Ordering) → is_lt r ≡ true → r ≡ Less
less_is Less e = refl
less_is Equal e = absurd (cc)
less_is Greater e = absurd (cc)

found_passes : {X : Type 0} (p : X → Bool) (es : List X) (x : X) → find p es ≡ Some x → p x ≡ true
found_passes p [] x e = absurd (cc)
found_passes p (y ∷ es) x e =
    elim (p y) as (λ b. p y ≡ b → cond b (Some y) (find p es) ≡ Some x → p x ≡ true) [
      | true ↦ λ t s. (let same : y ≡ x = cc in ap p (sym same) ∙ t)
      | false ↦ λ t s. found_passes p es x s
    ] refl e

-- where there is no next one, none is left
pub none_left : {X : Type 0} (p : X → Bool) (es : List X) → find p es ≡ None → filter p es ≡ []
none_left p [] e = refl
none_left p (y ∷ es) e =
    elim (p y) as (λ b. cond b (Some y) (find p es) ≡ None → cond b (y ∷ filter p es) (filter p es) ≡ [])
    [ true ↦ λ s. absurd (cc) | false ↦ λ s. none_left p es s ] e

module _ {K X : Type 0} (R : K → K → Ordering) (key : X → K) (test : Option K → K → Bool) where
  -- where a whole list stands above k, and what stands above k is left, the list stays
  keeps_all : (k : K) (after : Option K) → ((q : K) → R k q ≡ Less → test after q ≡ true) → (xs : List X) → AreAbove R key k xs
      → above_by test key after xs ≡ xs
  keeps_all k after high [] h = refl
  keeps_all k after high (x ∷ xs) h =
      ap (λ b. cond b (x ∷ above_by test key after xs) (above_by test key after xs)) (high (key x) h.0)
      ∙ ap (λ (z : List X). x ∷ z) (keeps_all k after high xs h.1)

module _ {K : Type 0} (R : K → K → Ordering) (total : IsTotalOrder R) (test : Option K → K → Bool) (is : IsAfter R test) where
  higher : (after : Option K) (n q : K) → test after n ≡ true → R n q ≡ Less → test after q ≡ true
  higher None n q h lt = is.all q
  higher (Some m) n q h lt = is.above m q ∙ ap is_lt (total.trans m n q (less_is _ (sym (is.above m n) ∙ h)) lt)

  lower : (after : Option K) (n q : K) → test after n ≡ false → test after q ≡ true → test (Some q) n ≡ false
  lower after n q h j =
      elim (test (Some q) n) as (λ b. test (Some q) n ≡ b → b ≡ false) [
        | true ↦ λ e. (let no : false ≡ true = sym h ∙ higher after q n j (less_is _ (sym (is.above q n) ∙ e)) in sym no)
        | false ↦ λ e. refl
      ] refl

  itself : (k : K) → test (Some k) k ≡ false
  itself k = is.above k k ∙ ap is_lt (tied_itself total k)

module _ {K X : Type 0} (R : K → K → Ordering) (total : IsTotalOrder R) (key : X → K) (test : Option K → K → Bool) (is : IsAfter R test) where
  -- the next one is the first of those that are left
  pub goes : (after : Option K) (xs : List X) (x : X) → Rises R key xs → find (λ y. test after (key y)) xs ≡ Some x
      → above_by test key after xs ≡ x ∷ above_by test key (Some (key x)) xs
  goes after [] x rises e = absurd (cc)
  goes after (y ∷ ys) x rises e =
      elim (test after (key y)) as (λ b. test after (key y) ≡ b → cond b (Some y) (find (λ z. test after (key z)) ys) ≡ Some x
      → cond b (y ∷ above_by test key after ys) (above_by test key after ys) ≡ x
      ∷ cond (test (Some (key x)) (key y)) (y ∷ above_by test key (Some (key x)) ys) (above_by test key (Some (key x)) ys)) [
        | true ↦ λ t s. (let same : y ≡ x = cc in
            subst (λ (z : X). (y ∷ above_by test key after ys) ≡ z
            ∷ cond (test (Some (key z)) (key y)) (y ∷ above_by test key (Some (key z)) ys) (above_by test key (Some (key z)) ys)) same
            (ap (λ (z : List X). y ∷ z)
            (keeps_all R key test (key y) after (λ q lt. higher R total test is after (key y) q t lt) ys rises.0
            ∙ sym (ap (λ b. cond b (y ∷ above_by test key (Some (key y)) ys) (above_by test key (Some (key y)) ys)) (itself R total test is (key y))
            ∙ keeps_all R key test (key y) (Some (key y)) (λ q lt. is.above (key y) q ∙ ap is_lt lt) ys rises.0))))
        | false ↦ λ t s. (
            goes after ys x rises.1 s
            ∙ ap (λ (z : List X). x ∷ z) (sym (ap (λ b. cond b (y ∷ above_by test key (Some (key x)) ys) (above_by test key (Some (key x)) ys))
            (lower R total test is after (key y) (key x) t (found_passes (λ z. test after (key z)) ys x s)))))
      ] refl e

  pub shorter : (after : Option K) (xs : List X) (x : X) → Rises R key xs → find (λ y. test after (key y)) xs ≡ Some x
      → length (above_by test key (Some (key x)) xs) < length (above_by test key after xs)
  shorter after xs x rises e = let more = ap length (goes after xs x rises e) in omega (arith, more)

  -- before the first, all are left
  pub all_of : (xs : List X) → above_by test key None xs ≡ xs
  all_of [] = refl
  all_of (x ∷ xs) = ap (λ b. cond b (x ∷ above_by test key None xs) (above_by test key None xs)) (is.all (key x)) ∙ ap (λ (z : List X). x ∷ z) (all_of xs)

-- ---- the entries of a map

module _ {K X : Type 0} (R : K → K → Ordering) where
  above_sorted : (k : K) (es : List (K × X)) → T (below_all R k es) → AreAbove R (λ (e : K × X). e.0) k es
  above_sorted k [] h = tt
  above_sorted k (e ∷ es) h = (less _ (first _ _ h), above_sorted k es (second _ _ h))

  pub rises_sorted : (es : List (K × X)) → T (is_sorted R es) → Rises R (λ (e : K × X). e.0) es
  rises_sorted [] h = tt
  rises_sorted (e ∷ es) h = (above_sorted e.0 es (first _ _ h), rises_sorted es (second _ _ h))

lt_is : (a b : ℕ) → ltb a b ≡ is_lt (nat_cmp a b)
lt_is a b = grind (arith, nat_tests)

-- ---- the requests that wait

after_number : IsAfter nat_cmp is_after
after_number = record { all = λ k. refl; above = λ n k. lt_is n k }

abbrev pub above : {X : Type 0} → Option ℕ → List (ℕ × X) → List (ℕ × X)
above {X} after es = above_by is_after (λ (e : ℕ × X). e.0) after es

pub all_left : {X : Type 0} (es : List (ℕ × X)) → above None es ≡ es
all_left {X} es = all_of nat_cmp nat_cmp_total (λ (e : ℕ × X). e.0) is_after after_number es

pub walks : (p : Pendings) (after : Option ℕ) (x : ℕ × Entry) → Some x ≡ first_after after p
    → above after (map.entries p.entries) ≡ x ∷ above (Some x.0) (map.entries p.entries)
walks p after x e = goes nat_cmp nat_cmp_total (λ (e : ℕ × Entry). e.0) is_after after_number after (map.entries p.entries) x
    (rises_sorted nat_cmp _ (map.entries_sorted p.entries)) (sym e)

pub walked : (p : Pendings) (after : Option ℕ) → None ≡ first_after after p → above after (map.entries p.entries) ≡ []
walked p after e = none_left (λ (e : ℕ × Entry). is_after after e.0) (map.entries p.entries) (sym e)

pub fewer : (p : Pendings) (after : Option ℕ) (x : ℕ × Entry) → Some x ≡ first_after after p
    → length (above (Some x.0) (map.entries p.entries)) < length (above after (map.entries p.entries))
fewer p after x e = shorter nat_cmp nat_cmp_total (λ (e : ℕ × Entry). e.0) is_after after_number after (map.entries p.entries) x
    (rises_sorted nat_cmp _ (map.entries_sorted p.entries)) (sym e)

-- ---- the assemblies

after_instance : IsAfter nat_cmp is_above
after_instance = record { all = λ k. refl; above = λ n k. lt_is n k }

abbrev pub assemblies_above : Option ℕ → AssemblyMap → List (ℕ × List ℕ)
assemblies_above after m = above_by is_above (λ (e : ℕ × List ℕ). e.0) after (map.entries m)

pub assemblies_all : (m : AssemblyMap) → assemblies_above None m ≡ map.entries m
assemblies_all m = all_of nat_cmp nat_cmp_total (λ (e : ℕ × List ℕ). e.0) is_above after_instance (map.entries m)

pub assembly_walks : (m : AssemblyMap) (after : Option ℕ) (x : ℕ × List ℕ) → Some x ≡ first_above after m
    → assemblies_above after m ≡ x ∷ assemblies_above (Some x.0) m
assembly_walks m after x e = goes nat_cmp nat_cmp_total (λ (e : ℕ × List ℕ). e.0) is_above after_instance after (map.entries m) x
    (rises_sorted nat_cmp _ (map.entries_sorted m)) (sym e)

pub assembly_walked : (m : AssemblyMap) (after : Option ℕ) → None ≡ first_above after m → assemblies_above after m ≡ []
assembly_walked m after e = none_left (λ (e : ℕ × List ℕ). is_above after e.0) (map.entries m) (sym e)

pub assembly_fewer : (m : AssemblyMap) (after : Option ℕ) (x : ℕ × List ℕ) → Some x ≡ first_above after m
    → length (assemblies_above (Some x.0) m) < length (assemblies_above after m)
assembly_fewer m after x e = shorter nat_cmp nat_cmp_total (λ (e : ℕ × List ℕ). e.0) is_above after_instance after (map.entries m) x
    (rises_sorted nat_cmp _ (map.entries_sorted m)) (sym e)

-- ---- the connections that are open

after_triad : IsAfter triad_cmp hops.is_after
after_triad = record { all = λ k. refl; above = λ n k. refl }

abbrev pub triad_at : Hop → Triad
triad_at hop = hop.opening.triad

abbrev pub open_in : List (Triad × Held) → List Hop
open_in es = filter_map (λ (e : Triad × Held). as_hop e.1) es

abbrev pub opens : Hops → List Hop
opens h = open_in (map.entries h.held)

abbrev pub opens_above : Option Triad → Hops → List Hop
opens_above after h = above_by hops.is_after triad_at after (opens h)

-- each stands under its own triad
abbrev pub AreNamed : List (Triad × Held) → Type 0
AreNamed [] = Unit {0}
AreNamed (e ∷ es) = (triad_of e.1 ≡ e.0) × AreNamed es

named_all : (es : List (Triad × Held)) → ((i : ℕ) (d : Triad × Held) → i < length es → triad_of (get_or es i d).1 ≡ (get_or es i d).0) → AreNamed es
named_all [] h = tt
named_all (e ∷ es) h = (h 0 e (omega arith), named_all es (λ i d lt. h (suc i) d (omega arith)))

pub within_named : (h : Hops) → IsWithin h → AreNamed (map.entries h.held)
within_named h w = named_all (map.entries h.held) (λ i d lt. w.triads _ _ (get-at triad_cmp triads_total triads_apart h.held i d lt))

put_above : (k q : Triad) (x : Held) (rest : List Hop) → triad_cmp k q ≡ Less → triad_of x ≡ q → AreAbove triad_cmp triad_at k rest
    → AreAbove triad_cmp triad_at k (cons_option (as_hop x) rest)
put_above k q (IsOpening o ids) rest lt name h = h
put_above k q (Open hop) rest lt name h = (ap (triad_cmp k) name ∙ lt, h)

above_open : (k : Triad) (es : List (Triad × Held)) → T (below_all triad_cmp k es) → AreNamed es → AreAbove triad_cmp triad_at k (open_in es)
above_open k [] h names = tt
above_open k (e ∷ es) h names = put_above k e.0 e.1 (open_in es) (less _ (first _ _ h)) names.0 (above_open k es (second _ _ h) names.1)

put_rises : (q : Triad) (x : Held) (rest : List Hop) → triad_of x ≡ q → AreAbove triad_cmp triad_at q rest → Rises triad_cmp triad_at rest
    → Rises triad_cmp triad_at (cons_option (as_hop x) rest)
put_rises q (IsOpening o ids) rest name h rises = rises
put_rises q (Open hop) rest name h rises = (subst (λ z. AreAbove triad_cmp triad_at z rest) (sym name) h, rises)

pub rises_open : (es : List (Triad × Held)) → T (is_sorted triad_cmp es) → AreNamed es → Rises triad_cmp triad_at (open_in es)
rises_open [] h names = tt
rises_open (e ∷ es) h names = put_rises e.0 e.1 (open_in es) names.0 (above_open e.0 es (first _ _ h) names.1) (rises_open es (second _ _ h) names.1)

first_put : (p : Hop → Bool) (k : Triad) (x : Held) (es : List (Triad × Held))
    → option_and_then (λ (e : Triad × Held). as_hop e.1) (find (λ (e : Triad × Held). is_hop p e.1) es) ≡ find p (open_in es)
    → option_and_then (λ (e : Triad × Held). as_hop e.1) (cond (is_hop p x) (Some (k, x)) (find (λ (e : Triad × Held). is_hop p e.1) es))
    ≡ find p (cons_option (as_hop x) (open_in es))
first_put p k (IsOpening o ids) es same = same
first_put p k (Open hop) es same =
    elim (p hop) as (λ b. option_and_then (λ (e : Triad × Held). as_hop e.1) (cond b (Some (k, Open hop)) (find (λ (e : Triad × Held). is_hop p e.1) es))
    ≡ cond b (Some hop) (find p (open_in es))) [ true ↦ refl | false ↦ same ]

-- the first that passes a test, among those that are open
pub first_open : (p : Hop → Bool) (es : List (Triad × Held))
    → option_and_then (λ (e : Triad × Held). as_hop e.1) (find (λ (e : Triad × Held). is_hop p e.1) es) ≡ find p (open_in es)
first_open p [] = refl
first_open p (e ∷ es) = first_put p e.0 e.1 es (first_open p es)

pub opens_all : (h : Hops) → opens_above None h ≡ opens h
opens_all h = all_of triad_cmp triads_total triad_at hops.is_after after_triad (opens h)

pub opens_rise : (h : Hops) → IsWithin h → Rises triad_cmp triad_at (opens h)
opens_rise h w = rises_open (map.entries h.held) (map.entries_sorted h.held) (within_named h w)

found_open : (h : Hops) (after : Option Triad) (o : Option Hop) → o ≡ hops.first_after after h → find (λ hop. hops.is_after after (triad_at hop)) (opens h) ≡ o
found_open h after o e = sym (e ∙ first_open (λ hop. hops.is_after after (triad_at hop)) (map.entries h.held))

pub hop_walks : (h : Hops) → IsWithin h → (after : Option Triad) (hop : Hop) → Some hop ≡ hops.first_after after h
    → opens_above after h ≡ hop ∷ opens_above (Some hop.opening.triad) h
hop_walks h w after hop e = goes triad_cmp triads_total triad_at hops.is_after after_triad after (opens h) hop (opens_rise h w)
    (found_open h after (Some hop) e)

pub hop_walked : (h : Hops) (after : Option Triad) → None ≡ hops.first_after after h → opens_above after h ≡ []
hop_walked h after e = none_left (λ hop. hops.is_after after (triad_at hop)) (opens h) (found_open h after None e)

pub hop_fewer : (h : Hops) → IsWithin h → (after : Option Triad) (hop : Hop) → Some hop ≡ hops.first_after after h
    → length (opens_above (Some hop.opening.triad) h) < length (opens_above after h)
hop_fewer h w after hop e = shorter triad_cmp triads_total triad_at hops.is_after after_triad after (opens h) hop (opens_rise h w)
    (found_open h after (Some hop) e)

-- those that are due are the late ones of those that are open
put_due : (now : ℕ) (x : Held) (b : Bool) (k : Triad) (es : List (Triad × Held)) → is_hop_due now x ≡ b
    → open_in (filter (λ (e : Triad × Held). is_hop_due now e.1) es) ≡ filter (is_timed_out now) (open_in es)
    → open_in (cond b ((k, x) ∷ filter (λ (e : Triad × Held). is_hop_due now e.1) es) (filter (λ (e : Triad × Held). is_hop_due now e.1) es))
    ≡ filter (is_timed_out now) (cons_option (as_hop x) (open_in es))
put_due now (IsOpening o ids) true k es t same = absurd (cc)
put_due now (IsOpening o ids) false k es t same = same
put_due now (Open hop) true k es t same =
    ap (λ (z : List Hop). hop ∷ z) same ∙ ap (λ c. cond c (hop ∷ filter (is_timed_out now) (open_in es)) (filter (is_timed_out now) (open_in es))) (sym t)
put_due now (Open hop) false k es t same =
    same ∙ ap (λ c. cond c (hop ∷ filter (is_timed_out now) (open_in es)) (filter (is_timed_out now) (open_in es))) (sym t)

due_in : (now : ℕ) (es : List (Triad × Held)) → open_in (filter (λ (e : Triad × Held). is_hop_due now e.1) es) ≡ filter (is_timed_out now) (open_in es)
due_in now [] = refl
due_in now (e ∷ es) = put_due now e.1 (is_hop_due now e.1) e.0 es refl (due_in now es)

pub due_open : (now : ℕ) (h : Hops) → due now h ≡ filter (is_timed_out now) (opens h)
due_open now h = due_in now (map.entries h.held)

-- ---- a row for each

-- with the row of the next one, those of the others are left
pub row_more : {X Y : Type 0} (f : X → Y) (x : X) (xs left : List X) (rows : List Y) → left ≡ x ∷ xs → (rows ++ f x ∷ []) ++ mapped f xs ≡ rows ++ mapped f left
row_more {X} f x xs left rows e = append_assoc rows (f x ∷ []) (mapped f xs) ∙ ap (λ (z : List X). rows ++ mapped f z) (sym e)

-- at the end none is left
pub rows_done : {X Y : Type 0} (f : X → Y) (left : List X) (rows : List Y) → left ≡ [] → rows ≡ rows ++ mapped f left
rows_done {X} f left rows e = sym (append-nil rows) ∙ ap (λ (z : List X). rows ++ mapped f z) (sym e)
