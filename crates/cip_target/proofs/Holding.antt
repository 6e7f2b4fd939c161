-- The finite maps of bytes and of owners that kept assemblies make.
use Rattle.std.proofs.Common.{◌≡◌, ℕ, true, false, cond, T, ◌&&◌, List, [], ◌∷◌, refl, sym, ap, subst, ◌∙◌, Option, Some, None}
use Rattle.std.specs.Prelude.{option_and_then}
use Rattle.std.specs.List as lists
use Rattle.std.specs.Option.{option_map}
use Rattle.std.specs.Ordering.{nat_cmp, eq_by_cmp, is_lt}
use Rattle.std.specs.Cmp.{nat_cmp_total}
use Rattle.std.specs.FinMap as map
use Rattle.std.specs.FinMap.{nat_cmp-IsAntisymmetric}
use Rattle.std.specs.FinMap.Entries.{find, is_sorted, below_all}
use Rattle.std.proofs.lemmas.Bool.{eqb-true}
use Rattle.cip_base.specs.declared.triad.Triad.{Triad}
use Rattle.cip_base.proofs.Places.{same_test}
use Rattle.cip_target.specs.declared.assembly.Assembly.{Assembly}
use Rattle.cip_target.specs.Assemblies.{AssemblyMap, Owners, first_above, is_above}
use Rattle.cip_target.specs.Held.{Kept, bytes_in, bytes_of, with_owner, owners_in, owners_of}
use Rattle.cip_target.proofs.Keeping.{Entry}

-- ---- what is found

bytes_in-below : (x : ℕ) (es : List Entry) → below_all nat_cmp x (bytes_in es) ≡ below_all nat_cmp x es
bytes_in-below x [] = refl
bytes_in-below x (e ∷ es) = ap (λ b. is_lt (nat_cmp x e.0) && b) (bytes_in-below x es)

bytes_in-sorted : (es : List Entry) → is_sorted nat_cmp (bytes_in es) ≡ is_sorted nat_cmp es
bytes_in-sorted [] = refl
bytes_in-sorted (e ∷ es) = ap (λ b. b && is_sorted nat_cmp (bytes_in es)) (bytes_in-below e.0 es)
    ∙ ap (λ b. below_all nat_cmp e.0 es && b) (bytes_in-sorted es)

bytes_in-rise : (m : Kept) → T (is_sorted nat_cmp (bytes_in (map.entries m)))
bytes_in-rise m = subst T (sym (bytes_in-sorted (map.entries m))) (map.entries_sorted m)

bytes_in-find : (q : ℕ) (es : List Entry) → find nat_cmp q (bytes_in es) ≡ option_map (λ a. a.bytes) (find nat_cmp q es)
bytes_in-find q [] = refl
bytes_in-find q (e ∷ es) =
    elim (eq_by_cmp nat_cmp q e.0) as (λ b. cond b (Some e.1.bytes) (find nat_cmp q (bytes_in es)) ≡ option_map (λ a. a.bytes)
    (cond b (Some e.1) (find nat_cmp q es))) [
      | true ↦ refl
      | false ↦ bytes_in-find q es
    ]

pub get-bytes : (m : Kept) (q : ℕ) → map.get (bytes_of m) q ≡ option_map (λ a. a.bytes) (map.get m q)
unfolding bytes_of
get-bytes m q =
    map.get-from_sorted nat_cmp (bytes_in (map.entries m)) q (bytes_in-rise m) ∙ bytes_in-find q (map.entries m)
    ∙ ap (option_map (λ (a : Assembly). a.bytes)) (sym (map.get-entries m q))

get-with_owner : (owners : Owners) (i : ℕ) (o : Option Triad) (q : ℕ)
    → map.get (with_owner owners i o) q ≡ cond (eq_by_cmp nat_cmp q i) o (map.get owners q)
get-with_owner owners i None q = map.get-remove nat_cmp_total owners i q
get-with_owner owners i (Some t) q = map.get-insert nat_cmp_total owners i t q

owners_in-get : (es : List Entry) (q : ℕ) → map.get (owners_in es) q ≡ option_and_then (λ a. a.owner) (find nat_cmp q es)
owners_in-get [] q = map.get-empty nat_cmp q
owners_in-get (e ∷ es) q =
    get-with_owner (owners_in es) e.0 e.1.owner q
    ∙ elim (eq_by_cmp nat_cmp q e.0) as (λ b. cond b e.1.owner (map.get (owners_in es) q) ≡ option_and_then (λ a. a.owner)
    (cond b (Some e.1) (find nat_cmp q es))) [
      | true ↦ refl
      | false ↦ owners_in-get es q
    ]

pub get-owners : (m : Kept) (q : ℕ) → map.get (owners_of m) q ≡ option_and_then (λ a. a.owner) (map.get m q)
unfolding owners_of
get-owners m q = owners_in-get (map.entries m) q ∙ ap (option_and_then (λ (a : Assembly). a.owner)) (sym (map.get-entries m q))

map_above : (after : Option ℕ) (es : List Entry)
    → lists.find (λ e. is_above after e.0) (bytes_in es) ≡ option_map (λ e. (e.0, e.1.bytes)) (lists.find (λ e. is_above after e.0) es)
map_above after [] = refl
map_above after (e ∷ es) =
    elim (is_above after e.0) as (λ b. cond b (Some (e.0, e.1.bytes)) (lists.find (λ e. is_above after e.0) (bytes_in es))
    ≡ option_map (λ e. (e.0, e.1.bytes)) (cond b (Some e) (lists.find (λ e. is_above after e.0) es))) [
      | true ↦ refl
      | false ↦ map_above after es
    ]

pub first-bytes : (after : Option ℕ) (m : Kept)
    → first_above after (bytes_of m) ≡ option_map (λ e. (e.0, e.1.bytes)) (lists.find (λ e. is_above after e.0) (map.entries m))
unfolding bytes_of
first-bytes after m =
    ap (lists.find (λ (e : ℕ × List ℕ). is_above after e.0)) (map.entries-from_sorted nat_cmp (bytes_in (map.entries m)) (bytes_in-rise m))
    ∙ map_above after (map.entries m)

-- ---- none, and one put in

pub same_bytes : (m n : AssemblyMap) → ((q : ℕ) → map.get m q ≡ map.get n q) → m ≡ n
same_bytes m n is = map.same_map nat_cmp_total nat_cmp-IsAntisymmetric m n is

pub same_owners : (m n : Owners) → ((q : ℕ) → map.get m q ≡ map.get n q) → m ≡ n
same_owners m n is = map.same_map nat_cmp_total nat_cmp-IsAntisymmetric m n is

pub bytes-none : bytes_of map.empty ≡ map.empty
bytes-none =
    same_bytes _ _ (λ q. get-bytes map.empty q ∙ ap (option_map (λ (a : Assembly). a.bytes)) (map.get-empty nat_cmp q) ∙ sym (map.get-empty nat_cmp q))

pub owners-none : owners_of map.empty ≡ map.empty
owners-none =
    same_owners _ _ (λ q. get-owners map.empty q ∙ ap (option_and_then (λ (a : Assembly). a.owner)) (map.get-empty nat_cmp q)
    ∙ sym (map.get-empty nat_cmp q))

pub bytes-insert : (m : Kept) (k : ℕ) (a : Assembly) → bytes_of (map.insert m k a) ≡ map.insert (bytes_of m) k a.bytes
bytes-insert m k a = same_bytes _ _ (λ q.
    get-bytes (map.insert m k a) q ∙ ap (option_map (λ (a : Assembly). a.bytes)) (map.get-insert nat_cmp_total m k a q)
    ∙ elim (eq_by_cmp nat_cmp q k) as (λ b. option_map (λ a. a.bytes) (cond b (Some a) (map.get m q)) ≡ cond b (Some a.bytes) (map.get (bytes_of m) q)) [
      | true ↦ refl
      | false ↦ sym (get-bytes m q)
    ]
    ∙ sym (map.get-insert nat_cmp_total (bytes_of m) k a.bytes q))

pub owners-insert : (m : Kept) (k : ℕ) (a : Assembly) → owners_of (map.insert m k a) ≡ with_owner (owners_of m) k a.owner
owners-insert m k a = same_owners _ _ (λ q.
    get-owners (map.insert m k a) q ∙ ap (option_and_then (λ (a : Assembly). a.owner)) (map.get-insert nat_cmp_total m k a q)
    ∙ elim (eq_by_cmp nat_cmp q k) as (λ b. option_and_then (λ a. a.owner) (cond b (Some a) (map.get m q)) ≡ cond b a.owner (map.get (owners_of m) q)) [
      | true ↦ refl
      | false ↦ sym (get-owners m q)
    ]
    ∙ sym (get-with_owner (owners_of m) k a.owner q))

-- ---- what stands there put in again

pub tie : (q k : ℕ) → eq_by_cmp nat_cmp q k ≡ true → k ≡ q
tie q k e = eqb-true k q (sym (same_test q k) ∙ e)

pub bytes-same : (m : Kept) (k : ℕ) (a : Assembly) → map.get m k ≡ Some a → map.insert (bytes_of m) k a.bytes ≡ bytes_of m
bytes-same m k a found = same_bytes _ _ (λ q.
    map.get-insert nat_cmp_total (bytes_of m) k a.bytes q
    ∙ elim (eq_by_cmp nat_cmp q k) as (λ b. eq_by_cmp nat_cmp q k ≡ b → cond b (Some a.bytes) (map.get (bytes_of m) q) ≡ map.get (bytes_of m) q) [
      | true ↦ λ e. sym (ap (option_map (λ (a : Assembly). a.bytes)) found) ∙ sym (get-bytes m k) ∙ ap (map.get (bytes_of m)) (tie q k e)
      | false ↦ λ e. refl
    ] refl)

pub owners-same : (m : Kept) (k : ℕ) (o : Option Triad) → option_and_then (λ a. a.owner) (map.get m k) ≡ o → with_owner (owners_of m) k o ≡ owners_of m
owners-same m k o found = same_owners _ _ (λ q.
    get-with_owner (owners_of m) k o q
    ∙ elim (eq_by_cmp nat_cmp q k) as (λ b. eq_by_cmp nat_cmp q k ≡ b → cond b o (map.get (owners_of m) q) ≡ map.get (owners_of m) q) [
      | true ↦ λ e. sym found ∙ sym (get-owners m k) ∙ ap (map.get (owners_of m)) (tie q k e)
      | false ↦ λ e. refl
    ] refl)

-- no owner is taken out of none
pub none-removed : (owners : Owners) (i : ℕ) → owners ≡ map.empty → map.remove owners i ≡ map.empty
none-removed owners i none = ap (λ (o : Owners). map.remove o i) none ∙ same_owners _ _ (λ q.
    map.get-remove nat_cmp_total map.empty i q
    ∙ elim (eq_by_cmp nat_cmp q i) as (λ b. cond b None (map.get (map.empty {X = Triad} {R = nat_cmp}) q)
    ≡ map.get (map.empty {X = Triad} {R = nat_cmp}) q) [
      | true ↦ sym (map.get-empty nat_cmp q)
      | false ↦ refl
    ])
