-- What a reset makes of the assemblies: those that a target begins with which has them.
use Rattle.std.proofs.Common.{◌≡◌, ℕ, zero, suc, ◌+◌, ◌<◌, ◌≤◌, true, false, cond, T, ◌&&◌, List, [], ◌∷◌, length, get_or, refl, sym, ap, subst, ◌∙◌, arith}
use Rattle.std.proofs.Common.{Option, Some, None}
use Rattle.std.specs.Prelude.{option_and_then, replicate}
use Rattle.std.specs.Option.{option_map}
use Rattle.std.specs.declared.cmp.Ordering.{Ordering}
use Rattle.std.specs.declared.cmp.Ordering.TheVariants.{Less, Equal, Greater}
use Rattle.std.specs.Ordering.{nat_cmp, eq_by_cmp, is_eq, is_lt}
use Rattle.std.specs.Cmp.{nat_cmp_total}
use Rattle.std.specs.FinMap as map
use Rattle.std.specs.FinMap.Entries.{find, is_sorted, below_all}
use Rattle.std.proofs.Math.ListN.{set}
use Rattle.std.proofs.lemmas.List.{length-replicate}
use Rattle.cip_base.specs.declared.limits.TheConstants.{MAX_DATUM}
use Rattle.cip_base.proofs.Sorted.{first, second}
use Rattle.cip_target.specs.declared.assembly.Assembly.{Assembly}
use Rattle.cip_target.specs.declared.config.AssemblyConfig.{AssemblyConfig}
use Rattle.cip_target.specs.Assemblies.{AssemblyMap, zeroed_onto, zeroed, configs_of, configs_in, size_in}
use Rattle.cip_target.specs.Held.{IsHeld, Holdings, unowned, holdings, bytes_of, owners_of, cleared, all_cleared, nothing}
use Rattle.cip_target.specs.Ends.{Ends, HasSizes, ends_with, fresh, reset}
use Rattle.cip_target.proofs.Keeping.{Entry, the_map}
use Rattle.cip_target.proofs.Holding.{get-bytes, get-owners, same_bytes, same_owners, tie}

-- ---- the code's loop

-- as many from the front are cleared
abbrev pub front_cleared : ℕ → List Entry → List Entry
front_cleared zero es = es
front_cleared (suc n) [] = []
front_cleared (suc n) (e ∷ es) = (e.0, cleared e.1) ∷ front_cleared n es

clear_next : (es : List Entry) (i : ℕ) (e : Entry) → i < length es → e ≡ get_or (front_cleared i es) i e
    → set (front_cleared i es) i (e.0, cleared e.1) ≡ front_cleared (suc i) es
clear_next [] i e lt at = absurd (omega arith)
clear_next (x ∷ es) zero e lt at = ap (λ (f : Entry). (f.0, cleared f.1) ∷ es) at
clear_next (x ∷ es) (suc i) e lt at = ap (λ t. (x.0, cleared x.1) ∷ t) (clear_next es i e (omega arith) at)

pub clear_step : (es xs : List Entry) (i : ℕ) (e : Entry) (a : Assembly) → i < length es → xs ≡ front_cleared i es → e ≡ get_or xs i e
    → a ≡ cleared (get_or xs i e).1 → set xs i ((get_or xs i e).0, a) ≡ front_cleared (i + 1) es
clear_step es xs i e a lt front at clear =
    let next : suc i ≡ i + 1 = omega arith in
    ap (λ (a : Assembly). set xs i ((get_or xs i e).0, a)) clear ∙ ap (λ (f : Entry). set xs i (f.0, cleared f.1)) (sym at)
    ∙ ap (λ (xs : List Entry). set xs i (e.0, cleared e.1)) front
    ∙ clear_next es i e lt (at ∙ ap (λ (xs : List Entry). get_or xs i e) front)
    ∙ ap (λ (n : ℕ). front_cleared n es) next

front_all : (es : List Entry) → front_cleared (length es) es ≡ all_cleared es
front_all [] = refl
front_all (x ∷ es) = ap (λ t. (x.0, cleared x.1) ∷ t) (front_all es)

pub clear_end : (es xs : List Entry) (i : ℕ) → i ≤ length es → length es ≤ i → xs ≡ front_cleared i es → xs ≡ all_cleared es
clear_end es xs i below above front =
    let end : i ≡ length es = omega arith in
    front ∙ ap (λ (n : ℕ). front_cleared n es) end ∙ front_all es

-- ---- the list stays one of assemblies

cleared-below : (x : ℕ) (es : List Entry) → below_all nat_cmp x (all_cleared es) ≡ below_all nat_cmp x es
cleared-below x [] = refl
cleared-below x (e ∷ es) = ap (λ b. is_lt (nat_cmp x e.0) && b) (cleared-below x es)

cleared-sorted : (es : List Entry) → is_sorted nat_cmp (all_cleared es) ≡ is_sorted nat_cmp es
cleared-sorted [] = refl
cleared-sorted (e ∷ es) = ap (λ b. b && is_sorted nat_cmp (all_cleared es)) (cleared-below e.0 es)
    ∙ ap (λ b. below_all nat_cmp e.0 es && b) (cleared-sorted es)

cleared-long : (es : List Entry) (i : ℕ) → length (get_or (all_cleared es) i nothing).1.bytes ≡ length (get_or es i nothing).1.bytes
cleared-long [] i = refl
cleared-long (e ∷ es) zero = length-replicate (length e.1.bytes) 0
cleared-long (e ∷ es) (suc i) = cleared-long es i

pub kept_cleared : (es : List Entry) → IsHeld es → IsHeld (all_cleared es)
kept_cleared es h = record {
  sorted = subst T (sym (cleared-sorted es)) h.sorted;
  fits = λ i. subst (λ (n : ℕ). n ≤ MAX_DATUM) (sym (cleared-long es i)) (h.fits i);
}

cleared-find : (q : ℕ) (es : List Entry) → find nat_cmp q (all_cleared es) ≡ option_map cleared (find nat_cmp q es)
cleared-find q [] = refl
cleared-find q (e ∷ es) =
    elim (eq_by_cmp nat_cmp q e.0) as (λ b. cond b (Some (cleared e.1)) (find nat_cmp q (all_cleared es)) ≡ option_map cleared
    (cond b (Some e.1) (find nat_cmp q es))) [
      | true ↦ refl
      | false ↦ cleared-find q es
    ]

pub get-cleared : (es : List Entry) (q : ℕ) → IsHeld es → map.get (the_map (all_cleared es)) q ≡ option_map cleared (map.get (the_map es) q)
get-cleared es q h =
    map.get-from_sorted nat_cmp (all_cleared es) q (kept_cleared es h).sorted ∙ cleared-find q es
    ∙ ap (option_map cleared) (sym (map.get-from_sorted nat_cmp es q h.sorted))

-- ---- the assemblies that a target begins with

abbrev zeros : ℕ → List ℕ
zeros size = replicate size 0

abbrev blank : List ℕ → List ℕ
blank held = zeros (length held)

-- what stands in either of two, the first before the second
abbrev either : Option (List ℕ) → Option (List ℕ) → Option (List ℕ)
either None o = o
either (Some x) o = Some x

apart : (r : Ordering) → T (is_lt r) → is_eq r ≡ false
apart Less p = refl
apart Equal p = absurd p
apart Greater p = absurd p

find-below : (q : ℕ) (es : List (ℕ × List ℕ)) → T (below_all nat_cmp q es) → find nat_cmp q es ≡ None
find-below q [] h = refl
find-below q (e ∷ es) h = ap (λ b. cond b (Some e.1) (find nat_cmp q es)) (apart _ (first _ _ h)) ∙ find-below q es (second _ _ h)

get-onto : (m : AssemblyMap) (es : List (ℕ × List ℕ)) (q : ℕ) → T (is_sorted nat_cmp es)
    → map.get (zeroed_onto m (configs_of es)) q ≡ either (option_map blank (find nat_cmp q es)) (map.get m q)
get-onto m [] q h = refl
get-onto m (e ∷ es) q h =
    get-onto (map.insert m e.0 (blank e.1)) es q (second _ _ h)
    ∙ ap (either (option_map blank (find nat_cmp q es))) (map.get-insert nat_cmp_total m e.0 (blank e.1) q)
    ∙ elim (eq_by_cmp nat_cmp q e.0) as (λ b. eq_by_cmp nat_cmp q e.0 ≡ b
    → either (option_map blank (find nat_cmp q es)) (cond b (Some (blank e.1)) (map.get m q))
    ≡ either (option_map blank (cond b (Some e.1) (find nat_cmp q es))) (map.get m q)) [
      | true ↦ λ t.
          let none : find nat_cmp q es ≡ None = subst (λ (k : ℕ). find nat_cmp k es ≡ None) (tie q e.0 t) (find-below e.0 es (first _ _ h)) in
          ap (λ (o : Option (List ℕ)). either (option_map blank o) (Some (blank e.1))) none
      | false ↦ λ t. refl
    ] refl

either-none : (o : Option (List ℕ)) → either o None ≡ o
either-none None = refl
either-none (Some x) = refl

-- each has as many bytes as before, all of them 00
pub get-zeroed : (m : AssemblyMap) (q : ℕ) → map.get (zeroed (configs_in m)) q ≡ option_map blank (map.get m q)
get-zeroed m q =
    get-onto map.empty (map.entries m) q (map.entries_sorted m)
    ∙ ap (either (option_map blank (find nat_cmp q (map.entries m)))) (map.get-empty nat_cmp q)
    ∙ either-none _
    ∙ ap (option_map blank) (sym (map.get-entries m q))

-- ---- the list and the finite maps

cleared_bytes : (o : Option Assembly) → option_map (λ a. a.bytes) (option_map cleared o) ≡ option_map blank (option_map (λ a. a.bytes) o)
cleared_bytes None = refl
cleared_bytes (Some a) = refl

cleared_owner : (o : Option Assembly) → option_and_then (λ a. a.owner) (option_map cleared o) ≡ None
cleared_owner None = refl
cleared_owner (Some a) = refl

bytes-cleared : (es : List Entry) → IsHeld es → bytes_of (the_map (all_cleared es)) ≡ zeroed (configs_in (bytes_of (the_map es)))
bytes-cleared es h = same_bytes _ _ (λ q.
    get-bytes (the_map (all_cleared es)) q ∙ ap (option_map (λ (a : Assembly). a.bytes)) (get-cleared es q h)
    ∙ cleared_bytes (map.get (the_map es) q) ∙ ap (option_map blank) (sym (get-bytes (the_map es) q))
    ∙ sym (get-zeroed (bytes_of (the_map es)) q))

owners-cleared : (es : List Entry) → IsHeld es → owners_of (the_map (all_cleared es)) ≡ map.empty
owners-cleared es h = same_owners _ _ (λ q.
    get-owners (the_map (all_cleared es)) q ∙ ap (option_and_then (λ (a : Assembly). a.owner)) (get-cleared es q h)
    ∙ cleared_owner (map.get (the_map es) q) ∙ sym (map.get-empty nat_cmp q))

pub holdings-cleared : (es : List Entry) (h : Holdings) → IsHeld es → holdings (the_map es) ≡ h
    → holdings (the_map (all_cleared es)) ≡ unowned (zeroed (configs_in h.bytes))
holdings-cleared es h kept is =
    (λ i. record { bytes = bytes-cleared es kept i; owners = owners-cleared es kept i })
    ∙ ap (λ (h : Holdings). unowned (zeroed (configs_in h.bytes))) is

-- ---- what it is in other words

sized : (o : Option (List ℕ)) → option_map blank o ≡ option_map zeros (option_map length o)
sized None = refl
sized (Some held) = refl

-- what a target begins with is told by its sizes
abbrev Blank : AssemblyMap → Type 0
Blank m = (q : ℕ) → map.get m q ≡ option_map blank (map.get m q)

blank-insert : (m : AssemblyMap) (a : AssemblyConfig) → Blank m → Blank (map.insert m a.instance (zeros a.size))
blank-insert m a h q =
    map.get-insert nat_cmp_total m a.instance (zeros a.size) q
    ∙ elim (eq_by_cmp nat_cmp q a.instance) as (λ b. cond b (Some (zeros a.size)) (map.get m q)
    ≡ option_map blank (cond b (Some (zeros a.size)) (map.get m q))) [
      | true ↦ ap (λ (n : ℕ). Some (zeros n)) (sym (length-replicate a.size 0))
      | false ↦ h q
    ]
    ∙ ap (option_map blank) (sym (map.get-insert nat_cmp_total m a.instance (zeros a.size) q))

blank-onto : (m : AssemblyMap) (configs : List AssemblyConfig) → Blank m → Blank (zeroed_onto m configs)
blank-onto m [] h = h
blank-onto m (a ∷ configs) h = blank-onto (map.insert m a.instance (zeros a.size)) configs (blank-insert m a h)

blank-zeroed : (configs : List AssemblyConfig) → Blank (zeroed configs)
blank-zeroed configs = blank-onto map.empty configs (λ q. map.get-empty nat_cmp q ∙ ap (option_map blank) (sym (map.get-empty nat_cmp q)))

-- the same sizes, so the same assemblies
zeroed_again : (m : AssemblyMap) (configs : List AssemblyConfig) → ((i : ℕ) → size_in m i ≡ size_in (zeroed configs) i) → zeroed (configs_in m) ≡ zeroed configs
zeroed_again m configs sizes = same_bytes _ _ (λ q.
    get-zeroed m q ∙ sized (map.get m q) ∙ ap (option_map zeros) (sizes q) ∙ sym (sized (map.get (zeroed configs) q)) ∙ sym (blank-zeroed configs q))

pub reset_again : (t : Ends) (configs : List AssemblyConfig) → HasSizes t configs → reset t ≡ fresh t.objects.identity configs
reset_again t configs sizes = ap (λ (m : AssemblyMap). ends_with t.objects.identity (unowned m)) (zeroed_again t.objects.assemblies configs sizes)

-- a reset keeps each size
pub reset_sizes : (m : AssemblyMap) (i : ℕ) → size_in (zeroed (configs_in m)) i ≡ size_in m i
reset_sizes m i =
    ap (option_map length) (get-zeroed m i)
    ∙ elim (map.get m i) as (λ (o : Option (List ℕ)). option_map length (option_map blank o) ≡ option_map length o) [
      | None ↦ refl
      | Some held ↦ ap (λ (n : ℕ). Some n) (length-replicate (length held) 0)
    ]
