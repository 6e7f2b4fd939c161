-- What the calls that change an assembly do to the finite maps of bytes and of owners.
use Rattle.std.proofs.Common.{◌≡◌, ℕ, ◌<◌, Bool, true, false, cond, List, [], ◌∷◌, ◌++◌, length, get_or, refl, sym, ap, subst, ◌∙◌, arith, Option, Some, None}
use Rattle.std.proofs.Common.{◌==◌, nat_le, nat_lt}
use Rattle.std.proofs.lemmas.Bool.Decides.{nat_tests}
use Rattle.std.specs.Prelude.{IsSomeAnd, option_and_then}
use Rattle.std.specs.List.{position, insert}
use Rattle.std.specs.Option.{option_map}
use Rattle.std.specs.FinMap as map
use Rattle.std.proofs.Math.ListN.{set}
use Rattle.std.proofs.lemmas.Bool.{eqb-true}
use Rattle.cip_base.specs.declared.triad.Triad.{Triad}
use Rattle.cip_target.specs.declared.assembly.Assembly.{Assembly}
use Rattle.cip_target.specs.Assemblies.{AssemblyMap, Owners, size_in, owned_with, first_above, is_above}
use Rattle.cip_target.specs.Held.{Kept, Holdings, IsHeld, bytes_of, owners_of, with_owner, holdings}
use Rattle.cip_target.proofs.Keeping.{Entry, the_map, same_at, get_none, get_is, key_is, above_none, above_is, view_set, view_push, view_insert}
use Rattle.cip_target.proofs.Holding.{get-bytes, get-owners, first-bytes, bytes-none, owners-none, bytes-insert, owners-insert, bytes-same, owners-same}

abbrev pub with_assembly : Holdings → ℕ → Assembly → Holdings
with_assembly h k a = record { bytes = map.insert h.bytes k a.bytes; owners = with_owner h.owners k a.owner }

put_in : (m : Kept) (k : ℕ) (a : Assembly) → holdings (map.insert m k a) ≡ with_assembly (holdings m) k a
put_in m k a i = record { bytes = bytes-insert m k a i; owners = owners-insert m k a i }

-- ---- a new assembly

pub hold_push : (es : List Entry) (k : ℕ) (a : Assembly) (h : Holdings) → IsHeld es → position (λ e. nat_le k e.0) es ≡ None → holdings (the_map es) ≡ h
    → holdings (the_map (es ++ (k, a) ∷ [])) ≡ with_assembly h k a
hold_push es k a h kept none is = ap holdings (view_push es k a kept none) ∙ put_in (the_map es) k a ∙ ap (λ (h : Holdings). with_assembly h k a) is

pub hold_insert : (es : List Entry) (k i : ℕ) (x : Entry) (a : Assembly) (h : Holdings) → IsHeld es → position (λ e. nat_le k e.0) es ≡ Some i
    → x ≡ get_or es i x → (x.0 ≡ k → ⊥) → holdings (the_map es) ≡ h → holdings (the_map (insert es i (k, a))) ≡ with_assembly h k a
hold_insert es k i x a h kept at stands other is = ap holdings (view_insert es k i x a kept at stands other) ∙ put_in (the_map es) k a
    ∙ ap (λ (h : Holdings). with_assembly h k a) is

-- ---- an assembly that stands there

pub put_over : (es : List Entry) (i : ℕ) (x : Entry) (k : ℕ) (a : Assembly) (h : Holdings) → IsHeld es → i < length es → x ≡ get_or es i x → x.0 ≡ k
    → holdings (the_map es) ≡ h → holdings (the_map (set es i (x.0, a))) ≡ with_assembly h k a
put_over es i x k a h kept lt stands key is =
    ap holdings (view_set es i x (x.0, a) kept lt stands refl) ∙ put_in (the_map es) x.0 a
    ∙ ap (λ (h : Holdings). with_assembly h x.0 a) is ∙ ap (λ (k : ℕ). with_assembly h k a) key

-- where an instance stands, and what stands there
abbrev pub Stands : List Entry → ℕ → ℕ → Entry → Type 0
Stands es k i x = (position (λ e. e.0 == k) es ≡ Some i) × (x ≡ get_or es i x)

bytes_at : (es : List Entry) (k i : ℕ) (x : Entry) → IsHeld es → Stands es k i x → map.insert (bytes_of (the_map es)) k x.1.bytes ≡ bytes_of (the_map es)
bytes_at es k i x kept at = bytes-same (the_map es) k x.1 (get_is es k i x kept at.0 at.1)

owner_at : (es : List Entry) (k i : ℕ) (x : Entry) → IsHeld es → Stands es k i x → with_owner (owners_of (the_map es)) k x.1.owner ≡ owners_of (the_map es)
owner_at es k i x kept at = owners-same (the_map es) k x.1.owner (ap (option_and_then (λ (a : Assembly). a.owner)) (get_is es k i x kept at.0 at.1))

-- with other bytes
pub write_over : (es : List Entry) (k i : ℕ) (x : Entry) (v w : List ℕ) (h : Holdings) → IsHeld es → Stands es k i x → v ≡ w → holdings (the_map es) ≡ h
    → holdings (the_map (set es i (x.0, record { bytes = v; owner = x.1.owner }))) ≡ record { bytes = map.insert h.bytes k w; owners = h.owners }
write_over es k i x v w h kept at same is =
    let there = key_is es k i x at.0 at.1 in
    let a : Assembly = record { bytes = v; owner = x.1.owner } in
    put_over es i x k a (holdings (the_map es)) kept there.0 at.1 there.1 refl
    ∙ ap (λ (o : Owners). record { bytes = map.insert (bytes_of (the_map es)) k v; owners = o }) (owner_at es k i x kept at)
    ∙ ap (λ (h : Holdings). record { bytes = map.insert h.bytes k v; owners = h.owners }) is
    ∙ ap (λ (v : List ℕ). record { bytes = map.insert h.bytes k v; owners = h.owners }) same

-- with another owner, or none
own_over : (es : List Entry) (k i : ℕ) (x : Entry) (o : Option Triad) (h : Holdings) → IsHeld es → Stands es k i x → holdings (the_map es) ≡ h
    → holdings (the_map (set es i (x.0, record { bytes = x.1.bytes; owner = o }))) ≡ record { bytes = h.bytes; owners = with_owner h.owners k o }
own_over es k i x o h kept at is =
    let there = key_is es k i x at.0 at.1 in
    let a : Assembly = record { bytes = x.1.bytes; owner = o } in
    put_over es i x k a (holdings (the_map es)) kept there.0 at.1 there.1 refl
    ∙ ap (λ (b : AssemblyMap). record { bytes = b; owners = with_owner (owners_of (the_map es)) k o }) (bytes_at es k i x kept at)
    ∙ ap (λ (h : Holdings). record { bytes = h.bytes; owners = with_owner h.owners k o }) is

-- ---- what is found

pub bytes_found : (es : List Entry) (k i : ℕ) (x : Entry) (h : Holdings) → IsHeld es → Stands es k i x → holdings (the_map es) ≡ h
    → map.get h.bytes k ≡ Some x.1.bytes
bytes_found es k i x h kept at is =
    ap (λ (h : Holdings). map.get h.bytes k) (sym is) ∙ get-bytes (the_map es) k
    ∙ ap (option_map (λ (a : Assembly). a.bytes)) (get_is es k i x kept at.0 at.1)

pub bytes_missing : (es : List Entry) (k : ℕ) (h : Holdings) → IsHeld es → position (λ e. e.0 == k) es ≡ None → holdings (the_map es) ≡ h
    → map.get h.bytes k ≡ None
bytes_missing es k h kept none is =
    ap (λ (h : Holdings). map.get h.bytes k) (sym is) ∙ get-bytes (the_map es) k ∙ ap (option_map (λ (a : Assembly). a.bytes)) (get_none es k kept none)

pub owner_found : (es : List Entry) (k i : ℕ) (x : Entry) (h : Holdings) → IsHeld es → Stands es k i x → holdings (the_map es) ≡ h
    → map.get h.owners k ≡ x.1.owner
owner_found es k i x h kept at is =
    ap (λ (h : Holdings). map.get h.owners k) (sym is) ∙ get-owners (the_map es) k
    ∙ ap (option_and_then (λ (a : Assembly). a.owner)) (get_is es k i x kept at.0 at.1)

pub owner_missing : (es : List Entry) (k : ℕ) (h : Holdings) → IsHeld es → position (λ e. e.0 == k) es ≡ None → holdings (the_map es) ≡ h
    → map.get h.owners k ≡ None
owner_missing es k h kept none is =
    ap (λ (h : Holdings). map.get h.owners k) (sym is) ∙ get-owners (the_map es) k
    ∙ ap (option_and_then (λ (a : Assembly). a.owner)) (get_none es k kept none)

pub first_found : (es : List Entry) (after : Option ℕ) (i : ℕ) (x : Entry) (h : Holdings) → IsHeld es → position (λ e. is_above after e.0) es ≡ Some i
    → x ≡ get_or es i x → holdings (the_map es) ≡ h → first_above after h.bytes ≡ Some (x.0, x.1.bytes)
first_found es after i x h kept at stands is =
    ap (λ (h : Holdings). first_above after h.bytes) (sym is) ∙ first-bytes after (the_map es)
    ∙ ap (option_map (λ (e : Entry). (e.0, e.1.bytes))) (above_is es after i x kept at stands)

pub first_missing : (es : List Entry) (after : Option ℕ) (h : Holdings) → IsHeld es → position (λ e. is_above after e.0) es ≡ None
    → holdings (the_map es) ≡ h → first_above after h.bytes ≡ None
first_missing es after h kept none is =
    ap (λ (h : Holdings). first_above after h.bytes) (sym is) ∙ first-bytes after (the_map es)
    ∙ ap (option_map (λ (e : Entry). (e.0, e.1.bytes))) (above_none es after kept none)

-- ---- owners

-- an instance that has bytes is owned
pub own_with : (es : List Entry) (k i : ℕ) (x : Entry) (t : Triad) (h : Holdings) → IsHeld es → Stands es k i x → (length x.1.bytes ≡ 0 → ⊥)
    → holdings (the_map es) ≡ h
    → holdings (the_map (set es i (x.0, record { bytes = x.1.bytes; owner = Some t })))
    ≡ record { bytes = h.bytes; owners = owned_with h.owners k t (size_in h.bytes k) }
own_with es k i x t h kept at some is =
    let long : nat_lt 0 (length x.1.bytes) ≡ true = grind (arith, nat_tests) in
    own_over es k i x (Some t) h kept at is
    ∙ ap (λ (b : Bool). record { bytes = h.bytes; owners = cond b (map.insert h.owners k t) h.owners }) (sym long)
    ∙ ap (λ (o : Option (List ℕ)). record { bytes = h.bytes; owners = owned_with h.owners k t (option_map length o) })
    (sym (bytes_found es k i x h kept at is))

-- and one without is not
pub own_nothing : (es : List Entry) (k i : ℕ) (x : Entry) (t : Triad) (h : Holdings) → IsHeld es → Stands es k i x → length x.1.bytes ≡ 0
    → holdings (the_map es) ≡ h → h ≡ record { bytes = h.bytes; owners = owned_with h.owners k t (size_in h.bytes k) }
own_nothing es k i x t h kept at none is =
    let short : nat_lt 0 (length x.1.bytes) ≡ false = grind (arith, nat_tests) in
    ap (λ (b : Bool). record { bytes = h.bytes; owners = cond b (map.insert h.owners k t) h.owners }) (sym short)
    ∙ ap (λ (o : Option (List ℕ)). record { bytes = h.bytes; owners = owned_with h.owners k t (option_map length o) })
    (sym (bytes_found es k i x h kept at is))

pub own_missing : (es : List Entry) (k : ℕ) (t : Triad) (h : Holdings) → IsHeld es → position (λ e. e.0 == k) es ≡ None → holdings (the_map es) ≡ h
    → h ≡ record { bytes = h.bytes; owners = owned_with h.owners k t (size_in h.bytes k) }
own_missing es k t h kept none is =
    ap (λ (o : Option (List ℕ)). record { bytes = h.bytes; owners = owned_with h.owners k t (option_map length o) })
    (sym (bytes_missing es k h kept none is))

pub disown_over : (es : List Entry) (k i : ℕ) (x : Entry) (h : Holdings) → IsHeld es → Stands es k i x → holdings (the_map es) ≡ h
    → holdings (the_map (set es i (x.0, record { bytes = x.1.bytes; owner = None }))) ≡ record { bytes = h.bytes; owners = map.remove h.owners k }
disown_over es k i x h kept at is = own_over es k i x None h kept at is

pub disown_missing : (es : List Entry) (k : ℕ) (h : Holdings) → IsHeld es → position (λ e. e.0 == k) es ≡ None → holdings (the_map es) ≡ h
    → h ≡ record { bytes = h.bytes; owners = map.remove h.owners k }
disown_missing es k h kept none is =
    let same = owners-same (the_map es) k None (ap (option_and_then (λ (a : Assembly). a.owner)) (get_none es k kept none)) in
    sym is ∙ ap (λ (o : Owners). record { bytes = bytes_of (the_map es); owners = o }) (sym same)
    ∙ ap (λ (h : Holdings). record { bytes = h.bytes; owners = map.remove h.owners k }) is

pub holdings-none : holdings map.empty ≡ record { bytes = map.empty; owners = map.empty }
holdings-none i = record { bytes = bytes-none i; owners = owners-none i }

-- ---- what a write asks

pub same_length : (es : List Entry) (k i : ℕ) (x : Entry) (b : List ℕ) (h : Holdings) → IsHeld es → Stands es k i x → holdings (the_map es) ≡ h
    → IsSomeAnd (map.get h.bytes k) (λ d. length b ≡ length d) → length b ≡ length x.1.bytes
same_length es k i x b h kept at is asked =
    subst (λ (o : Option (List ℕ)). IsSomeAnd o (λ d. length b ≡ length d)) (bytes_found es k i x h kept at is) asked

pub always_there : (es : List Entry) (k : ℕ) (b : List ℕ) (h : Holdings) → IsHeld es → position (λ e. e.0 == k) es ≡ None → holdings (the_map es) ≡ h
    → IsSomeAnd (map.get h.bytes k) (λ d. length b ≡ length d) → ⊥
always_there es k b h kept none is asked = subst (λ (o : Option (List ℕ)). IsSomeAnd o (λ d. length b ≡ length d)) (bytes_missing es k h kept none is) asked

-- where nothing stands
pub no_place : (o p : Option ℕ) → o ≡ p → ((i : ℕ) → o ≡ Some i → ⊥) → p ≡ None
no_place None p e none = sym e
no_place (Some i) p e none = absurd (none i refl)

-- one place has one entry
pub same_entry : (es : List Entry) (i : ℕ) (x y : Entry) → i < length es → x ≡ get_or es i x → y ≡ get_or es i y → x ≡ y
same_entry es i x y lt a b = a ∙ same_at es i x y lt ∙ sym b

pub not_empty : (e : Bool) (d b : List ℕ) → e ≡ false → e ≡ (length d == 0) → d ≡ b → length b ≡ 0 → ⊥
not_empty e d b f is same none = let zero : (length d == 0) ≡ true = rw (same, none) refl in grind (arith, nat_tests)

pub is_empty : (e : Bool) (d b : List ℕ) → e ≡ true → e ≡ (length d == 0) → d ≡ b → length b ≡ 0
is_empty e d b t is same = let zero : (length d == 0) ≡ true = sym is ∙ t in ap (λ (d : List ℕ). length d) (sym same) ∙ eqb-true (length d) 0 zero
