-- What each change of the table is in the finite map.
use Rattle.std.proofs.Common.{◌≡◌, ◌≢◌, ◌⊎◌, inl, inr, ℕ, zero, suc, ◌+◌, ◌-◌, ◌%◌, ◌<◌, ◌≤◌, Bool, true, false, cond, List, length, get_or, refl, sym, ap}
use Rattle.std.proofs.Common.{subst, ◌∙◌, arith, Option, Some, None, IsSome, nat_le, nat_lt, if◌then◌else◌, find}
use Rattle.std.specs.Option.{option_and_then, option_map_or}
use Rattle.std.specs.List.{position}
use Rattle.std.specs.List.Sorted.{IsPartitionPoint}
use Rattle.std.specs.Ordering.{nat_cmp, eq_by_cmp, is_eq}
use Rattle.std.specs.Cmp.{nat_cmp_total, tied_itself}
use Rattle.std.specs.FinMap as map
use Rattle.std.specs.FinMap.{nat_cmp-IsAntisymmetric}
use Rattle.std.proofs.lemmas.Bool.Decides.{nat_tests}
use Rattle.std.proofs.lemmas.List.Quantifiers.{position-Some}
use Rattle.slab.specs.Slab.{Slab, get, slab_len, Updates}
use Rattle.cip_base.specs.Index.{Index, noted, forgot}
use Rattle.cip_base.specs.Joined.{passes, Finds}
use Rattle.cip_base.proofs.Joined.{same_at, joined_none, joined_first}
use Rattle.cip_base.proofs.Lengths.{len-noted, len-forgot}
use Rattle.cip_base.proofs.Places.{find-None, find-Some, find-first, find-misses}
use Rattle.cip_base.proofs.Views.{tied_name, some_or, get-at, entries-view, get-view, len-view, view-insert, view-remove}
use Rattle.cip_pending.specs.declared.table.PendingTable.TheInside.{Inside}
use Rattle.cip_pending.specs.declared.entry.Entry.{Entry}
use Rattle.cip_pending.specs.declared.entry.AddReason.TheVariants.{Full, NumbersSpent}
use Rattle.cip_pending.specs.Pendings.{Pendings, refusal, added, without, waiting_at, is_due, first_due, first_after, is_asked, is_after, IsWithin}
use Rattle.cip_pending.specs.Kept.{IsKept, pendings}

same_or_not : (a b : ℕ) → (a ≡ b) ⊎ (a ≢ b)
same_or_not zero zero = inl refl
same_or_not zero (suc b) = inr (λ e. cc)
same_or_not (suc a) zero = inr (λ e. cc)
same_or_not (suc a) (suc b) = elim (same_or_not a b) [ inl e ↦ inl (ap (λ n. suc n) e) | inr ne ↦ inr (λ e. ne (omega arith)) ]

refusal_by : (p : Pendings) (n : ℕ) → map.len p.entries ≡ n
    → refusal p ≡ (if nat_le p.room n then Some Full else (if nat_lt 65535 ((p.next - 1) % 65536 + 1) then Some NumbersSpent else None))
refusal_by p n e = rw e refl

module _ (t : Inside) (h : IsKept t) where
  -- what stands under a number
  pub found_is : (number : ℕ) → map.get (pendings t).entries number ≡ option_and_then (get t.records) (map.get t.order.keys number)
  found_is number = get-view nat_cmp nat_cmp_total nat_cmp-IsAntisymmetric t.order.keys (get t.records) h.present number

  len_is : map.len (pendings t).entries ≡ map.len t.order.keys
  len_is = len-view nat_cmp nat_cmp_total nat_cmp-IsAntisymmetric t.order.keys (get t.records) h.present

  pub refusal_full : t.room ≤ map.len t.order.keys → refusal (pendings t) ≡ Some Full
  refusal_full full = refusal_by (pendings t) _ len_is ∙ grind (arith, nat_tests)

  pub refusal_spent : map.len t.order.keys < t.room → 65535 < (t.next - 1) % 65536 + 1 → refusal (pendings t) ≡ Some NumbersSpent
  refusal_spent room spent = refusal_by (pendings t) _ len_is ∙ grind (arith, nat_tests)

  pub refusal_none : map.len t.order.keys < t.room → (t.next - 1) % 65536 + 1 ≤ 65535 → refusal (pendings t) ≡ None
  refusal_none room more = refusal_by (pendings t) _ len_is ∙ grind (arith, nat_tests)

  pub room_left : refusal (pendings t) ≡ None → (map.len t.order.keys < t.room) × ((t.next - 1) % 65536 + 1 ≤ 65535)
  room_left e =
      let is : (if nat_le t.room (map.len t.order.keys) then Some Full
      else (if nat_lt 65535 ((t.next - 1) % 65536 + 1) then Some NumbersSpent else None)) ≡ None =
      sym (refusal_by (pendings t) _ len_is) ∙ e in
      grind (arith, nat_tests)

  pub next_free : map.get t.order.keys t.next ≡ None
  next_free =
      some_or (map.get t.order.keys t.next) (map.get t.order.keys t.next ≡ None) (λ none. none) (λ key e. let below = h.below t.next key e in
      absurd (omega arith))

  pub within : IsWithin (pendings t)
  within = record {
    some = h.some;
    spent = h.spent;
    below = λ number e found. some_or (map.get t.order.keys number) (number < t.next)
        (λ none. let never : None ≡ Some e = sym (found_is number ∙ ap (option_and_then (get t.records)) none) ∙ found in absurd cc)
        (λ key at. h.below number key at);
    fits = subst (λ n. n ≤ t.room) (sym len_is) h.fits;
  }

-- a table with another index
abbrev pub with_order : ℕ → ℕ → Slab Entry → Index nat_cmp → Inside
with_order room next records order = record { room = room; next = next; order = order; records = records }

-- ---- an entry is added

module _ (t : Inside) (h : IsKept t) (s : Slab Entry) (key : ℕ) (e : Entry) (vacant : get t.records key ≡ None)
    (updates : Updates t.records s key (Some e)) where
  abbrev pub after_add : Inside
  after_add = record { room = t.room; next = t.next + 1; order = noted t.order (Some t.next) key; records = s }

  -- a key of the index is another
  other : (q k : ℕ) → map.get t.order.keys q ≡ Some k → k ≢ key
  other q k at same = let none : IsSome {T = Entry} None = subst (λ (o : Option Entry). IsSome o) (ap (get t.records) same ∙ vacant) (h.present q k at) in
      cc

  -- of a number in the index after it: the next number with the new key, or one that stood there
  by_number : (A : Type 0) (q k : ℕ) → map.get (map.insert t.order.keys t.next key) q ≡ Some k → (q ≡ t.next → key ≡ k → A)
      → (map.get t.order.keys q ≡ Some k → A) → A
  by_number A q k at new old =
      elim (eq_by_cmp nat_cmp q t.next) as (λ b. eq_by_cmp nat_cmp q t.next ≡ b → cond b (Some key) (map.get t.order.keys q) ≡ Some k → A) [
        | true ↦ λ tied is. new (tied_name nat_cmp-IsAntisymmetric q t.next tied) (let one : key ≡ k = cc in one)
        | false ↦ λ tied is. old is
      ] refl (sym (map.get-insert nat_cmp_total t.order.keys t.next key q) ∙ at)

  added_present : Finds (map.insert t.order.keys t.next key) (get s)
  added_present q k at =
      by_number (IsSome (get s k)) q k at
      (λ number same. subst (λ j. IsSome (get s j)) same (subst (λ (o : Option Entry). IsSome o) (sym updates.changed) refl))
      (λ old. subst (λ (o : Option Entry). IsSome o) (sym (updates.others k (other q k old))) (h.present q k old))

  added_numbered : (k : ℕ) (x : Entry) → get s k ≡ Some x → (number : ℕ) × (map.get (map.insert t.order.keys t.next key) number ≡ Some k)
  added_numbered k x at = elim (same_or_not k key) [
    | inl same ↦ (
      t.next,
      map.get-insert nat_cmp_total t.order.keys t.next key t.next
          ∙ ap (λ r. cond (is_eq r) (Some key) (map.get t.order.keys t.next)) (tied_itself nat_cmp_total t.next) ∙ ap (λ (j : ℕ). Some j) (sym same),
    )
    | inr ne ↦ let old = h.numbered k x (sym (updates.others k ne) ∙ at) in (
      old.0,
      map.get-insert nat_cmp_total t.order.keys t.next key old.0
          ∙ elim (eq_by_cmp nat_cmp old.0 t.next) as (λ b. eq_by_cmp nat_cmp old.0 t.next ≡ b → cond b (Some key) (map.get t.order.keys old.0) ≡ Some k) [
            | true ↦ λ tied. let none : None ≡ Some k = sym (next_free t h)
                ∙ ap (map.get t.order.keys) (sym (tied_name nat_cmp-IsAntisymmetric old.0 t.next tied)) ∙ old.1 in absurd (cc)
            | false ↦ λ tied. old.1
          ] refl,
    )
  ]

  pub view_add : pendings after_add ≡ added (pendings t) e
  view_add =
      let is = view-insert nat_cmp nat_cmp_total nat_cmp-IsAntisymmetric t.order.keys (get t.records) (get s) t.next key e h.present added_present
      updates.changed (λ q k at. updates.others k (other q k at)) in
      λ i. record { room = t.room; next = t.next + 1; entries = is i }

  pub kept_add : slab_len s ≡ slab_len t.records + 1 → s.capacity ≡ t.records.capacity → map.len t.order.keys < t.room → (t.next - 1) % 65536 + 1 ≤ 65535
      → IsKept after_add
  kept_add count capacity room more =
      let len =
      len-noted nat_cmp nat_cmp_total t.order (Some t.next) key (λ n is. let same : t.next ≡ n = cc in ap (map.get t.order.keys) (sym same)
      ∙ next_free t h) in
      record {
        order_room = h.order_room;
        records_room = omega (arith, h.records_room, capacity);
        fits = omega (arith, len, room);
        count = omega (arith, len, count, h.count);
        some = omega arith;
        spent = omega arith;
        below = λ q k at. by_number (q < t.next + 1) q k at (λ number same. omega arith) (λ old. let below = h.below q k old in omega arith);
        present = added_present;
        numbered = added_numbered;
        distinct = λ m n k a b. by_number (m ≡ n) m k a
            (λ first same. by_number (m ≡ n) n k b (λ second again. first ∙ sym second) (λ old. absurd (other n k old (sym same))))
            (λ first. by_number (m ≡ n) n k b (λ second same. absurd (other m k first (sym same))) (λ second. h.distinct m n k first second));
      }

-- ---- an entry goes

module _ (t : Inside) (h : IsKept t) (s : Slab Entry) (number key : ℕ) (e : Entry) (at : map.get t.order.keys number ≡ Some key)
    (updates : Updates t.records s key None) where
  abbrev pub after_drop : Inside
  after_drop = record { room = t.room; next = t.next; order = forgot t.order (Some number); records = s }

  -- what is in the index after it stood there, under another number and another key
  still : (A : Type 0) (q k : ℕ) → map.get (map.remove t.order.keys number) q ≡ Some k → (map.get t.order.keys q ≡ Some k → k ≢ key → A) → A
  still A q k is old =
      elim (eq_by_cmp nat_cmp q number) as (λ b. eq_by_cmp nat_cmp q number ≡ b → cond b None (map.get t.order.keys q) ≡ Some k → A) [
        | true ↦ λ tied none. absurd cc
        | false ↦ λ tied stood. old stood (λ same.
            let one : q ≡ number = h.distinct q number key (stood ∙ ap (λ (j : ℕ). Some j) same) at in
            let both : false ≡ true = sym tied ∙ ap (λ (r : ℕ). eq_by_cmp nat_cmp r number) one ∙ ap is_eq (tied_itself nat_cmp_total number) in cc)
      ] refl (sym (map.get-remove nat_cmp_total t.order.keys number q) ∙ is)

  dropped_present : Finds (map.remove t.order.keys number) (get s)
  dropped_present q k is =
      still (IsSome (get s k)) q k is (λ stood ne. subst (λ (o : Option Entry). IsSome o) (sym (updates.others k ne)) (h.present q k stood))

  dropped_numbered : (k : ℕ) (x : Entry) → get s k ≡ Some x → (q : ℕ) × (map.get (map.remove t.order.keys number) q ≡ Some k)
  dropped_numbered k x is =
      let ne : k ≢ key = λ same. let none : None ≡ Some x = sym updates.changed ∙ ap (get s) (sym same) ∙ is in cc in
      let old = h.numbered k x (sym (updates.others k ne) ∙ is) in (
        old.0,
        map.get-remove nat_cmp_total t.order.keys number old.0
            ∙ elim (eq_by_cmp nat_cmp old.0 number) as (λ b. eq_by_cmp nat_cmp old.0 number ≡ b → cond b None (map.get t.order.keys old.0) ≡ Some k) [
              | true ↦ λ tied. let both : Some k ≡ Some key = sym old.1
                  ∙ ap (map.get t.order.keys) (tied_name nat_cmp-IsAntisymmetric old.0 number tied) ∙ at in absurd (ne (let one : k ≡ key = cc in one))
              | false ↦ λ tied. old.1
            ] refl,
      )

  not_key : (q k : ℕ) → map.get t.order.keys q ≡ Some k → eq_by_cmp nat_cmp q number ≡ false → k ≢ key
  not_key q k stood tied same =
      let one : q ≡ number = h.distinct q number key (stood ∙ ap (λ (j : ℕ). Some j) same) at in
      let both : false ≡ true = sym tied ∙ ap (λ (r : ℕ). eq_by_cmp nat_cmp r number) one ∙ ap is_eq (tied_itself nat_cmp_total number) in cc

  pub view_drop : pendings after_drop ≡ without (pendings t) number
  view_drop =
      let is = view-remove nat_cmp nat_cmp_total nat_cmp-IsAntisymmetric t.order.keys (get t.records) (get s) number h.present dropped_present
      (λ q k stood tied. updates.others k (not_key q k stood tied)) in
      λ i. record { room = t.room; next = t.next; entries = is i }

  pub kept_drop : slab_len s + 1 ≡ slab_len t.records → s.capacity ≡ t.records.capacity → IsKept after_drop
  kept_drop count capacity =
      let len =
      len-forgot nat_cmp nat_cmp_total t.order (Some number) key (λ n is. let same : number ≡ n = cc in ap (map.get t.order.keys) (sym same) ∙ at) in
      record {
        order_room = h.order_room;
        records_room = omega (arith, h.records_room, capacity);
        fits = omega (arith, len, h.fits);
        count = omega (arith, len, count, h.count);
        some = h.some;
        spent = h.spent;
        below = λ q k is. still (q < t.next) q k is (λ stood ne. h.below q k stood);
        present = dropped_present;
        numbered = dropped_numbered;
        distinct = λ m n k a b. still (m ≡ n) m k a (λ first ne. still (m ≡ n) n k b (λ second ne. h.distinct m n k first second));
      }

-- ---- what waits under a number

module _ (t : Inside) (h : IsKept t) (number port : ℕ) (address : List ℕ) where
  waiting_by : (o : Option Entry) → map.get (pendings t).entries number ≡ o
      → waiting_at (pendings t) number port address ≡ option_and_then (λ (e : Entry). if is_asked port address e then Some e else None) o
  waiting_by o is = ap (option_and_then (λ (e : Entry). if is_asked port address e then Some e else None)) is

  pub waiting_none : map.get t.order.keys number ≡ None → waiting_at (pendings t) number port address ≡ None
  waiting_none none = waiting_by None (found_is t h number ∙ ap (option_and_then (get t.records)) none)

  pub waiting_is : (key : ℕ) (e : Entry) (r : Bool) → map.get t.order.keys number ≡ Some key → get t.records key ≡ Some e → is_asked port address e ≡ r
      → waiting_at (pendings t) number port address ≡ (if r then Some e else None)
  waiting_is key e r at found asked =
      waiting_by (Some e) (found_is t h number ∙ ap (option_and_then (get t.records)) at ∙ found) ∙ ap (λ b. if b then Some e else None) asked

-- ---- the due, and the next

module _ (t : Inside) (h : IsKept t) where
  abbrev es : List (ℕ × ℕ)
  es = map.entries t.order.keys

  -- the number and the key at a place
  pub at_place : (i : ℕ) (q : ℕ × ℕ) → i < length es → q ≡ get_or es i q → map.get t.order.keys q.0 ≡ Some q.1
  at_place i q lt stands =
      ap (λ (p : ℕ × ℕ). map.get t.order.keys p.0) stands ∙ get-at nat_cmp nat_cmp_total nat_cmp-IsAntisymmetric t.order.keys i q lt
      ∙ ap (λ (p : ℕ × ℕ). Some p.1) (sym stands)

  -- a pair that was asked for stands in the index
  pub pair_at : (ps : List (ℕ × ℕ)) (i : ℕ) → ps ≡ es → i < length ps → (i < length es) × (get_or ps i (0, 0) ≡ get_or es i (get_or ps i (0, 0)))
  pair_at ps i same lt =
      let within : i < length es = subst (λ (rs : List (ℕ × ℕ)). i < length rs) same lt in
      (within, ap (λ (rs : List (ℕ × ℕ)). get_or rs i (0, 0)) same ∙ same_at es i (0, 0) (get_or ps i (0, 0)) within)

  pub noted_at : (ps : List (ℕ × ℕ)) (i : ℕ) → ps ≡ es → i < length ps → map.get t.order.keys (get_or ps i (0, 0)).0 ≡ Some (get_or ps i (0, 0)).1
  noted_at ps i same lt = let here = pair_at ps i same lt in at_place i (get_or ps i (0, 0)) here.0 here.1

  -- the due one, found in the pairs that were asked for
  pub due_at : (now i : ℕ) (ps : List (ℕ × ℕ)) → ps ≡ es → Some i ≡ position (passes (is_due now) (get t.records)) ps → i < length ps
  due_at now i ps same found = (position-Some (passes (is_due now) (get t.records)) ps i (0, 0) (sym found)).0

  pub due_none : (now : ℕ) → position (passes (is_due now) (get t.records)) es ≡ None → first_due now (pendings t) ≡ None
  due_none now none =
      ap (find (is_due now)) (entries-view nat_cmp nat_cmp_total nat_cmp-IsAntisymmetric t.order.keys (get t.records))
      ∙ joined_none (is_due now) es (get t.records) (find-None (passes (is_due now) (get t.records)) es none)

  pub due_is : (now i : ℕ) (q : ℕ × ℕ) (e : Entry) → position (passes (is_due now) (get t.records)) es ≡ Some i → q ≡ get_or es i q
      → get t.records q.1 ≡ Some e → first_due now (pendings t) ≡ Some (q.0, e)
  due_is now i q e at stands found =
      ap (find (is_due now)) (entries-view nat_cmp nat_cmp_total nat_cmp-IsAntisymmetric t.order.keys (get t.records))
      ∙ joined_first (is_due now) es (get t.records) q e
      (find-Some (passes (is_due now) (get t.records)) es i q at ∙ ap (λ (x : ℕ × ℕ). Some x) (sym stands)) found

  module _ (after : Option ℕ) (i : ℕ) (parts : IsPartitionPoint (λ p. is_after after p.0 ≡ false) (λ p. is_after after p.0 ≡ true) es i) where
    abbrev is_next : ℕ × Entry → Bool
    is_next e = is_after after e.0

    -- whether a record passes does not depend on it where only its number is looked at
    by_its : (number : ℕ) (o : Option Entry) (b : Bool) → is_after after number ≡ b → IsSome o
        → option_map_or (λ (x : Entry). is_after after number) o false ≡ b
    by_its number None b e some = absurd cc
    by_its number (Some x) b e some = e

    misses : (number : ℕ) (o : Option Entry) → is_after after number ≡ false → option_map_or (λ (x : Entry). is_after after number) o false ≡ false
    misses number None e = refl
    misses number (Some x) e = e

    pub after_none : length es ≤ i → first_after after (pendings t) ≡ None
    after_none end =
        ap (find is_next) (entries-view nat_cmp nat_cmp_total nat_cmp-IsAntisymmetric t.order.keys (get t.records))
        ∙ joined_none is_next es (get t.records)
        (find-misses (passes is_next (get t.records)) es (λ k d lt. misses _ _ (parts.0 k d (omega arith) (omega arith))))

    pub after_is : (q : ℕ × ℕ) (e : Entry) → i < length es → q ≡ get_or es i q → get t.records q.1 ≡ Some e → first_after after (pendings t) ≡ Some (q.0, e)
    after_is q e lt stands found =
        let some : IsSome (get t.records (get_or es i q).1) =
        subst (λ (p : ℕ × ℕ). IsSome (get t.records p.1)) stands (subst (λ (o : Option Entry). IsSome o) (sym found) refl) in
        ap (find is_next) (entries-view nat_cmp nat_cmp_total nat_cmp-IsAntisymmetric t.order.keys (get t.records))
        ∙ joined_first is_next es (get t.records) q e
        (find-first (passes is_next (get t.records)) es i q lt (by_its _ _ true (parts.1 i q (omega arith) lt) some)
        (λ k below. misses _ _ (parts.0 k q (omega arith) below)) ∙ ap (λ (x : ℕ × ℕ). Some x) (sym stands)) found
