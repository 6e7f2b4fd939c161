-- When an opening is taken, and what a fresh table keeps.
use Rattle.std.proofs.Common.{◌≡◌, ℕ, ◌+◌, ◌<◌, ◌≤◌, ◌^◌, Bool, true, false, List, [], refl, sym, ap, subst, ◌∙◌, arith, Option, Some, None, IsSome, IfSome}
use Rattle.std.proofs.Common.{is_some, nat_le, nat_lt, if◌then◌else◌}
use Rattle.std.specs.Option.{option_and_then}
use Rattle.std.specs.List.{count_by, slice_index_or}
use Rattle.std.specs.Ordering.{nat_cmp}
use Rattle.std.specs.declared.cmp.Ordering.{Ordering}
use Rattle.std.specs.FinMap as map
use Rattle.std.proofs.lemmas.Bool.Decides.{nat_tests}
use Rattle.slab.specs.Slab.{Slab, get, Updates}
use Rattle.cip_base.specs.Triads.{triad_cmp}
use Rattle.cip_base.specs.declared.triad.Triad.{Triad}
use Rattle.cip_base.proofs.Triads.{triads_total}
use Rattle.cip_hops.specs.declared.opening.Opening.{Opening}
use Rattle.cip_hops.specs.declared.opening.OwnIds.{OwnIds}
use Rattle.cip_hops.specs.declared.opening.BeginReason.{BeginReason}
use Rattle.cip_hops.specs.declared.opening.BeginReason.TheVariants.{Duplicate, Full, IdsSpent}
use Rattle.cip_hops.specs.declared.hop.Held.{Held}
use Rattle.cip_hops.specs.declared.hop.Held.TheVariants.{Opening as IsOpening}
use Rattle.cip_hops.specs.declared.table.HopTable.TheInside.{Inside}
use Rattle.cip_hops.specs.Hops.{Hops, refusal, triad_of, up_id_of, down_id_of, held_op_of}
use Rattle.cip_hops.specs.Kept.{Indexes, names, hops, IsKept}
use Rattle.cip_base.specs.Counts.{counts_given}
use Rattle.cip_base.specs.Joined.{Finds}
use Rattle.cip_base.proofs.Views.{len-view}
use Rattle.cip_hops.proofs.Counts.{tally-le}
use Rattle.cip_hops.proofs.Steps.{triads_apart, finds, held_is, len_is}

pub if_some : (P : ℕ → Type 0) (o : Option ℕ) → ((n : ℕ) → o ≡ Some n → P n) → IfSome o P
if_some P None h = tt
if_some P (Some n) h = h n refl

abbrev reason : Bool → ℕ → ℕ → ℕ → Option BeginReason
reason used room len given =
    if used then Some Duplicate else (if nat_le room len then Some Full else (if nat_lt 65535 given then Some IdsSpent else None))

same_some : (found : ℕ → Option Held) (o : Option ℕ) → ((k : ℕ) → o ≡ Some k → IsSome (found k)) → is_some (option_and_then found o) ≡ is_some o
same_some found None h = refl
same_some found (Some k) h = h k refl

module _ (t : Inside) (h : IsKept t) (triad : Triad) (ids : ℕ) where
  refusal_by : refusal (hops t) triad ids ≡ reason (is_some (map.get t.triads.keys triad)) t.room (map.len t.triads.keys) (counts_given t.next + ids)
  refusal_by =
      let used : is_some (map.get (hops t).held triad) ≡ is_some (map.get t.triads.keys triad) = ap is_some (held_is t h triad)
      ∙ same_some (get t.records) (map.get t.triads.keys triad) (finds t h triad) in
      λ i. reason (used i) t.room (len_is t h i) (counts_given t.next + ids)

  pub refusal_used : is_some (map.get t.triads.keys triad) ≡ true → refusal (hops t) triad ids ≡ Some Duplicate
  refusal_used e = refusal_by ∙ ap (λ b. reason b t.room (map.len t.triads.keys) (counts_given t.next + ids)) e

  pub refusal_full : is_some (map.get t.triads.keys triad) ≡ false → t.room ≤ map.len t.triads.keys → refusal (hops t) triad ids ≡ Some Full
  refusal_full e full = refusal_by ∙ ap (λ b. reason b t.room (map.len t.triads.keys) (counts_given t.next + ids)) e ∙ grind (arith, nat_tests)

  pub refusal_spent : is_some (map.get t.triads.keys triad) ≡ false → map.len t.triads.keys < t.room → 65535 < counts_given t.next + ids
      → refusal (hops t) triad ids ≡ Some IdsSpent
  refusal_spent e room spent = refusal_by ∙ ap (λ b. reason b t.room (map.len t.triads.keys) (counts_given t.next + ids)) e ∙ grind (arith, nat_tests)

  pub refusal_none : is_some (map.get t.triads.keys triad) ≡ false → map.len t.triads.keys < t.room → counts_given t.next + ids ≤ 65535
      → refusal (hops t) triad ids ≡ None
  refusal_none e room left = refusal_by ∙ ap (λ b. reason b t.room (map.len t.triads.keys) (counts_given t.next + ids)) e ∙ grind (arith, nat_tests)

  taken : (o : Option ℕ) (room len given : ℕ) → reason (is_some o) room len given ≡ None → (o ≡ None) × (len < room) × (given ≤ 65535)
  taken None room len given e = (refl, grind (arith, nat_tests), grind (arith, nat_tests))
  taken (Some k) room len given e = absurd (cc)

  pub accepted : refusal (hops t) triad ids ≡ None → (map.get t.triads.keys triad ≡ None) × (map.len t.triads.keys < t.room) × (t.next + ids ≤ 4294967296)
  accepted e =
      let (free, room, left) = taken (map.get t.triads.keys triad) t.room (map.len t.triads.keys) (counts_given t.next + ids) (sym refusal_by ∙ e) in
      (free, room, omega (arith, left, h.some, h.spent))

-- what `can_begin` tells by None
pub accepted_at : (t : Inside) (h : IsKept t) (p : Hops) → hops t ≡ p → (triad : Triad) (ids : ℕ) (answer : Option BeginReason)
    → answer ≡ refusal p triad ids → answer ≡ None
    → (map.get t.triads.keys triad ≡ None) × (map.len t.triads.keys < t.room) × (t.next + ids ≤ 4294967296)
accepted_at t h p is triad ids answer told none = accepted t h triad ids (ap (λ q. refusal q triad ids) is ∙ sym told ∙ none)

-- the opening that was put into the records, with the ids that it drew
pub inserted : {a b : Slab Held} {key : ℕ} (o : Opening) {ids drawn : OwnIds} → ids ≡ drawn → Updates a b key (Some (IsOpening o ids))
    → Updates a b key (Some (IsOpening o drawn))
inserted {a} {b} {key} o is updates = subst (λ (ids : OwnIds). Updates a b key (Some (IsOpening o ids))) is updates

-- room in the records and in the indexes
module _ (t : Inside) (h : IsKept t) (room : map.len t.triads.keys < t.room) where
  pub ups_left : map.len t.ups.keys < t.ups.room
  ups_left = let few = tally-le triad_cmp (λ x. is_some (up_id_of x)) (hops t).held in let len = len_is t h in
      omega (arith, room, few, len, h.ups_count, h.ups_room)

  pub downs_left : map.len t.downs.keys < t.downs.room
  downs_left = let few = tally-le triad_cmp (λ x. is_some (down_id_of x)) (hops t).held in let len = len_is t h in
      omega (arith, room, few, len, h.downs_count, h.downs_room)

  pub ops_left : map.len t.ops.keys < t.ops.room
  ops_left = let few = tally-le triad_cmp (λ x. is_some (held_op_of x)) (hops t).held in let len = len_is t h in
      omega (arith, room, few, len, h.ops_count, h.ops_room)

-- ---- a fresh table

module _ (room first : ℕ) (s : Slab Held) (empty : s.slots ≡ []) where
  abbrev pub fresh : Inside
  fresh = record {
    room = room;
    next = first;
    triads = record { room = room; keys = map.empty };
    ups = record { room = room; keys = map.empty };
    downs = record { room = room; keys = map.empty };
    ops = record { room = room; keys = map.empty };
    records = s;
  }

  no_record : (key : ℕ) → get s key ≡ None
  no_record key = ap (λ (slots : List (Option Held)). slice_index_or slots key None) empty

  fresh_index : {K : Type 0} (R : K → K → Ordering) (name_of : Held → Option K) → Indexes {R = R} name_of map.empty (get s)
  fresh_index R name_of = record {
    sound = λ name key e. let never : None ≡ Some key = sym (map.get-empty R name) ∙ e in absurd (cc);
    complete = λ name key x e f. let never : None ≡ Some x = sym (no_record key) ∙ e in absurd (cc);
  }

  fresh_finds : Finds {R = triad_cmp} map.empty (get s)
  fresh_finds q key e = let never : None ≡ Some key = sym (map.get-empty triad_cmp q) ∙ e in absurd (cc)

  fresh_held : (hops fresh).held ≡ map.empty
  fresh_held = map.empty_of_len _ (len-view triad_cmp triads_total triads_apart map.empty (get s) fresh_finds ∙ map.len-empty triad_cmp ℕ)

  pub view_fresh : hops fresh ≡ record { room = room; next = first; held = map.empty }
  view_fresh = λ i. record { room = room; next = first; held = fresh_held i }

  no_names : {K : Type 0} (name_of : Held → Option K) → map.len (map.empty {X = ℕ} {R = nat_cmp}) ≡ names name_of (hops fresh).held
  no_names name_of =
      let few = tally-le triad_cmp (λ x. is_some (name_of x)) (hops fresh).held in
      let none : map.len (hops fresh).held ≡ 0 = ap map.len fresh_held ∙ map.len-empty triad_cmp Held in
      let zero = map.len-empty nat_cmp ℕ in omega (arith, few, none, zero)

  pub kept_fresh : room ≤ s.capacity → 0 < first → first < 2 ^ 32 → IsKept fresh
  kept_fresh capacity some small = record {
    records_room = capacity;
    triads_room = refl;
    ups_room = refl;
    downs_room = refl;
    ops_room = refl;
    count = ap (count_by is_some) empty ∙ sym (map.len-empty triad_cmp ℕ);
    fits = let zero = map.len-empty triad_cmp ℕ in omega (arith, zero);
    some = some;
    spent = omega (arith, small);
    by_triad = fresh_index triad_cmp (λ x. Some (triad_of x));
    by_up = fresh_index nat_cmp up_id_of;
    by_down = fresh_index nat_cmp down_id_of;
    by_op = fresh_index nat_cmp held_op_of;
    ups_count = no_names up_id_of;
    downs_count = no_names down_id_of;
    ops_count = no_names held_op_of;
    each = λ key x e. let never : None ≡ Some x = sym (no_record key) ∙ e in absurd (cc);
    apart = λ j k x y id e f a b. let never : None ≡ Some x = sym (no_record j) ∙ e in cc;
  }
