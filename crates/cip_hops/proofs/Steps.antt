-- What each change of the records and indexes is in the map of hops.
use Rattle.std.proofs.Common.{◌≡◌, ◌≢◌, ℕ, ◌+◌, ◌<◌, ◌≤◌, true, false, refl, sym, ap, subst, ◌∙◌, arith, Option, Some, None, IsSome, is_some, ◌⊎◌, inl, inr}
use Rattle.std.specs.Option.{option_and_then}
use Rattle.std.specs.Ordering.{nat_cmp, eq_by_cmp, is_eq}
use Rattle.std.specs.Cmp.{nat_cmp_total, tied_itself}
use Rattle.std.specs.FinMap as map
use Rattle.std.specs.FinMap.{FinMap, IsAntisymmetric, nat_cmp-IsAntisymmetric}
use Rattle.slab.specs.Slab.{Slab, get, slab_len, Updates}
use Rattle.cip_base.specs.Triads.{triad_cmp}
use Rattle.cip_base.specs.declared.triad.Triad.{Triad}
use Rattle.cip_base.proofs.Triads.{triads_total, exact_triads}
use Rattle.cip_hops.specs.declared.opening.Opening.{Opening}
use Rattle.cip_hops.specs.declared.hop.Held.{Held}
use Rattle.cip_hops.specs.declared.hop.Held.TheVariants.{Opening as IsOpening}
use Rattle.cip_hops.specs.declared.table.HopTable.TheInside.{Inside}
use Rattle.cip_hops.specs.Sides.{up_is_link, down_is_link, op_of, ids_drawn, own_ids}
use Rattle.cip_hops.specs.Hops.{Hops, begun, without, triad_of, up_id_of, down_id_of, held_op_of, IsOpFree, IsHeld, IsWithin}
use Rattle.cip_base.specs.Index.{Index, noted, forgot}
use Rattle.cip_hops.specs.Kept.{Indexes, names, hops, IsKept}
use Rattle.cip_base.specs.Joined.{Finds}
use Rattle.cip_base.proofs.Views.{get-view, len-view, view-insert, view-remove, view-change}
use Rattle.cip_base.proofs.Lengths.{one_if}
use Rattle.cip_hops.proofs.Counts.{tally-insert, tally-remove, tally-change}
use Rattle.cip_base.proofs.Lengths.{len-noted, len-forgot}
use Rattle.cip_hops.proofs.Indexing.{same_or_not, Others, index_add, index_drop, index_change}
use Rattle.cip_hops.proofs.Ids.{is_some-if, up_range, down_range, drawn_apart}

pub triads_apart : IsAntisymmetric triad_cmp
triads_apart = exact_triads

finds_by : (m : FinMap triad_cmp ℕ) (found : ℕ → Option Held) → Indexes (λ x. Some (triad_of x)) m found → Finds m found
finds_by m found h q key e = subst (λ (o : Option Held). IsSome o) (sym (h.sound q key e).stands) refl

pub finds : (t : Inside) → IsKept t → Finds t.triads.keys (get t.records)
finds t h = finds_by t.triads.keys (get t.records) h.by_triad

-- what stands under a triad
pub held_is : (t : Inside) → IsKept t → (q : Triad) → map.get (hops t).held q ≡ option_and_then (get t.records) (map.get t.triads.keys q)
held_is t h q = get-view triad_cmp triads_total triads_apart t.triads.keys (get t.records) (finds t h) q

pub held_at : (t : Inside) → IsKept t → (q : Triad) (key : ℕ) (x : Held) → map.get t.triads.keys q ≡ Some key → get t.records key ≡ Some x
    → map.get (hops t).held q ≡ Some x
held_at t h q key x at is = held_is t h q ∙ ap (option_and_then (get t.records)) at ∙ is

pub held_none : (t : Inside) → IsKept t → (q : Triad) → map.get t.triads.keys q ≡ None → map.get (hops t).held q ≡ None
held_none t h q none = held_is t h q ∙ ap (option_and_then (get t.records)) none

pub record Stands (t : Inside) (q : Triad) (x : Held) : Type 0 where
  pub key : ℕ
  pub noted_ : map.get t.triads.keys q ≡ Some key
  pub found : get t.records key ≡ Some x

split_then : (found : ℕ → Option Held) (o : Option ℕ) (x : Held) → option_and_then found o ≡ Some x → (key : ℕ) × (o ≡ Some key) × (found key ≡ Some x)
split_then found None x e = absurd (cc)
split_then found (Some key) x e = (key, refl, e)

pub stands : (t : Inside) → IsKept t → (q : Triad) (x : Held) → map.get (hops t).held q ≡ Some x → Stands t q x
stands t h q x e = let s = split_then (get t.records) (map.get t.triads.keys q) x (sym (held_is t h q) ∙ e) in
    record { key = s.0; noted_ = s.1; found = s.2 }

-- a record stands under its triad
pub under : (t : Inside) → IsKept t → (key : ℕ) (x : Held) → get t.records key ≡ Some x → map.get (hops t).held (triad_of x) ≡ Some x
under t h key x e = held_at t h (triad_of x) key x (h.by_triad.complete (triad_of x) key x e refl) e

pub len_is : (t : Inside) → IsKept t → map.len (hops t).held ≡ map.len t.triads.keys
len_is t h = len-view triad_cmp triads_total triads_apart t.triads.keys (get t.records) (finds t h)

grown : (next more : ℕ) (x : Held) → next ≤ more → IsHeld next x → IsHeld more x
grown next more x le h = record {
  multiplier = h.multiplier;
  up = h.up;
  down = h.down;
  up_below = λ id e. omega (arith, h.up_below id e);
  down_below = λ id e. omega (arith, h.down_below id e);
  open_ = h.open_;
}

none_if : (v : Option ℕ) → ((k : ℕ) → v ≡ Some k → ⊥) → v ≡ None
none_if None never = refl
none_if (Some k) never = absurd (never k refl)

-- ---- an opening comes

abbrev pub inside : ℕ → Slab Held → ℕ → Index triad_cmp → Index nat_cmp → Index nat_cmp → Index nat_cmp → Inside
inside room records next triads ups downs ops = record {
  room = room;
  next = next;
  triads = triads;
  ups = ups;
  downs = downs;
  ops = ops;
  records = records;
}

-- a table of the same parts
pub same_inside : (room : ℕ) (records : Slab Held) {n n' : ℕ} {a a' : Index triad_cmp} {b b' c c' d d' : Index nat_cmp}
    → n ≡ n' → a ≡ a' → b ≡ b' → c ≡ c' → d ≡ d' → inside room records n a b c d ≡ inside room records n' a' b' c' d'
same_inside room records e f g h k = λ i. inside room records (e i) (f i) (g i) (h i) (k i)

module _ (t : Inside) (h : IsKept t) (o : Opening) (key : ℕ) (s : Slab Held) (vacant : get t.records key ≡ None)
    (updates : Updates t.records s key (Some (IsOpening o (own_ids t.next o)))) (free : map.get t.triads.keys o.triad ≡ None) where
  abbrev pub new_held : Held
  new_held = IsOpening o (own_ids t.next o)

  abbrev pub after_begin : Inside
  after_begin = record {
    room = t.room;
    next = t.next + ids_drawn o;
    triads = record { room = t.triads.room; keys = map.insert t.triads.keys o.triad key };
    ups = noted t.ups (own_ids t.next o).up key;
    downs = noted t.downs (own_ids t.next o).down key;
    ops = noted t.ops (op_of o.up) key;
    records = s;
  }

  begun_triads : Indexes (λ x. Some (triad_of x)) (map.insert t.triads.keys o.triad key) (get s)
  begun_triads =
      index_add triad_cmp triads_total triads_apart (λ x. Some (triad_of x)) t.triads (get t.records) (get s) key new_held
      (Some o.triad) h.by_triad vacant updates.changed updates.others refl
      (λ n e. let same : o.triad ≡ n = cc in ap (map.get t.triads.keys) (sym same) ∙ free)

  begun_finds : Finds (map.insert t.triads.keys o.triad key) (get s)
  begun_finds = finds_by _ (get s) begun_triads

  not_new : (q : Triad) (k : ℕ) → map.get t.triads.keys q ≡ Some k → k ≢ key
  not_new q k e same = let x = h.by_triad.sound q k e in let no : None ≡ Some x.held = sym vacant ∙ ap (get t.records) (sym same) ∙ x.stands in cc

  pub view_begun : hops after_begin ≡ begun (hops t) o
  view_begun =
      let is =
      view-insert triad_cmp triads_total triads_apart t.triads.keys (get t.records) (get s) o.triad key new_held
      (finds t h) begun_finds updates.changed (λ q k e. updates.others k (not_new q k e)) in
      λ i. record { room = t.room; next = t.next + ids_drawn o; held = is i }

  pub up_free : (id : ℕ) → (own_ids t.next o).up ≡ Some id → map.get t.ups.keys id ≡ None
  up_free id e =
      let range = up_range (up_is_link o.up) (down_is_link o.down) t.next id e in
      none_if (map.get t.ups.keys id) (λ k f. let x = h.by_up.sound id k f in let below = (h.each k x.held x.stands).up_below id x.named in
      omega (arith, range.0, below))

  pub down_free : (id : ℕ) → (own_ids t.next o).down ≡ Some id → map.get t.downs.keys id ≡ None
  down_free id e =
      let range = down_range (up_is_link o.up) (down_is_link o.down) t.next id e in
      none_if (map.get t.downs.keys id) (λ k f. let x = h.by_down.sound id k f in let below = (h.each k x.held x.stands).down_below id x.named in
      omega (arith, range.0, below))

  module _ (op_free : IsOpFree (hops t) (op_of o.up)) where
    pub op_unused : (op : ℕ) → op_of o.up ≡ Some op → map.get t.ops.keys op ≡ None
    op_unused op e =
        none_if (map.get t.ops.keys op) (λ k f. let x = h.by_op.sound op k f in
        op_free.differs (triad_of x.held) x.held op (under t h k x.held x.stands) e x.named)

    module _ (multiplier : o.multiplier < 8) (room : map.len t.triads.keys < t.room) (ids : t.next + ids_drawn o ≤ 4294967296)
        (count : slab_len s ≡ slab_len t.records + 1) (capacity : s.capacity ≡ t.records.capacity) where
      new_sound : IsHeld (t.next + ids_drawn o) new_held
      new_sound = record {
        multiplier = multiplier;
        up = is_some-if (up_is_link o.up) _;
        down = is_some-if (down_is_link o.down) _;
        up_below = λ id e. (up_range (up_is_link o.up) (down_is_link o.down) t.next id e).1;
        down_below = λ id e. (down_range (up_is_link o.up) (down_is_link o.down) t.next id e).1;
        open_ = λ hop e. absurd (cc);
      }

      old_or_new : (k : ℕ) (x : Held) → get s k ≡ Some x → (get t.records k ≡ Some x) ⊎ (x ≡ new_held)
      old_or_new k x e = elim (same_or_not k key) [
        | inl same ↦ inr (let both : Some x ≡ Some new_held = sym e ∙ ap (get s) same ∙ updates.changed in cc)
        | inr ne ↦ inl (sym (updates.others k ne) ∙ e)
      ]

      begun_each : (k : ℕ) (x : Held) → get s k ≡ Some x → IsHeld (t.next + ids_drawn o) x
      begun_each k x e = elim (old_or_new k x e) [
        | inl old ↦ grown t.next _ x (omega arith) (h.each k x old)
        | inr is ↦ subst (IsHeld (t.next + ids_drawn o)) (sym is) new_sound
      ]

      begun_apart : (j k : ℕ) (x y : Held) (id : ℕ) → get s j ≡ Some x → get s k ≡ Some y → up_id_of x ≡ Some id → down_id_of y ≡ Some id → ⊥
      begun_apart j k x y id e f a b = elim (old_or_new j x e) [
        | inl old ↦ elim (old_or_new k y f) [
          | inl old' ↦ h.apart j k x y id old old' a b
          | inr is ↦ let low = (down_range (up_is_link o.up) (down_is_link o.down) t.next id (ap down_id_of (sym is) ∙ b)).0 in let high =
              (h.each j x old).up_below id a in omega (arith, low, high)
        ]
        | inr is ↦ let up = ap up_id_of (sym is) ∙ a in elim (old_or_new k y f) [
          | inl old' ↦ let low = (up_range (up_is_link o.up) (down_is_link o.down) t.next id up).0 in let high = (h.each k y old').down_below id b in
              omega (arith, low, high)
          | inr is' ↦ drawn_apart (up_is_link o.up) (down_is_link o.down) t.next id up (ap down_id_of (sym is') ∙ b)
        ]
      ]

      begun_names : {K : Type 0} (name_of : Held → Option K)
          → names name_of (hops after_begin).held ≡ one_if (is_some (name_of new_held)) + names name_of (hops t).held
      begun_names name_of = ap (λ (p : Hops). names name_of p.held) view_begun
          ∙ tally-insert triad_cmp (λ x. is_some (name_of x)) triads_total triads_apart (hops t).held o.triad new_held (held_none t h o.triad free)

      pub kept_begun : IsKept after_begin
      kept_begun = record {
        records_room = omega (arith, h.records_room, capacity);
        triads_room = h.triads_room;
        ups_room = room_noted t.ups (own_ids t.next o).up ∙ h.ups_room;
        downs_room = room_noted t.downs (own_ids t.next o).down ∙ h.downs_room;
        ops_room = room_noted t.ops (op_of o.up) ∙ h.ops_room;
        count = let more = len_more in omega (arith, count, h.count, more);
        fits = let more = len_more in omega (arith, room, more);
        some = omega (arith, h.some);
        spent = omega (arith, ids);
        by_triad = begun_triads;
        by_up = index_add nat_cmp nat_cmp_total nat_cmp-IsAntisymmetric up_id_of t.ups (get t.records)
            (get s) key new_held _ h.by_up vacant updates.changed updates.others refl up_free;
        by_down =
            index_add nat_cmp nat_cmp_total nat_cmp-IsAntisymmetric down_id_of t.downs (get t.records)
            (get s) key new_held _ h.by_down vacant updates.changed updates.others refl down_free;
        by_op = index_add nat_cmp nat_cmp_total nat_cmp-IsAntisymmetric held_op_of t.ops (get t.records)
            (get s) key new_held _ h.by_op vacant updates.changed updates.others refl op_unused;
        ups_count = len-noted nat_cmp nat_cmp_total t.ups _ key up_free
            ∙ ap (λ n. one_if (is_some (own_ids t.next o).up) + n) h.ups_count ∙ sym (begun_names up_id_of);
        downs_count = len-noted nat_cmp nat_cmp_total t.downs _ key down_free
            ∙ ap (λ n. one_if (is_some (own_ids t.next o).down) + n) h.downs_count ∙ sym (begun_names down_id_of);
        ops_count = len-noted nat_cmp nat_cmp_total t.ops _ key op_unused
            ∙ ap (λ n. one_if (is_some (op_of o.up)) + n) h.ops_count ∙ sym (begun_names held_op_of);
        each = begun_each;
        apart = begun_apart;
      }
        where
          room_noted : (m : Index nat_cmp) (name : Option ℕ) → (noted m name key).room ≡ m.room
          room_noted m None = refl
          room_noted m (Some n) = refl

          len_more : map.len (map.insert t.triads.keys o.triad key) ≡ 1 + map.len t.triads.keys
          len_more =
              len-noted triad_cmp triads_total t.triads (Some o.triad) key (λ n e. let same : o.triad ≡ n = cc in
              ap (map.get t.triads.keys) (sym same) ∙ free)

-- ---- a record goes

module _ (t : Inside) (h : IsKept t) (triad : Triad) (key : ℕ) (x : Held) (s : Slab Held) (at : map.get t.triads.keys triad ≡ Some key)
    (found : get t.records key ≡ Some x) (updates : Updates t.records s key None) where
  abbrev pub after_drop : Inside
  after_drop = record {
    room = t.room;
    next = t.next;
    triads = record { room = t.triads.room; keys = map.remove t.triads.keys triad };
    ups = forgot t.ups (up_id_of x);
    downs = forgot t.downs (down_id_of x);
    ops = forgot t.ops (held_op_of x);
    records = s;
  }

  its_triad : triad_of x ≡ triad
  its_triad =
      let y = h.by_triad.sound triad key at in
      let one : x ≡ y.held = let both : Some x ≡ Some y.held = sym found ∙ y.stands in cc in
      let same : Some (triad_of y.held) ≡ Some triad = y.named in
      ap triad_of one ∙ cc

  dropped_triads : Indexes (λ x. Some (triad_of x)) (map.remove t.triads.keys triad) (get s)
  dropped_triads =
      index_drop triad_cmp triads_total triads_apart (λ x. Some (triad_of x)) t.triads (get t.records) (get s) key x
      (Some triad) h.by_triad found updates.changed updates.others (ap (λ q. Some q) its_triad)

  pub view_dropped : hops after_drop ≡ without (hops t) triad
  view_dropped =
      let is =
      view-remove triad_cmp triads_total triads_apart t.triads.keys (get t.records) (get s) triad (finds t h) (finds_by _ (get s) dropped_triads)
      (λ q k e ne. updates.others k (other_key q k e ne)) in
      λ i. record { room = t.room; next = t.next; held = is i }
    where
      other_key : (q : Triad) (k : ℕ) → map.get t.triads.keys q ≡ Some k → eq_by_cmp triad_cmp q triad ≡ false → k ≢ key
      other_key q k e ne same =
          let y = h.by_triad.sound q k e in
          let one : x ≡ y.held = let both : Some x ≡ Some y.held = sym found ∙ ap (get t.records) (sym same) ∙ y.stands in cc in
          let name : triad_of y.held ≡ q = let both : Some (triad_of y.held) ≡ Some q = y.named in cc in
          let is : triad ≡ q = sym its_triad ∙ ap triad_of one ∙ name in
          let tied : eq_by_cmp triad_cmp q triad ≡ true = ap (λ r. eq_by_cmp triad_cmp r triad) (sym is) ∙ ap is_eq (tied_itself triads_total triad) in cc

  pub up_noted : (id : ℕ) → up_id_of x ≡ Some id → map.get t.ups.keys id ≡ Some key
  up_noted id e = h.by_up.complete id key x found e

  pub down_noted : (id : ℕ) → down_id_of x ≡ Some id → map.get t.downs.keys id ≡ Some key
  down_noted id e = h.by_down.complete id key x found e

  pub op_noted : (op : ℕ) → held_op_of x ≡ Some op → map.get t.ops.keys op ≡ Some key
  op_noted op e = h.by_op.complete op key x found e

  module _ (count : slab_len s + 1 ≡ slab_len t.records) (capacity : s.capacity ≡ t.records.capacity) where
    still : (k : ℕ) (y : Held) → get s k ≡ Some y → get t.records k ≡ Some y
    still k y e = sym (updates.others k (λ same. let none : None ≡ Some y = sym updates.changed ∙ ap (get s) (sym same) ∙ e in cc)) ∙ e

    dropped_names : {K : Type 0} (name_of : Held → Option K)
        → one_if (is_some (name_of x)) + names name_of (hops after_drop).held ≡ names name_of (hops t).held
    dropped_names name_of = ap (λ (p : Hops). one_if (is_some (name_of x)) + names name_of p.held) view_dropped
        ∙ tally-remove triad_cmp (λ x. is_some (name_of x)) triads_total triads_apart (hops t).held triad x (held_at t h triad key x at found)

    pub kept_dropped : IsKept after_drop
    kept_dropped = record {
      records_room = omega (arith, h.records_room, capacity);
      triads_room = h.triads_room;
      ups_room = room_forgot t.ups (up_id_of x) ∙ h.ups_room;
      downs_room = room_forgot t.downs (down_id_of x) ∙ h.downs_room;
      ops_room = room_forgot t.ops (held_op_of x) ∙ h.ops_room;
      count = let less = len_less in omega (arith, count, h.count, less);
      fits = let less = len_less in omega (arith, h.fits, less);
      some = h.some;
      spent = h.spent;
      by_triad = dropped_triads;
      by_up = index_drop nat_cmp nat_cmp_total nat_cmp-IsAntisymmetric up_id_of t.ups (get t.records)
          (get s) key x _ h.by_up found updates.changed updates.others refl;
      by_down =
          index_drop nat_cmp nat_cmp_total nat_cmp-IsAntisymmetric down_id_of t.downs (get t.records)
          (get s) key x _ h.by_down found updates.changed updates.others refl;
      by_op = index_drop nat_cmp nat_cmp_total nat_cmp-IsAntisymmetric held_op_of t.ops (get t.records)
          (get s) key x _ h.by_op found updates.changed updates.others refl;
      ups_count =
          less_left _ _ _ _ _ (len-forgot nat_cmp nat_cmp_total t.ups (up_id_of x) key up_noted) h.ups_count
          (dropped_names up_id_of);
      downs_count =
          less_left _ _ _ _ _ (len-forgot nat_cmp nat_cmp_total t.downs (down_id_of x) key down_noted) h.downs_count
          (dropped_names down_id_of);
      ops_count =
          less_left _ _ _ _ _ (len-forgot nat_cmp nat_cmp_total t.ops (held_op_of x) key op_noted) h.ops_count
          (dropped_names held_op_of);
      each = λ k y e. h.each k y (still k y e);
      apart = λ j k y z id e f. h.apart j k y z id (still j y e) (still k z f);
    }
      where
        room_forgot : (m : Index nat_cmp) (name : Option ℕ) → (forgot m name).room ≡ m.room
        room_forgot m None = refl
        room_forgot m (Some n) = refl

        less_left : (one a b c d : ℕ) → one + a ≡ b → b ≡ d → one + c ≡ d → a ≡ c
        less_left one a b c d e f g = omega arith

        len_less : 1 + map.len (map.remove t.triads.keys triad) ≡ map.len t.triads.keys
        len_less =
            len-forgot triad_cmp triads_total t.triads (Some triad) key (λ n e. let same : triad ≡ n = cc in
            ap (map.get t.triads.keys) (sym same) ∙ at)

-- ---- a record changes

-- the same triad, ids and op
pub record SameNames (x y : Held) : Type 0 where
  pub triad : triad_of y ≡ triad_of x
  pub up : up_id_of y ≡ up_id_of x
  pub down : down_id_of y ≡ down_id_of x
  pub op : held_op_of y ≡ held_op_of x

module _ (t : Inside) (h : IsKept t) (triad : Triad) (key : ℕ) (x y : Held) (s : Slab Held) (at : map.get t.triads.keys triad ≡ Some key)
    (found : get t.records key ≡ Some x) (changed : get s key ≡ Some y) (others : Others (get t.records) (get s) key) (alike : SameNames x y) where
  abbrev pub after_change : Inside
  after_change = record { room = t.room; next = t.next; triads = t.triads; ups = t.ups; downs = t.downs; ops = t.ops; records = s }

  changed_triads : Indexes (λ x. Some (triad_of x)) t.triads.keys (get s)
  changed_triads =
      index_change triad_cmp triads_total triads_apart (λ x. Some (triad_of x)) t.triads.keys (get t.records)
      (get s) key x y h.by_triad found changed others (ap (λ q. Some q) alike.triad)

  pub view_changed : hops after_change ≡ record { room = t.room; next = t.next; held = map.insert (hops t).held triad y }
  view_changed =
      let is =
      view-change triad_cmp triads_total triads_apart t.triads.keys (get t.records) (get s) triad key y (finds t h)
      (finds_by _ (get s) changed_triads) at changed (λ q k e ne. others k (other_key q k e ne)) in
      λ i. record { room = t.room; next = t.next; held = is i }
    where
      other_key : (q : Triad) (k : ℕ) → map.get t.triads.keys q ≡ Some k → eq_by_cmp triad_cmp q triad ≡ false → k ≢ key
      other_key q k e ne same =
          let a = h.by_triad.sound q k e in
          let b = h.by_triad.sound triad key at in
          let one : a.held ≡ b.held = let both : Some a.held ≡ Some b.held = sym a.stands ∙ ap (get t.records) same ∙ b.stands in cc in
          let first : triad_of a.held ≡ q = let both : Some (triad_of a.held) ≡ Some q = a.named in cc in
          let second : triad_of b.held ≡ triad = let both : Some (triad_of b.held) ≡ Some triad = b.named in cc in
          let is : triad ≡ q = sym second ∙ ap triad_of (sym one) ∙ first in
          let tied : eq_by_cmp triad_cmp q triad ≡ true = ap (λ r. eq_by_cmp triad_cmp r triad) (sym is) ∙ ap is_eq (tied_itself triads_total triad) in cc

  module _ (count : slab_len s ≡ slab_len t.records) (capacity : s.capacity ≡ t.records.capacity) (sound : IsHeld t.next y) where
    old_or_changed : (k : ℕ) (z : Held) → get s k ≡ Some z → (get t.records k ≡ Some z) ⊎ (z ≡ y)
    old_or_changed k z e = elim (same_or_not k key) [
      | inl same ↦ inr (let both : Some z ≡ Some y = sym e ∙ ap (get s) same ∙ changed in cc)
      | inr ne ↦ inl (sym (others k ne) ∙ e)
    ]

    -- an old record with the same ids
    before : (k : ℕ) (z : Held) → get s k ≡ Some z → (j : ℕ) × (w : Held) × (get t.records j ≡ Some w) × (up_id_of z ≡ up_id_of w)
        × (down_id_of z ≡ down_id_of w)
    before k z e = elim (old_or_changed k z e) [
      | inl old ↦ (k, z, old, refl, refl)
      | inr is ↦ (key, x, found, ap up_id_of is ∙ alike.up, ap down_id_of is ∙ alike.down)
    ]

    changed_names : {K : Type 0} (name_of : Held → Option K) → name_of y ≡ name_of x → names name_of (hops after_change).held ≡ names name_of (hops t).held
    changed_names name_of same = ap (λ (p : Hops). names name_of p.held) view_changed
        ∙ tally-change triad_cmp (λ x. is_some (name_of x)) triads_total triads_apart (hops t).held triad x y (held_at t h triad key x at found)
        (ap is_some same)

    pub kept_changed : IsKept after_change
    kept_changed = record {
      records_room = omega (arith, h.records_room, capacity);
      triads_room = h.triads_room;
      ups_room = h.ups_room;
      downs_room = h.downs_room;
      ops_room = h.ops_room;
      count = count ∙ h.count;
      fits = h.fits;
      some = h.some;
      spent = h.spent;
      by_triad = changed_triads;
      by_up = index_change nat_cmp nat_cmp_total nat_cmp-IsAntisymmetric up_id_of t.ups.keys (get t.records)
          (get s) key x y h.by_up found changed others alike.up;
      by_down =
          index_change nat_cmp nat_cmp_total nat_cmp-IsAntisymmetric down_id_of t.downs.keys (get t.records)
          (get s) key x y h.by_down found changed others alike.down;
      by_op = index_change nat_cmp nat_cmp_total nat_cmp-IsAntisymmetric held_op_of t.ops.keys (get t.records)
          (get s) key x y h.by_op found changed others alike.op;
      ups_count = h.ups_count ∙ sym (changed_names up_id_of alike.up);
      downs_count = h.downs_count ∙ sym (changed_names down_id_of alike.down);
      ops_count = h.ops_count ∙ sym (changed_names held_op_of alike.op);
      each = λ k z e. elim (old_or_changed k z e) [ inl old ↦ h.each k z old | inr is ↦ subst (IsHeld t.next) (sym is) sound ];
      apart = λ j k z w id e f a b. let c = before j z e in let d = before k w f in h.apart c.0 d.0 c.1 d.1 id c.2 d.2 (sym c.3 ∙ a) (sym d.4 ∙ b);
    }

-- ---- what every table keeps

pub within : (t : Inside) → IsKept t → IsWithin (hops t)
within t h = record {
  some = h.some;
  spent = h.spent;
  fits = subst (λ n. n ≤ t.room) (sym (len_is t h)) h.fits;
  triads = λ q x e. let s = stands t h q x e in its q s.key x s.noted_ s.found;
  each = λ q x e. let s = stands t h q x e in h.each s.key x s.found;
  ups = λ a b x y id e f g i. let s = stands t h a x e in let r = stands t h b y f in
      one_place a b x y s r (let both : Some s.key ≡ Some r.key = sym (h.by_up.complete id s.key x s.found g) ∙ h.by_up.complete id r.key y r.found i in
      cc);
  downs = λ a b x y id e f g i. let s = stands t h a x e in let r = stands t h b y f in
      one_place a b x y s r (let both : Some s.key ≡ Some r.key = sym (h.by_down.complete id s.key x s.found g)
      ∙ h.by_down.complete id r.key y r.found i in cc);
  ops = λ a b x y op e f g i. let s = stands t h a x e in let r = stands t h b y f in
      one_place a b x y s r (let both : Some s.key ≡ Some r.key = sym (h.by_op.complete op s.key x s.found g) ∙ h.by_op.complete op r.key y r.found i in
      cc);
  apart = λ a b x y id e f g i. let s = stands t h a x e in let r = stands t h b y f in h.apart s.key r.key x y id s.found r.found g i;
}
  where
    its : (q : Triad) (key : ℕ) (x : Held) → map.get t.triads.keys q ≡ Some key → get t.records key ≡ Some x → triad_of x ≡ q
    its q key x at found =
        let y = h.by_triad.sound q key at in
        let one : x ≡ y.held = let both : Some x ≡ Some y.held = sym found ∙ y.stands in cc in
        let name : triad_of y.held ≡ q = let both : Some (triad_of y.held) ≡ Some q = y.named in cc in
        ap triad_of one ∙ name

    one_place : (a b : Triad) (x y : Held) (s : Stands t a x) (r : Stands t b y) → s.key ≡ r.key → a ≡ b
    one_place a b x y s r same =
        let one : x ≡ y = let both : Some x ≡ Some y = sym s.found ∙ ap (get t.records) same ∙ r.found in cc in
        sym (its a s.key x s.noted_ s.found) ∙ ap triad_of one ∙ its b r.key y r.noted_ r.found
