-- What is true of the records and the indexes in which the hops are kept.
use Rattle.std.specs.Prelude.{◌≡◌, ℕ, ◌^◌, ◌<◌, ◌≤◌, Option, Some, is_some, count_by, ◌+◌}
use Rattle.std.specs.FinMap as map
use Rattle.std.specs.declared.cmp.Ordering.{Ordering}
use Rattle.slab.specs.Slab.{get, slab_len}
use Rattle.cip_base.specs.Triads.{triad_cmp}
use Rattle.cip_base.specs.Words.{ConnectionId}
use Rattle.cip_hops.specs.declared.hop.Held.{Held}
use Rattle.cip_hops.specs.declared.table.HopTable.TheInside.{Inside}
use Rattle.cip_hops.specs.Hops.{Hops, triad_of, up_id_of, down_id_of, held_op_of, IsHeld}
use Rattle.cip_base.specs.Joined.{joined_map}

-- the record under a key has this name
pub record HasName {K : Type 0} (name_of : Held → Option K) (found : ℕ → Option Held)
    (key : ℕ) (name : K) : Type 0 where
  pub held : Held
  pub stands : found key ≡ Some held
  pub named : name_of held ≡ Some name

-- under each name its record's key, and no other
pub record Indexes {K : Type 0} {R : K → K → Ordering} (name_of : Held → Option K)
    (m : map.FinMap R ℕ) (found : ℕ → Option Held) : Type 0 where
  pub sound : (name : K) (key : ℕ) → map.get m name ≡ Some key → HasName name_of found key name
  pub complete : (name : K) (key : ℕ) (x : Held)
      → found key ≡ Some x → name_of x ≡ Some name → map.get m name ≡ Some key

-- how many have a name
abbrev pub names : {K : Type 0} → (Held → Option K) → map.FinMap triad_cmp Held → ℕ
names name_of held = count_by (λ e. is_some (name_of e.1)) (map.entries held)

abbrev pub hops : Inside → Hops
hops t = record {
  room = t.room;
  next = t.next;
  held = joined_map t.triads.keys (get t.records);
}

pub record IsKept (t : Inside) : Type 0 where
  pub records_room : t.room ≤ t.records.capacity
  pub triads_room : t.triads.room ≡ t.room
  pub ups_room : t.ups.room ≡ t.room
  pub downs_room : t.downs.room ≡ t.room
  pub ops_room : t.ops.room ≡ t.room
  pub count : slab_len t.records ≡ map.len t.triads.keys
  pub fits : map.len t.triads.keys ≤ t.room
  pub some : 0 < t.next
  pub spent : t.next ≤ 2 ^ 32
  pub by_triad : Indexes (λ x. Some (triad_of x)) t.triads.keys (get t.records)
  pub by_up : Indexes up_id_of t.ups.keys (get t.records)
  pub by_down : Indexes down_id_of t.downs.keys (get t.records)
  pub by_op : Indexes held_op_of t.ops.keys (get t.records)
  pub ups_count : map.len t.ups.keys ≡ names up_id_of (hops t).held
  pub downs_count : map.len t.downs.keys ≡ names down_id_of (hops t).held
  pub ops_count : map.len t.ops.keys ≡ names held_op_of (hops t).held
  pub each : (key : ℕ) (x : Held) → get t.records key ≡ Some x → IsHeld t.next x
  pub apart : (j k : ℕ) (x y : Held) (id : ConnectionId)
      → get t.records j ≡ Some x → get t.records k ≡ Some y
      → up_id_of x ≡ Some id → down_id_of y ≡ Some id → ⊥
