-- What is true of the index and the records in which the pendings are kept.
use Rattle.std.specs.Prelude.{◌≡◌, ℕ, ◌^◌, ◌<◌, ◌≤◌, Some}
use Rattle.std.specs.FinMap as map
use Rattle.slab.specs.Slab.{get, slab_len}
use Rattle.cip_base.specs.Joined.{Finds, joined_map}
use Rattle.cip_base.specs.Words.{RequestNumber}
use Rattle.cip_pending.specs.declared.entry.Entry.{Entry}
use Rattle.cip_pending.specs.declared.table.PendingTable.TheInside.{Inside}
use Rattle.cip_pending.specs.Pendings.{Pendings}

pub record IsKept (t : Inside) : Type 0 where
  -- so that an entry is added without memory
  pub order_room : t.order.room ≡ t.room
  pub records_room : t.room ≤ t.records.capacity
  pub fits : map.len t.order.keys ≤ t.room
  pub count : slab_len t.records ≡ map.len t.order.keys
  pub some : 0 < t.next
  pub spent : t.next ≤ 2 ^ 32
  pub below : (number : RequestNumber) (key : ℕ)
      → map.get t.order.keys number ≡ Some key → number < t.next
  pub present : Finds t.order.keys (get t.records)
  -- each record has a number
  pub numbered : (key : ℕ) (x : Entry) → get t.records key ≡ Some x
      → (number : RequestNumber) × (map.get t.order.keys number ≡ Some key)
  -- no two numbers have one key
  pub distinct : (m n : RequestNumber) (key : ℕ)
      → map.get t.order.keys m ≡ Some key → map.get t.order.keys n ≡ Some key → m ≡ n

abbrev pub pendings : Inside → Pendings
pendings t = record {
  room = t.room;
  next = t.next;
  entries = joined_map t.order.keys (get t.records);
}
