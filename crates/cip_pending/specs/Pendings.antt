-- What a table of pendings is: a room, the next number, and a finite map from numbers to entries.
use Rattle.std.specs.Prelude.{◌≡◌, ℕ, ◌+◌, ◌^◌, ◌<◌, ◌≤◌, Bool, true, not, ◌&&◌, ◌==◌, List, Option, Some, None, Result, Ok, Err, nat_le, nat_lt, MatchOption}
use Rattle.std.specs.Prelude.{if◌then◌else◌, find, filter, option_and_then}
use Rattle.std.specs.Str.{bytes_eq}
use Rattle.std.specs.Ordering.{nat_cmp}
use Rattle.std.specs.FinMap as map
use Rattle.cip_base.specs.Words.{LinkAddress, PortIdentifier, RequestNumber, Microseconds}
use Rattle.cip_base.specs.declared.limits.TheConstants.{LAST_COUNT, LAST_INCARNATION}
use Rattle.cip_base.specs.Counts.{counts_given, incarnation, reborn}
use Rattle.cip_pending.specs.declared.entry.Entry.{Entry}
use Rattle.cip_pending.specs.declared.entry.AddReason.{AddReason}
use Rattle.cip_pending.specs.declared.entry.AddReason.TheVariants.{Full, NumbersSpent}
use Rattle.cip_pending.specs.declared.entry.AddFault.{AddFault}
use Rattle.cip_pending.specs.declared.entry.AddFault.TheVariants.{Full as FullWith, NumbersSpent as SpentWith}

pub record Pendings : Type 0 where
  pub room : ℕ
  pub next : ℕ
  pub entries : map.FinMap nat_cmp Entry

-- why an entry is not taken: no room first, and then no count left in this incarnation
abbrev pub refusal : Pendings → Option AddReason
refusal p =
    if nat_le p.room (map.len p.entries) then Some Full
    else (if nat_lt LAST_COUNT (counts_given p.next + 1) then Some NumbersSpent else None)

-- with the entry under the next number
abbrev pub added : Pendings → Entry → Pendings
added p entry = record {
  room = p.room;
  next = p.next + 1;
  entries = map.insert p.entries p.next entry;
}

abbrev pub without : Pendings → RequestNumber → Pendings
without p number = record { room = p.room; next = p.next; entries = map.remove p.entries number }

-- without it, where it goes
abbrev pub without_if : Bool → Pendings → RequestNumber → Pendings
without_if goes p number = if goes then without p number else p

-- without the entry that went, if one did
abbrev pub IsWithout : Option (RequestNumber × Entry) → Pendings → Pendings → Type 0
IsWithout gone p new = MatchOption gone (new ≡ p) (λ e. new ≡ without p e.0)

-- ---- a reset

-- there is an incarnation after this
abbrev pub has_next_incarnation : Pendings → Bool
has_next_incarnation p = nat_lt (incarnation p.next) LAST_INCARNATION

-- without entries, at count 1 of the next incarnation
abbrev pub reset : Pendings → Pendings
reset p = record { room = p.room; next = reborn p.next; entries = map.empty }

-- ---- what a request gets, and what waits

-- whether this entry was sent to this address by this port
abbrev pub is_asked : PortIdentifier → LinkAddress → Entry → Bool
is_asked port address entry = entry.port == port && bytes_eq entry.address address

-- the next number, or the entry handed back
abbrev pub fault_of : AddReason → Entry → AddFault
fault_of Full entry = FullWith entry
fault_of NumbersSpent entry = SpentWith entry

abbrev pub unless_refused : Option AddReason → RequestNumber → Entry → Result RequestNumber AddFault
unless_refused None next entry = Ok next
unless_refused (Some reason) next entry = Err (fault_of reason entry)

abbrev pub add_gives : Pendings → Entry → Result RequestNumber AddFault
add_gives p entry = unless_refused (refusal p) p.next entry

-- the entry that waits under this number for a reply from there
abbrev pub waiting_at : Pendings → RequestNumber → PortIdentifier → LinkAddress → Option Entry
waiting_at p number port address =
    option_and_then (λ entry. if is_asked port address entry then Some entry else None)
    (map.get p.entries number)

-- whether an entry is due at this time
abbrev pub is_due : Microseconds → (RequestNumber × Entry) → Bool
is_due now e = nat_le e.1.deadline now

-- the due entry of the least number
abbrev pub first_due : Microseconds → Pendings → Option (RequestNumber × Entry)
first_due now p = find (is_due now) (map.entries p.entries)

-- all that are due, in rising number
abbrev pub due : Microseconds → Pendings → List (RequestNumber × Entry)
due now p = filter (is_due now) (map.entries p.entries)

-- and all others
abbrev pub rest : Microseconds → Pendings → List (RequestNumber × Entry)
rest now p = filter (λ e. not (is_due now e)) (map.entries p.entries)

abbrev pub is_after : Option RequestNumber → RequestNumber → Bool
is_after None number = true
is_after (Some n) number = nat_lt n number

-- the entry of the least number above
abbrev pub first_after : Option RequestNumber → Pendings → Option (RequestNumber × Entry)
first_after after p = find (λ e. is_after after e.0) (map.entries p.entries)

-- what every table keeps: a number of 32 bits, or one past the last; each number in use was given;
-- no more entries than room
pub record IsWithin (p : Pendings) : Type 0 where
  pub some : 0 < p.next
  pub spent : p.next ≤ 2 ^ 32
  pub below : (number : RequestNumber) (entry : Entry)
      → map.get p.entries number ≡ Some entry → number < p.next
  pub fits : map.len p.entries ≤ p.room
