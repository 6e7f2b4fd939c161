-- What C reads of a device.
use Rattle.std.specs.Prelude.{◌≡◌, ◌↔◌, ◌<◌, ◌≤◌, ◌==◌, ℕ, Bool, find, length, take, Option, Some, None}
use Rattle.cip_base.specs.Words.{Octets}
use Rattle.cip_routing.specs.declared.tables.AssemblyRow.{AssemblyRow}
use Rattle.cip_routing.specs.Views.{assemblies_of}
use Rattle.cip_device.specs.Shown.{Shown}
use Rattle.cip_device.specs.Statuses.{IsReadStatus}

abbrev pub is_row_of : ℕ → AssemblyRow → Bool
is_row_of instance row = row.instance == instance

abbrev pub assembly_row : Shown → ℕ → Option AssemblyRow
assembly_row s instance = find (is_row_of instance) (assemblies_of s.state)

-- the device has no assembly of this instance
abbrev pub HasNone : Shown → ℕ → Type 0
HasNone s instance = assembly_row s instance ≡ None

-- the bytes of the assembly stand at the beginning of the buffer
abbrev pub IsRead : Shown → ℕ → ℕ → Octets → Type 0
IsRead s instance count buffer = (row : AssemblyRow) × (assembly_row s instance ≡ Some row)
    × (count ≡ length row.bytes) × (take count buffer ≡ row.bytes)

abbrev pub IsDeviceRead : Option Shown → ℕ → ℕ → Octets → Type 0
IsDeviceRead (Some s) instance count buffer = IsRead s instance count buffer
IsDeviceRead None instance count buffer = ⊥

abbrev pub HasNoneThere : Option Shown → ℕ → Type 0
HasNoneThere (Some s) instance = HasNone s instance
HasNoneThere None instance = ⊥

-- the assembly has so many bytes
abbrev pub IsCounted : Shown → ℕ → ℕ → Type 0
IsCounted s instance count = (row : AssemblyRow) × (assembly_row s instance ≡ Some row)
    × (count ≡ length row.bytes)

abbrev pub IsDeviceCounted : Option Shown → ℕ → ℕ → Type 0
IsDeviceCounted (Some s) instance count = IsCounted s instance count
IsDeviceCounted None instance count = ⊥

-- what is answered to who reads an assembly into a buffer of so many bytes: 0 it was read, and was
-- not longer than that; 1 exactly where there is no device, 7 only where it has no such assembly, 8
-- only where the buffer is shorter than the assembly, whose count is told; 5 in place of 0, 7 and
-- 8, and nothing else
abbrev pub IsReadAnswer : ℕ → Option Shown → ℕ → ℕ → ℕ → Octets → Type 0
IsReadAnswer result old instance count room buffer =
    (result ≡ 0 → IsDeviceRead old instance count buffer) × ((result ≡ 1) ↔ (old ≡ None))
    × (result ≡ 7 → HasNoneThere old instance) × (result ≡ 8 → room < count)
    × (result ≡ 0 → count ≤ room) × (result ≡ 8 → IsDeviceCounted old instance count)
    × IsReadStatus result
