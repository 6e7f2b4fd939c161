-- Forward_Close, service 4E of the Connection Manager (Volume 1, chapter 3, Forward_Close).
use Rattle.std.specs.Prelude.{◌≡◌, ℕ, ◌*◌, ◌/◌, ◌∷◌, ◌++◌, length}
use Rattle.cip_base.specs.Words.{Octets, WordCount}
use Rattle.cip_close.specs.declared.request.TheConstants.{FORWARD_CLOSE}
use Rattle.cip_segment.specs.Spelling.{IsReadable}
use Rattle.cip_message.specs.declared.fault.DataFault.{DataFault}
use Rattle.cip_message.specs.Numbers.{triad_bytes}
use Rattle.cip_message.specs.Cut.{IsPathFault, IsPartFault}
use Rattle.cip_message.specs.Manager.{manager_bytes}
use Rattle.cip_close.specs.declared.request.CloseFields.{CloseFields}

-- the fixed fields, and the path as spelled bytes
pub record Close : Type 0 where
  pub fields : CloseFields
  pub path : Octets

-- the record of these fields
abbrev pub close_with : CloseFields → Octets → Close
close_with fields path = record { fields = fields; path = path }

-- priority/time tick, time-out ticks, connection triad, path size in words, a reserved byte, path
abbrev pub close_layout : WordCount → ℕ → Close → Octets
close_layout words x o =
    let f = o.fields in f.timing.tick ∷ f.timing.ticks ∷ triad_bytes f.triad ++ (words ∷ x ∷ o.path)

-- the reserved byte has any value
abbrev pub LaysClose : Octets → Close → Type 0
LaysClose b o =
    (words : WordCount) × (x : ℕ)
    × (length o.path ≡ 2 * words) × (b ≡ close_layout words x o)

-- b is the data, what follows the path of the request, of the record
abbrev pub ReadsClose : Octets → Close → Type 0
ReadsClose b o = IsReadable o.path × LaysClose b o

abbrev pub HasCloseLayout : Octets → Type 0
HasCloseLayout b = (o : Close) × LaysClose b o

-- the first fault that fits
abbrev pub IsCloseFault : Octets → DataFault → Type 0
IsCloseFault b f = IsPartFault HasCloseLayout (IsPathFault LaysClose (λ o. o.path)) b f

-- the data as it is written: the reserved byte 00
abbrev pub close_data : Close → Octets
close_data o = close_layout (length o.path / 2) 0 o

-- the whole message, with the header of a request to the Connection Manager
abbrev pub close_bytes : Close → Octets
close_bytes o = manager_bytes FORWARD_CLOSE (close_data o)
