-- What opens a connection: Forward_Open, service 54 of the Connection Manager, or
-- Large_Forward_Open, service 5B (Volume 1, chapter 3, Forward_Open and Large_Forward_Open).
use Rattle.std.specs.Prelude.{◌≡◌, ℕ, ◌*◌, ◌/◌, ◌∷◌, ◌++◌, ◌<◌, ◌^◌, Bool, false, length}
use Rattle.cip_base.specs.Fields.{double}
use Rattle.cip_base.specs.Words.{Octets, WordCount}
use Rattle.cip_open.specs.Kinds.{open_service, params_bytes}
use Rattle.cip_segment.specs.Spelling.{IsReadable}
use Rattle.cip_message.specs.declared.fault.DataFault.{DataFault}
use Rattle.cip_message.specs.Numbers.{triad_bytes}
use Rattle.cip_message.specs.Cut.{IsPathFault, IsPartFault}
use Rattle.cip_message.specs.Manager.{manager_bytes}
use Rattle.cip_open.specs.declared.request.OpenFields.{OpenFields}

-- the fixed fields, and the path as spelled bytes
pub record Open : Type 0 where
  pub fields : OpenFields
  pub path : Octets

-- the record of these fields
abbrev pub open_with : OpenFields → Octets → Open
open_with fields path = record { fields = fields; path = path }

-- priority/time tick, time-out ticks, O→T and T→O connection id, connection triad, connection
-- timeout multiplier, three reserved bytes, O→T RPI and parameters, T→O RPI and parameters,
-- transport, path size in words, path; the parameters as wide as the service has them
abbrev pub open_layout : Bool → ℕ → ℕ → ℕ → WordCount → Open → Octets
open_layout large x y z words o =
    let f = o.fields in
    f.timing.tick ∷ f.timing.ticks ∷ double f.ot_id ++ (double f.to_id ++ (triad_bytes f.triad
    ++ (f.multiplier ∷ x ∷ y ∷ z ∷ double f.ot_rpi ++ (params_bytes large f.ot_params
    ++ (double f.to_rpi ++ (params_bytes large f.to_params ++ (f.transport ∷ words ∷ o.path)))))))

-- the reserved bytes have any value
abbrev pub LaysOpen : Bool → Octets → Open → Type 0
LaysOpen large b o =
    (x : ℕ) × (y : ℕ) × (z : ℕ) × (words : WordCount)
    × (length o.path ≡ 2 * words) × (b ≡ open_layout large x y z words o)
    × (o.fields.large ≡ large)

-- b is the data, what follows the path of the request, of the record
abbrev pub ReadsOpen : Bool → Octets → Open → Type 0
ReadsOpen large b o = IsReadable o.path × LaysOpen large b o

abbrev pub HasOpenLayout : Bool → Octets → Type 0
HasOpenLayout large b = (o : Open) × LaysOpen large b o

-- the first fault that fits
abbrev pub IsOpenFault : Bool → Octets → DataFault → Type 0
IsOpenFault large b f =
    IsPartFault (HasOpenLayout large) (IsPathFault (LaysOpen large) (λ o. o.path)) b f

-- the data as it is written: the reserved bytes 00
abbrev pub open_data : Open → Octets
open_data o = open_layout o.fields.large 0 0 0 (length o.path / 2) o

-- the whole message, with the header of a request to the Connection Manager
abbrev pub open_bytes : Open → Octets
open_bytes o = manager_bytes (open_service o.fields.large) (open_data o)

-- the network connection parameters of an open that is not large are words
abbrev pub FitWidth : OpenFields → Type 0
FitWidth f = f.large ≡ false → (f.ot_params < 2 ^ 16) × (f.to_params < 2 ^ 16)
