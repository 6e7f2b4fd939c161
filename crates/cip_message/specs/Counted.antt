-- What stands at the end of the data of a Connection Manager service, counted in words by a byte
-- before it.
use Rattle.std.specs.Prelude.{ℕ, ◌+◌, ◌*◌, nat_lt, if◌then◌else◌, List, length, drop, slice_index, Result, Ok, Err}
use Rattle.cip_base.specs.Words.{Octets}
use Rattle.cip_segment.specs.declared.segment.Segment.{Segment}
use Rattle.cip_segment.specs.declared.fault.PathFault.{PathFault}
use Rattle.cip_segment.specs.Reading.{path_at}
use Rattle.cip_message.specs.declared.fault.DataFault.{DataFault}
use Rattle.cip_message.specs.declared.fault.DataFault.TheVariants.{Short, Long, Path}

-- how long data is whose last part begins at `start` and has as many words as the byte at `size`
-- says
abbrev pub whole_length : ℕ → ℕ → Octets → ℕ
whole_length size start b = start + 2 * slice_index b size

-- that last part
unfoldable pub counted_at : ℕ → ℕ → Octets → Result Octets DataFault
counted_at size start b =
    if nat_lt (length b) (whole_length size start b) then Err Short
    else if nat_lt (whole_length size start b) (length b) then Err Long
    else Ok (drop start b)

-- bytes, once they were read as a path
abbrev pub if_path : Result (List Segment) PathFault → Octets → Result Octets DataFault
if_path (Ok s) p = Ok p
if_path (Err f) p = Err (Path f)

abbrev pub then_path : Result Octets DataFault → Result Octets DataFault
then_path (Ok p) = if_path (path_at p) p
then_path (Err f) = Err f

-- that last part, where it is a path
unfoldable pub counted_path_at : ℕ → ℕ → Octets → Result Octets DataFault
counted_path_at size start b = then_path (counted_at size start b)

-- the record that ends with that part, once the part was read
abbrev pub with_part : {O : Type 0} → (Octets → O) → Result Octets DataFault → Result O DataFault
with_part make (Ok part) = Ok (make part)
with_part make (Err f) = Err f
