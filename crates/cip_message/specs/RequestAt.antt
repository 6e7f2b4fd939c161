-- What reading bytes as a request gives. Definitions above, which go by cases on what was read, use
-- this function; the relation of `Request` says what it has to be, and the laws of this crate tie
-- the two together.
use Rattle.std.specs.Prelude.{◌≡◌, ℕ, ◌*◌, nat_le, nat_lt, if◌then◌else◌, List, [], ◌∷◌, length, take, drop, Result, Ok, Err}
use Rattle.cip_base.specs.Words.{Octets}
use Rattle.cip_segment.specs.declared.segment.Segment.{Segment}
use Rattle.cip_segment.specs.declared.fault.PathFault.{PathFault}
use Rattle.cip_segment.specs.Reading.{path_at}
use Rattle.cip_message.specs.declared.fault.RequestFault.{RequestFault}
use Rattle.cip_message.specs.declared.fault.RequestFault.TheVariants.{TooShort, PathSize, Path, NotRequest}
use Rattle.cip_message.specs.Request.{Request, request_with}
use Rattle.cip_message.specs.Manager.{manager_request}

-- the request, once its path was read
abbrev pub with_path : Result (List Segment) PathFault → Request → Result Request RequestFault
with_path (Ok s) r = Ok r
with_path (Err f) r = Err (Path f)

-- of a service, a path size in words, and the bytes after them
abbrev pub request_from : ℕ → ℕ → Octets → Result Request RequestFault
request_from s n rest =
    if nat_le 128 s then Err NotRequest
    else if nat_lt (length rest) (2 * n) then Err PathSize
    else with_path (path_at (take (2 * n) rest))
    (request_with s (take (2 * n) rest) (drop (2 * n) rest))

-- the request, or the first fault that fits
unfoldable pub request_at : Octets → Result Request RequestFault
request_at [] = Err TooShort
request_at (s ∷ []) = Err TooShort
request_at (s ∷ n ∷ rest) = request_from s n rest

-- the bytes are read as a request to the Connection Manager with this data
abbrev pub IsSent : ℕ → Octets → Octets → Type 0
IsSent service d b = request_at b ≡ Ok (manager_request service d)
