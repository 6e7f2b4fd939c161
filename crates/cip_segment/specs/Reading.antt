-- What reading a text as a path gives: its segments, or its fault. The relation of `Spelling` says
-- what that has to be; the laws of this crate tie the two together. Definitions above, which go by
-- cases on what was read, use these functions.
use Rattle.std.specs.Prelude.{◌≡◌, ℕ, zero, suc, ◌/◌, nat_lt, if◌then◌else◌, List, [], ◌∷◌, length, Option, Some, None, Result, Ok, Err}
use Rattle.cip_base.specs.Words.{Octets, LinkAddress, PortIdentifier}
use Rattle.cip_base.specs.declared.key.KeyFields.{KeyFields}
use Rattle.cip_segment.specs.declared.segment.Segment.{Segment}
use Rattle.cip_segment.specs.declared.segment.Segment.TheVariants.{Port, Key}
use Rattle.cip_segment.specs.declared.fault.PathFault.{PathFault}
use Rattle.cip_segment.specs.declared.fault.PathFault.TheVariants.{Truncated, TooLong}
use Rattle.cip_segment.specs.declared.segment.SegmentView.{SegmentView}
use Rattle.cip_segment.specs.declared.hop.FirstHop.{FirstHop}
use Rattle.cip_segment.specs.declared.hop.FirstHop.TheVariants.{Hop, End}
use Rattle.cip_segment.specs.Spelling.{Splits}
use Rattle.cip_segment.specs.Seen.{segment_of}
use Rattle.cip_segment.specs.Scan.{◌>>=◌, segment_at}

-- the segments of a text, of which there are at most so many
unfoldable pub segments_within : ℕ → Octets → Result (List Segment) PathFault
segments_within most [] = Ok []
segments_within zero (v ∷ b) = Err Truncated
segments_within (suc n) (v ∷ b) =
    segment_at (v ∷ b) >>= λ first.
    (segments_within n first.1 >>= λ others. Ok (first.0 ∷ others))

-- the segments of a path, or the fault of what is none; each segment has a byte at least
unfoldable pub path_at : Octets → Result (List Segment) PathFault
path_at b = if nat_lt 510 (length b) then Err TooLong else segments_within (length b) b

abbrev pub or_none : Result (List Segment) PathFault → List Segment
or_none (Ok s) = s
or_none (Err f) = []

-- the segments of a path
unfoldable pub segments_of : Octets → List Segment
segments_of b = or_none (path_at b)

abbrev pub rest_or_none : Result (Segment × Octets) PathFault → Octets
rest_or_none (Ok found) = found.1
rest_or_none (Err f) = []

-- what follows the first segment
unfoldable pub behind : Octets → Octets
behind b = rest_or_none (segment_at b)

-- the path b begins with the segment g, and what is left of it is the rest
pub record IsSplit (b : Octets) (g : Segment) (rest : Octets) : Type 0 where
  pub segments : segments_of b ≡ g ∷ segments_of rest
  pub rest_is : rest ≡ behind b

-- the path b begins with this borrowed segment, and the rest stands behind it
abbrev pub SplitsInto : Octets → SegmentView → Octets → Type 0
SplitsInto b first rest = Splits b (segment_of first) rest

-- and that is what reading b gives
abbrev pub IsSplitOf : Octets → SegmentView → Octets → Type 0
IsSplitOf b first rest = IsSplit b (segment_of first) rest

-- a path's first hop: perhaps a key, the port and the link address that it goes to next, and the
-- path that is left
pub record HopAt : Type 0 where
  pub key : Option KeyFields
  pub port : PortIdentifier
  pub address : LinkAddress
  pub rest : Octets

-- the hop that goes by the port segment that stands first, if one does
abbrev pub port_in : Option KeyFields → List Segment → Octets → Option HopAt
port_in key (Port q a ∷ others) b =
    Some (record { key = key; port = q; address = a; rest = behind b })
port_in key s b = None

-- the hop of the port segment that a path begins with
abbrev pub next_port : Option KeyFields → Octets → Option HopAt
next_port key b = port_in key (segments_of b) b

abbrev pub hop_in : List Segment → Octets → Option HopAt
hop_in (Key k ∷ others) b = port_in (Some k) others (behind b)
hop_in s b = port_in None s b

-- the first hop, where the path begins with a port segment or with one key and a port segment
unfoldable pub hop_of : Octets → Option HopAt
hop_of b = hop_in (segments_of b) b

-- how the hop is told: with the words of the path that is left
abbrev pub told : Option HopAt → FirstHop
told (Some h) = Hop h.key h.port h.address (length h.rest / 2)
told None = End

abbrev pub first_hop_of : Octets → FirstHop
first_hop_of b = told (hop_of b)
