-- Unconnected_Send, service 52 of the Connection Manager (Volume 1, chapter 3, Unconnected_Send).
use Rattle.std.specs.Prelude.{◌≡◌, ℕ, Bool, ◌≤◌, ◌*◌, ◌/◌, ◌%◌, ◌∷◌, ◌++◌, ◌||◌, nat_lt, length}
use Rattle.cip_base.specs.Fields.{word, pad}
use Rattle.cip_base.specs.Words.{Octets, WordCount}
use Rattle.cip_base.specs.declared.limits.TheConstants.{MAX_EMBEDDED, MAX_MESSAGE}
use Rattle.cip_base.specs.declared.timing.Timing.{Timing}
use Rattle.cip_unconnected.specs.declared.unconnected.TheConstants.{UNCONNECTED_SEND}
use Rattle.cip_segment.specs.Spelling.{IsReadable, IsFault}
use Rattle.cip_message.specs.Cut.{IsCutOff, IsOverlong}
use Rattle.cip_message.specs.Manager.{manager_bytes}
use Rattle.cip_unconnected.specs.declared.fault.UnconnectedFault.{UnconnectedFault}
use Rattle.cip_unconnected.specs.declared.fault.UnconnectedFault.TheVariants.{Short, Long, Route}

-- the embedded request as its bytes, and the route as spelled bytes
pub record Unconnected : Type 0 where
  pub timing : Timing
  pub request : Octets
  pub route : Octets

-- the record of these fields
abbrev pub unconnected_with : Timing → Octets → Octets → Unconnected
unconnected_with timing request route = record { timing = timing; request = request; route = route }

-- priority/time tick, time-out ticks, size of the embedded request in bytes, the embedded request,
-- a pad if that size is odd, route size in words, a reserved byte, the route
abbrev pub unconnected_layout : Octets → WordCount → ℕ → Unconnected → Octets
unconnected_layout padding words reserved u =
    u.timing.tick ∷ u.timing.ticks ∷ word (length u.request)
    ++ (u.request ++ (padding ++ (words ∷ reserved ∷ u.route)))

-- the pad is one byte where the size is odd, else none; pad and reserved byte have any value
abbrev pub LaysUnconnected : Octets → Unconnected → Type 0
LaysUnconnected b u =
    (padding : Octets) × (words : WordCount) × (reserved : ℕ)
    × (length padding ≡ length u.request % 2) × (length u.route ≡ 2 * words)
    × (b ≡ unconnected_layout padding words reserved u)

-- b is the data, what follows the path of the request, of the record
abbrev pub ReadsUnconnected : Octets → Unconnected → Type 0
ReadsUnconnected b u = IsReadable u.route × LaysUnconnected b u

abbrev pub HasLayout : Octets → Type 0
HasLayout b = (u : Unconnected) × LaysUnconnected b u

-- the first fault that fits
abbrev pub IsUnconnectedFault : Octets → UnconnectedFault → Type 0
IsUnconnectedFault b Short = IsCutOff HasLayout b
IsUnconnectedFault b Long = IsOverlong HasLayout b
IsUnconnectedFault b (Route f) = (u : Unconnected) × LaysUnconnected b u × IsFault u.route f

-- the data as it is written: pad and reserved byte 00
abbrev pub unconnected_data : Unconnected → Octets
unconnected_data u = unconnected_layout (pad (length u.request)) (length u.route / 2) 0 u

-- the whole message, with the header of a request to the Connection Manager
abbrev pub unconnected_bytes : Unconnected → Octets
unconnected_bytes u = manager_bytes UNCONNECTED_SEND (unconnected_data u)

-- a message may carry it: a word holds the size of the embedded request, and the whole is no longer
-- than a message may be
abbrev pub Fits : Unconnected → Type 0
Fits u = (length u.request ≤ MAX_EMBEDDED) × (length (unconnected_bytes u) ≤ MAX_MESSAGE)

-- no message carries it: the embedded request has a size that no word holds, or the whole is longer
-- than a message may be
abbrev pub is_too_long : Unconnected → Bool
is_too_long u =
    nat_lt MAX_EMBEDDED (length u.request) || nat_lt MAX_MESSAGE (length (unconnected_bytes u))
