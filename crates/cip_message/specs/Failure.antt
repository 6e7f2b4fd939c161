-- The data of a failed Forward_Open or Forward_Close (Volume 1, chapter 3): the connection triad,
-- the words of path that were left, and a reserved byte. It may end before the words or be missing
-- whole; what follows the words is not kept.
use Rattle.std.specs.Prelude.{◌≡◌, ℕ, ◌<◌, ◌==◌, nat_lt, if◌then◌else◌, [], ◌∷◌, ◌++◌, length, slice_get, Option, Some, None, Result, Ok, Err}
use Rattle.cip_base.specs.Words.{Octets, WordCount}
use Rattle.cip_base.specs.declared.timing.Status.{Status}
use Rattle.cip_base.specs.declared.triad.Triad.{Triad}
use Rattle.cip_message.specs.declared.fault.DataFault.{DataFault}
use Rattle.cip_message.specs.declared.fault.DataFault.TheVariants.{Short, Long, Path}
use Rattle.cip_message.specs.declared.failure.ConnectionFailure.{ConnectionFailure}
use Rattle.cip_message.specs.Numbers.{triad_within, triad_bytes}
use Rattle.cip_message.specs.Reply.{reply_bytes, reply_with}

-- no data; or the triad alone; or the triad, the words, and anything
abbrev pub IsFailureData : Octets → Option Triad → Option WordCount → Type 0
IsFailureData b None None = b ≡ []
IsFailureData b None (Some n) = ⊥
IsFailureData b (Some t) None = b ≡ triad_bytes t
IsFailureData b (Some t) (Some n) = (rest : Octets) × (b ≡ triad_bytes t ++ (n ∷ rest))

abbrev pub ReadsFailure : Octets → ConnectionFailure → Type 0
ReadsFailure b f = IsFailureData b f.triad f.words

-- a part of the triad alone
abbrev pub IsFailureFault : Octets → DataFault → Type 0
IsFailureFault b Short = (0 < length b) × (length b < 8)
IsFailureFault b Long = ⊥
IsFailureFault b (Path f) = ⊥

-- the failure that the data says
unfoldable pub failure_at : Octets → Result ConnectionFailure DataFault
failure_at b =
    if length b == 0 then Ok (record { triad = None; words = None })
    else if nat_lt (length b) 8 then Err Short
    else Ok (record { triad = triad_within b 0; words = slice_get b 8 })

-- the words as they are written, with the reserved byte
abbrev pub words_and_reserved : Option WordCount → Octets
words_and_reserved None = []
words_and_reserved (Some n) = n ∷ 0 ∷ []

abbrev pub failure_data_of : Option Triad → Option WordCount → Octets
failure_data_of None words = []
failure_data_of (Some t) words = triad_bytes t ++ words_and_reserved words

-- the data as it is written
abbrev pub failure_data : ConnectionFailure → Octets
failure_data f = failure_data_of f.triad f.words

-- the whole message: a reply of this service with this status
abbrev pub failure_bytes : ℕ → Status → ConnectionFailure → Octets
failure_bytes service status f = reply_bytes (reply_with service status (failure_data f))

-- no words without a triad
abbrev pub HasTriadForWords : ConnectionFailure → Type 0
HasTriadForWords f = f.triad ≡ None → f.words ≡ None
