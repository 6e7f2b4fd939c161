-- The words of a line of a transcript, one by one.
use Rattle.std.specs.Prelude.{◌≡◌, ℕ, ◌^◌, ◌==◌, ◌&&◌, nat_le, if◌then◌else◌, List, [], ◌∷◌, length}
use Rattle.std.specs.Prelude.{map, slice_index_or, Option, Some, None, Result, Ok, Err, option_map}
use denote.Ref.{Bor}
use Rattle.std.specs.List.{position, slice_split}
use Rattle.std.specs.Str.{bytes_eq}
use Rattle.cip_base.specs.declared.numbers.ModuleId.{ModuleId}
use Rattle.cip_event.specs.declared.frame.FrameName.{FrameName}
use Rattle.cip_chassis.specs.Plan.{Plan}
use Rattle.cip_words.specs.Shown.{below, number_of, bytes_of, is_dot, two_of}
use Rattle.cip_read.specs.declared.fault.LineFault.{LineFault}
use Rattle.cip_read.specs.declared.fault.LineFault.TheVariants.{Word, NotText, NoMemory}

-- what references lead to
abbrev pub texts : List (Bor (List ℕ)) → List (List ℕ)
texts = map (λ part. part.now)

infixl 10 ◌>>=◌
abbrev pub ◌>>=◌ : {A B : Type 0} → Option A → (A → Option B) → Option B
(Some x) >>= f = f x
None >>= f = None

-- what a function returned is this, and it refused where there is none, unless memory ran out
abbrev pub Refuses : {Y : Type 0} → LineFault → Option Y → Type 0
Refuses NoMemory read = Unit {0}
Refuses NotText read = read ≡ None
Refuses (Word k expected) read = read ≡ None

abbrev pub Gives : {Y : Type 0} → Result Y LineFault → Option Y → Type 0
Gives (Ok found) read = read ≡ Some found
Gives (Err fault) read = Refuses fault read

-- the word at place k
abbrev pub nth : List (List ℕ) → ℕ → List ℕ
nth words k = slice_index_or words k []

-- what so many words say
abbrev pub of_words : {A : Type 0} → ℕ → List (List ℕ) → Option A → Option A
of_words count words read = if length words == count then read else None

abbrev pub if_positive : ℕ → Option ℕ
if_positive n = if n == 0 then None else Some n

-- a number from 1 to 65,535
abbrev pub port_of : List ℕ → Option ℕ
port_of word = below (2 ^ 16) (number_of word) >>= if_positive

abbrev pub ms_of : List ℕ → Option ℕ
ms_of word = below (2 ^ 16) (number_of word) >>= if_positive

-- 1 to 16 bytes
abbrev pub if_address : List ℕ → Option (List ℕ)
if_address bytes = if nat_le 1 (length bytes) && nat_le (length bytes) 16 then Some bytes else None

abbrev pub address_of : List ℕ → Option (List ℕ)
address_of word = bytes_of word >>= if_address

abbrev pub name_by : List ℕ → List ℕ → Option FrameName
name_by e k = below (2 ^ 64) (number_of e) >>= λ entry. (below (2 ^ 64) (number_of k) >>= λ output.
    Some (record { entry = entry; output = output }))

abbrev pub frame_by : List (List ℕ) → Option FrameName
frame_by parts = two_of parts >>= λ halves. name_by halves.0 halves.1

-- `E.K`
abbrev pub frame_of : List ℕ → Option FrameName
frame_of word = frame_by (slice_split is_dot word)

-- the module of a name
abbrev pub module_of : Plan → List ℕ → Option ModuleId
module_of t word = option_map (λ place. record { 0 = place })
    (position (λ c. bytes_eq c.name word) t.modules)
