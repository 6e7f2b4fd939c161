-- Paths in words: words with commas between them.
use Rattle.std.specs.Prelude.{◌≡◌, ℕ, ◌+◌, ◌<◌, ◌≤◌, length, Bool, List, [], ◌∷◌, ◌++◌, ◌==◌, take, ◌||◌, if◌then◌else◌, codes, Result, Ok, Err, drop}
use Rattle.std.specs.List.{slice_split, list_any}
use Rattle.std.specs.Str.{bytes_eq}
use denote.Ref.{Bor}
use Rattle.cip_base.specs.Words.{Octets}
use Rattle.cip_segment.specs.declared.segment.Segment.{Segment}
use Rattle.cip_segment.specs.declared.segment.Segment.TheVariants as segments
use Rattle.cip_segment.specs.Short.{short}
use Rattle.cip_segment.specs.Reading as reading
use Rattle.cip_segment.specs.Reading.{path_at}
use Rattle.cip_tool.specs.declared.fault.WordFault.{WordFault}
use Rattle.cip_tool.specs.declared.fault.WordFault.TheVariants as faults
use Rattle.cip_tool.specs.declared.fault.WordError.{WordError}
use Rattle.cip_tool.specs.declared.fault.WordError.TheVariants as errors
use Rattle.cip_tool.specs.declared.fault.RouteFault.{RouteFault}
use Rattle.cip_tool.specs.declared.fault.RouteFault.TheVariants as route_faults
use Rattle.cip_tool.specs.Words.{◌>>=◌, texts, is_equals, port_of, address_of, object_of, named_of}

abbrev pub one : Segment → Result (List Segment) WordFault
one segment = Ok (segment ∷ [])

abbrev pub named_by : List (List ℕ) → Result (List Segment) WordFault
named_by (name ∷ text ∷ []) = named_of name text >>= one
named_by parts = Err faults.Name

-- the word begins with @
abbrev pub is_object : List ℕ → Bool
is_object word = bytes_eq (take 1 word) (codes "@")

-- the word begins with @, or has an equals sign
abbrev pub is_segment : List ℕ → Bool
is_segment word = is_object word || list_any is_equals word

-- @CLASS/INSTANCE/ATTRIBUTE, or NAME=VALUE
abbrev pub segments_of : List ℕ → Result (List Segment) WordFault
segments_of word = if is_object word then object_of (drop 1 word)
    else named_by (slice_split is_equals word)

-- the segments, or the number of the first faulty word and its fault
abbrev pub Routed : Type 0
Routed = Result (List Segment) (ℕ × WordFault)

abbrev pub placed : {A : Type 0} → ℕ → Result A WordFault → Result A (ℕ × WordFault)
placed n (Ok x) = Ok x
placed n (Err fault) = Err (n, fault)

abbrev pub and_address : List ℕ → ℕ → ℕ → Routed
and_address address n port = placed n (address_of address >>= λ a. Ok (segments.Port port a ∷ []))

abbrev pub hop_by : ℕ → List ℕ → Result ℕ WordFault → Routed
hop_by n address (Ok port) = and_address address (n + 1) port
hop_by n address (Err fault) = Err (n, fault)

-- PORT,ADDRESS, the first of which is word n
abbrev pub hop_at : ℕ → List ℕ → List ℕ → Routed
hop_at n port address = hop_by n address (port_of port)

abbrev pub lone_by : ℕ → Result ℕ WordFault → Routed
lone_by n (Ok port) = Err (n, faults.NoAddress)
lone_by n (Err fault) = Err (n, fault)

-- some segments before others
abbrev pub before : List Segment → Routed → Routed
before front (Ok more) = Ok (front ++ more)
before front (Err fault) = Err fault

abbrev pub joined : Routed → Routed → Routed
joined (Ok front) rest = before front rest
joined (Err fault) rest = Err fault

-- the segments of words, of which the first has this number
unfoldable pub words_from : ℕ → List (List ℕ) → Routed
words_from n [] = Ok []
words_from n (word ∷ []) = if is_segment word then placed n (segments_of word)
    else lone_by n (port_of word)
words_from n (word ∷ next ∷ rest) =
    if is_segment word then joined (placed n (segments_of word)) (words_from (n + 1) (next ∷ rest))
    else joined (hop_at n word next) (words_from (n + 2) rest)

abbrev pub is_comma : ℕ → Bool
is_comma b = b == 44

-- the segments of a path in words; a dash is the empty path
abbrev pub route_of : List ℕ → Routed
route_of text = if bytes_eq text (codes "-") then Ok []
    else words_from 1 (slice_split is_comma text)

abbrev pub RouteFails : RouteFault → Routed → Type 0
RouteFails route_faults.NoMemory read = Unit {0}
RouteFails route_faults.TooLong read = ⊥
RouteFails (route_faults.Word n fault) read = read ≡ Err (n, fault)

abbrev pub Places : ℕ → WordError → RouteFault → Type 0
Places n errors.NoMemory fault = fault ≡ route_faults.NoMemory
Places n (errors.Fault found) fault = fault ≡ route_faults.Word n found

-- a reader gives what the text names
abbrev pub Routes : {V : Type 0} → (V → List Segment) → Result V RouteFault → Routed → Type 0
Routes view (Ok found) read = read ≡ Ok (view found)
Routes view (Err e) read = RouteFails e read

-- the segments of so many words, of which the first has number n, were put behind the others
pub record IsTaken (n : ℕ) (words : List (Bor (List ℕ))) (count : ℕ) (old new : List Segment)
    : Type 0 where
  pub some : 0 < count
  pub within : count ≤ length words
  pub same : before old (words_from n (texts words))
      ≡ before new (words_from (n + count) (texts (drop count words)))

-- the path is the shortest spelling of what the text names, and is read as that
pub record IsPathOf (text : List ℕ) (path : Octets) : Type 0 where
  pub segments : List Segment
  pub named : route_of text ≡ Ok segments
  pub spelled : path ≡ short segments
  pub read : path_at path ≡ Ok segments

-- why a text names no path
abbrev pub IsPathFault : List ℕ → RouteFault → Type 0
IsPathFault text route_faults.NoMemory = Unit {0}
IsPathFault text (route_faults.Word n fault) = route_of text ≡ Err (n, fault)
IsPathFault text route_faults.TooLong =
    (segments : List Segment) × (route_of text ≡ Ok segments) × (510 < length (short segments))

-- the text is read as the segments of the path, which are also those of its shortest spelling
abbrev pub IsSpelling : Octets → List ℕ → Type 0
IsSpelling path text = route_of text ≡ Ok (reading.segments_of path)
