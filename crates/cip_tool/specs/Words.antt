-- What the words of a path in words name.
use Rattle.std.specs.Prelude.{◌≡◌, ℕ, Bool, List, [], ◌∷◌, map, length, take, ◌==◌, ◌&&◌, ◌%◌, ◌^◌, not, nat_lt, if◌then◌else◌, Option, Some, None, codes}
use Rattle.std.specs.Prelude.{Result, Ok, Err, drop}
use Rattle.std.specs.List.{slice_split, list_all, list_any}
use Rattle.std.specs.Str.{bytes_eq}
use denote.Ref.{Bor}
use Rattle.hex.specs.Hex.{decode_of}
use Rattle.hex.specs.declared.error.FromHexError.{FromHexError}
use Rattle.cip_base.specs.declared.key.KeyFields.{KeyFields}
use Rattle.cip_segment.specs.declared.segment.Segment.{Segment}
use Rattle.cip_segment.specs.declared.segment.Segment.TheVariants as segments
use Rattle.cip_tool.specs.declared.fault.WordFault.{WordFault}
use Rattle.cip_tool.specs.declared.fault.WordFault.TheVariants as faults
use Rattle.cip_tool.specs.declared.fault.WordError.{WordError}
use Rattle.cip_tool.specs.declared.fault.WordError.TheVariants as errors
use Rattle.cip_tool.specs.Numbers.{number_of, below}

-- what references lead to
abbrev pub texts : List (Bor (List ℕ)) → List (List ℕ)
texts = map (λ part. part.now)

infixl 10 ◌>>=◌
abbrev pub ◌>>=◌ : {A B : Type 0} → Result A WordFault → (A → Result B WordFault)
    → Result B WordFault
(Ok x) >>= f = f x
(Err e) >>= f = Err e

abbrev pub or_fault : {A : Type 0} → WordFault → Option A → Result A WordFault
or_fault fault (Some x) = Ok x
or_fault fault None = Err fault

-- a number below a bound
abbrev pub bounded : WordFault → ℕ → List ℕ → Result ℕ WordFault
bounded fault bound word = or_fault fault (below bound (number_of word))

abbrev pub is_equals : ℕ → Bool
is_equals b = b == 61

abbrev pub not_zero : ℕ → Result ℕ WordFault
not_zero n = if n == 0 then Err faults.Port else Ok n

-- a port's number, or the name of one
abbrev pub port_of : List ℕ → Result ℕ WordFault
port_of word =
    if bytes_eq word (codes "backplane") then Ok 1
    else if bytes_eq word (codes "enet") then Ok 2
    else bounded faults.Port (2 ^ 16) word >>= not_zero

-- a character that stands for itself: printable, and no space, comma, equals sign or @
abbrev pub is_plain : ℕ → Bool
is_plain b = nat_lt 32 b && nat_lt b 127 && not (b == 44) && not (b == 61) && not (b == 64)

abbrev pub is_decimal_digit : ℕ → Bool
is_decimal_digit b = nat_lt 47 b && nat_lt b 58

abbrev pub is_marked : List ℕ → Bool
is_marked word = bytes_eq (take 2 word) (codes "0x")

-- 2 to 16 plain characters, not digits alone, with no 0x in front
abbrev pub is_name : List ℕ → Bool
is_name word = nat_lt 1 (length word) && nat_lt (length word) 17 && not (is_marked word)
    && list_all is_plain word && not (list_all is_decimal_digit word)

abbrev pub decoded : WordFault → Result (List ℕ) FromHexError → Result (List ℕ) WordFault
decoded fault (Ok bytes) = Ok bytes
decoded fault (Err e) = Err fault

-- the bytes that pairs of hexadecimal digits write
abbrev pub hex_of : WordFault → List ℕ → Result (List ℕ) WordFault
hex_of fault digits = decoded fault (decode_of digits)

abbrev pub if_address : List ℕ → Result (List ℕ) WordFault
if_address bytes = if nat_lt 0 (length bytes) && nat_lt (length bytes) 17 then Ok bytes
    else Err faults.Address

abbrev pub one_byte : ℕ → Result (List ℕ) WordFault
one_byte n = Ok (n ∷ [])

-- an address: a text, bytes behind 0x, or the number of a byte
abbrev pub address_of : List ℕ → Result (List ℕ) WordFault
address_of word =
    if is_name word then Ok word
    else if is_marked word then hex_of faults.Address (drop 2 word) >>= if_address
    else bounded faults.Address (2 ^ 8) word >>= one_byte

-- CLASS/INSTANCE/ATTRIBUTE, or the first or the first two of them
abbrev pub object_by : List (List ℕ) → Result (List Segment) WordFault
object_by (class ∷ []) = do
  c ← bounded faults.Class (2 ^ 16) class
  Ok (segments.Class c ∷ [])
object_by (class ∷ instance ∷ []) = do
  c ← bounded faults.Class (2 ^ 16) class
  i ← bounded faults.Instance (2 ^ 32) instance
  Ok (segments.Class c ∷ segments.Instance i ∷ [])
object_by (class ∷ instance ∷ attribute ∷ []) = do
  c ← bounded faults.Class (2 ^ 16) class
  i ← bounded faults.Instance (2 ^ 32) instance
  a ← bounded faults.Attribute (2 ^ 16) attribute
  Ok (segments.Class c ∷ segments.Instance i ∷ segments.Attribute a ∷ [])
object_by parts = Err faults.Object

abbrev pub is_slash : ℕ → Bool
is_slash b = b == 47

abbrev pub object_of : List ℕ → Result (List Segment) WordFault
object_of text = object_by (slice_split is_slash text)

abbrev pub key_fields : List ℕ → List ℕ → List ℕ → List ℕ → List ℕ → Result Segment WordFault
key_fields v t p j m = do
  vendor ← bounded faults.Key (2 ^ 16) v
  device_type ← bounded faults.Key (2 ^ 16) t
  product ← bounded faults.Key (2 ^ 16) p
  major ← bounded faults.Key (2 ^ 8) j
  minor ← bounded faults.Key (2 ^ 8) m
  Ok (segments.Key (record {
    vendor = vendor;
    device_type = device_type;
    product = product;
    major = major;
    minor = minor;
  }))

abbrev pub key_by : List (List ℕ) → Result Segment WordFault
key_by (v ∷ t ∷ p ∷ j ∷ m ∷ []) = key_fields v t p j m
key_by parts = Err faults.Key

-- VENDOR/TYPE/PRODUCT/MAJOR/MINOR
abbrev pub key_of : List ℕ → Result Segment WordFault
key_of text = key_by (slice_split is_slash text)

abbrev pub if_words : List ℕ → Result Segment WordFault
if_words bytes = if nat_lt 510 (length bytes) then Err faults.Data
    else if length bytes % 2 == 1 then Err faults.Data
    else Ok (segments.Words bytes)

abbrev pub data_of : List ℕ → Result Segment WordFault
data_of digits = hex_of faults.Data digits >>= if_words

abbrev pub if_symbol : List ℕ → Result Segment WordFault
if_symbol bytes = if nat_lt 255 (length bytes) then Err faults.Symbol
    else Ok (segments.Symbol bytes)

-- plain characters, or bytes behind 0x
abbrev pub symbol_of : List ℕ → Result Segment WordFault
symbol_of text =
    if is_marked text then hex_of faults.Symbol (drop 2 text) >>= if_symbol
    else if list_all is_plain text then if_symbol text
    else Err faults.Symbol

abbrev pub numbered : (ℕ → Segment) → Result ℕ WordFault → Result Segment WordFault
numbered segment (Ok n) = Ok (segment n)
numbered segment (Err e) = Err e

-- what NAME=VALUE names
unfoldable pub named_of : List ℕ → List ℕ → Result Segment WordFault
named_of name text =
    if bytes_eq name (codes "instance") then
    numbered segments.Instance (bounded faults.Instance (2 ^ 32) text)
    else if bytes_eq name (codes "attribute") then
    numbered segments.Attribute (bounded faults.Attribute (2 ^ 16) text)
    else if bytes_eq name (codes "member") then
    numbered segments.Member (bounded faults.Member (2 ^ 16) text)
    else if bytes_eq name (codes "point") then
    numbered segments.Point (bounded faults.Point (2 ^ 32) text)
    else if bytes_eq name (codes "inhibit") then
    numbered segments.Inhibit (bounded faults.Inhibit (2 ^ 8) text)
    else if bytes_eq name (codes "key") then key_of text
    else if bytes_eq name (codes "data") then data_of text
    else if bytes_eq name (codes "symbol") then symbol_of text
    else Err faults.Name

abbrev pub Fails : {Y : Type 0} → WordError → Result Y WordFault → Type 0
Fails errors.NoMemory read = Unit {0}
Fails (errors.Fault fault) read = read ≡ Err fault

-- a reader gives what the word names
abbrev pub Gives : {Y : Type 0} → Result Y WordError → Result Y WordFault → Type 0
Gives (Ok found) read = read ≡ Ok found
Gives (Err e) read = Fails e read

-- and so it does where the value is seen in another form
abbrev pub GivesBy : {V Y : Type 0} → (V → Y) → Result V WordError → Result Y WordFault → Type 0
GivesBy view (Ok found) read = read ≡ Ok (view found)
GivesBy view (Err e) read = Fails e read
