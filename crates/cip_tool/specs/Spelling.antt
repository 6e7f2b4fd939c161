-- How a path is written in words.
use Rattle.std.specs.Prelude.{ℕ, Bool, List, [], ◌∷◌, ◌++◌, map, length, slice_index, ◌==◌, ◌&&◌, not, if◌then◌else◌, codes, decimal}
use Rattle.std.specs.List.{join_with_byte, list_all}
use Rattle.hex.specs.Hex.{encode_upper}
use Rattle.cip_base.specs.Fields.{IsBytes}
use Rattle.cip_base.specs.declared.key.KeyFields.{KeyFields}
use Rattle.cip_segment.specs.declared.segment.Segment.{Segment}
use Rattle.cip_segment.specs.declared.segment.Segment.TheVariants.{Port, Class, Instance, Member, Point, Attribute, Key, Words, Symbol, Inhibit}
use Rattle.cip_tool.specs.Words.{is_name, is_marked, is_plain}

-- numbers with slashes between them
abbrev pub slashed : List ℕ → List ℕ
slashed numbers = join_with_byte 47 (map decimal numbers)

-- 0x, and bytes as pairs of hexadecimal digits
abbrev pub marked : List ℕ → List ℕ
marked bytes = codes "0x" ++ encode_upper bytes

-- an address: the number of its one byte, its characters where they are a name, or its bytes
abbrev pub address_text : List ℕ → List ℕ
address_text bytes = if length bytes == 1 then decimal (slice_index bytes 0)
    else if is_name bytes then bytes else marked bytes

-- a symbol's bytes stand as they are where each is plain, and 0x does not stand in front
abbrev pub is_symbol : List ℕ → Bool
is_symbol bytes = not (is_marked bytes) && list_all is_plain bytes

abbrev pub symbol_text : List ℕ → List ℕ
symbol_text bytes = if is_symbol bytes then bytes else marked bytes

-- @CLASS, @CLASS/INSTANCE or @CLASS/INSTANCE/ATTRIBUTE
abbrev pub object_text : List ℕ → List ℕ
object_text numbers = codes "@" ++ slashed numbers

abbrev pub key_text : KeyFields → List ℕ
key_text key = codes "key="
    ++ slashed (key.vendor ∷ key.device_type ∷ key.product ∷ key.major ∷ key.minor ∷ [])

-- The words of segments. One object takes an instance directly behind its class, and an attribute
-- directly behind that; a port and its address are two words; any other segment is NAME=VALUE.
unfoldable pub words_of : List Segment → List (List ℕ)
words_of [] = []
words_of (Class c ∷ Instance i ∷ Attribute a ∷ rest) = object_text (c ∷ i ∷ a ∷ []) ∷ words_of rest
words_of (Class c ∷ Instance i ∷ rest) = object_text (c ∷ i ∷ []) ∷ words_of rest
words_of (Class c ∷ rest) = object_text (c ∷ []) ∷ words_of rest
words_of (Port port address ∷ rest) = decimal port ∷ address_text address ∷ words_of rest
words_of (Instance n ∷ rest) = (codes "instance=" ++ decimal n) ∷ words_of rest
words_of (Member n ∷ rest) = (codes "member=" ++ decimal n) ∷ words_of rest
words_of (Point n ∷ rest) = (codes "point=" ++ decimal n) ∷ words_of rest
words_of (Attribute n ∷ rest) = (codes "attribute=" ++ decimal n) ∷ words_of rest
words_of (Inhibit n ∷ rest) = (codes "inhibit=" ++ decimal n) ∷ words_of rest
words_of (Key key ∷ rest) = key_text key ∷ words_of rest
words_of (Words bytes ∷ rest) = (codes "data=" ++ encode_upper bytes) ∷ words_of rest
words_of (Symbol bytes ∷ rest) = (codes "symbol=" ++ symbol_text bytes) ∷ words_of rest

-- a path in words: its words with commas between them, and a dash where it has none
abbrev pub spelling_of : List Segment → List ℕ
spelling_of [] = codes "-"
spelling_of segments = join_with_byte 44 (words_of segments)

-- what a segment has of bytes are numbers below 256
abbrev pub HasBytes : Segment → Type 0
HasBytes (Port port address) = IsBytes address
HasBytes (Words bytes) = IsBytes bytes
HasBytes (Symbol bytes) = IsBytes bytes
HasBytes segment = Unit {0}
