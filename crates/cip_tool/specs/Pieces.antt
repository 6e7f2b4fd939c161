-- What each segment adds to a path in words, in turn.
use Rattle.std.specs.Prelude.{ℕ, List, [], ◌∷◌, ◌++◌, codes, decimal}
use Rattle.hex.specs.Hex.{encode_upper}
use Rattle.cip_segment.specs.declared.segment.Segment.{Segment}
use Rattle.cip_segment.specs.declared.segment.Segment.TheVariants.{Port, Class, Instance, Member, Point, Attribute, Key, Words, Symbol, Inhibit}
use Rattle.cip_tool.specs.declared.spelling.Behind.{Behind}
use Rattle.cip_tool.specs.declared.spelling.Behind.TheVariants as behind
use Rattle.cip_tool.specs.Spelling.{address_text, symbol_text, object_text, key_text}

-- a segment by itself
abbrev pub alone : Segment → List ℕ
alone (Port port address) = decimal port ++ codes "," ++ address_text address
alone (Class n) = object_text (n ∷ [])
alone (Instance n) = codes "instance=" ++ decimal n
alone (Member n) = codes "member=" ++ decimal n
alone (Point n) = codes "point=" ++ decimal n
alone (Attribute n) = codes "attribute=" ++ decimal n
alone (Inhibit n) = codes "inhibit=" ++ decimal n
alone (Key key) = key_text key
alone (Words bytes) = codes "data=" ++ encode_upper bytes
alone (Symbol bytes) = codes "symbol=" ++ symbol_text bytes

-- a segment behind others
abbrev pub piece : Behind → Segment → List ℕ
piece behind.Class (Instance n) = codes "/" ++ decimal n
piece behind.Instance (Attribute n) = codes "/" ++ decimal n
piece before segment = codes "," ++ alone segment

-- what the segment after it stands behind
abbrev pub next : Behind → Segment → Behind
next before (Class n) = behind.Class
next behind.Class (Instance n) = behind.Instance
next before segment = behind.Other

-- all that stands behind the first segment
unfoldable pub others : Behind → List Segment → List ℕ
others before [] = []
others before (segment ∷ rest) = piece before segment ++ others (next before segment) rest
