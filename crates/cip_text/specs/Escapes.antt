-- How a text stands in XML.
use Rattle.std.specs.Prelude.{ℕ, Bool, ◌==◌, ◌||◌, List, [], ◌∷◌, ◌++◌, codes, if◌then◌else◌}
use Rattle.std.specs.Prelude.{◌≡◌, ◌<◌, ◌+◌, IsTrue, length, slice_index, take, drop}

-- a character that means something in XML (XML 1.0, section 2.4): the ampersand, the angle brackets
-- and the quotation marks
abbrev pub is_marked : ℕ → Bool
is_marked b = (b == 38) || ((b == 60) || ((b == 62) || ((b == 34) || (b == 39))))

-- one of these by its name or number, another byte as it is
abbrev pub escape : ℕ → List ℕ
escape b =
    if b == 38 then codes "&amp;"
    else if b == 60 then codes "&lt;"
    else if b == 62 then codes "&gt;"
    else if b == 34 then codes "&quot;"
    else if b == 39 then codes "&#39;"
    else b ∷ []

-- a text, byte by byte: those behind the first of a character that is no ASCII are none of these
abbrev pub escaped : List ℕ → List ℕ
escaped [] = []
escaped (b ∷ bs) = escape b ++ escaped bs

-- the text before this place stands as it is, and the character there does not
pub record IsFirstMarked (bs : List ℕ) (i : ℕ) : Type 0 where
  pub within : i < length bs
  pub marked : IsTrue (is_marked (slice_index bs i))
  pub parts : escaped bs ≡ take i bs ++ (escape (slice_index bs i) ++ escaped (drop (i + 1) bs))
