-- What names, addresses and product names of a topology may be, in numbers of characters and in
-- codes of characters.
use Rattle.std.specs.Prelude.{◌≡◌, ◌⊎◌, ℕ, ◌≤◌, List, [], ◌∷◌, length}
use Rattle.cip_base.specs.Words.{Octets}
use Rattle.cip_config.specs.declared.config.LegalAddresses.{LegalAddresses}
use Rattle.cip_config.specs.declared.config.LegalAddresses.TheVariants.{Byte, Text}

-- each character is such a one
abbrev pub Each : (ℕ → Type 0) → Octets → Type 0
Each P [] = Unit {0}
Each P (c ∷ more) = P c × Each P more

-- the number stands in this range, its ends too
abbrev pub IsFromTo : ℕ → ℕ → ℕ → Type 0
IsFromTo first last c = (first ≤ c) × (c ≤ last)

-- a digit, a letter, `_` or `-`
abbrev pub IsOfNames : ℕ → Type 0
IsOfNames c = IsFromTo 0x30 0x39 c ⊎ (IsFromTo 0x41 0x5A c ⊎ (IsFromTo 0x61 0x7A c
    ⊎ ((c ≡ 0x5F) ⊎ (c ≡ 0x2D))))

-- 1 to 16 of them
pub record IsNameOfSixteen (s : Octets) : Type 0 where
  pub least : 1 ≤ length s
  pub most : length s ≤ 16
  pub each : Each IsOfNames s

-- a byte link has addresses from a first to a last byte, a text link those of at most 1 to 16
-- characters
abbrev pub IsRangeOfSixteen : LegalAddresses → Type 0
IsRangeOfSixteen (Byte first last) = first ≤ last
IsRangeOfSixteen (Text longest) = IsFromTo 1 16 longest

-- an address is one byte of them, or so many characters from 21 to 7E
abbrev pub IsAddressFrom21 : LegalAddresses → Octets → Type 0
IsAddressFrom21 (Byte first last) a = (c : ℕ) × (a ≡ c ∷ []) × IsFromTo first last c
IsAddressFrom21 (Text longest) a = (length a ≤ longest) × Each (IsFromTo 0x21 0x7E) a

-- at most 32 characters from 20 to 7E
pub record IsProductNameOf32 (s : Octets) : Type 0 where
  pub most : length s ≤ 32
  pub each : Each (IsFromTo 0x20 0x7E) s
