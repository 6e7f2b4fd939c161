-- The Identity object: its attributes in bytes (Volume 1, chapter 5, Identity object).
use Rattle.std.specs.Prelude.{ℕ, Bool, ◌&&◌, nat_le, ◌==◌, if◌then◌else◌, [], ◌∷◌, ◌++◌, length, Option, Some, None}
use Rattle.std.specs.List.{list_all}
use Rattle.cip_base.specs.Fields.{word, double}
use Rattle.cip_base.specs.Words.{Octets}
use Rattle.cip_target.specs.declared.identity.IdentityFields.{IdentityFields}

-- a character from 20 to 7E
abbrev pub is_printable : ℕ → Bool
is_printable c = nat_le 0x20 c && nat_le c 0x7E

-- a name of at most 32 of them
abbrev pub is_product_name : Octets → Bool
is_product_name s = nat_le (length s) 32 && list_all is_printable s

-- fields in their ranges
abbrev pub is_identity : IdentityFields → Bool
is_identity f = nat_le f.major 127 && is_product_name f.name

-- the attributes that are numbers
abbrev pub number_bytes : IdentityFields → Octets
number_bytes f =
    word f.vendor ++ (word f.device_type ++ (word f.product
    ++ (f.major ∷ f.minor ∷ (word f.status ++ double f.serial))))

-- the product name: its length, and its characters
abbrev pub name_bytes : IdentityFields → Octets
name_bytes f = length f.name ∷ f.name

-- attributes 1 to 7, one after the other
abbrev pub identity_bytes : IdentityFields → Octets
identity_bytes f = number_bytes f ++ name_bytes f

-- an attribute: vendor, device type, product code, revision, status, serial number, product name
abbrev pub attribute_of : IdentityFields → ℕ → Option Octets
attribute_of f a =
    if a == 1 then Some (word f.vendor)
    else if a == 2 then Some (word f.device_type)
    else if a == 3 then Some (word f.product)
    else if a == 4 then Some (f.major ∷ f.minor ∷ [])
    else if a == 5 then Some (word f.status)
    else if a == 6 then Some (double f.serial)
    else if a == 7 then Some (name_bytes f)
    else None
