-- What the bytes of the Identity's attributes say (Volume 1, chapter 5, Identity object).
use Rattle.std.specs.Prelude.{◌≡◌, ◌≤◌, ℕ, Bool, false, ◌==◌, ◌&&◌, ◌||◌, nat_lt, nat_le, if◌then◌else◌}
use Rattle.std.specs.Prelude.{[], ◌∷◌, length, drop, slice_index, Option, Some, None, is_some}
use Rattle.cip_base.specs.Words.{Octets}
use Rattle.cip_message.specs.Numbers.{word_in, double_in}
use Rattle.cip_target.specs.declared.identity.IdentityFields.{IdentityFields}
use Rattle.cip_target.specs.Identity.{is_product_name}
use Rattle.cip_decode.specs.declared.attributes.IdentityView.{IdentityView}
use Rattle.cip_decode.specs.declared.attributes.AttributeView.{AttributeView}
use Rattle.cip_decode.specs.declared.attributes.AttributeView.TheVariants.{Vendor, DeviceType, Product}
use Rattle.cip_decode.specs.declared.attributes.AttributeView.TheVariants.{Revision, Status, Serial, Name}

-- the fields at their places
abbrev pub identity_in : Octets → IdentityFields
identity_in d = record {
  vendor = word_in d 0;
  device_type = word_in d 2;
  product = word_in d 4;
  major = slice_index d 6;
  minor = slice_index d 7;
  status = word_in d 8;
  serial = double_in d 10;
  name = drop 15 d;
}

-- what is seen of them
abbrev pub identity_of : IdentityView → IdentityFields
identity_of v = record {
  vendor = v.vendor;
  device_type = v.device_type;
  product = v.product;
  major = v.major;
  minor = v.minor;
  status = v.status;
  serial = v.serial;
  name = v.name.now;
}

-- the length of the name is byte 14, and the name ends the data
unfoldable pub identity_at : Octets → Option IdentityFields
identity_at d =
    if nat_lt (length d) 15 then None
    else if (slice_index d 14 == length (drop 15 d)) && nat_le (slice_index d 6) 127
    && is_product_name (drop 15 d)
    then Some (identity_in d)
    else None

-- a word, and no more
abbrev pub word_of : Octets → Option ℕ
word_of d = if length d == 2 then Some (word_in d 0) else None

-- a double word, and no more
abbrev pub double_of : Octets → Option ℕ
double_of d = if length d == 4 then Some (double_in d 0) else None

-- a revision, and no more
abbrev pub revision_of : Octets → Option (ℕ × ℕ)
revision_of (major ∷ minor ∷ []) = if nat_le major 127 then Some (major, minor) else None
revision_of d = None

-- a product name behind its length, and no more
abbrev pub name_of : Octets → Option Octets
name_of [] = None
name_of (count ∷ name) =
    if (count == length name) && is_product_name name then Some name else None

-- attributes 1, 2, 3 and 5 are words
abbrev pub is_word_attribute : ℕ → Bool
is_word_attribute a = (a == 1) || (a == 2) || (a == 3) || (a == 5)

abbrev pub IsWordAttribute : ℕ → Octets → Option AttributeView → Type 0
IsWordAttribute a d (Some (Vendor n)) = (a ≡ 1) × (word_of d ≡ Some n)
IsWordAttribute a d (Some (DeviceType n)) = (a ≡ 2) × (word_of d ≡ Some n)
IsWordAttribute a d (Some (Product n)) = (a ≡ 3) × (word_of d ≡ Some n)
IsWordAttribute a d (Some (Status n)) = (a ≡ 5) × (word_of d ≡ Some n)
IsWordAttribute a d (Some other) = ⊥
IsWordAttribute a d None = (is_word_attribute a && is_some (word_of d)) ≡ false

-- whether the data is the attribute of this number
abbrev pub is_attribute : ℕ → Octets → Bool
is_attribute a d =
    if a == 4 then is_some (revision_of d)
    else if a == 6 then is_some (double_of d)
    else if a == 7 then is_some (name_of d)
    else is_word_attribute a && is_some (word_of d)

-- the attribute of this number that the data is, if it is one
abbrev pub ReadsAttribute : ℕ → Octets → Option AttributeView → Type 0
ReadsAttribute a d (Some (Vendor n)) = (a ≡ 1) × (word_of d ≡ Some n)
ReadsAttribute a d (Some (DeviceType n)) = (a ≡ 2) × (word_of d ≡ Some n)
ReadsAttribute a d (Some (Product n)) = (a ≡ 3) × (word_of d ≡ Some n)
ReadsAttribute a d (Some (Revision major minor)) = (a ≡ 4) × (revision_of d ≡ Some (major, minor))
ReadsAttribute a d (Some (Status n)) = (a ≡ 5) × (word_of d ≡ Some n)
ReadsAttribute a d (Some (Serial n)) = (a ≡ 6) × (double_of d ≡ Some n)
ReadsAttribute a d (Some (Name name)) = (a ≡ 7) × (name_of d ≡ Some name.now)
ReadsAttribute a d None = is_attribute a d ≡ false
