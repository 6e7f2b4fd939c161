-- Whether an electronic key fits a module (Volume 1, Appendix C, electronic key segment, format 4).
use Rattle.std.specs.Prelude.{ℕ, ◌%◌, Bool, not, ◌&&◌, ◌||◌, ◌==◌, nat_le, if◌then◌else◌, Option, Some, None, List, ◌∷◌}
use Rattle.cip_base.specs.declared.key.KeyFields.{KeyFields}
use Rattle.cip_segment.specs.declared.segment.Segment.{Segment}
use Rattle.cip_segment.specs.declared.segment.Segment.TheVariants.{Key}
use Rattle.cip_target.specs.declared.identity.IdentityFields.{IdentityFields}
use Rattle.cip_config.specs.declared.config.ModuleSettings.{ModuleSettings}
use Rattle.cip_routing.specs.declared.refusals.KeyPart.{KeyPart}
use Rattle.cip_routing.specs.declared.refusals.KeyPart.TheVariants.{VendorOrProduct, DeviceType, Revision}

-- a field of 0 fits anything, another one the same number
abbrev pub fits : ℕ → ℕ → Bool
fits asked own = asked == 0 || asked == own

-- with the compatibility flag the module's minor revision may be later
abbrev pub minor_fits : IdentityFields → KeyFields → Bool
minor_fits f k = k.minor == 0 || (if nat_le 128 k.major then nat_le k.minor f.minor
    else k.minor == f.minor)

-- what of the key differs: vendor and product first, then the device type, then the revision
abbrev pub key_mismatch : IdentityFields → KeyFields → Option KeyPart
key_mismatch f k =
    if not (fits k.vendor f.vendor && fits k.product f.product) then Some VendorOrProduct
    else if not (fits k.device_type f.device_type) then Some DeviceType
    else if not (fits (k.major % 128) f.major && minor_fits f k) then Some Revision
    else None

-- what of the key that a path begins with differs, if it begins with one
abbrev pub leading_mismatch : ModuleSettings → List Segment → Option KeyPart
leading_mismatch config (Key k ∷ others) = key_mismatch config.identity k
leading_mismatch config s = None
