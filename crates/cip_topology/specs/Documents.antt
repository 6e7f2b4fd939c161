-- Documents that write out the links and the modules of a topology, key by key.
use Rattle.std.specs.Prelude.{◌≡◌, ◌⊎◌, ℕ, ◌*◌, ◌≤◌, IsTrue, List, [], ◌∷◌, length, codes, Some, None, Ok, pos}
use Rattle.std.specs.Prelude.{slice_get}
use Rattle.hex.specs.Hex.{decode_of}
use Rattle.toml.specs.Data.{Data, Items, no_items, item, Members, get_member, string, integer, array, table}
use Rattle.cip_base.specs.Words.{Octets, LinkAddress}
use Rattle.cip_config.specs.declared.config.LegalAddresses.{LegalAddresses}
use Rattle.cip_config.specs.declared.config.LegalAddresses.TheVariants.{Byte, Text}
use Rattle.cip_config.specs.declared.config.ModuleKind.{ModuleKind}
use Rattle.cip_config.specs.declared.config.ModuleKind.TheVariants.{Plain, Adapter, Indexed}
use Rattle.cip_config.specs.declared.config.ModuleSettings.{ModuleSettings}
use Rattle.cip_config.specs.declared.config.PortConfig.{PortConfig}
use Rattle.cip_target.specs.Identity.{is_identity}
use Rattle.cip_target.specs.declared.config.AssemblyConfig.{AssemblyConfig}
use Rattle.cip_target.specs.declared.identity.IdentityFields.{IdentityFields}
use Rattle.cip_chassis.specs.declared.links.Link.{Link}
use Rattle.cip_topology.specs.declared.key.Key.{Key}
use Rattle.cip_topology.specs.declared.key.Key.TheVariants as key
use Rattle.cip_chassis.specs.Plan.{Plan}
use Rattle.cip_topology.specs.Words.{word_of}

-- ---- what stands at a key

abbrev pub HasNumber : Key → ℕ → Members → Type 0
HasNumber k n m = get_member (word_of k) m ≡ Some (integer (pos n))

-- the number stands there, or the key is left out, which means the number `otherwise`
abbrev pub HasNumberOr : Key → ℕ → ℕ → Members → Type 0
HasNumberOr k otherwise n m =
    HasNumber k n m ⊎ ((get_member (word_of k) m ≡ None) × (n ≡ otherwise))

abbrev pub HasText : Key → Octets → Members → Type 0
HasText k s m = get_member (word_of k) m ≡ Some (string s)

-- pairs of hexadecimal digits, one for each byte of the address
pub record HasAddress (a : LinkAddress) (m : Members) : Type 0 where
  pub digits : Octets
  pub at : HasText key.Address digits m
  pub count : length digits ≡ 2 * length a
  pub decoded : decode_of digits ≡ Ok a

-- a table, which writes this
pub record IsTable {X : Type 0} (writes : X → Members → Type 0) (x : X) (d : Data) : Type 0 where
  pub members : Members
  pub is : d ≡ table members
  pub written : writes x members

-- the items are tables, one for each of the list in its order
abbrev pub AreTables : {X : Type 0} → (X → Members → Type 0) → List X → Items → Type 0
AreTables writes [] no_items = Unit {0}
AreTables writes (x ∷ xs) (item d ds) = IsTable writes x d × AreTables writes xs ds
AreTables writes _ _ = ⊥

pub record HasTables {X : Type 0} (writes : X → Members → Type 0) (k : Key) (xs : List X)
    (m : Members) : Type 0 where
  pub items : Items
  pub at : get_member (word_of k) m ≡ Some (array items)
  pub are : AreTables writes xs items

-- ---- what is written

abbrev pub WritesRange : LegalAddresses → Members → Type 0
WritesRange (Byte first last) m = HasText key.Kind (codes "byte") m
    × HasNumber key.First first m × HasNumber key.Last last m
WritesRange (Text longest) m =
    HasText key.Kind (codes "text") m × HasNumber key.Longest longest m

pub record WritesLink (l : Link) (m : Members) : Type 0 where
  pub name : HasText key.Name l.name m
  pub legal : WritesRange l.legal m

-- a port on one of these links, which it names
pub record WritesPort (links : List Link) (p : PortConfig) (m : Members) : Type 0 where
  pub number : HasNumber key.Number p.number m
  pub link : (l : Link) → slice_get links p.link ≡ Some l → HasText key.Link l.name m
  pub address : HasAddress p.address m

pub record WritesAssembly (a : AssemblyConfig) (m : Members) : Type 0 where
  pub instance : HasNumber key.Instance a.instance m
  pub size : HasNumber key.Size a.size m

abbrev pub kind_word : ModuleKind → Octets
kind_word Plain = codes "plain"
kind_word Adapter = codes "adapter"
kind_word Indexed = codes "indexed"

pub record WritesIdentity (i : IdentityFields) (m : Members) : Type 0 where
  pub vendor : HasNumber key.Vendor i.vendor m
  pub device_type : HasNumber key.DeviceType i.device_type m
  pub product : HasNumber key.Product i.product m
  pub major : HasNumber key.Major i.major m
  pub minor : HasNumber key.Minor i.minor m
  pub status : HasNumberOr key.Status 0 i.status m
  pub serial : HasNumber key.Serial i.serial m
  pub name : HasText key.ProductName i.name m

pub record WritesModule (links : List Link) (c : ModuleSettings) (m : Members) : Type 0 where
  pub name : HasText key.Name c.name m
  pub kind : HasText key.Kind (kind_word c.kind) m
  pub identity : WritesIdentity c.identity m
  pub clock : HasNumberOr key.Clock 0 c.clock m
  pub first_id : HasNumberOr key.FirstId 1 c.first_id m
  pub first_number : HasNumberOr key.FirstNumber 1 c.first_number m
  pub pending_room : HasNumberOr key.PendingRoom 256 c.pending_room m
  pub hop_room : HasNumberOr key.HopRoom 256 c.hop_room m
  pub ports : HasTables (WritesPort links) key.Port c.ports m
  pub assemblies : HasTables WritesAssembly key.Assembly c.assemblies m
      ⊎ ((get_member (word_of key.Assembly) m ≡ None) × (c.assemblies ≡ []))

-- the document has the links and the modules, each list in its order; other keys may stand there
pub record Writes (t : Plan) (m : Members) : Type 0 where
  pub links : HasTables WritesLink key.Link t.links m
  pub modules : HasTables (WritesModule t.links) key.Module t.modules m

-- ---- the ranges of the fields' own types, which the rules of a topology do not repeat

abbrev pub IsRangeOfBytes : LegalAddresses → Type 0
IsRangeOfBytes (Byte first last) = last ≤ 255
IsRangeOfBytes (Text longest) = Unit {0}

pub record IsPortRange (p : PortConfig) : Type 0 where
  pub least : 1 ≤ p.number
  pub most : p.number ≤ 65535
  pub some : 1 ≤ length p.address
  pub short : length p.address ≤ 16

pub record FitsTypes (c : ModuleSettings) : Type 0 where
  pub vendor : c.identity.vendor ≤ 65535
  pub device_type : c.identity.device_type ≤ 65535
  pub product : c.identity.product ≤ 65535
  pub minor : c.identity.minor ≤ 255
  pub status : c.identity.status ≤ 65535
  pub serial : c.identity.serial ≤ 4294967295
  pub identity : IsTrue (is_identity c.identity)
  pub first_id : c.first_id ≤ 4294967295
  pub first_number : c.first_number ≤ 4294967295
  pub ports : (i : ℕ) (p : PortConfig) → slice_get c.ports i ≡ Some p → IsPortRange p
  pub assemblies : (i : ℕ) (a : AssemblyConfig) → slice_get c.assemblies i ≡ Some a
      → a.instance ≤ 65535

pub record HasTypes (t : Plan) : Type 0 where
  pub links : (i : ℕ) (l : Link) → slice_get t.links i ≡ Some l → IsRangeOfBytes l.legal
  pub modules : (i : ℕ) (c : ModuleSettings) → slice_get t.modules i ≡ Some c → FitsTypes c
