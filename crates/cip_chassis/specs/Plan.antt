-- What a topology is, its links and its modules, and the rules that it keeps.
use Rattle.std.specs.Prelude.{◌≡◌, ℕ, ◌≤◌, IsTrue, List, length, Some, slice_get}
use Rattle.cip_config.specs.declared.config.ModuleSettings.{ModuleSettings}
use Rattle.cip_config.specs.declared.config.PortConfig.{PortConfig}
use Rattle.cip_config.specs.Config.{is_name, is_range, is_settings}
use Rattle.cip_chassis.specs.declared.links.Link.{Link}

-- the links and the modules, each list in the order of the file
pub record Plan : Type 0 where
  pub links : List Link
  pub modules : List ModuleSettings

-- module m has the port p
pub record HasPort (modules : List ModuleSettings) (m : ℕ) (p : PortConfig) : Type 0 where
  pub config : ModuleSettings
  pub place : ℕ
  pub at : slice_get modules m ≡ Some config
  pub has : slice_get config.ports place ≡ Some p

-- the port stands on a link of the list, whose legal addresses are those of the port
pub record StandsOn (links : List Link) (p : PortConfig) : Type 0 where
  pub link : Link
  pub at : slice_get links p.link ≡ Some link
  pub legal : p.legal ≡ link.legal

-- the vendor and the serial number of a module's identity, which its connections are named by
abbrev pub originator : ModuleSettings → ℕ × ℕ
originator c = (c.identity.vendor, c.identity.serial)

-- no two of the list have one name, one originator ..
abbrev pub TellsApart : {X K : Type 0} → (X → K) → List X → Type 0
TellsApart {X} of xs =
    (i j : ℕ) (a b : X) → slice_get xs i ≡ Some a → slice_get xs j ≡ Some b → of a ≡ of b → i ≡ j

-- no two ports on one link have one address
abbrev pub AddressesDiffer : List ModuleSettings → Type 0
AddressesDiffer modules =
    (m n : ℕ) (p q : PortConfig) → HasPort modules m p → HasPort modules n q
    → p.link ≡ q.link → p.address ≡ q.address → (m ≡ n) × (p ≡ q)

-- each link has a name, and addresses in their range
abbrev pub AreLinks : List Link → Type 0
AreLinks links = (i : ℕ) (l : Link) → slice_get links i ≡ Some l
    → IsTrue (is_name l.name) × IsTrue (is_range l.legal)

-- what every topology keeps
pub record IsTopology (t : Plan) : Type 0 where
  pub some_links : 1 ≤ length t.links
  pub few_links : length t.links ≤ 32
  pub links : AreLinks t.links
  pub link_names : TellsApart (λ (l : Link). l.name) t.links
  pub some_modules : 1 ≤ length t.modules
  pub few_modules : length t.modules ≤ 64
  pub modules : (m : ℕ) (c : ModuleSettings) → slice_get t.modules m ≡ Some c
      → IsTrue (is_settings c)
  pub names : TellsApart (λ (c : ModuleSettings). c.name) t.modules
  pub originators : TellsApart originator t.modules
  pub on_links : (m : ℕ) (p : PortConfig) → HasPort t.modules m p → StandsOn t.links p
  pub addresses : AddressesDiffer t.modules
