-- Plans: a scanner, bridges behind it, and adapters.
use Rattle.std.specs.Prelude.{ℕ, zero, suc, List, [], ◌∷◌}
use Rattle.cip_base.specs.declared.triad.Triad.{Triad}
use Rattle.cip_target.specs.declared.identity.IdentityFields.{IdentityFields}
use Rattle.cip_config.specs.declared.config.ModuleSettings.{ModuleSettings}
use Rattle.cip_config.specs.declared.config.ModuleKind.TheVariants.{Plain, Adapter}
use Rattle.cip_config.specs.declared.config.PortConfig.{PortConfig}
use Rattle.cip_config.specs.declared.config.LegalAddresses.{LegalAddresses}
use Rattle.cip_config.specs.declared.config.LegalAddresses.TheVariants.{Byte}
use Rattle.cip_event.specs.declared.event.OpenParams.{OpenParams}
use Rattle.cip_chassis.specs.Plan.{Plan}
use Rattle.cip_chassis.specs.declared.links.Link.{Link}
use Rattle.cip_event.specs.declared.frame.FrameName.{FrameName}

abbrev pub identity : ℕ → ℕ → IdentityFields
identity product serial = record {
  vendor = 257;
  device_type = 12;
  product = product;
  major = 1;
  minor = 3;
  status = 0;
  serial = serial;
  name = 65 ∷ [];
}

-- the addresses of the three links: a network, a backplane, and a network behind it
abbrev pub bounds : ℕ → LegalAddresses
bounds zero = Byte 0 254
bounds (suc zero) = Byte 0 16
bounds (suc (suc n)) = Byte 0 63

abbrev pub port : ℕ → ℕ → ℕ → PortConfig
port number link address = record {
  number = number;
  link = link;
  legal = bounds link;
  address = address ∷ [];
}

-- LAN, RACK and SUB
abbrev pub lan : Link
lan = record { name = 76 ∷ 65 ∷ 78 ∷ []; legal = bounds 0 }

abbrev pub rack : Link
rack = record { name = 82 ∷ 65 ∷ 67 ∷ 75 ∷ []; legal = bounds 1 }

abbrev pub sub : Link
sub = record { name = 83 ∷ 85 ∷ 66 ∷ []; legal = bounds 2 }

abbrev pub router : ℕ → IdentityFields → ℕ → List PortConfig → ModuleSettings
router name is first_id ports = record {
  name = name ∷ [];
  kind = Plain;
  identity = is;
  clock = 0;
  first_id = first_id;
  first_number = 1;
  pending_room = 256;
  hop_room = 256;
  ports = ports;
  assemblies = [];
}

-- a scanner at 01, a bridge at 05 and in slot 00, another one in slot 03 and at 01 of a third link
abbrev pub scanner : ModuleSettings
scanner = router 83 (identity 9 1) 17 (port 2 0 1 ∷ [])

abbrev pub first_bridge : ModuleSettings
first_bridge = router 65 (identity 1 2) 33 (port 2 0 5 ∷ port 1 1 0 ∷ [])

abbrev pub second_bridge : ModuleSettings
second_bridge = router 66 (identity 2 3) 49 (port 1 1 3 ∷ port 2 2 1 ∷ [])

abbrev pub plant : Plan
plant = record {
  links = lan ∷ rack ∷ sub ∷ [];
  modules = scanner ∷ first_bridge ∷ second_bridge ∷ [];
}

-- an adapter at 07 of a link
abbrev pub adapter : ℕ → ℕ → ModuleSettings
adapter link serial = record {
  name = 69 ∷ [];
  kind = Adapter;
  identity = identity 3 serial;
  clock = 0;
  first_id = 65;
  first_number = 1;
  pending_room = 256;
  hop_room = 256;
  ports = port 2 link 7 ∷ [];
  assemblies = record { instance = 100; size = 0 } ∷ record { instance = 101; size = 4 }
      ∷ record { instance = 102; size = 2 } ∷ [];
}

-- the scanner and an adapter on one link
abbrev pub cell : Plan
cell = record { links = lan ∷ []; modules = scanner ∷ adapter 0 2 ∷ [] }

-- the scanner, both bridges, and an adapter behind them
abbrev pub row : Plan
row = record {
  links = lan ∷ rack ∷ sub ∷ [];
  modules = scanner ∷ first_bridge ∷ second_bridge ∷ adapter 2 4 ∷ [];
}

-- the name of the connections that the scanner opens
abbrev pub triad : Triad
triad = record { serial = 66; vendor = 257; originator = 1 }

abbrev pub params : OpenParams
params = record {
  serial = 66;
  multiplier = 0;
  transport = 1;
  ot_rpi = 10000;
  ot_params = 18438;
  to_rpi = 10000;
  to_params = 18436;
}

-- the first output of an entry
abbrev pub frame : ℕ → FrameName
frame k = record { entry = k; output = 0 }
