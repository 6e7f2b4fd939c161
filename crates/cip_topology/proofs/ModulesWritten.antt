-- The modules that a document writes are those that are read.
use Rattle.std.proofs.Common.{◌≡◌, ℕ, zero, suc, ◌+◌, ◌≤◌, Bool, true, false, ◌&&◌, eqb, List, [], ◌∷◌, ◌++◌, length, Option, Some, None, Ok, Err}
use Rattle.std.proofs.Common.{is_some}
use Rattle.std.proofs.Common.{refl, sym, ap, ◌∙◌, subst, arith, nat_le, nat_lt, append_assoc, append-nil}
use Rattle.std.specs.Prelude.{slice_get, codes, ◌^◌}
use Rattle.std.specs.List.{list_any, list_all}
use Rattle.std.specs.Str.{bytes_eq}
use Rattle.std.proofs.lemmas.Bool.{and_parts, eqb-true}
use Rattle.std.proofs.lemmas.Bool.Decides.{nat_tests}
use Rattle.std.proofs.lemmas.Slice.Eq.{bytes_eq-Decides}
use Rattle.toml.specs.Data.{Items, no_items, item, Members, string, table, as_str, get_member}
use Rattle.cip_base.specs.declared.limits.TheConstants.{MAX_DATUM}
use Rattle.cip_config.specs.declared.config.ModuleKind.{ModuleKind}
use Rattle.cip_config.specs.declared.config.ModuleKind.TheVariants.{Plain, Adapter, Indexed}
use Rattle.cip_config.specs.declared.config.ModuleSettings.{ModuleSettings}
use Rattle.cip_config.specs.declared.config.PortConfig.{PortConfig}
use Rattle.cip_config.specs.Config.{is_name, is_settings, are_counts, is_room, are_ports, are_assemblies, is_port, numbers_differ, instances_differ, most_ports}
use Rattle.cip_target.specs.Assemblies.{is_assembly}
use Rattle.cip_target.specs.Identity.{is_product_name}
use Rattle.cip_target.specs.declared.config.AssemblyConfig.{AssemblyConfig}
use Rattle.cip_target.specs.declared.identity.IdentityFields.{IdentityFields}
use Rattle.cip_chassis.specs.declared.links.Link.{Link}
use Rattle.cip_topology.specs.declared.module_tables.Counts.{Counts}
use Rattle.cip_topology.specs.declared.key.Key.TheVariants as key
use Rattle.cip_topology.specs.declared.place.Place.{Place}
use Rattle.cip_topology.specs.declared.place.Place.TheVariants as places
use Rattle.cip_topology.specs.declared.fault.LoadFault.TheVariants.{DoubleName, DoubleOriginator}
use Rattle.cip_chassis.specs.Plan.{HasPort, TellsApart, AddressesDiffer, originator}
use Rattle.cip_chassis.specs.Nodes.{Node, node_from}
use Rattle.cip_topology.specs.Documents.{AreTables, FitsTypes, WritesIdentity, WritesModule, kind_word}
use Rattle.cip_topology.specs.Keys.{value_at, number_at, number_or_at, counted_at, text_at, name_at}
use Rattle.cip_topology.specs.PortTables.{ports_at, assemblies_at}
use Rattle.cip_topology.specs.ModuleTables.{kind_of, kind_at, identity_at, counts_at, new_name, has_originator, new_originator, is_taken, named_settings}
use Rattle.cip_topology.specs.ModuleTables.{settings_of, modules_after}
use Rattle.cip_base.specs.Counts.{count_of}
use Rattle.cip_chassis.proofs.Before.{apart_before, get_before, get_here, none_here}
use Rattle.cip_topology.proofs.ModulesKept.{ModulesKept}
use Rattle.cip_chassis.proofs.Ports.{some_same}
use Rattle.cip_topology.proofs.PortsKept.{numbers_are, instances_are}
use Rattle.cip_topology.proofs.PortsWritten.{AreGood, AreGoodAssemblies, ports_written, assemblies_written}
use Rattle.cip_topology.proofs.Rules.{le_of}
use Rattle.cip_chassis.proofs.WayBack.{is_there, node_is}
use Rattle.cip_topology.proofs.Written.{then_ok, if_false, value_is, number_is, number_or_is, counted_is, text_is}

-- ---- one module

kind_is : (place : Place) (kind : ModuleKind) (m : Members) → get_member (codes "kind") m ≡ Some (string (kind_word kind)) → kind_at place m ≡ Ok kind
kind_is place Plain m w =
    then_ok (value_at place key.Kind m) (λ d. kind_of place d (as_str d)) (string (codes "plain")) (Ok Plain)
    (value_is place key.Kind m (string (codes "plain")) w) refl
kind_is place Adapter m w =
    then_ok (value_at place key.Kind m) (λ d. kind_of place d (as_str d)) (string (codes "adapter")) (Ok Adapter)
    (value_is place key.Kind m (string (codes "adapter")) w) refl
kind_is place Indexed m w =
    then_ok (value_at place key.Kind m) (λ d. kind_of place d (as_str d)) (string (codes "indexed")) (Ok Indexed)
    (value_is place key.Kind m (string (codes "indexed")) w) refl

identity_is : (place : Place) (c : ModuleSettings) (m : Members) → WritesIdentity c.identity m → FitsTypes c → identity_at place m ≡ Ok c.identity
identity_is place c m w f =
    let own = and_parts (nat_le c.identity.major 127) (is_product_name c.identity.name) f.identity in
    then_ok (number_at place key.Vendor 0 65535 m) _ c.identity.vendor (Ok c.identity)
    (number_is place key.Vendor 0 65535 c.identity.vendor m w.vendor (omega arith) f.vendor)
    (then_ok (number_at place key.DeviceType 0 65535 m) _ c.identity.device_type (Ok c.identity)
    (number_is place key.DeviceType 0 65535 c.identity.device_type m w.device_type (omega arith) f.device_type)
    (then_ok (number_at place key.Product 0 65535 m) _ c.identity.product (Ok c.identity)
    (number_is place key.Product 0 65535 c.identity.product m w.product (omega arith) f.product)
    (then_ok (number_at place key.Major 0 127 m) _ c.identity.major (Ok c.identity)
    (number_is place key.Major 0 127 c.identity.major m w.major (omega arith) (le_of c.identity.major 127 own.0))
    (then_ok (number_at place key.Minor 0 255 m) _ c.identity.minor (Ok c.identity)
    (number_is place key.Minor 0 255 c.identity.minor m w.minor (omega arith) f.minor)
    (then_ok (number_or_at place key.Status 0 0 65535 m) _ c.identity.status (Ok c.identity)
    (number_or_is place key.Status 0 0 65535 c.identity.status m w.status (omega arith) f.status)
    (then_ok (number_at place key.Serial 0 4294967295 m) _ c.identity.serial (Ok c.identity)
    (number_is place key.Serial 0 4294967295 c.identity.serial m w.serial (omega arith) f.serial)
    (then_ok (text_at is_product_name place key.ProductName m) _ c.identity.name (Ok c.identity)
    (text_is is_product_name place key.ProductName c.identity.name m w.name own.1) refl)))))))

abbrev counts_of : ModuleSettings → Counts
counts_of c = record {
  clock = c.clock;
  first_id = c.first_id;
  first_number = c.first_number;
  pending_room = c.pending_room;
  hop_room = c.hop_room;
}

clock_below : (n : ℕ) → nat_lt n 9223372036854775808 ≡ true → n ≤ 9223372036854775807
clock_below n h = grind (arith, nat_tests)

counts_are : (place : Place) (links : List Link) (c : ModuleSettings) (m : Members) → WritesModule links c m → FitsTypes c → are_counts c ≡ true
    → counts_at place m ≡ Ok (counts_of c)
counts_are place links c m w f h =
    let (clock, h1) = and_parts (nat_lt c.clock (2 ^ 63)) (nat_le 1 (count_of c.first_id)
    && (nat_le 1 (count_of c.first_number) && (is_room 256 c.pending_room && is_room 256 c.hop_room))) h in
    let (id, h2) = and_parts (nat_le 1 (count_of c.first_id))
    (nat_le 1 (count_of c.first_number) && (is_room 256 c.pending_room && is_room 256 c.hop_room)) h1 in
    let (number, h3) = and_parts (nat_le 1 (count_of c.first_number)) (is_room 256 c.pending_room && is_room 256 c.hop_room) h2 in
    let (pending, hop) = and_parts (is_room 256 c.pending_room) (is_room 256 c.hop_room) h3 in
    let pendings = and_parts (nat_le 1 c.pending_room) (nat_le c.pending_room 256) pending in
    let hops = and_parts (nat_le 1 c.hop_room) (nat_le c.hop_room 256) hop in
    then_ok (number_or_at place key.Clock 0 0 9223372036854775807 m) _ c.clock (Ok (counts_of c))
    (number_or_is place key.Clock 0 0 9223372036854775807 c.clock m w.clock (omega arith) (clock_below c.clock clock))
    (then_ok (counted_at place key.FirstId m) _ c.first_id (Ok (counts_of c))
    (counted_is place key.FirstId c.first_id m w.first_id id f.first_id)
    (then_ok (counted_at place key.FirstNumber m) _ c.first_number (Ok (counts_of c))
    (counted_is place key.FirstNumber c.first_number m w.first_number number f.first_number)
    (then_ok (number_or_at place key.PendingRoom 256 1 256 m) _ c.pending_room (Ok (counts_of c))
    (number_or_is place key.PendingRoom 256 1 256 c.pending_room m w.pending_room (le_of 1 c.pending_room pendings.0) (le_of c.pending_room 256 pendings.1))
    (then_ok (number_or_at place key.HopRoom 256 1 256 m) _ c.hop_room (Ok (counts_of c))
    (number_or_is place key.HopRoom 256 1 256 c.hop_room m w.hop_room (le_of 1 c.hop_room hops.0) (le_of c.hop_room 256 hops.1)) refl))))

all_at : {X : Type 0} (f : X → Bool) (xs : List X) (i : ℕ) (a : X) → list_all f xs ≡ true → slice_get xs i ≡ Some a → f a ≡ true
all_at f [] i a h at = absurd (cc)
all_at f (x ∷ xs) zero a h at = ap f (sym (some_same x a at)) ∙ (and_parts (f x) (list_all f xs) h).0
all_at f (x ∷ xs) (suc i) a h at = all_at f xs i a (and_parts (f x) (list_all f xs) h).1 at

-- what is_settings says, part by part
record Settled (c : ModuleSettings) : Type 0 where
  named : is_name c.name ≡ true
  counts : are_counts c ≡ true
  some_ports : nat_le 1 (length c.ports) ≡ true
  few_ports : nat_le (length c.ports) (most_ports c.kind) ≡ true
  ports : list_all is_port c.ports ≡ true
  numbers : numbers_differ c.ports ≡ true
  few_assemblies : nat_le (length c.assemblies) 64 ≡ true
  assemblies : list_all is_assembly c.assemblies ≡ true
  instances : instances_differ c.assemblies ≡ true

settled : (c : ModuleSettings) → is_settings c ≡ true → Settled c
settled c h =
    let (named, h1) = and_parts (is_name c.name) (are_counts c && (are_ports c.kind c.ports && are_assemblies c.assemblies)) h in
    let (counts, h2) = and_parts (are_counts c) (are_ports c.kind c.ports && are_assemblies c.assemblies) h1 in
    let (ports, assemblies) = and_parts (are_ports c.kind c.ports) (are_assemblies c.assemblies) h2 in
    let (some, h3) = and_parts (nat_le 1 (length c.ports))
    (nat_le (length c.ports) (most_ports c.kind) && (list_all is_port c.ports && numbers_differ c.ports)) ports in
    let (few, h4) = and_parts (nat_le (length c.ports) (most_ports c.kind)) (list_all is_port c.ports && numbers_differ c.ports) h3 in
    let (each, numbers) = and_parts (list_all is_port c.ports) (numbers_differ c.ports) h4 in
    let (short, h5) = and_parts (nat_le (length c.assemblies) 64) (list_all is_assembly c.assemblies && instances_differ c.assemblies) assemblies in
    let (all, instances) = and_parts (list_all is_assembly c.assemblies) (instances_differ c.assemblies) h5 in
    record {
      named = named;
      counts = counts;
      some_ports = some;
      few_ports = few;
      ports = each;
      numbers = numbers;
      few_assemblies = short;
      assemblies = all;
      instances = instances;
    }

-- the spot of a port of this module is not taken by those before it
spot_free : (modules cs : List ModuleSettings) (c : ModuleSettings) (i : ℕ) (p : PortConfig) → AddressesDiffer (modules ++ c ∷ cs)
    → slice_get c.ports i ≡ Some p → is_taken modules p.link p.address ≡ false
spot_free modules cs c i p differ at =
    elim (node_from 0 modules p.link p.address) as (λ (o : Option Node). node_from 0 modules p.link p.address ≡ o → is_some o ≡ false) [
      | None ↦ λ e. refl
      | Some n ↦ λ e.
          let found = node_is 0 modules p.link p.address n e in
          let there = is_there p.link p.address n.port found.there in
          let other : HasPort (modules ++ c ∷ cs) found.offset n.port = record {
            config = found.port.config;
            place = found.port.place;
            at = get_before modules (c ∷ cs) found.offset found.port.config found.port.at;
            has = found.port.has;
          } in
          let own : HasPort (modules ++ c ∷ cs) (length modules) p = record { config = c; place = i; at = get_here modules cs c; has = at } in
          let same = (differ found.offset (length modules) n.port p other own there.0 there.1).0 in
          let no : Some found.port.config ≡ None = sym found.port.at ∙ ap (slice_get modules) same ∙ none_here modules in absurd (cc)
    ] refl

ports_good : (links : List Link) (modules cs : List ModuleSettings) (c : ModuleSettings) → ModulesKept links (modules ++ c ∷ cs) → FitsTypes c → Settled c
    → AreGood links (is_taken modules) [] c.ports
ports_good links modules cs c k f s =
    let own : (i : ℕ) (p : PortConfig) → slice_get c.ports i ≡ Some p → HasPort (modules ++ c ∷ cs) (length modules) p =
    λ i p at. record { config = c; place = i; at = get_here modules cs c; has = at } in
    record {
      range = f.ports;
      fine = λ i p at. all_at is_port c.ports i p s.ports at;
      on = λ i p at. k.on_links (length modules) p (own i p at);
      free = λ i p at. spot_free modules cs c i p k.addresses at;
      numbers = sym (numbers_are c.ports) ∙ s.numbers;
      alone = λ i j p q at bt e g. (k.addresses (length modules) (length modules) p q (own i p at) (own j q bt) e g).1;
    }

assemblies_good : (c : ModuleSettings) → FitsTypes c → Settled c → AreGoodAssemblies [] c.assemblies
assemblies_good c f s =
    let each : (i : ℕ) (a : AssemblyConfig) → slice_get c.assemblies i ≡ Some a → (nat_le 1 a.instance ≡ true) × (nat_le a.size MAX_DATUM ≡ true) =
    λ i a at. and_parts (nat_le 1 a.instance) (nat_le a.size MAX_DATUM) (all_at is_assembly c.assemblies i a s.assemblies at) in
    record {
      least = λ i a at. le_of 1 a.instance (each i a at).0;
      most = f.assemblies;
      size = λ i a at. le_of a.size MAX_DATUM (each i a at).1;
      instances = sym (instances_are c.assemblies) ∙ s.instances;
    }

has_same : (i : IdentityFields) (c : ModuleSettings) → has_originator i c ≡ true → originator c ≡ (i.vendor, i.serial)
has_same i c t =
    let both = and_parts (eqb c.identity.vendor i.vendor) (eqb c.identity.serial i.serial) t in
    ap (λ (v : ℕ). (v, c.identity.serial)) (eqb-true c.identity.vendor i.vendor both.0)
    ∙ ap (λ (s : ℕ). (i.vendor, s)) (eqb-true c.identity.serial i.serial both.1)

module_is : (number : ℕ) (links : List Link) (modules cs : List ModuleSettings) (c : ModuleSettings) (m : Members)
    → WritesModule links c m → TellsApart (λ (l : Link). l.name) links → ModulesKept links (modules ++ c ∷ cs) → FitsTypes c
    → settings_of number links modules (table m) ≡ Ok c
unfolding settings_of
module_is number links modules cs c m w apart k f =
    let s = settled c (k.legal (length modules) c (get_here modules cs c)) in
    let place = places.Module number (Some c.name) in
    let no_name = apart_before (λ (x : ModuleSettings). x.name) (λ (x : ModuleSettings). bytes_eq x.name c.name) modules cs c k.names
    (λ a t. (bytes_eq-Decides a.name c.name).0 t) in
    let no_own = apart_before originator (has_originator c.identity) modules cs c k.originators (λ a t. has_same c.identity a t) in
    then_ok (name_at (places.Module number None) m) (λ name. named_settings (places.Module number (Some name)) name links modules m) c.name (Ok c)
    (text_is is_name (places.Module number None) key.Name c.name m w.name s.named)
    (then_ok (kind_at place m) _ c.kind (Ok c) (kind_is place c.kind m w.kind)
    (then_ok (identity_at place m) _ c.identity (Ok c) (identity_is place c m w.identity f)
    (then_ok (counts_at place m) _ (counts_of c) (Ok c) (counts_are place links c m w f s.counts)
    (then_ok (new_name place modules c.name) _ c.name (Ok c)
    (if_false (list_any (λ (x : ModuleSettings). bytes_eq x.name c.name) modules) (Err (DoubleName place)) (Ok c.name) no_name)
    (then_ok (ports_at place links (is_taken modules) c.kind m) _ c.ports (Ok c)
    (ports_written place links (is_taken modules) c.kind m c.ports apart w.ports (ports_good links modules cs c k f s) s.some_ports s.few_ports)
    (then_ok (assemblies_at place m) _ c.assemblies (Ok c)
    (assemblies_written place m c.assemblies w.assemblies (assemblies_good c f s) s.few_assemblies)
    (then_ok (new_originator place modules c.identity) _ c.identity (Ok c)
    (if_false (list_any (has_originator c.identity) modules) (Err (DoubleOriginator place c.identity.vendor c.identity.serial)) (Ok c.identity) no_own)
    refl)))))))

-- ---- all modules

pub modules_are : (links : List Link) (modules cs : List ModuleSettings) (ds : Items) → AreTables (WritesModule links) cs ds
    → TellsApart (λ (l : Link). l.name) links → ModulesKept links (modules ++ cs)
    → ((i : ℕ) (c : ModuleSettings) → slice_get cs i ≡ Some c → FitsTypes c)
    → modules_after links modules ds ≡ Ok (modules ++ cs)
modules_are links modules [] no_items w apart k f = ap (λ (x : List ModuleSettings). Ok x) (sym (append-nil modules))
modules_are links modules [] (item d ds) w apart k f = elim w [ ]
modules_are links modules (c ∷ cs) no_items w apart k f = elim w [ ]
modules_are links modules (c ∷ cs) (item d ds) w apart k f =
    let whole : (modules ++ c ∷ []) ++ cs ≡ modules ++ c ∷ cs = append_assoc modules (c ∷ []) cs in
    then_ok (settings_of (length modules + 1) links modules d) (λ x. modules_after links (modules ++ x ∷ []) ds) c (Ok (modules ++ c ∷ cs))
    (ap (settings_of (length modules + 1) links modules) w.0.is
    ∙ module_is (length modules + 1) links modules cs c w.0.members w.0.written apart k (f 0 c refl))
    (modules_are links (modules ++ c ∷ []) cs ds w.1 apart (subst (ModulesKept links) (sym whole) k) (λ i a at. f (suc i) a at)
    ∙ ap (λ (x : List ModuleSettings). Ok x) whole)
