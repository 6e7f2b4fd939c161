-- The modules that are read keep the rules of modules.
use Rattle.std.proofs.Common.{◌≡◌, ℕ, suc, ◌+◌, ◌≤◌, true, false, ◌&&◌, eqb, List, [], ◌∷◌, ◌++◌, length, Option, Some, None}
use Rattle.std.proofs.Common.{is_some, Ok, sym, ap, ◌∙◌, subst, arith, nat_le, nat_lt, inl, inr, ◌⊎◌, length-append}
use Rattle.std.specs.Prelude.{slice_get, ◌^◌}
use Rattle.std.specs.List.{list_any}
use Rattle.std.specs.Str.{bytes_eq}
use Rattle.std.proofs.lemmas.Bool.{and_from, eq-eqb}
use Rattle.std.proofs.lemmas.Bool.Decides.{nat_tests}
use Rattle.std.proofs.lemmas.Slice.Eq.{bytes_eq-Decides}
use Rattle.toml.specs.Data.{Data, Items, no_items, item, Members}
use Rattle.cip_config.specs.declared.config.ModuleSettings.{ModuleSettings}
use Rattle.cip_config.specs.declared.config.ModuleKind.{ModuleKind}
use Rattle.cip_config.specs.declared.config.PortConfig.{PortConfig}
use Rattle.cip_config.specs.Config.{is_name, is_settings, are_counts, is_room, are_ports, are_assemblies}
use Rattle.cip_target.specs.declared.identity.IdentityFields.{IdentityFields}
use Rattle.cip_chassis.specs.declared.links.Link.{Link}
use Rattle.cip_topology.specs.declared.module_tables.Counts.{Counts}
use Rattle.cip_topology.specs.declared.key.Key.TheVariants as key
use Rattle.cip_topology.specs.declared.place.Place.{Place}
use Rattle.cip_topology.specs.declared.place.Place.TheVariants as places
use Rattle.cip_chassis.specs.Plan.{AreLinks, HasPort, StandsOn, TellsApart, AddressesDiffer, originator}
use Rattle.cip_chassis.specs.Nodes.{Node}
use Rattle.cip_topology.specs.Keys.{◌>>=◌, number_or_at, counted_at, name_at, table_of, item_count}
use Rattle.cip_topology.specs.PortTables.{ports_at, assemblies_at}
use Rattle.cip_topology.specs.ModuleTables.{kind_at, identity_at, counts_at, new_name, has_originator, new_originator}
use Rattle.cip_topology.specs.ModuleTables.{is_taken, named_settings, settings_of_table, settings_of, modules_after}
use Rattle.cip_chassis.proofs.Ports.{some_same}
use Rattle.cip_chassis.proofs.WayBack.{there_is, node_found}
use Rattle.cip_chassis.proofs.Lists.{get_push, none_at, apart_push}
use Rattle.cip_topology.proofs.Rules.{bind_ok, same_ok, passed, le_true, number_or_bounds, counted_some, text_passes}
use Rattle.cip_base.specs.Counts.{count_of}
use Rattle.cip_topology.proofs.PortsKept.{PortsKept, ports_kept, assemblies_kept}

-- ---- one module

below : (n : ℕ) → n ≤ 9223372036854775807 → nat_lt n 9223372036854775808 ≡ true
below n h = grind (arith, nat_tests)

record CountsFit (c : Counts) : Type 0 where
  clock : nat_lt c.clock (2 ^ 63) ≡ true
  id : nat_le 1 (count_of c.first_id) ≡ true
  number : nat_le 1 (count_of c.first_number) ≡ true
  pending : is_room 256 c.pending_room ≡ true
  hop : is_room 256 c.hop_room ≡ true

counts_fit : (place : Place) (m : Members) (c : Counts) → counts_at place m ≡ Ok c → CountsFit c
counts_fit place m c h =
    let (clock, e1, h1) = bind_ok (number_or_at place key.Clock 0 0 9223372036854775807 m)
    (λ clock. counted_at place key.FirstId m >>= λ first_id.
    (counted_at place key.FirstNumber m >>= λ first_number. (number_or_at place key.PendingRoom 256 1 256 m >>= λ pending_room.
    (number_or_at place key.HopRoom 256 1 256 m >>= λ hop_room.
    Ok (record { clock = clock; first_id = first_id; first_number = first_number; pending_room = pending_room; hop_room = hop_room }))))) c h in
    let (first_id, e2, h2) = bind_ok (counted_at place key.FirstId m) (λ first_id.
    counted_at place key.FirstNumber m >>= λ first_number. (number_or_at place key.PendingRoom 256 1 256 m >>= λ pending_room.
    (number_or_at place key.HopRoom 256 1 256 m >>= λ hop_room.
    Ok (record { clock = clock; first_id = first_id; first_number = first_number; pending_room = pending_room; hop_room = hop_room })))) c h1 in
    let (first_number, e3, h3) = bind_ok (counted_at place key.FirstNumber m) (λ first_number.
    number_or_at place key.PendingRoom 256 1 256 m >>= λ pending_room. (number_or_at place key.HopRoom 256 1 256 m >>= λ hop_room.
    Ok (record { clock = clock; first_id = first_id; first_number = first_number; pending_room = pending_room; hop_room = hop_room }))) c h2 in
    let (pending_room, e4, h4) = bind_ok (number_or_at place key.PendingRoom 256 1 256 m)
    (λ pending_room. number_or_at place key.HopRoom 256 1 256 m >>= λ hop_room.
    Ok (record { clock = clock; first_id = first_id; first_number = first_number; pending_room = pending_room; hop_room = hop_room })) c h3 in
    let (hop_room, e5, h5) = bind_ok (number_or_at place key.HopRoom 256 1 256 m) (λ hop_room.
    Ok (record { clock = clock; first_id = first_id; first_number = first_number; pending_room = pending_room; hop_room = hop_room })) c h4 in
    let b1 = number_or_bounds place key.Clock 0 0 9223372036854775807 m clock (omega arith) (omega arith) e1 in
    let b2 = counted_some place key.FirstId m first_id e2 in
    let b3 = counted_some place key.FirstNumber m first_number e3 in
    let b4 = number_or_bounds place key.PendingRoom 256 1 256 m pending_room (omega arith) (omega arith) e4 in
    let b5 = number_or_bounds place key.HopRoom 256 1 256 m hop_room (omega arith) (omega arith) e5 in
    let same : record { clock = clock; first_id = first_id; first_number = first_number; pending_room = pending_room; hop_room = hop_room }
    ≡ c = same_ok _ c h5 in
    subst CountsFit same (record {
      clock = below clock b1.1;
      id = b2;
      number = b3;
      pending = and_from (nat_le 1 pending_room) (nat_le pending_room 256) (le_true 1 pending_room b4.0) (le_true pending_room 256 b4.1);
      hop = and_from (nat_le 1 hop_room) (nat_le hop_room 256) (le_true 1 hop_room b5.0) (le_true hop_room 256 b5.1);
    })

-- a module that was read, after these
pub record IsNew (links : List Link) (modules : List ModuleSettings) (s : ModuleSettings) : Type 0 where
  pub legal : is_settings s ≡ true
  pub name : list_any (λ (c : ModuleSettings). bytes_eq c.name s.name) modules ≡ false
  pub own : list_any (has_originator s.identity) modules ≡ false
  pub ports : PortsKept links (is_taken modules) s.ports

named_new : (place : Place) (name : List ℕ) (links : List Link) (modules : List ModuleSettings) (m : Members) (s : ModuleSettings)
    → AreLinks links → is_name name ≡ true
    → named_settings place name links modules m ≡ Ok s → IsNew links modules s
named_new place name links modules m s are is h =
    let made : ModuleKind → IdentityFields → Counts → List PortConfig → List _ → ModuleSettings = λ kind identity counts ports assemblies. record {
      name = name;
      kind = kind;
      identity = identity;
      clock = counts.clock;
      first_id = counts.first_id;
      first_number = counts.first_number;
      pending_room = counts.pending_room;
      hop_room = counts.hop_room;
      ports = ports;
      assemblies = assemblies;
    } in
    let (kind, e1, h1) = bind_ok (kind_at place m)
    (λ kind. identity_at place m >>= λ identity. (counts_at place m >>= λ counts. (new_name place modules name >>= λ new.
    (ports_at place links (is_taken modules) kind m >>= λ ports. (assemblies_at place m >>= λ assemblies. (new_originator place modules identity >>= λ own.
    Ok (made kind identity counts ports assemblies))))))) s h in
    let (identity, e2, h2) = bind_ok (identity_at place m) (λ identity. counts_at place m >>= λ counts. (new_name place modules name >>= λ new.
    (ports_at place links (is_taken modules) kind m >>= λ ports. (assemblies_at place m >>= λ assemblies. (new_originator place modules identity >>= λ own.
    Ok (made kind identity counts ports assemblies)))))) s h1 in
    let (counts, e3, h3) = bind_ok (counts_at place m) (λ counts. new_name place modules name >>= λ new.
    (ports_at place links (is_taken modules) kind m >>= λ ports. (assemblies_at place m >>= λ assemblies. (new_originator place modules identity >>= λ own.
    Ok (made kind identity counts ports assemblies))))) s h2 in
    let (new, e4, h4) = bind_ok (new_name place modules name) (λ new.
    ports_at place links (is_taken modules) kind m >>= λ ports. (assemblies_at place m >>= λ assemblies. (new_originator place modules identity >>= λ own.
    Ok (made kind identity counts ports assemblies)))) s h3 in
    let (ports, e5, h5) = bind_ok (ports_at place links (is_taken modules) kind m)
    (λ ports. assemblies_at place m >>= λ assemblies. (new_originator place modules identity >>= λ own.
    Ok (made kind identity counts ports assemblies))) s h4 in
    let (assemblies, e6, h6) = bind_ok (assemblies_at place m)
    (λ assemblies. new_originator place modules identity >>= λ own. Ok (made kind identity counts ports assemblies)) s h5 in
    let (own, e7, h7) = bind_ok (new_originator place modules identity) (λ own. Ok (made kind identity counts ports assemblies)) s h6 in
    let fit = counts_fit place m counts e3 in
    let no_name = passed (list_any (λ (c : ModuleSettings). bytes_eq c.name name) modules) _ (Ok name) new e4 in
    let no_own = passed (list_any (has_originator identity) modules) _ (Ok identity) own e7 in
    let all = ports_kept place links (is_taken modules) kind m ports are e5 in
    let some = assemblies_kept place m assemblies e6 in
    let same : made kind identity counts ports assemblies ≡ s = same_ok _ s h7 in
    subst (IsNew links modules) same (record {
      legal = and_from (is_name name) _ is
          (and_from (are_counts (made kind identity counts ports assemblies)) _
          (and_from (nat_lt counts.clock (2 ^ 63)) _ fit.clock
          (and_from (nat_le 1 (count_of counts.first_id)) _ fit.id (and_from (nat_le 1 (count_of counts.first_number)) _ fit.number
          (and_from (is_room 256 counts.pending_room) (is_room 256 counts.hop_room) fit.pending fit.hop))))
          (and_from (are_ports kind ports) (are_assemblies assemblies) all.1 some));
      name = no_name.0;
      own = no_own.0;
      ports = all.0;
    })

table_new : (number : ℕ) (links : List Link) (modules : List ModuleSettings) (m : Members) (s : ModuleSettings) → AreLinks links
    → settings_of_table number links modules m ≡ Ok s → IsNew links modules s
table_new number links modules m s are h =
    let unnamed = places.Module number None in
    let (name, named, h1) = bind_ok (name_at unnamed m) (λ name. named_settings (places.Module number (Some name)) name links modules m) s h in
    named_new (places.Module number (Some name)) name links modules m s are (text_passes is_name unnamed key.Name m name named) h1

pub module_new : (number : ℕ) (links : List Link) (modules : List ModuleSettings) (d : Data) (s : ModuleSettings) → AreLinks links
    → settings_of number links modules d ≡ Ok s → IsNew links modules s
unfolding settings_of
module_new number links modules d s are h =
    let (m, table, h1) = bind_ok (table_of (places.Module number None) key.Module d) (settings_of_table number links modules) s h in
    table_new number links modules m s are h1

-- ---- all modules

pub record ModulesKept (links : List Link) (modules : List ModuleSettings) : Type 0 where
  pub legal : (m : ℕ) (c : ModuleSettings) → slice_get modules m ≡ Some c → is_settings c ≡ true
  pub names : TellsApart (λ (c : ModuleSettings). c.name) modules
  pub originators : TellsApart originator modules
  pub on_links : (m : ℕ) (p : PortConfig) → HasPort modules m p → StandsOn links p
  pub addresses : AddressesDiffer modules

pub no_modules : (links : List Link) → ModulesKept links []
no_modules links = record {
  legal = λ m c e. absurd (cc);
  names = λ i j a b at bt e. absurd (cc);
  originators = λ i j a b at bt e. absurd (cc);
  on_links = λ m p h. let e = h.at in absurd (cc);
  addresses = λ m n p q h g e f. let e = h.at in absurd (cc);
}

-- a port of the modules stood there before, or is one of the new module's
record HasNewPort (modules : List ModuleSettings) (c : ModuleSettings) (m : ℕ) (p : PortConfig) : Type 0 where
  last : m ≡ length modules
  place : ℕ
  has : slice_get c.ports place ≡ Some p

port_push : (modules : List ModuleSettings) (c : ModuleSettings) (m : ℕ) (p : PortConfig) → HasPort (modules ++ c ∷ []) m p
    → HasPort modules m p ⊎ HasNewPort modules c m p
port_push modules c m p h = elim (get_push modules c h.config m h.at) [
  | inl old ↦ inl (record { config = h.config; place = h.place; at = old; has = h.has })
  | inr new ↦ inr (record { last = new.0; place = h.place; has = ap (λ (x : ModuleSettings). slice_get x.ports h.place) new.1 ∙ h.has })
]

-- where a port stands, its spot is taken
stands_taken : (modules : List ModuleSettings) (m : ℕ) (p : PortConfig) (link : ℕ) (address : List ℕ) → HasPort modules m p
    → p.link ≡ link → p.address ≡ address
    → is_taken modules link address ≡ true
stands_taken modules m p link address h e f =
    let found = node_found 0 modules link address m p h (there_is link address p e f) in
    ap (λ (o : Option Node). is_some o) found.1

both_true : (x y : IdentityFields) → ◌≡◌ {A = ℕ × ℕ} (x.vendor, x.serial) (y.vendor, y.serial) → (eqb x.vendor y.vendor && eqb x.serial y.serial) ≡ true
both_true x y e =
    and_from (eqb x.vendor y.vendor) (eqb x.serial y.serial) (eq-eqb x.vendor y.vendor (ap (λ (p : ℕ × ℕ). p.0) e))
    (eq-eqb x.serial y.serial (ap (λ (p : ℕ × ℕ). p.1) e))

pub one_more : (links : List Link) (modules : List ModuleSettings) (c : ModuleSettings) → ModulesKept links modules
    → IsNew links modules c → ModulesKept links (modules ++ c ∷ [])
one_more links modules c k n = record {
  legal = λ m a at. elim (get_push modules c a m at) [ inl old ↦ k.legal m a old | inr new ↦ ap is_settings (sym new.1) ∙ n.legal ];
  names = apart_push (λ (x : ModuleSettings). x.name) modules c k.names
      (λ i a at e. none_at (λ (x : ModuleSettings). bytes_eq x.name c.name) modules n.name i a at ((bytes_eq-Decides a.name c.name).1 e));
  originators = apart_push originator modules c k.originators
      (λ i a at e. none_at (has_originator c.identity) modules n.own i a at (both_true a.identity c.identity e));
  on_links = λ m p h. elim (port_push modules c m p h) [ inl old ↦ k.on_links m p old | inr new ↦ n.ports.on new.place p new.has ];
  addresses = λ m i p q h g e f. elim (port_push modules c m p h) [
    | inl old ↦ elim (port_push modules c i q g) [
      | inl other ↦ k.addresses m i p q old other e f
      | inr new ↦ let no : true ≡ false = sym (stands_taken modules m p q.link q.address old e f) ∙ n.ports.free new.place q new.has in absurd (cc)
    ]
    | inr new ↦ elim (port_push modules c i q g) [
      | inl old ↦ let no : true ≡ false = sym (stands_taken modules i q p.link p.address old (sym e) (sym f)) ∙ n.ports.free new.place p new.has in absurd (cc)
      | inr other ↦
          let place : new.place ≡ other.place = n.ports.alone new.place other.place p q new.has other.has (λ j. record { link = e j; address = f j }) in
          (new.last ∙ sym other.last, some_same p q (sym new.has ∙ ap (slice_get c.ports) place ∙ other.has))
    ]
  ];
}

counted : (a b n : ℕ) → n ≡ (a + 1) + b → n ≡ a + suc b
counted a b n e = omega arith

pub modules_kept : (links : List Link) (modules : List ModuleSettings) (ds : Items) (ms : List ModuleSettings) → AreLinks links → ModulesKept links modules
    → modules_after links modules ds ≡ Ok ms → ModulesKept links ms × (length ms ≡ length modules + item_count ds)
modules_kept links modules no_items ms are k h = let same = same_ok modules ms h in
    (subst (ModulesKept links) same k, let e = ap length same in omega (arith, e))
modules_kept links modules (item d ds) ms are k h =
    let (c, read, h1) = bind_ok (settings_of (length modules + 1) links modules d) (λ c. modules_after links (modules ++ c ∷ []) ds) ms h in
    let rest = modules_kept links (modules ++ c ∷ []) ds ms are (one_more links modules c k (module_new (length modules + 1) links modules d c are read)) h1 in
    (rest.0, counted (length modules) (item_count ds) (length ms) (rest.1 ∙ ap (λ n. n + item_count ds) (length-append modules (c ∷ []))))
