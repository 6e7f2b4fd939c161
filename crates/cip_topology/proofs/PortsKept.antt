-- The ports and the assemblies that are read keep the rules of a module's ports and assemblies.
use Rattle.std.proofs.Common.{◌≡◌, ℕ, suc, ◌+◌, ◌≤◌, Bool, true, false, cond, not, ◌&&◌, ◌||◌, ◌==◌, eqb, List, [], ◌∷◌, ◌++◌, length}
use Rattle.std.proofs.Common.{Option, Some, None, Ok, refl, sym, ap, ◌∙◌, subst, arith, nat_le, nat_lt, inl, inr, length-append}
use Rattle.std.specs.Prelude.{slice_get}
use Rattle.std.specs.List.{list_all, list_any}
use Rattle.std.specs.Str.{bytes_eq}
use Rattle.std.proofs.lemmas.Bool.{and_from}
use Rattle.std.proofs.lemmas.Bool.Decides.{nat_tests}
use Rattle.toml.specs.Data.{Data, Items, no_items, item, Members}
use Rattle.cip_base.specs.declared.limits.TheConstants.{MAX_DATUM}
use Rattle.cip_config.specs.declared.config.PortConfig.{PortConfig}
use Rattle.cip_config.specs.declared.config.ModuleKind.{ModuleKind}
use Rattle.cip_config.specs.declared.config.ModuleKind.TheVariants.{Plain, Adapter, Indexed}
use Rattle.cip_config.specs.Config.{is_range, is_legal, is_port, has_number, numbers_differ, has_instance}
use Rattle.cip_config.specs.Config.{instances_differ, are_ports, are_assemblies, most_ports, is_adapter}
use Rattle.cip_target.specs.declared.config.AssemblyConfig.{AssemblyConfig}
use Rattle.cip_target.specs.Assemblies.{is_assembly}
use Rattle.cip_chassis.specs.declared.links.Link.{Link}
use Rattle.cip_chassis.specs.declared.seats.Spot.{Spot}
use Rattle.cip_topology.specs.declared.key.Key.TheVariants as key
use Rattle.cip_topology.specs.declared.place.Place.{Place}
use Rattle.cip_topology.specs.Faults.{port_in, assembly_in}
use Rattle.cip_chassis.specs.Plan.{AreLinks, StandsOn, TellsApart}
use Rattle.cip_chassis.specs.Nodes.{is_at}
use Rattle.cip_chassis.specs.Seats.{spot_of}
use Rattle.cip_topology.specs.Keys.{◌>>=◌, number_at, text_at, address_at, items_at, item_count, table_of}
use Rattle.cip_topology.specs.PortTables.{new_number, link_from, link_or, link_named, port_on, port_of_table, port_of, ports_after, right_ports}
use Rattle.cip_topology.specs.PortTables.{ports_at, new_instance, assembly_of_table, assembly_of, assemblies_after, at_most, assemblies_at}
use Rattle.cip_chassis.proofs.Ports.{some_same}
use Rattle.cip_chassis.proofs.WayBack.{there_is}
use Rattle.cip_chassis.proofs.Lists.{get_push, none_at, apart_push, all_push, differ, differ_push}
use Rattle.cip_topology.proofs.Rules.{bind_ok, same_ok, passed, le_true, not_over, number_bounds}

-- ---- numbers that differ

pub numbers_are : (ps : List PortConfig) → numbers_differ ps ≡ differ (λ (p : PortConfig). p.number) ps
numbers_are [] = refl
numbers_are (p ∷ ps) = ap (λ b. not (list_any (has_number p.number) ps) && b) (numbers_are ps)

pub instances_are : (as' : List AssemblyConfig) → instances_differ as' ≡ differ (λ (a : AssemblyConfig). a.instance) as'
instances_are [] = refl
instances_are (a ∷ as') = ap (λ b. not (list_any (has_instance a.instance) as') && b) (instances_are as')

numbers_push : (ps : List PortConfig) (p : PortConfig) → numbers_differ ps ≡ true → list_any (has_number p.number) ps ≡ false
    → numbers_differ (ps ++ p ∷ []) ≡ true
numbers_push ps p h new = numbers_are (ps ++ p ∷ []) ∙ differ_push (λ (q : PortConfig). q.number) ps p (sym (numbers_are ps) ∙ h) new

instances_push : (as' : List AssemblyConfig) (a : AssemblyConfig) → instances_differ as' ≡ true → list_any (has_instance a.instance) as' ≡ false
    → instances_differ (as' ++ a ∷ []) ≡ true
instances_push as' a h new = instances_are (as' ++ a ∷ []) ∙ differ_push (λ (b : AssemblyConfig). b.instance) as' a (sym (instances_are as') ∙ h) new

-- ---- one port

record LinkFound (i : ℕ) (links : List Link) (found : ℕ × Link) : Type 0 where
  offset : ℕ
  place_is : found.0 ≡ i + offset
  at : slice_get links offset ≡ Some found.1

link_found : (i : ℕ) (links : List Link) (name : List ℕ) (found : ℕ × Link) → link_from i links name ≡ Some found → LinkFound i links found
link_found i [] name found h = absurd (cc)
link_found i (l ∷ ls) name found h = by_name (λ e. link_found (i + 1) ls name found e) (bytes_eq l.name name) h
  where
    later : LinkFound (i + 1) ls found → LinkFound i (l ∷ ls) found
    later f = record { offset = suc f.offset; place_is = let e = f.place_is in omega (arith, e); at = f.at }

    here : ◌≡◌ {A = ℕ × Link} (i, l) found → LinkFound i (l ∷ ls) found
    here e = record { offset = 0; place_is = let p : i ≡ found.0 = ap (λ (x : ℕ × Link). x.0) e in omega (arith, p); at = ap (λ (x : ℕ × Link). Some x.1) e }

    by_name : (link_from (i + 1) ls name ≡ Some found → LinkFound (i + 1) ls found) → (b : Bool)
        → cond b (Some (i, l)) (link_from (i + 1) ls name) ≡ Some found → LinkFound i (l ∷ ls) found
    by_name more true e = here (some_same (i, l) found e)
    by_name more false e = later (more e)

named_found : (place : Place) (links : List Link) (name : List ℕ) (found : ℕ × Link) → link_named place links name ≡ Ok found
    → slice_get links found.0 ≡ Some found.1
named_found place links name found h = by_found (link_from 0 links name) refl h
  where
    by_found : (o : Option (ℕ × Link)) → link_from 0 links name ≡ o → link_or place name o ≡ Ok found → slice_get links found.0 ≡ Some found.1
    by_found None e s = absurd (cc)
    by_found (Some f) e s =
        let same = same_ok f found s in
        let at = link_found 0 links name found (e ∙ ap (λ (x : ℕ × Link). Some x) same) in
        let place_is : found.0 ≡ at.offset = let p = at.place_is in omega (arith, p) in
        ap (slice_get links) place_is ∙ at.at

-- a port that was read, after these of its module
record IsNew (links : List Link) (taken : ℕ → List ℕ → Bool) (ports : List PortConfig) (p : PortConfig) : Type 0 where
  is_one : is_port p ≡ true
  number : list_any (has_number p.number) ports ≡ false
  on : StandsOn links p
  free : taken p.link p.address ≡ false
  alone : list_any (is_at p.link p.address) ports ≡ false

or_parts : (a b : Bool) → (a || b) ≡ false → (a ≡ false) × (b ≡ false)
or_parts true b h = cc
or_parts false b h = (refl, h)

not_false : (b : Bool) → not b ≡ false → b ≡ true
not_false true h = refl
not_false false h = sym h

on_new : (place : Place) (links : List Link) (taken : ℕ → List ℕ → Bool) (ports : List PortConfig) (number : ℕ)
    (address : List ℕ) (found : ℕ × Link) (p : PortConfig)
    → AreLinks links → slice_get links found.0 ≡ Some found.1 → list_any (has_number number) ports ≡ false
    → port_on place taken ports number address found ≡ Ok p → IsNew links taken ports p
on_new place links taken ports number address found p are at new h =
    let (legal, h1) = passed (not (is_legal found.1.legal address)) _ _ p h in
    let (free, h2) = passed (taken found.0 address || list_any (is_at found.0 address) ports) _ _ p h1 in
    let parts = or_parts (taken found.0 address) (list_any (is_at found.0 address) ports) free in
    let port : PortConfig = record { number = number; link = found.0; legal = found.1.legal; address = address } in
    let same : port ≡ p = same_ok port p h2 in
    subst (IsNew links taken ports) same (record {
      is_one = and_from (is_range found.1.legal) (is_legal found.1.legal address) (are found.0 found.1 at).1 (not_false (is_legal found.1.legal address) legal);
      number = new;
      on = record { link = found.1; at = at; legal = refl };
      free = parts.0;
      alone = parts.1;
    })

table_new : (place : Place) (links : List Link) (taken : ℕ → List ℕ → Bool) (ports : List PortConfig) (m : Members) (p : PortConfig) → AreLinks links
    → port_of_table place links taken ports m ≡ Ok p → IsNew links taken ports p
table_new place links taken ports m p are h =
    let (n, numbers, h1) = bind_ok (number_at place key.Number 1 65535 m) (λ n.
    new_number place ports n >>= λ number. (text_at (λ s. true) place key.Link m >>= λ name. (address_at place m >>= λ address.
    (link_named place links name >>= port_on place taken ports number address)))) p h in
    let (number, new, h2) = bind_ok (new_number place ports n) (λ number.
    text_at (λ s. true) place key.Link m >>= λ name.
    (address_at place m >>= λ address. (link_named place links name >>= port_on place taken ports number address))) p h1 in
    let (name, names, h3) = bind_ok (text_at (λ s. true) place key.Link m) (λ name.
    address_at place m >>= λ address. (link_named place links name >>= port_on place taken ports number address)) p h2 in
    let (address, addresses, h4) = bind_ok (address_at place m) (λ address. link_named place links name >>= port_on place taken ports number address) p h3 in
    let (found, on, h5) = bind_ok (link_named place links name) (port_on place taken ports number address) p h4 in
    let (none, same_number) = passed (list_any (has_number n) ports) _ (Ok n) number new in
    let same = same_ok n number same_number in
    on_new place links taken ports number address found p are (named_found place links name found on)
    (ap (λ (k : ℕ). list_any (has_number k) ports) (sym same) ∙ none) h5

port_new : (place : Place) (links : List Link) (taken : ℕ → List ℕ → Bool) (ports : List PortConfig) (d : Data) (p : PortConfig) → AreLinks links
    → port_of place links taken ports d ≡ Ok p → IsNew links taken ports p
unfolding port_of
port_new place links taken ports d p are h =
    let (m, table, h1) = bind_ok (table_of place key.Port d) (port_of_table place links taken ports) p h in
    table_new place links taken ports m p are h1

-- ---- the ports of a module

pub record PortsKept (links : List Link) (taken : ℕ → List ℕ → Bool) (ports : List PortConfig) : Type 0 where
  pub each : list_all is_port ports ≡ true
  pub numbers : numbers_differ ports ≡ true
  pub on : (i : ℕ) (p : PortConfig) → slice_get ports i ≡ Some p → StandsOn links p
  pub free : (i : ℕ) (p : PortConfig) → slice_get ports i ≡ Some p → taken p.link p.address ≡ false
  pub alone : TellsApart spot_of ports

no_ports : (links : List Link) (taken : ℕ → List ℕ → Bool) → PortsKept links taken []
no_ports links taken = record { each = refl; numbers = refl; on = λ i p e. absurd (cc); free = λ i p e. absurd (cc); alone = λ i j a b at bt e. absurd (cc) }

one_more : (links : List Link) (taken : ℕ → List ℕ → Bool) (ports : List PortConfig) (p : PortConfig) → PortsKept links taken ports → IsNew links taken ports p
    → PortsKept links taken (ports ++ p ∷ [])
one_more links taken ports p k n = record {
  each = all_push is_port ports p k.each n.is_one;
  numbers = numbers_push ports p k.numbers n.number;
  on = λ i a at. elim (get_push ports p a i at) [ inl old ↦ k.on i a old | inr new ↦ subst (StandsOn links) new.1 n.on ];
  free = λ i a at. elim (get_push ports p a i at) [
    | inl old ↦ k.free i a old
    | inr new ↦ ap (λ (x : PortConfig). taken x.link x.address) (sym new.1) ∙ n.free
  ];
  alone = apart_push spot_of ports p k.alone
      (λ i a at e. none_at (is_at p.link p.address) ports n.alone i a at
      (there_is p.link p.address a (ap (λ (s : Spot). s.link) e) (ap (λ (s : Spot). s.address) e)));
}

counted : (a b n : ℕ) → n ≡ (a + 1) + b → n ≡ a + suc b
counted a b n e = omega arith

after_kept : (place : Place) (links : List Link) (taken : ℕ → List ℕ → Bool) (ports : List PortConfig) (ds : Items) (ps : List PortConfig)
    → AreLinks links → PortsKept links taken ports
    → ports_after place links taken ports ds ≡ Ok ps → PortsKept links taken ps × (length ps ≡ length ports + item_count ds)
after_kept place links taken ports no_items ps are k h = let same = same_ok ports ps h in
    (subst (PortsKept links taken) same k, let e = ap length same in omega (arith, e))
after_kept place links taken ports (item d ds) ps are k h =
    let inside = port_in place (length ports + 1) in
    let (p, read, h1) = bind_ok (port_of inside links taken ports d) (λ p. ports_after place links taken (ports ++ p ∷ []) ds) ps h in
    let rest = after_kept place links taken (ports ++ p ∷ []) ds ps are (one_more links taken ports p k (port_new inside links taken ports d p are read)) h1 in
    (rest.0, counted (length ports) (item_count ds) (length ps) (rest.1 ∙ ap (λ n. n + item_count ds) (length-append ports (p ∷ []))))

some_one : (n : ℕ) → (n == 0) ≡ false → 1 ≤ n
some_one n h = grind (arith, nat_tests)

fits : (kind : ModuleKind) (n : ℕ) → nat_lt 8 n ≡ false → (is_adapter kind && nat_lt 1 n) ≡ false → nat_le n (most_ports kind) ≡ true
fits Plain n few one = le_true n 8 (not_over 8 n few)
fits Adapter n few one = le_true n 1 (not_over 1 n one)
fits Indexed n few one = le_true n 8 (not_over 8 n few)

right_fits : (place : Place) (kind : ModuleKind) (items es : Items) → right_ports place kind items ≡ Ok es
    → (items ≡ es) × (nat_le 1 (item_count items) ≡ true) × (nat_le (item_count items) (most_ports kind) ≡ true)
right_fits place kind items es h =
    let (few, h1) = passed (nat_lt 8 (item_count items)) _ _ es h in
    let (some, h2) = passed (eqb (item_count items) 0 || (is_adapter kind && nat_lt 1 (item_count items))) _ (Ok items) es h1 in
    let parts = or_parts (eqb (item_count items) 0) (is_adapter kind && nat_lt 1 (item_count items)) some in
    (same_ok items es h2, le_true 1 (item_count items) (some_one (item_count items) parts.0), fits kind (item_count items) few parts.1)

pub ports_kept : (place : Place) (links : List Link) (taken : ℕ → List ℕ → Bool) (kind : ModuleKind) (m : Members) (ps : List PortConfig) → AreLinks links
    → ports_at place links taken kind m ≡ Ok ps → PortsKept links taken ps × (are_ports kind ps ≡ true)
ports_kept place links taken kind m ps are h =
    let (items, found, h1) = bind_ok (items_at place key.Port m) (λ items. right_ports place kind items >>= ports_after place links taken []) ps h in
    let (es, right, h2) = bind_ok (right_ports place kind items) (ports_after place links taken []) ps h1 in
    let fit = right_fits place kind items es right in
    let all = after_kept place links taken [] es ps are (no_ports links taken) h2 in
    let count : item_count items ≡ length ps = let e = all.1 in let f = ap item_count fit.0 in omega (arith, e, f) in (
      all.0,
      and_from (nat_le 1 (length ps)) _ (ap (nat_le 1) (sym count) ∙ fit.1)
          (and_from (nat_le (length ps) (most_ports kind)) _ (ap (λ n. nat_le n (most_ports kind)) (sym count) ∙ fit.2)
          (and_from (list_all is_port ps) (numbers_differ ps) all.0.each all.0.numbers)),
    )

-- ---- the assemblies of a module

record IsNewAssembly (assemblies : List AssemblyConfig) (a : AssemblyConfig) : Type 0 where
  is_one : is_assembly a ≡ true
  instance : list_any (has_instance a.instance) assemblies ≡ false

assembly_table_new : (place : Place) (assemblies : List AssemblyConfig) (m : Members) (a : AssemblyConfig)
    → assembly_of_table place assemblies m ≡ Ok a → IsNewAssembly assemblies a
assembly_table_new place assemblies m a h =
    let (n, instances, h1) = bind_ok (number_at place key.Instance 1 65535 m) (λ n.
    new_instance place assemblies n >>= λ instance.
    (number_at place key.Size 0 MAX_DATUM m >>= λ size. Ok (record { instance = instance; size = size }))) a h in
    let (i, new, h2) = bind_ok (new_instance place assemblies n)
    (λ instance. number_at place key.Size 0 MAX_DATUM m >>= λ size. Ok (record { instance = instance; size = size })) a h1 in
    let (size, sizes, h3) = bind_ok (number_at place key.Size 0 MAX_DATUM m) (λ size. Ok (record { instance = i; size = size })) a h2 in
    let (none, same_number) = passed (list_any (has_instance n) assemblies) _ (Ok n) i new in
    let same_i = same_ok n i same_number in
    let low = number_bounds place key.Instance 1 65535 m n instances in
    let high = number_bounds place key.Size 0 MAX_DATUM m size sizes in
    let same : record { instance = i; size = size } ≡ a = same_ok _ a h3 in
    subst (IsNewAssembly assemblies) same (record {
      is_one = and_from (nat_le 1 i) (nat_le size MAX_DATUM) (ap (nat_le 1) (sym same_i) ∙ le_true 1 n low.0) (le_true size MAX_DATUM high.1);
      instance = ap (λ (k : ℕ). list_any (has_instance k) assemblies) (sym same_i) ∙ none;
    })

assembly_new : (place : Place) (assemblies : List AssemblyConfig) (d : Data) (a : AssemblyConfig) → assembly_of place assemblies d ≡ Ok a
    → IsNewAssembly assemblies a
unfolding assembly_of
assembly_new place assemblies d a h =
    let (m, table, h1) = bind_ok (table_of place key.Assembly d) (assembly_of_table place assemblies) a h in
    assembly_table_new place assemblies m a h1

record AssembliesKept (assemblies : List AssemblyConfig) : Type 0 where
  each : list_all is_assembly assemblies ≡ true
  instances : instances_differ assemblies ≡ true

assemblies_after_kept : (place : Place) (assemblies : List AssemblyConfig) (ds : Items) (all : List AssemblyConfig) → AssembliesKept assemblies
    → assemblies_after place assemblies ds ≡ Ok all → AssembliesKept all × (length all ≡ length assemblies + item_count ds)
assemblies_after_kept place assemblies no_items all k h = let same = same_ok assemblies all h in
    (subst AssembliesKept same k, let e = ap length same in omega (arith, e))
assemblies_after_kept place assemblies (item d ds) all k h =
    let inside = assembly_in place (length assemblies + 1) in
    let (a, read, h1) = bind_ok (assembly_of inside assemblies d) (λ a. assemblies_after place (assemblies ++ a ∷ []) ds) all h in
    let n = assembly_new inside assemblies d a read in
    let more : AssembliesKept (assemblies ++ a ∷ []) = record {
      each = all_push is_assembly assemblies a k.each n.is_one;
      instances = instances_push assemblies a k.instances n.instance;
    } in
    let rest = assemblies_after_kept place (assemblies ++ a ∷ []) ds all more h1 in
    (rest.0, counted (length assemblies) (item_count ds) (length all) (rest.1 ∙ ap (λ n. n + item_count ds) (length-append assemblies (a ∷ []))))

pub assemblies_kept : (place : Place) (m : Members) (all : List AssemblyConfig) → assemblies_at place m ≡ Ok all → are_assemblies all ≡ true
assemblies_kept place m all h =
    let (items, found, h1) = bind_ok (items_at place key.Assembly m) (λ items. at_most place key.Assembly 64 items >>= assemblies_after place []) all h in
    let (es, few, h2) = bind_ok (at_most place key.Assembly 64 items) (assemblies_after place []) all h1 in
    let (room, same_items) = passed (nat_lt 64 (item_count items)) _ (Ok items) es few in
    let rest = assemblies_after_kept place [] es all (record { each = refl; instances = refl }) h2 in
    let count : item_count items ≡ length all = let e = rest.1 in let f = ap item_count (same_ok items es same_items) in omega (arith, e, f) in
    and_from (nat_le (length all) 64) _ (ap (λ n. nat_le n 64) (sym count) ∙ le_true (item_count items) 64 (not_over 64 (item_count items) room))
    (and_from (list_all is_assembly all) (instances_differ all) rest.0.each rest.0.instances)
