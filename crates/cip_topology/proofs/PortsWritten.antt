-- The ports and the assemblies that a document writes are those that are read.
use Rattle.std.proofs.Common.{◌≡◌, ℕ, zero, suc, ◌+◌, ◌≤◌, Bool, true, false, cond, not, ◌&&◌, ◌||◌, ◌==◌, eqb, List, [], ◌∷◌, ◌++◌, length, Option, Some, None}
use Rattle.std.proofs.Common.{Ok, Err}
use Rattle.std.proofs.Common.{refl, sym, ap, ◌∙◌, subst, arith, nat_le, nat_lt, append_assoc, append-nil, inl, inr, ◌⊎◌, pos}
use Rattle.std.specs.Prelude.{slice_get}
use Rattle.std.specs.List.{list_any, list_all}
use Rattle.std.specs.Str.{bytes_eq}
use Rattle.std.proofs.lemmas.Bool.{and_parts, eq-eqb}
use Rattle.std.proofs.lemmas.Bool.Decides.{nat_tests}
use Rattle.std.proofs.lemmas.Slice.Eq.{bytes_eq-Decides}
use Rattle.toml.specs.Data.{Items, no_items, item, Members, get_member, array, table}
use Rattle.cip_base.specs.declared.limits.TheConstants.{MAX_DATUM}
use Rattle.cip_config.specs.declared.config.LegalAddresses.{LegalAddresses}
use Rattle.cip_config.specs.declared.config.LegalAddresses.TheVariants.{Byte, Text}
use Rattle.cip_config.specs.declared.config.PortConfig.{PortConfig}
use Rattle.cip_config.specs.declared.config.ModuleKind.{ModuleKind}
use Rattle.cip_config.specs.declared.config.ModuleKind.TheVariants.{Plain, Adapter, Indexed}
use Rattle.cip_config.specs.Config.{is_range, is_legal, is_port, is_text_byte, has_number, has_instance, most_ports, is_adapter}
use Rattle.cip_target.specs.declared.config.AssemblyConfig.{AssemblyConfig}
use Rattle.cip_chassis.specs.declared.links.Link.{Link}
use Rattle.cip_topology.specs.declared.key.Key.TheVariants as key
use Rattle.cip_topology.specs.declared.place.Place.{Place}
use Rattle.cip_topology.specs.declared.found.Found.TheVariants as finds
use Rattle.cip_topology.specs.declared.fault.LoadFault.TheVariants.{Range, AddressNotLegal, DoubleAddress, Limit}
use Rattle.cip_topology.specs.Faults.{port_in, assembly_in}
use Rattle.cip_chassis.specs.Plan.{StandsOn, TellsApart}
use Rattle.cip_chassis.specs.Nodes.{is_at}
use Rattle.cip_topology.specs.Words.{word_of}
use Rattle.cip_topology.specs.Documents.{AreTables, HasTables, WritesPort, WritesAssembly, IsPortRange}
use Rattle.cip_topology.specs.Keys.{Read, ◌>>=◌, number_at, text_at, address_at, items_in, items_at, item_count}
use Rattle.cip_topology.specs.PortTables.{new_number, link_from, link_or, link_named, port_on, port_of_table, port_of, ports_after, right_ports}
use Rattle.cip_topology.specs.PortTables.{ports_at, new_instance, assembly_of_table, assembly_of, assemblies_after, at_most, assemblies_at}
use Rattle.cip_chassis.proofs.Before.{Passing, none_passes, get_before, get_here, differ_before}
use Rattle.cip_chassis.proofs.Lists.{differ}
use Rattle.cip_chassis.proofs.Ports.{some_same, any_at}
use Rattle.cip_topology.proofs.Rules.{le_of}
use Rattle.cip_chassis.proofs.WayBack.{is_there}
use Rattle.cip_topology.proofs.Written.{then_ok, if_true, if_false, number_is, text_is, address_is}

-- as many tables as elements
pub as_many : {X : Type 0} (writes : X → Members → Type 0) (xs : List X) (ds : Items) → AreTables writes xs ds → item_count ds ≡ length xs
as_many writes [] no_items w = refl
as_many writes (x ∷ xs) (item d ds) w = ap suc (as_many writes xs ds w.1)
as_many writes [] (item d ds) w = elim w [ ]
as_many writes (x ∷ xs) no_items w = elim w [ ]

-- ---- a port

-- the name of a link finds it
named : (i : ℕ) (links : List Link) (k : ℕ) (l : Link) → TellsApart (λ (x : Link). x.name) links → slice_get links k ≡ Some l
    → link_from i links l.name ≡ Some (i + k, l)
named i [] k l apart at = absurd (cc)
named i (x ∷ links) zero l apart at =
    let same = some_same x l at in
    ap (λ (b : Bool). cond b (Some (i, x)) (link_from (i + 1) links l.name)) ((bytes_eq-Decides x.name l.name).1 (ap (λ (y : Link). y.name) same))
    ∙ ap (λ (y : Link). Some (i, y)) same ∙ ap (λ (n : ℕ). Some (n, l)) (omega arith)
named i (x ∷ links) (suc k) l apart at =
    let other : bytes_eq x.name l.name ≡ false =
    elim (bytes_eq x.name l.name) as (λ b. bytes_eq x.name l.name ≡ b → b ≡ false) [
      | true ↦ λ t. let no : 0 ≡ suc k = apart 0 (suc k) x l refl at ((bytes_eq-Decides x.name l.name).0 t) in absurd (cc)
      | false ↦ λ t. refl
    ] refl in
    ap (λ (b : Bool). cond b (Some (i, x)) (link_from (i + 1) links l.name)) other
    ∙ named (i + 1) links k l (λ p q a b ap' bq e. let same : suc p ≡ suc q = apart (suc p) (suc q) a b ap' bq e in omega (arith, same)) at
    ∙ ap (λ (n : ℕ). Some (n, l)) (omega arith)

named_here : (links : List Link) (k : ℕ) (l : Link) → TellsApart (λ (x : Link). x.name) links → slice_get links k ≡ Some l
    → link_from 0 links l.name ≡ Some (k, l)
named_here links k l apart at = named 0 links k l apart at ∙ ap (λ (n : ℕ). Some (n, l)) (omega arith)

not_back : (b : Bool) → b ≡ true → not b ≡ false
not_back b e = ap not e

neither : (a b : Bool) → a ≡ false → b ≡ false → (a || b) ≡ false
neither a b e f = ap (λ (x : Bool). x || b) e ∙ f

port_is : (place : Place) (links : List Link) (taken : ℕ → List ℕ → Bool) (ports : List PortConfig) (p : PortConfig) (m : Members)
    → WritesPort links p m → TellsApart (λ (x : Link). x.name) links → StandsOn links p → IsPortRange p → is_port p ≡ true
    → list_any (has_number p.number) ports ≡ false → taken p.link p.address ≡ false → list_any (is_at p.link p.address) ports ≡ false
    → port_of place links taken ports (table m) ≡ Ok p
unfolding port_of
port_is place links taken ports p m w apart on range fine new free alone =
    let l = on.link in
    let legal : is_legal l.legal p.address ≡ true = ap (λ (x : LegalAddresses). is_legal x p.address) (sym on.legal)
    ∙ (and_parts (is_range p.legal) (is_legal p.legal p.address) fine).1 in
    let made : ◌≡◌ {A = Read PortConfig} (Ok (record { number = p.number; link = p.link; legal = l.legal; address = p.address })) (Ok p) =
    ap (λ (x : LegalAddresses). Ok (record { number = p.number; link = p.link; legal = x; address = p.address })) (sym on.legal) in
    then_ok (number_at place key.Number 1 65535 m) (λ n. new_number place ports n >>= λ number. (text_at (λ s. true) place key.Link m >>= λ name.
    (address_at place m >>= λ address. (link_named place links name >>= port_on place taken ports number address)))) p.number (Ok p)
    (number_is place key.Number 1 65535 p.number m w.number range.least range.most)
    (then_ok (new_number place ports p.number) (λ number. text_at (λ s. true) place key.Link m >>= λ name.
    (address_at place m >>= λ address. (link_named place links name >>= port_on place taken ports number address))) p.number (Ok p)
    (if_false (list_any (has_number p.number) ports) _ (Ok p.number) new)
    (then_ok (text_at (λ s. true) place key.Link m) (λ name.
    address_at place m >>= λ address. (link_named place links name >>= port_on place taken ports p.number address)) l.name (Ok p)
    (text_is (λ s. true) place key.Link l.name m (w.link l on.at) refl)
    (then_ok (address_at place m) (λ address. link_named place links l.name >>= port_on place taken ports p.number address) p.address (Ok p)
    (address_is place p.address m w.address range.some range.short)
    (then_ok (link_named place links l.name) (port_on place taken ports p.number p.address) (p.link, l) (Ok p)
    (ap (link_or place l.name) (named_here links p.link l apart on.at))
    (if_false (not (is_legal l.legal p.address)) _ _ (not_back (is_legal l.legal p.address) legal)
    ∙ (if_false (taken p.link p.address || list_any (is_at p.link p.address) ports) _ _
    (neither (taken p.link p.address) (list_any (is_at p.link p.address) ports) free alone) ∙ made))))))

-- ---- the ports of a module

-- these ports are in order, behind those
pub record AreGood (links : List Link) (taken : ℕ → List ℕ → Bool) (ports ps : List PortConfig) : Type 0 where
  pub range : (i : ℕ) (p : PortConfig) → slice_get ps i ≡ Some p → IsPortRange p
  pub fine : (i : ℕ) (p : PortConfig) → slice_get ps i ≡ Some p → is_port p ≡ true
  pub on : (i : ℕ) (p : PortConfig) → slice_get ps i ≡ Some p → StandsOn links p
  pub free : (i : ℕ) (p : PortConfig) → slice_get ps i ≡ Some p → taken p.link p.address ≡ false
  pub numbers : differ (λ (p : PortConfig). p.number) (ports ++ ps) ≡ true
  -- two of them with one address on one link are one
  pub alone : (i j : ℕ) (p q : PortConfig) → slice_get (ports ++ ps) i ≡ Some p → slice_get (ports ++ ps) j ≡ Some q
      → p.link ≡ q.link → p.address ≡ q.address → p ≡ q

ports_are : (place : Place) (links : List Link) (taken : ℕ → List ℕ → Bool) (ports ps : List PortConfig) (ds : Items)
    → TellsApart (λ (x : Link). x.name) links → AreTables (WritesPort links) ps ds → AreGood links taken ports ps
    → ports_after place links taken ports ds ≡ Ok (ports ++ ps)
ports_are place links taken ports [] no_items apart w good = ap (λ (x : List PortConfig). Ok x) (sym (append-nil ports))
ports_are place links taken ports [] (item d ds) apart w good = elim w [ ]
ports_are place links taken ports (p ∷ ps) no_items apart w good = elim w [ ]
ports_are place links taken ports (p ∷ ps) (item d ds) apart w good =
    let here = port_in place (length ports + 1) in
    let whole : (ports ++ p ∷ []) ++ ps ≡ ports ++ p ∷ ps = append_assoc ports (p ∷ []) ps in
    let new : list_any (has_number p.number) ports ≡ false = differ_before (λ (x : PortConfig). x.number) ports ps p good.numbers in
    let alone : list_any (is_at p.link p.address) ports ≡ false = none_passes (is_at p.link p.address) ports (λ q.
    let there = is_there p.link p.address q.one q.passes in
    let same : q.one ≡ p = good.alone q.place (length ports) q.one p (get_before ports (p ∷ ps) q.place q.one q.at) (get_here ports ps p) there.0 there.1 in
    let number : eqb q.one.number p.number ≡ true = eq-eqb q.one.number p.number (ap (λ (x : PortConfig). x.number) same) in
    let no : true ≡ false = sym (any_at (has_number p.number) ports q.place q.one q.at number) ∙ new in cc) in
    then_ok (port_of here links taken ports d) (λ x. ports_after place links taken (ports ++ x ∷ []) ds) p (Ok (ports ++ p ∷ ps))
    (ap (port_of here links taken ports) w.0.is ∙ port_is here links taken ports p w.0.members w.0.written apart
    (good.on 0 p refl) (good.range 0 p refl) (good.fine 0 p refl) new (good.free 0 p refl) alone)
    (ports_are place links taken (ports ++ p ∷ []) ps ds apart w.1 (record {
      range = λ i q at. good.range (suc i) q at;
      fine = λ i q at. good.fine (suc i) q at;
      on = λ i q at. good.on (suc i) q at;
      free = λ i q at. good.free (suc i) q at;
      numbers = ap (differ (λ (x : PortConfig). x.number)) whole ∙ good.numbers;
      alone = λ i j q r at bt. good.alone i j q r (ap (λ (x : List PortConfig). slice_get x i) (sym whole) ∙ at)
          (ap (λ (x : List PortConfig). slice_get x j) (sym whole) ∙ bt);
    }) ∙ ap (λ (x : List PortConfig). Ok x) whole)

not_none : (n : ℕ) → nat_le 1 n ≡ true → (n == 0) ≡ false
not_none n h = grind (arith, nat_tests)

few : (n : ℕ) → nat_le n 8 ≡ true → nat_lt 8 n ≡ false
few n h = grind (arith, nat_tests)

none_or_many : (kind : ModuleKind) (n : ℕ) → nat_le 1 n ≡ true → nat_le n (most_ports kind) ≡ true
    → (nat_lt 8 n ≡ false) × (((n == 0) || (is_adapter kind && nat_lt 1 n)) ≡ false)
none_or_many Plain n some most = (few n most, neither (n == 0) false (not_none n some) refl)
none_or_many Adapter n some most = (grind (arith, nat_tests), neither (n == 0) (nat_lt 1 n) (not_none n some) (grind (arith, nat_tests)))
none_or_many Indexed n some most = (few n most, neither (n == 0) false (not_none n some) refl)

pub ports_written : (place : Place) (links : List Link) (taken : ℕ → List ℕ → Bool) (kind : ModuleKind) (m : Members) (ps : List PortConfig)
    → TellsApart (λ (x : Link). x.name) links → HasTables (WritesPort links) key.Port ps m → AreGood links taken [] ps
    → nat_le 1 (length ps) ≡ true → nat_le (length ps) (most_ports kind) ≡ true → ports_at place links taken kind m ≡ Ok ps
ports_written place links taken kind m ps apart w good some most =
    let count : length ps ≡ item_count w.items = sym (as_many (WritesPort links) ps w.items w.are) in
    let right = none_or_many kind (item_count w.items) (ap (nat_le 1) (sym count) ∙ some) (ap (λ (n : ℕ). nat_le n (most_ports kind)) (sym count) ∙ most) in
    then_ok (items_at place key.Port m) (λ items. right_ports place kind items >>= ports_after place links taken []) w.items (Ok ps)
    (ap (items_in place key.Port) w.at)
    (then_ok (right_ports place kind w.items) (ports_after place links taken []) w.items (Ok ps)
    (if_false (nat_lt 8 (item_count w.items)) _ _ right.0
    ∙ if_false ((item_count w.items == 0) || (is_adapter kind && nat_lt 1 (item_count w.items))) _ (Ok w.items) right.1)
    (ports_are place links taken [] ps w.items apart w.are good))

-- ---- the assemblies of a module

pub record AreGoodAssemblies (assemblies as' : List AssemblyConfig) : Type 0 where
  pub least : (i : ℕ) (a : AssemblyConfig) → slice_get as' i ≡ Some a → 1 ≤ a.instance
  pub most : (i : ℕ) (a : AssemblyConfig) → slice_get as' i ≡ Some a → a.instance ≤ 65535
  pub size : (i : ℕ) (a : AssemblyConfig) → slice_get as' i ≡ Some a → a.size ≤ MAX_DATUM
  pub instances : differ (λ (a : AssemblyConfig). a.instance) (assemblies ++ as') ≡ true

assembly_is : (place : Place) (assemblies : List AssemblyConfig) (a : AssemblyConfig) (m : Members) → WritesAssembly a m
    → 1 ≤ a.instance → a.instance ≤ 65535 → a.size ≤ MAX_DATUM → list_any (has_instance a.instance) assemblies ≡ false
    → assembly_of place assemblies (table m) ≡ Ok a
unfolding assembly_of
assembly_is place assemblies a m w least most size new =
    then_ok (number_at place key.Instance 1 65535 m) (λ n. new_instance place assemblies n >>= λ instance.
    (number_at place key.Size 0 MAX_DATUM m >>= λ size. Ok (record { instance = instance; size = size }))) a.instance (Ok a)
    (number_is place key.Instance 1 65535 a.instance m w.instance least most)
    (then_ok (new_instance place assemblies a.instance) (λ instance.
    number_at place key.Size 0 MAX_DATUM m >>= λ size. Ok (record { instance = instance; size = size })) a.instance (Ok a)
    (if_false (list_any (has_instance a.instance) assemblies) _ (Ok a.instance) new)
    (then_ok (number_at place key.Size 0 MAX_DATUM m) (λ size. Ok (record { instance = a.instance; size = size })) a.size (Ok a)
    (number_is place key.Size 0 MAX_DATUM a.size m w.size (omega arith) size) refl))

assemblies_are : (place : Place) (assemblies as' : List AssemblyConfig) (ds : Items) → AreTables WritesAssembly as' ds
    → AreGoodAssemblies assemblies as' → assemblies_after place assemblies ds ≡ Ok (assemblies ++ as')
assemblies_are place assemblies [] no_items w good = ap (λ (x : List AssemblyConfig). Ok x) (sym (append-nil assemblies))
assemblies_are place assemblies [] (item d ds) w good = elim w [ ]
assemblies_are place assemblies (a ∷ as') no_items w good = elim w [ ]
assemblies_are place assemblies (a ∷ as') (item d ds) w good =
    let here = assembly_in place (length assemblies + 1) in
    let whole : (assemblies ++ a ∷ []) ++ as' ≡ assemblies ++ a ∷ as' = append_assoc assemblies (a ∷ []) as' in
    then_ok (assembly_of here assemblies d) (λ x. assemblies_after place (assemblies ++ x ∷ []) ds) a (Ok (assemblies ++ a ∷ as'))
    (ap (assembly_of here assemblies) w.0.is ∙ assembly_is here assemblies a w.0.members w.0.written
    (good.least 0 a refl) (good.most 0 a refl) (good.size 0 a refl)
    (differ_before (λ (x : AssemblyConfig). x.instance) assemblies as' a good.instances))
    (assemblies_are place (assemblies ++ a ∷ []) as' ds w.1 (record {
      least = λ i b at. good.least (suc i) b at;
      most = λ i b at. good.most (suc i) b at;
      size = λ i b at. good.size (suc i) b at;
      instances = ap (differ (λ (x : AssemblyConfig). x.instance)) whole ∙ good.instances;
    }) ∙ ap (λ (x : List AssemblyConfig). Ok x) whole)

not_many : (n : ℕ) → nat_le n 64 ≡ true → nat_lt 64 n ≡ false
not_many n h = grind (arith, nat_tests)

pub assemblies_written : (place : Place) (m : Members) (as' : List AssemblyConfig)
    → HasTables WritesAssembly key.Assembly as' m ⊎ ((get_member (word_of key.Assembly) m ≡ None) × (as' ≡ []))
    → AreGoodAssemblies [] as' → nat_le (length as') 64 ≡ true → assemblies_at place m ≡ Ok as'
assemblies_written place m as' (inl w) good most =
    let count : length as' ≡ item_count w.items = sym (as_many WritesAssembly as' w.items w.are) in
    then_ok (items_at place key.Assembly m) (λ items. at_most place key.Assembly 64 items >>= assemblies_after place []) w.items (Ok as')
    (ap (items_in place key.Assembly) w.at)
    (then_ok (at_most place key.Assembly 64 w.items) (assemblies_after place []) w.items (Ok as')
    (if_false (nat_lt 64 (item_count w.items)) _ (Ok w.items) (not_many (item_count w.items) (ap (λ (n : ℕ). nat_le n 64) (sym count) ∙ most)))
    (assemblies_are place [] as' w.items w.are good))
assemblies_written place m as' (inr none) good most =
    then_ok (items_at place key.Assembly m) (λ items. at_most place key.Assembly 64 items >>= assemblies_after place []) no_items (Ok as')
    (ap (items_in place key.Assembly) none.0) (ap (λ (x : List AssemblyConfig). Ok x) (sym none.1))
