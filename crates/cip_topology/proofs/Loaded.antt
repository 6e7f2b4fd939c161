-- The topology that a document writes is the one that is read.
use Rattle.std.proofs.Common.{◌≡◌, ℕ, ◌≤◌, false, eqb, List, [], length, Ok}
use Rattle.std.proofs.Common.{refl, sym, subst, arith, nat_lt}
use Rattle.std.proofs.lemmas.Bool.Decides.{nat_tests}
use Rattle.toml.specs.Data.{Members, array}
use Rattle.cip_topology.specs.declared.key.Key.{Key}
use Rattle.cip_topology.specs.declared.key.Key.TheVariants as key
use Rattle.cip_topology.specs.declared.place.Place.TheVariants.{File}
use Rattle.cip_chassis.specs.Plan.{Plan, IsTopology}
use Rattle.cip_topology.specs.Documents.{HasTables, HasTypes, Writes, WritesLink, WritesModule}
use Rattle.cip_topology.specs.Keys.{◌>>=◌, value_at, array_of, item_count}
use Rattle.cip_topology.specs.LinkTables.{links_after}
use Rattle.cip_topology.specs.PortTables.{at_most}
use Rattle.cip_topology.specs.ModuleTables.{modules_after}
use Rattle.cip_topology.proofs.LinksWritten.{links_are}
use Rattle.cip_topology.proofs.PortsWritten.{as_many}
use Rattle.cip_topology.proofs.Written.{then_ok, if_false, value_is}
use Rattle.cip_topology.specs.Files.{tables_at, some_items, plan_with, topology_of}
use Rattle.cip_topology.proofs.ModulesWritten.{modules_are}

some_are : (n : ℕ) → 1 ≤ n → eqb n 0 ≡ false
some_are n h = grind (arith, nat_tests)

not_more : (n most : ℕ) → n ≤ most → nat_lt most n ≡ false
not_more n most h = grind (arith, nat_tests)

tables_are : {X : Type 0} (writes : X → Members → Type 0) (k : Key) (xs : List X) (m : Members) (w : HasTables writes k xs m) → 1 ≤ length xs
    → tables_at k m ≡ Ok w.items
tables_are writes k xs m w some =
    then_ok (value_at File k m) (λ d. array_of File k d >>= some_items k) (array w.items) (Ok w.items) (value_is File k m (array w.items) w.at)
    (if_false (eqb (item_count w.items) 0) _ (Ok w.items)
    (some_are (item_count w.items) (subst (λ (n : ℕ). 1 ≤ n) (sym (as_many writes xs w.items w.are)) some)))

pub loaded : (t : Plan) → IsTopology t → HasTypes t → (m : Members) → Writes t m → topology_of m ≡ Ok t
loaded t is has m w =
    let links = w.links in
    let modules = w.modules in
    let link_count = as_many WritesLink t.links links.items links.are in
    let module_count = as_many (WritesModule t.links) t.modules modules.items modules.are in
    then_ok (tables_at key.Link m) (λ ls. tables_at key.Module m >>= λ ms. (at_most File key.Link 32 ls >>= λ few.
    (at_most File key.Module 64 ms >>= λ some. plan_with ls ms))) links.items (Ok t)
    (tables_are WritesLink key.Link t.links m links is.some_links)
    (then_ok (tables_at key.Module m) (λ ms. at_most File key.Link 32 links.items >>= λ few.
    (at_most File key.Module 64 ms >>= λ some. plan_with links.items ms)) modules.items (Ok t)
    (tables_are (WritesModule t.links) key.Module t.modules m modules is.some_modules)
    (then_ok (at_most File key.Link 32 links.items) (λ few. at_most File key.Module 64 modules.items >>= λ some. plan_with links.items modules.items)
    links.items (Ok t)
    (if_false (nat_lt 32 (item_count links.items)) _ (Ok links.items)
    (not_more (item_count links.items) 32 (subst (λ (n : ℕ). n ≤ 32) (sym link_count) is.few_links)))
    (then_ok (at_most File key.Module 64 modules.items) (λ some. plan_with links.items modules.items) modules.items (Ok t)
    (if_false (nat_lt 64 (item_count modules.items)) _ (Ok modules.items)
    (not_more (item_count modules.items) 64 (subst (λ (n : ℕ). n ≤ 64) (sym module_count) is.few_modules)))
    (then_ok (links_after [] links.items) (λ ls. modules_after ls [] modules.items >>= λ ms. Ok (record { links = ls; modules = ms })) t.links (Ok t)
    (links_are [] t.links links.items links.are
    (λ i l at. ((is.links i l at).0, (is.links i l at).1, has.links i l at)) is.link_names)
    (then_ok (modules_after t.links [] modules.items) (λ ms. Ok (record { links = t.links; modules = ms })) t.modules (Ok t)
    (modules_are t.links [] t.modules modules.items modules.are is.link_names (record {
      legal = is.modules;
      names = is.names;
      originators = is.originators;
      on_links = is.on_links;
      addresses = is.addresses;
    }) has.modules) refl)))))
