-- The links that are read keep the rules of links.
use Rattle.std.proofs.Common.{◌≡◌, ℕ, suc, ◌+◌, Bool, true, false, cond, List, [], ◌∷◌, ◌++◌, length, Option}
use Rattle.std.proofs.Common.{Some, None, Ok, sym, ap, ◌∙◌, subst, arith, nat_le, inl, inr, length-append}
use Rattle.std.specs.Prelude.{codes}
use Rattle.std.specs.Str.{bytes_eq}
use Rattle.std.proofs.lemmas.Bool.{and_from}
use Rattle.std.proofs.lemmas.Slice.Eq.{bytes_eq-Decides}
use Rattle.toml.specs.Data.{Data, Items, no_items, item, Members, as_str}
use Rattle.cip_config.specs.declared.config.LegalAddresses.{LegalAddresses}
use Rattle.cip_config.specs.declared.config.LegalAddresses.TheVariants.{Byte, Text}
use Rattle.cip_config.specs.Config.{is_name, is_range}
use Rattle.cip_chassis.specs.declared.links.Link.{Link}
use Rattle.cip_topology.specs.declared.key.Key.TheVariants as key
use Rattle.cip_topology.specs.declared.place.Place.{Place}
use Rattle.cip_topology.specs.declared.place.Place.TheVariants as places
use Rattle.cip_chassis.specs.Plan.{AreLinks, TellsApart}
use Rattle.cip_topology.specs.Keys.{Read, ◌>>=◌, value_at, out_of_range, number_at, name_at, table_of, item_count}
use Rattle.cip_topology.specs.LinkTables.{bytes_at, text_bytes_at, legal_of, legal_at, is_linked, new_link, link_of_table, link_of, links_after}
use Rattle.cip_chassis.proofs.Lists.{get_push, none_at, apart_push}
use Rattle.cip_topology.proofs.Rules.{bind_ok, same_ok, passed, le_true, number_bounds, text_passes}

bytes_range : (place : Place) (m : Members) (l : LegalAddresses) → bytes_at place m ≡ Ok l → is_range l ≡ true
bytes_range place m l h =
    let (first, firsts, h1) = bind_ok (number_at place key.First 0 255 m)
    (λ first. number_at place key.Last first 255 m >>= λ last. Ok (Byte first last)) l h in
    let (last, lasts, h2) = bind_ok (number_at place key.Last first 255 m) (λ last. Ok (Byte first last)) l h1 in
    let bounds = number_bounds place key.Last first 255 m last lasts in
    ap is_range (sym (same_ok (Byte first last) l h2)) ∙ le_true first last bounds.0

text_range : (place : Place) (m : Members) (l : LegalAddresses) → text_bytes_at place m ≡ Ok l → is_range l ≡ true
text_range place m l h =
    let (longest, long, h1) = bind_ok (number_at place key.Longest 1 16 m) (λ longest. Ok (Text longest)) l h in
    let bounds = number_bounds place key.Longest 1 16 m longest long in
    ap is_range (sym (same_ok (Text longest) l h1)) ∙ and_from (nat_le 1 longest) (nat_le longest 16) (le_true 1 longest bounds.0) (le_true longest 16 bounds.1)

kind_range : (place : Place) (m : Members) (d : Data) (o : Option (List ℕ)) (l : LegalAddresses) → legal_of place m d o ≡ Ok l → is_range l ≡ true
kind_range place m d None l h = cc
kind_range place m d (Some kind) l h = by_kind (bytes_eq kind (codes "byte")) (bytes_eq kind (codes "text")) h
  where
    by_kind : (a b : Bool) → ◌≡◌ {A = Read LegalAddresses} (cond a (bytes_at place m) (cond b (text_bytes_at place m) (out_of_range place key.Kind d))) (Ok l)
        → is_range l ≡ true
    by_kind true b e = bytes_range place m l e
    by_kind false true e = text_range place m l e
    by_kind false false e = cc

legal_range : (place : Place) (m : Members) (l : LegalAddresses) → legal_at place m ≡ Ok l → is_range l ≡ true
legal_range place m l h =
    let (d, found, h1) = bind_ok (value_at place key.Kind m) (λ d. legal_of place m d (as_str d)) l h in
    kind_range place m d (as_str d) l h1

-- a link that was read
record IsNew (links : List Link) (l : Link) : Type 0 where
  named : is_name l.name ≡ true
  range : is_range l.legal ≡ true
  new : is_linked l.name links ≡ false

table_new : (number : ℕ) (links : List Link) (m : Members) (l : Link) → link_of_table number links m ≡ Ok l → IsNew links l
table_new number links m l h =
    let unnamed = places.Link number None in
    let (name, names, h1) = bind_ok (name_at unnamed m) (λ name. legal_at (places.Link number (Some name)) m >>= λ legal.
    new_link (places.Link number (Some name)) links (record { name = name; legal = legal })) l h in
    let place = places.Link number (Some name) in
    let (legal, legals, h2) = bind_ok (legal_at place m) (λ legal. new_link place links (record { name = name; legal = legal })) l h1 in
    let (new, h3) = passed (is_linked name links) _ (Ok (record { name = name; legal = legal })) l h2 in
    let same : record { name = name; legal = legal } ≡ l = same_ok _ l h3 in
    subst (IsNew links) same (record { named = text_passes is_name unnamed key.Name m name names; range = legal_range place m legal legals; new = new })

link_new : (number : ℕ) (links : List Link) (d : Data) (l : Link) → link_of number links d ≡ Ok l → IsNew links l
unfolding link_of
link_new number links d l h =
    let (m, table, h1) = bind_ok (table_of (places.Link number None) key.Link d) (link_of_table number links) l h in
    table_new number links m l h1

-- the rules that links keep
pub record LinksKept (links : List Link) : Type 0 where
  pub are : AreLinks links
  pub names : TellsApart (λ (l : Link). l.name) links

pub no_links : LinksKept []
no_links = record { are = λ i l e. absurd (cc); names = λ i j a b at bt e. absurd (cc) }

one_more : (links : List Link) (l : Link) → LinksKept links → IsNew links l → LinksKept (links ++ l ∷ [])
one_more links l k n = record {
  are = λ i a at. elim (get_push links l a i at) [
    | inl old ↦ k.are i a old
    | inr new ↦ (ap (λ (x : Link). is_name x.name) (sym new.1) ∙ n.named, ap (λ (x : Link). is_range x.legal) (sym new.1) ∙ n.range)
  ];
  names = apart_push (λ (x : Link). x.name) links l k.names
      (λ i a at e. none_at (λ (x : Link). bytes_eq x.name l.name) links n.new i a at ((bytes_eq-Decides a.name l.name).1 e));
}

counted : (a b n : ℕ) → n ≡ (a + 1) + b → n ≡ a + suc b
counted a b n e = omega arith

pub links_kept : (links : List Link) (ds : Items) (ls : List Link) → LinksKept links → links_after links ds ≡ Ok ls
    → LinksKept ls × (length ls ≡ length links + item_count ds)
links_kept links no_items ls k h = let same = same_ok links ls h in (subst LinksKept same k, let e = ap length same in omega (arith, e))
links_kept links (item d ds) ls k h =
    let (l, read, h1) = bind_ok (link_of (length links + 1) links d) (λ l. links_after (links ++ l ∷ []) ds) ls h in
    let rest = links_kept (links ++ l ∷ []) ds ls (one_more links l k (link_new (length links + 1) links d l read)) h1 in
    (rest.0, counted (length links) (item_count ds) (length ls) (rest.1 ∙ ap (λ n. n + item_count ds) (length-append links (l ∷ []))))
