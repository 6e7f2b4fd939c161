-- The links that a document writes are those that are read.
use Rattle.std.proofs.Common.{◌≡◌, ℕ, suc, ◌+◌, ◌≤◌, Bool, true, false, cond, ◌&&◌, List, [], ◌∷◌, ◌++◌, length, Option, Some, None, Ok, Err, refl, sym, ap}
use Rattle.std.proofs.Common.{◌∙◌}
use Rattle.std.proofs.Common.{subst, arith, nat_le, append_assoc, append-nil}
use Rattle.std.specs.Prelude.{slice_get, codes}
use Rattle.std.specs.Str.{bytes_eq}
use Rattle.std.proofs.lemmas.Bool.{and_parts}
use Rattle.std.proofs.lemmas.Slice.Eq.{bytes_eq-Decides}
use Rattle.toml.specs.Data.{Items, no_items, item, Members, string, table, as_str}
use Rattle.cip_config.specs.declared.config.LegalAddresses.{LegalAddresses}
use Rattle.cip_config.specs.declared.config.LegalAddresses.TheVariants.{Byte, Text}
use Rattle.cip_config.specs.Config.{is_name, is_range}
use Rattle.cip_chassis.specs.declared.links.Link.{Link}
use Rattle.cip_topology.specs.declared.key.Key.TheVariants as key
use Rattle.cip_topology.specs.declared.place.Place.{Place}
use Rattle.cip_topology.specs.declared.place.Place.TheVariants as places
use Rattle.cip_topology.specs.declared.fault.LoadFault.TheVariants.{DoubleName}
use Rattle.cip_chassis.specs.Plan.{AreLinks, TellsApart}
use Rattle.cip_topology.specs.Documents.{AreTables, IsRangeOfBytes, WritesRange, WritesLink}
use Rattle.cip_topology.specs.Keys.{Read, ◌>>=◌, value_at, out_of_range, number_at, name_at}
use Rattle.cip_topology.specs.LinkTables.{bytes_at, text_bytes_at, legal_of, legal_at, is_linked, new_link, link_of_table, link_of, links_after}
use Rattle.cip_chassis.proofs.Before.{apart_before}
use Rattle.cip_topology.proofs.Rules.{le_of}
use Rattle.cip_topology.proofs.Written.{then_ok, if_false, value_is, number_is, text_is}

legal_is : (place : Place) (legal : LegalAddresses) (m : Members) → WritesRange legal m → is_range legal ≡ true → IsRangeOfBytes legal
    → legal_at place m ≡ Ok legal
legal_is place (Byte first last) m w range fits =
    let below : first ≤ last = le_of first last range in
    then_ok (value_at place key.Kind m) (λ d. legal_of place m d (as_str d)) (string (codes "byte")) (Ok (Byte first last))
    (value_is place key.Kind m (string (codes "byte")) w.0)
    (then_ok (number_at place key.First 0 255 m) (λ n. number_at place key.Last n 255 m >>= λ l. Ok (Byte n l)) first (Ok (Byte first last))
    (number_is place key.First 0 255 first m w.1 (omega arith) (omega (arith, below, fits)))
    (then_ok (number_at place key.Last first 255 m) (λ l. Ok (Byte first l)) last (Ok (Byte first last))
    (number_is place key.Last first 255 last m w.2 below fits) refl))
legal_is place (Text longest) m w range fits =
    let both = and_parts (nat_le 1 longest) (nat_le longest 16) range in
    then_ok (value_at place key.Kind m) (λ d. legal_of place m d (as_str d)) (string (codes "text")) (Ok (Text longest))
    (value_is place key.Kind m (string (codes "text")) w.0)
    (then_ok (number_at place key.Longest 1 16 m) (λ n. Ok (Text n)) longest (Ok (Text longest))
    (number_is place key.Longest 1 16 longest m w.1 (le_of 1 longest both.0) (le_of longest 16 both.1)) refl)

link_is : (number : ℕ) (links : List Link) (l : Link) (m : Members) → WritesLink l m → is_name l.name ≡ true → is_range l.legal ≡ true
    → IsRangeOfBytes l.legal → is_linked l.name links ≡ false → link_of number links (table m) ≡ Ok l
unfolding link_of
link_is number links l m w named range fits new =
    let place = places.Link number (Some l.name) in
    then_ok (name_at (places.Link number None) m) (λ name. legal_at (places.Link number (Some name)) m >>= λ legal.
    new_link (places.Link number (Some name)) links (record { name = name; legal = legal })) l.name (Ok l)
    (text_is is_name (places.Link number None) key.Name l.name m w.name named)
    (then_ok (legal_at place m) (λ legal. new_link place links (record { name = l.name; legal = legal })) l.legal (Ok l)
    (legal_is place l.legal m w.legal range fits)
    (if_false (is_linked l.name links) (Err (DoubleName place)) (Ok l) new))

-- these links have names and ranges that are in order
abbrev pub AreGood : List Link → Type 0
AreGood ls = (i : ℕ) (l : Link) → slice_get ls i ≡ Some l → (is_name l.name ≡ true) × (is_range l.legal ≡ true) × IsRangeOfBytes l.legal

pub links_are : (links ls : List Link) (ds : Items) → AreTables WritesLink ls ds → AreGood ls → TellsApart (λ (l : Link). l.name) (links ++ ls)
    → links_after links ds ≡ Ok (links ++ ls)
links_are links [] no_items w good apart = ap (λ (x : List Link). Ok x) (sym (append-nil links))
links_are links [] (item d ds) w good apart = elim w [ ]
links_are links (l ∷ ls) no_items w good apart = elim w [ ]
links_are links (l ∷ ls) (item d ds) w good apart =
    let fine = good 0 l refl in
    let new = apart_before (λ (x : Link). x.name) (λ (x : Link). bytes_eq x.name l.name) links ls l apart
    (λ a t. (bytes_eq-Decides a.name l.name).0 t) in
    let whole : (links ++ l ∷ []) ++ ls ≡ links ++ l ∷ ls = append_assoc links (l ∷ []) ls in
    then_ok (link_of (length links + 1) links d) (λ x. links_after (links ++ x ∷ []) ds) l (Ok (links ++ l ∷ ls))
    (ap (link_of (length links + 1) links) w.0.is
    ∙ link_is (length links + 1) links l w.0.members w.0.written fine.0 fine.1 fine.2 new)
    (links_are (links ++ l ∷ []) ls ds w.1 (λ i a at. good (suc i) a at) (subst (TellsApart (λ (x : Link). x.name)) (sym whole) apart)
    ∙ ap (λ (x : List Link). Ok x) whole)
