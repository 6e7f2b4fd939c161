-- The rules of a `[[link]]`, key by key.
use Rattle.std.specs.Prelude.{ℕ, ◌+◌, Bool, if◌then◌else◌, List, [], ◌∷◌, ◌++◌, length, codes, Option, Some, None, Ok, Err}
use Rattle.std.specs.List.{list_any}
use Rattle.std.specs.Str.{bytes_eq}
use Rattle.toml.specs.Data.{Data, Items, no_items, item, Members, as_str}
use Rattle.cip_base.specs.Words.{Octets}
use Rattle.cip_config.specs.declared.config.LegalAddresses.{LegalAddresses}
use Rattle.cip_config.specs.declared.config.LegalAddresses.TheVariants.{Byte, Text}
use Rattle.cip_chassis.specs.declared.links.Link.{Link}
use Rattle.cip_topology.specs.declared.key.Key.TheVariants as key
use Rattle.cip_topology.specs.declared.place.Place.{Place}
use Rattle.cip_topology.specs.declared.place.Place.TheVariants as places
use Rattle.cip_topology.specs.declared.fault.LoadFault.TheVariants.{DoubleName}
use Rattle.cip_topology.specs.Keys.{Read, ◌>>=◌, value_at, out_of_range, number_at, name_at, table_of}

-- one byte, from `first` to `last`
abbrev pub bytes_at : Place → Members → Read LegalAddresses
bytes_at place m =
    number_at place key.First 0 255 m >>= λ first.
    (number_at place key.Last first 255 m >>= λ last. Ok (Byte first last))

-- 1 to `longest` bytes
abbrev pub text_bytes_at : Place → Members → Read LegalAddresses
text_bytes_at place m = number_at place key.Longest 1 16 m >>= λ longest. Ok (Text longest)

abbrev pub legal_of : Place → Members → Data → Option Octets → Read LegalAddresses
legal_of place m d None = out_of_range place key.Kind d
legal_of place m d (Some kind) =
    if bytes_eq kind (codes "byte") then bytes_at place m
    else if bytes_eq kind (codes "text") then text_bytes_at place m
    else out_of_range place key.Kind d

-- by its kind, the addresses that are legal on the link
abbrev pub legal_at : Place → Members → Read LegalAddresses
legal_at place m = value_at place key.Kind m >>= λ d. legal_of place m d (as_str d)

-- a link before this one has the name
abbrev pub is_linked : Octets → List Link → Bool
is_linked name links = list_any (λ (l : Link). bytes_eq l.name name) links

abbrev pub new_link : Place → List Link → Link → Read Link
new_link place links l = if is_linked l.name links then Err (DoubleName place) else Ok l

abbrev pub link_of_table : ℕ → List Link → Members → Read Link
link_of_table number links m =
    name_at (places.Link number None) m >>= λ name.
    (legal_at (places.Link number (Some name)) m >>= λ legal.
    new_link (places.Link number (Some name)) links (record { name = name; legal = legal }))

unfoldable pub link_of : ℕ → List Link → Data → Read Link
link_of number links d =
    table_of (places.Link number None) key.Link d >>= link_of_table number links

-- the links, after those that were read before
abbrev pub links_after : List Link → Items → Read (List Link)
links_after links no_items = Ok links
links_after links (item d ds) =
    link_of (length links + 1) links d >>= λ l. links_after (links ++ l ∷ []) ds
