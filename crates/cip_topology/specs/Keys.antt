-- What stands at a key of a table, or why it does not: each value in its type and its range.
use Rattle.std.specs.Prelude.{ℕ, suc, Bool, ◌&&◌, nat_le, nat_lt, if◌then◌else◌, length, Option, Some, None, Result, Ok, Err, ℤ, pos}
use Rattle.toml.specs.Data.{Data, Items, no_items, item, Members, get_member, as_integer, as_str, as_array, as_table}
use Rattle.hex.specs.Hex.{decode_of}
use Rattle.std.specs.Result.{result_ok}
use Rattle.cip_base.specs.Words.{Octets, LinkAddress}
use Rattle.cip_base.specs.Counts.{count_of}
use Rattle.cip_config.specs.Config.{is_name}
use Rattle.cip_topology.specs.declared.key.Key.{Key}
use Rattle.cip_topology.specs.declared.key.Key.TheVariants as key
use Rattle.cip_topology.specs.declared.place.Place.{Place}
use Rattle.cip_topology.specs.declared.fault.LoadFault.{LoadFault}
use Rattle.cip_topology.specs.declared.fault.LoadFault.TheVariants.{Missing, Range}
use Rattle.cip_topology.specs.Words.{word_of}
use Rattle.cip_topology.specs.Faults.{found_of}

-- what a rule reads, or the fault
abbrev pub Read : Type 0 → Type 0
Read A = Result A LoadFault

-- one rule after the other: the first that is broken answers
infixl 10 ◌>>=◌
abbrev pub ◌>>=◌ : {A B : Type 0} → Read A → (A → Read B) → Read B
(Ok x) >>= f = f x
(Err e) >>= f = Err e

-- the key is there
abbrev pub needed : Place → Key → Option Data → Read Data
needed place k None = Err (Missing k place)
needed place k (Some d) = Ok d

abbrev pub value_at : Place → Key → Members → Read Data
value_at place k m = needed place k (get_member (word_of k) m)

-- the value that stands there is not one of those that are allowed
abbrev pub out_of_range : {A : Type 0} → Place → Key → Data → Read A
out_of_range place k d = Err (Range k place (found_of d))

-- a number that is not negative
abbrev pub natural : Option ℤ → Option ℕ
natural (Some (pos n)) = Some n
natural _ = None

abbrev pub within : Place → Key → ℕ → ℕ → Data → Option ℕ → Read ℕ
within place k least most d None = out_of_range place k d
within place k least most d (Some n) =
    if nat_le least n && nat_le n most then Ok n else out_of_range place k d

-- a whole number from least to most
abbrev pub number_of : Place → Key → ℕ → ℕ → Data → Read ℕ
number_of place k least most d = within place k least most d (natural (as_integer d))

abbrev pub number_at : Place → Key → ℕ → ℕ → Members → Read ℕ
number_at place k least most m = value_at place k m >>= number_of place k least most

abbrev pub number_or : Place → Key → ℕ → ℕ → ℕ → Option Data → Read ℕ
number_or place k otherwise least most None = Ok otherwise
number_or place k otherwise least most (Some d) = number_of place k least most d

-- a number that the table may leave out
abbrev pub number_or_at : Place → Key → ℕ → ℕ → ℕ → Members → Read ℕ
number_or_at place k otherwise least most m =
    number_or place k otherwise least most (get_member (word_of k) m)

-- a number of 32 bits with a count above 0 in its low half
abbrev pub with_count : Place → Key → Data → ℕ → Read ℕ
with_count place k d n = if nat_le 1 (count_of n) then Ok n else out_of_range place k d

abbrev pub counted : Place → Key → Option Data → Read ℕ
counted place k None = Ok 1
counted place k (Some d) = number_of place k 1 4294967295 d >>= with_count place k d

-- a first id or request number, which the table may leave out
abbrev pub counted_at : Place → Key → Members → Read ℕ
counted_at place k m = counted place k (get_member (word_of k) m)

-- a text that passes a test
abbrev pub text_if : (Octets → Bool) → Place → Key → Data → Option Octets → Read Octets
text_if test place k d None = out_of_range place k d
text_if test place k d (Some s) = if test s then Ok s else out_of_range place k d

abbrev pub text_at : (Octets → Bool) → Place → Key → Members → Read Octets
text_at test place k m = value_at place k m >>= λ d. text_if test place k d (as_str d)

abbrev pub name_at : Place → Members → Read Octets
name_at place m = text_at is_name place key.Name m

-- 1 to 16 bytes
abbrev pub sized : Option Octets → Option LinkAddress
sized None = None
sized (Some b) = if nat_le 1 (length b) && nat_le (length b) 16 then Some b else None

-- the bytes that a text writes in pairs of hexadecimal digits, 1 to 16 of them
abbrev pub pairs_of : Octets → Option LinkAddress
pairs_of s = if nat_lt 32 (length s) then None else sized (result_ok (decode_of s))

abbrev pub address_in : Place → Data → Option LinkAddress → Read LinkAddress
address_in place d None = out_of_range place key.Address d
address_in place d (Some a) = Ok a

abbrev pub address_of : Place → Data → Option Octets → Read LinkAddress
address_of place d None = out_of_range place key.Address d
address_of place d (Some s) = address_in place d (pairs_of s)

abbrev pub address_at : Place → Members → Read LinkAddress
address_at place m = value_at place key.Address m >>= λ d. address_of place d (as_str d)

-- ---- tables in a table

abbrev pub array_or : Place → Key → Data → Option Items → Read Items
array_or place k d None = out_of_range place k d
array_or place k d (Some items) = Ok items

abbrev pub array_of : Place → Key → Data → Read Items
array_of place k d = array_or place k d (as_array d)

abbrev pub items_in : Place → Key → Option Data → Read Items
items_in place k None = Ok no_items
items_in place k (Some d) = array_of place k d

-- the tables of a kind, none where the key is not there
abbrev pub items_at : Place → Key → Members → Read Items
items_at place k m = items_in place k (get_member (word_of k) m)

abbrev pub item_count : Items → ℕ
item_count no_items = 0
item_count (item d ds) = suc (item_count ds)

abbrev pub table_or : Place → Key → Data → Option Members → Read Members
table_or place k d None = out_of_range place k d
table_or place k d (Some m) = Ok m

-- the table of an entry
abbrev pub table_of : Place → Key → Data → Read Members
table_of place k d = table_or place k d (as_table d)
