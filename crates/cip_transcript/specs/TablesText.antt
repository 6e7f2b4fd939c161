-- The tables of a module as lines. Numbers are decimal; bytes are upper-case pairs, `-` for none.
use Rattle.std.specs.Prelude.{ℕ, List, [], ◌∷◌, ◌++◌, Option, codes, decimal}
use Rattle.cip_pending.specs.declared.entry.Kind.{Kind}
use Rattle.cip_pending.specs.declared.entry.Kind.TheVariants.{Unconnected, Opening, OpeningLarge, Closing}
use Rattle.cip_hops.specs.declared.opening.HopUp.{HopUp}
use Rattle.cip_hops.specs.declared.opening.HopUp.TheVariants as ups
use Rattle.cip_hops.specs.declared.opening.HopDown.{HopDown}
use Rattle.cip_hops.specs.declared.opening.HopDown.TheVariants as downs
use Rattle.cip_routing.specs.declared.tables.PendingRow.{PendingRow}
use Rattle.cip_routing.specs.declared.tables.HopRow.{HopRow}
use Rattle.cip_routing.specs.declared.tables.AssemblyRow.{AssemblyRow}
use Rattle.cip_routing.specs.declared.tables.Tables.{Tables}
use Rattle.cip_transcript.specs.Show.{bytes_text, optional_text, triad_text}

-- what was sent on, a connection by its triad
abbrev pub kind_text : Kind → List ℕ
kind_text Unconnected = codes "unconnected"
kind_text (Opening triad) = codes "opening " ++ triad_text triad
kind_text (OpeningLarge triad) = codes "large " ++ triad_text triad
kind_text (Closing triad) = codes "closing " ++ triad_text triad

-- a request that waits: number, port, address, deadline in microseconds, words of its path
abbrev pub pending_line : PendingRow → List ℕ
pending_line p =
    codes "  pending " ++ decimal p.number ++ codes " " ++ decimal p.entry.port ++ codes " "
    ++ bytes_text p.entry.address ++ codes " due " ++ decimal p.entry.deadline ++ codes " words "
    ++ decimal p.entry.words ++ codes " " ++ kind_text p.entry.kind ++ codes "\n"

-- where a connection comes from, and the ids of that side
abbrev pub up_text : HopUp → Option ℕ → List ℕ
up_text (ups.Link port address their) own =
    codes " up " ++ decimal port ++ codes " " ++ bytes_text address ++ codes " own "
    ++ optional_text own ++ codes " their " ++ decimal their
up_text (ups.Local op) own = codes " up op " ++ decimal op

-- where it goes to: a link with its ids, or an end with its instances, configuration, O→T and T→O
abbrev pub down_text : HopDown → Option ℕ → Option ℕ → List ℕ
down_text (downs.Link port address) their own =
    codes " down " ++ decimal port ++ codes " " ++ bytes_text address ++ codes " their "
    ++ optional_text their ++ codes " own " ++ optional_text own
down_text (downs.End config consume produce) their own =
    codes " down end " ++ decimal config ++ codes " " ++ decimal consume ++ codes " "
    ++ decimal produce

-- the deadlines of both sides, in microseconds
abbrev pub watch_text : Option ℕ → Option ℕ → List ℕ
watch_text up down = codes " watch " ++ optional_text up ++ codes " " ++ optional_text down

abbrev pub hop_line : HopRow → List ℕ
hop_line h =
    codes "  hop " ++ triad_text h.triad ++ up_text h.up h.ids.up
    ++ down_text h.down h.their_id h.ids.down ++ watch_text h.up_deadline h.down_deadline
    ++ codes "\n"

abbrev pub assembly_line : AssemblyRow → List ℕ
assembly_line a =
    codes "  assembly " ++ decimal a.instance ++ codes " " ++ bytes_text a.bytes ++ codes "\n"

abbrev pub pendings_text : List PendingRow → List ℕ
pendings_text [] = []
pendings_text (p ∷ more) = pending_line p ++ pendings_text more

abbrev pub hops_text : List HopRow → List ℕ
hops_text [] = []
hops_text (h ∷ more) = hop_line h ++ hops_text more

abbrev pub assemblies_text : List AssemblyRow → List ℕ
assemblies_text [] = []
assemblies_text (a ∷ more) = assembly_line a ++ assemblies_text more

-- a module's time in microseconds, and the last id and the last number that it gave
abbrev pub counts_text : List ℕ → Tables → List ℕ
counts_text name tables =
    codes "tables " ++ name ++ codes " now " ++ decimal tables.now ++ codes " id "
    ++ decimal tables.last_id ++ codes " number " ++ decimal tables.last_number ++ codes "\n"

-- the counts, and then a line for each request that waits, each connection and each assembly
abbrev pub tables_text : List ℕ → Tables → List ℕ
tables_text name tables =
    counts_text name tables ++ pendings_text tables.pendings ++ hops_text tables.hops
    ++ assemblies_text tables.assemblies
