-- The chain of an op, connection by connection: where each goes down to, and the one there that has
-- its triad under the id that it names.
use Rattle.std.specs.Prelude.{ℕ, zero, suc, Bool, true, false, List, [], ◌∷◌, length, Option, Some}
use Rattle.std.specs.Prelude.{None, Result, Ok, Err, slice_get, option_and_then}
use Rattle.cip_base.specs.Words.{ConnectionId, OpNumber}
use Rattle.cip_base.specs.declared.numbers.ModuleId.{ModuleId}
use Rattle.cip_hops.specs.declared.hop.Hop.{Hop}
use Rattle.cip_hops.specs.declared.opening.HopDown.{HopDown}
use Rattle.cip_hops.specs.declared.opening.HopDown.TheVariants.{Link, End}
use Rattle.cip_hops.specs.Hops.{hop_at, hop_by_op, is_id}
use Rattle.cip_chassis.specs.Plan.{Plan}
use Rattle.cip_chassis.specs.Nodes.{node}
use Rattle.cip_world.specs.Journals.{Journal}
use Rattle.cip_world.specs.Runs.{state_in}
use Rattle.cip_chain.specs.declared.chains.ChainView.{ChainView}
use Rattle.cip_chain.specs.declared.chains.ChainFault.{ChainFault}
use Rattle.cip_chain.specs.declared.chains.ChainFault.TheVariants.{NotOpen, Broken}

abbrev pub Chained : Type 0
Chained = Result ChainView ChainFault

abbrev pub if_so : Bool → Hop → Option Hop
if_so true hop = Some hop
if_so false hop = None

-- this own id is the one that was named
abbrev pub is_named : Option ConnectionId → Option ConnectionId → Bool
is_named None None = true
is_named None (Some own) = false
is_named (Some id) own = is_id id own

-- the connection, if its id towards the originator is the one that was named
abbrev pub under_id : Option ConnectionId → Option Hop → Option Hop
under_id their None = None
under_id their (Some hop) = if_so (is_named their hop.ids.up) hop

-- the connection at module m of the same triad, under the id that this one names
abbrev pub next_hop : Plan → Journal → ℕ → Hop → Option Hop
next_hop t j m hop = under_id hop.their_id (option_and_then
    (λ config. hop_at (state_in config m j).hops hop.opening.triad) (slice_get t.modules m))

-- module m before the others
abbrev pub behind : ℕ → Chained → Chained
behind m (Ok view) = Ok (record {
  modules = record { 0 = m } ∷ view.modules;
  end = view.end;
})
behind m (Err fault) = Err fault

abbrev pub at_next : ℕ → Option Hop → (ℕ → Hop → Chained) → Chained
at_next b None rest = Err (Broken (record { 0 = b }))
at_next b (Some hop) rest = rest b hop

-- where a connection goes down to there is a module, on each run
abbrev pub at_node : Plan → Journal → Hop → Option ℕ → (ℕ → Hop → Chained) → Chained
at_node t j hop None rest = Err NotOpen
at_node t j hop (Some b) rest = at_next b (next_hop t j b hop) rest

-- an end with its instances, or the connection next to this one and the rest
abbrev pub below : Plan → Journal → ℕ → Hop → HopDown → (ℕ → Hop → Chained) → Chained
below t j m hop (Link port address) rest =
    behind m (at_node t j hop (node t m port address) rest)
below t j m hop (End config consume produce) rest =
    Ok (record {
      modules = record { 0 = m } ∷ [];
      end = record { consume = consume; produce = produce };
    })

-- from this connection of module m on, over at most so many
unfoldable pub chain_from : Plan → Journal → ℕ → ℕ → Hop → Chained
chain_from t j zero m hop = Err NotOpen
chain_from t j (suc n) m hop = below t j m hop hop.opening.down (chain_from t j n)

-- each has less of the path before it than the one before
abbrev pub from_first : Plan → Journal → ℕ → Option Hop → Chained
from_first t j m None = Err NotOpen
from_first t j m (Some hop) = chain_from t j (suc (length hop.opening.path)) m hop

-- The modules through which the connection goes that a command of this op opened at module m, and
-- the instances at its end, O→T and T→O; or that none is open, or the module that lacks the next.
abbrev pub chain_of : Plan → Journal → ℕ → OpNumber → Chained
chain_of t j m op = from_first t j m (option_and_then
    (λ config. hop_by_op (state_in config m j).hops op) (slice_get t.modules m))
