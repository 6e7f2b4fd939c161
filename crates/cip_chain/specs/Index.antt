-- What an index of trails keeps of a journal.
use Rattle.std.specs.Prelude.{◌≡◌, ℕ, zero, suc, ◌+◌, ◌<◌, ◌≤◌, List, [], ◌∷◌, Option, Some, None, Bool, if◌then◌else◌, length, reverse, take, slice_get}
use Rattle.std.specs.Prelude.{option_map}
use Rattle.std.specs.List.{list_any}
use Rattle.std.specs.BTreeMap.{BTreeMap, get}
use Rattle.std.specs.Ordering.{nat_cmp, ordering_then}
use Rattle.cip_event.specs.declared.event.Command.{Command}
use Rattle.cip_event.specs.declared.event.Command.TheVariants as commands
use Rattle.cip_laws.specs.Births.{or_else}
use Rattle.cip_world.specs.declared.journal.Entry.{Entry}
use Rattle.cip_world.specs.declared.journal.Entry.TheVariants.{Step, Lost}
use Rattle.cip_event.specs.declared.frame.FrameName.{FrameName}
use Rattle.cip_world.specs.declared.journal.Input.{Input}
use Rattle.cip_world.specs.declared.journal.Input.TheVariants as inputs
use Rattle.cip_world.specs.Journals.{Journal, brought_by}
use Rattle.cip_world.specs.Mirrors.{IsOlder}
use Rattle.cip_world.specs.Trails.{is_refusal, is_command, request_from, request_of, named}
use Rattle.cip_world.specs.Trails.{arrived_in, first_from}
use Rattle.cip_chain.specs.declared.index.Onward.{Onward}
use Rattle.cip_chain.specs.declared.index.Onward.TheVariants.{Nowhere, Sent, Arrived}
use Rattle.cip_chain.specs.declared.index.TrailIndex.{TrailIndex}

-- ---- the commands

-- by module and op, the first entry that is the command
abbrev pub Firsts : Type 0
Firsts = BTreeMap (ℕ × ℕ) ℕ

abbrev pub first_in : Firsts → ℕ → ℕ → Option ℕ
first_in firsts m op =
    get (λ x y. ordering_then (nat_cmp x.0 y.0) (nat_cmp x.1 y.1)) firsts (m, op)

-- the op of an Open, a LargeOpen or a Send
abbrev pub op_of : Command → Option ℕ
op_of (commands.Open o timing path params) = Some o
op_of (commands.LargeOpen o timing path params) = Some o
op_of (commands.Close o of timing) = None
op_of (commands.Send o timing path request) = Some o
op_of (commands.Enter of bytes) = None
op_of (commands.Set instance bytes) = None
op_of (commands.Produce instance) = None

abbrev pub op_in : Input → Option ℕ
op_in (inputs.Command command) = op_of command
op_in (inputs.Tick ms) = None
op_in (inputs.Frame port from name) = None

abbrev pub unless_refused : Bool → ℕ → Option ℕ → Option (ℕ × ℕ)
unless_refused refused m None = None
unless_refused refused m (Some op) = if refused then None else Some (m, op)

-- the module and the op of an Open, a LargeOpen or a Send that is not refused
abbrev pub command_of : Entry → Option (ℕ × ℕ)
command_of (Step m input outs) = unless_refused (list_any is_refusal outs) m.0 (op_in input)
command_of (Lost frame) = None

-- entry k is read: it is the first of its command, or that one is known
abbrev pub AddsCommand : Firsts → Firsts → Entry → ℕ → Type 0
AddsCommand old new e k =
    (m op : ℕ) → first_in new m op
    ≡ or_else (first_in old m op) (if is_command m op e then Some k else None)

-- ---- the requests

-- the frame that arrived in an entry
abbrev pub arrival_of : Entry → Option FrameName
arrival_of (Step m input outs) = brought_by input
arrival_of (Lost frame) = None

abbrev pub sent : Option ℕ → Onward
sent None = Nowhere
sent (Some output) = Sent output

-- what an entry sent, before anything arrived of it
abbrev pub sent_at : Entry → Onward
sent_at (Step m input outs) = sent (request_from 0 outs)
sent_at (Lost frame) = Nowhere

-- what became of the request of entry i, once entry k is read
abbrev pub after : Entry → ℕ → ℕ → Onward → Onward
after e k i Nowhere = Nowhere
after e k i (Sent output) = if arrived_in (named i output) e then Arrived k else Sent output
after e k i (Arrived first) = Arrived first

-- entry k is read: it is an arrival of what an entry before it sent, or of nothing
pub record AddsArrival (old new : List Onward) (e : Entry) (k : ℕ) : Type 0 where
  pub size : length new ≡ length old
  pub before : (i : ℕ) → i < k → slice_get new i ≡ option_map (after e k i) (slice_get old i)
  pub newest : slice_get new k ≡ slice_get old k

-- the entry that a trail goes on to
abbrev pub goes_to : Option Onward → Option ℕ
goes_to None = None
goes_to (Some Nowhere) = None
goes_to (Some (Sent output)) = None
goes_to (Some (Arrived k)) = Some k

-- from an entry on, as many as that at most
abbrev pub along : ℕ → List Onward → Option ℕ → List ℕ
along zero onwards k = []
along (suc most) onwards None = []
along (suc most) onwards (Some k) = k ∷ along most onwards (goes_to (slice_get onwards k))

abbrev pub arrived_as : ℕ → Option ℕ → Onward
arrived_as output None = Sent output
arrived_as output (Some k) = Arrived k

abbrev pub came_of : Journal → ℕ → Option FrameName → Onward
came_of j k None = Nowhere
came_of j k (Some f) = arrived_as f.output (first_from (arrived_in f) (k + 1) j)

-- what became of the request of entry k
abbrev pub onward_of : Journal → ℕ → Onward
onward_of j k = came_of j k (request_of j k)

-- ---- the index

-- these are an index of a journal
pub record IsIndexed (onwards : List Onward) (firsts : Firsts) (j : Journal) : Type 0 where
  pub size : length onwards ≡ length j
  pub onward : (k : ℕ) → k < length j → slice_get onwards k ≡ Some (onward_of j k)
  pub first : (m op : ℕ) → first_in firsts m op ≡ first_from (is_command m op) 0 j

-- these are an index of the oldest of these entries, which stand oldest first
pub record IsIndexSoFar (onwards : List Onward) (firsts : Firsts) (es : List Entry) : Type 0 where
  pub within : length onwards ≤ length es
  pub indexed : IsIndexed onwards firsts (reverse (take (length onwards) es))

-- an index of a journal, or of an older part of it
pub record IsIndexOf (index : TrailIndex) (j : Journal) : Type 0 where
  pub part : Journal
  pub older : IsOlder part j
  pub indexed : IsIndexed index.onwards.items index.firsts part
