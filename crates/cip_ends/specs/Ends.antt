-- With which reply an op is done, and in which entry. A module gives an op one Done at most.
use Rattle.std.specs.Prelude.{ℕ, List, [], ◌∷◌, Option, Some, None, ◌≡◌, ◌==◌, ◌≤◌, ◌<◌}
use Rattle.std.specs.Prelude.{if◌then◌else◌, slice_get}
use Rattle.cip_base.specs.declared.numbers.ModuleId.{ModuleId}
use Rattle.cip_event.specs.declared.event.Output.{Output}
use Rattle.cip_event.specs.declared.event.Output.TheVariants.{Send, Done, Refused, Consumed}
use Rattle.cip_event.specs.declared.event.Output.TheVariants.{Arrived, Expired, Ended, Dropped}
use Rattle.cip_world.specs.declared.journal.Input.{Input}
use Rattle.cip_world.specs.declared.journal.Entry.{Entry}
use Rattle.cip_world.specs.declared.journal.Entry.TheVariants.{Step, Lost}

abbrev pub reply_of : ℕ → Output → Option (List ℕ)
reply_of op (Send port to body) = None
reply_of op (Done number reply) = if number == op then Some reply else None
reply_of op (Refused fault) = None
reply_of op (Consumed triad instance bytes) = None
reply_of op (Arrived number bytes) = None
reply_of op (Expired triad) = None
reply_of op (Ended number) = None
reply_of op (Dropped reason) = None

abbrev pub or_else : Option (List ℕ) → Option (List ℕ) → Option (List ℕ)
or_else None other = other
or_else (Some reply) other = Some reply

abbrev pub first_reply : ℕ → List Output → Option (List ℕ)
first_reply op [] = None
first_reply op (output ∷ outputs) = or_else (reply_of op output) (first_reply op outputs)

-- the reply with which the op of the module is done in this entry
abbrev pub reply_in : ℕ → ℕ → Entry → Option (List ℕ)
reply_in m op (Step n input outputs) = if n.0 == m then first_reply op outputs else None
reply_in m op (Lost frame) = None

-- the op of the module is done in the entry at this place
pub record IsEndAt (j : List Entry) (m op place : ℕ) (reply : List ℕ) : Type 0 where
  pub entry : Entry
  pub here : slice_get j place ≡ Some entry
  pub ends : reply_in m op entry ≡ Some reply

-- it is done with this reply
pub record IsReply (j : List Entry) (m op : ℕ) (reply : List ℕ) : Type 0 where
  pub place : ℕ
  pub end : IsEndAt j m op place reply

-- it is done in none of the entries from this place to that one
abbrev pub HasNoEnd : List Entry → ℕ → ℕ → ℕ → ℕ → Type 0
HasNoEnd j m op from to = (k : ℕ) (entry : Entry) → from ≤ k → k < to
    → slice_get j k ≡ Some entry → reply_in m op entry ≡ None

-- an output of an entry with which the op of the module is done
pub record IsDoneAt (j : List Entry) (m op place index : ℕ) (reply : List ℕ) : Type 0 where
  pub at : ModuleId
  pub input : Input
  pub outputs : List Output
  pub here : slice_get j place ≡ Some (Step at input outputs)
  pub same : at.0 ≡ m
  pub done : slice_get outputs index ≡ Some (Done op reply)

-- no two outputs are such
abbrev pub HasOneDone : List Entry → ℕ → ℕ → Type 0
HasOneDone j m op = (place index other behind : ℕ) (reply found : List ℕ)
    → IsDoneAt j m op place index reply → IsDoneAt j m op other behind found
    → (place ≡ other) × (index ≡ behind)
