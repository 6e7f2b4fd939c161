-- What came to a module, and what it sent.
use Rattle.std.specs.Prelude.{◌≡◌, List, [], ◌∷◌, ◌⊎◌, Some}
use Rattle.cip_base.specs.Words.{Octets, RequestNumber}
use Rattle.cip_pending.specs.declared.entry.Entry.{Entry}
use Rattle.cip_event.specs.declared.event.Body.TheVariants as bodies
use Rattle.cip_event.specs.declared.event.Event.{Event}
use Rattle.cip_event.specs.declared.event.Output.{Output}
use Rattle.cip_event.specs.declared.event.Output.TheVariants as outputs
use Rattle.cip_laws.specs.Histories.{Turn}
use Rattle.cip_laws.specs.Tells.{asker}

-- the output is among these
abbrev pub Has : List Output → Output → Type 0
Has [] o = ⊥
Has (x ∷ xs) o = (x ≡ o) ⊎ Has xs o

-- there is such a turn
abbrev pub SomeTurn : (Turn → Type 0) → List Turn → Type 0
SomeTurn P [] = ⊥
SomeTurn P (turn ∷ turns) = P turn ⊎ SomeTurn P turns

-- such an event came
abbrev pub Came : (Event → Type 0) → List Turn → Type 0
Came P turns = SomeTurn (λ turn. P turn.event) turns

-- the module gave this output
abbrev pub Gave : List Turn → Output → Type 0
Gave turns o = SomeTurn (λ turn. Has turn.outputs o) turns

-- the turn in which a request under this number was asked and sent
pub record AskedIn (turn : Turn) (n : RequestNumber) (p : Entry) : Type 0 where
  pub bytes : Octets
  pub asks : asker turn.event ≡ Some p.up
  pub sent : Has turn.outputs (outputs.Send p.port p.address (bodies.Request n bytes))
