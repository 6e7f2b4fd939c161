-- What the list of effects of one event may hold, and what still stands where an effect is applied.
use Rattle.std.specs.Prelude.{◌≡◌, ℕ, ◌+◌, ◌≤◌, List, [], ◌∷◌, ◌++◌, Option, Some, None}
use Rattle.std.specs.FinMap as map
use Rattle.cip_base.specs.Words.{Octets, OpNumber}
use Rattle.cip_base.specs.declared.triad.Triad.{Triad}
use Rattle.cip_message.specs.Request.{Request}
use Rattle.cip_open.specs.Open.{Open}
use Rattle.cip_pending.specs.declared.entry.Kind.{Kind}
use Rattle.cip_pending.specs.declared.entry.UpSide.{UpSide}
use Rattle.cip_hops.specs.declared.opening.Opening.{Opening}
use Rattle.cip_hops.specs.declared.hop.Held.{Held}
use Rattle.cip_hops.specs.declared.hop.Side.TheVariants.{Up, Down}
use Rattle.cip_target.specs.declared.link.EndLink.{EndLink}
use Rattle.cip_config.specs.declared.config.ModuleSettings.{ModuleSettings}
use Rattle.cip_event.specs.declared.event.Dropped.{Dropped}
use Rattle.cip_event.specs.declared.event.Refused.{Refused}
use Rattle.cip_laws.specs.Changes.{Stood}
use Rattle.cip_routing.specs.Effects.{Sending, Effect, Spends, Replies, Answers, Forwards, Begins, Accepts, Finishes, Takes, Removes, Passes, Counts, Writes}
use Rattle.cip_routing.specs.Effects.{RefusesCommand, Drops, applied}
use Rattle.cip_routing.specs.State.{State}
use Rattle.cip_laws.specs.Weights.{mark, same_up}

-- ---- weights of effects

abbrev pub gain : (Effect → ℕ) → List Effect → ℕ
gain d [] = 0
gain d (e ∷ es) = d e + gain d es

-- a request is taken up: it is answered, or something else is asked for it
abbrev pub takes_up : UpSide → Effect → ℕ
takes_up up (Replies v bytes) = mark (same_up v up)
takes_up up (Answers v request) = mark (same_up v up)
takes_up up (Forwards sending kind) = mark (same_up sending.up up)
takes_up up (Begins sending opening) = mark (same_up sending.up up)
takes_up up e = 0

-- ids may be drawn: a connection is begun here, or ends here; or a request may reset the module
abbrev pub births : Effect → ℕ
births (Answers v request) = 1
births (Begins sending opening) = 1
births (Accepts opening o link) = 1
births e = 0

-- 0 of an effect that leaves the requests that wait and the connections as they are
abbrev pub table_changes : Effect → ℕ
table_changes (Spends op) = 0
table_changes (Replies up bytes) = 0
table_changes (Passes triad side bytes) = 0
table_changes (Writes instance bytes) = 0
table_changes (RefusesCommand fault) = 0
table_changes (Drops reason) = 0
table_changes (Forwards sending kind) = 1
table_changes (Removes triad) = 1
table_changes e = 2

-- A weight of effects that is light: one thing of those that answer a request has its weight, the
-- others have none.
pub record IsLight (d : Effect → ℕ) (b : UpSide → ℕ) : Type 0 where
  pub replies : (v : UpSide) (bytes : Octets) → d (Replies v bytes) ≤ b v
  pub answers : (v : UpSide) (asked : Request) → d (Answers v asked) ≤ b v
  pub forwards : (sending : Sending) (kind : Kind) → d (Forwards sending kind) ≤ b sending.up
  pub begins : (sending : Sending) (opening : Opening) → d (Begins sending opening) ≤ b sending.up
  pub accepts : (opening : Opening) (o : Open) (link : EndLink) (v : UpSide) (bytes : Octets)
      → d (Accepts opening o link) + d (Replies v bytes) ≤ b v
  pub spends : (op : OpNumber) → d (Spends op) ≡ 0
  pub closes_on : (triad : Triad) (sending : Sending) (kind : Kind)
      → d (Removes triad) + d (Forwards sending kind) ≤ b sending.up
  pub closes : (triad : Triad) (v : UpSide) (bytes : Octets)
      → d (Removes triad) + d (Replies v bytes) ≤ b v
  pub refuses : (fault : Refused) → d (RefusesCommand fault) ≡ 0
  pub drops : (reason : Dropped) → d (Drops reason) ≡ 0

-- of what asks something, the bound of whom it asks for
abbrev pub IsBounded : (UpSide → ℕ) → Option UpSide → ℕ → Type 0
IsBounded b None n = Unit {0}
IsBounded b (Some v) n = n ≤ b v

-- ---- what still stands

-- the requests that wait and the connections are as they were
abbrev pub IsStill : State → State → Type 0
IsStill s new = (new.hops ≡ s.hops) × (new.pendings ≡ s.pendings)

-- the requests that wait are as they were, and each connection stood before with the same core
pub record HasStood (s mid : State) : Type 0 where
  pub pendings : mid.pendings ≡ s.pendings
  pub held : (q : Triad) (x : Held) → map.get mid.hops.held q ≡ Some x → Stood s.hops q x

-- of the state before the event, where an effect is applied
abbrev pub Stands : State → State → Effect → Type 0
Stands s mid (Answers up asked) = (mid.assemblies ≡ s.assemblies) × IsStill s mid
Stands s mid (Begins sending opening) = IsStill s mid
Stands s mid (Accepts opening o link) = IsStill s mid
Stands s mid (Finishes number triad bytes success) = mid ≡ s
Stands s mid (Takes number bytes) = mid ≡ s
Stands s mid (Forwards sending kind) = mid.pendings ≡ s.pendings
Stands s mid (Passes triad Down bytes) = mid ≡ s
Stands s mid (Passes triad Up bytes) = HasStood s mid
Stands s mid e = Unit {0}

abbrev pub AllStand : ModuleSettings → State → List Effect → Type 0
AllStand config s es = (before after : List Effect) (e : Effect) → before ++ (e ∷ after) ≡ es
    → Stands s (applied config s before) e

-- ---- an assembly that is sent

-- a datum that goes up, or its count before it; or the refusal alone
abbrev pub IsMade : Effect → Type 0
IsMade (Counts triad Down count) = Unit {0}
IsMade (Passes triad Up bytes) = Unit {0}
IsMade (RefusesCommand fault) = Unit {0}
IsMade e = ⊥

abbrev pub AreMade : List Effect → Type 0
AreMade [] = Unit {0}
AreMade (e ∷ es) = IsMade e × AreMade es
