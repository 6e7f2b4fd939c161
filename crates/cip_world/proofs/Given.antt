-- Which connection a datum was given by, and where that had it from.
use Rattle.std.proofs.Common.{◌≡◌, ℕ, true, List, ◌∷◌, Option, Some, None, sym, ap, subst, ◌∙◌, length, eqb}
use Rattle.std.specs.FinMap as map
use Rattle.std.specs.Str.{bytes_eq}
use Rattle.std.proofs.lemmas.Bool.{and_parts, eqb-true}
use Rattle.std.proofs.lemmas.Slice.Eq.{bytes_eq-Decides}
use Rattle.cip_base.specs.declared.triad.Triad.{Triad}
use Rattle.cip_base.proofs.MapCases.{some_same}
use Rattle.cip_hops.specs.declared.opening.HopDown.{HopDown}
use Rattle.cip_hops.specs.declared.opening.HopDown.TheVariants.{Link as DownLink, End}
use Rattle.cip_hops.specs.declared.opening.HopUp.{HopUp}
use Rattle.cip_hops.specs.declared.opening.HopUp.TheVariants.{Link as UpLink, Local as UpLocal}
use Rattle.cip_hops.specs.declared.opening.Opening.{Opening}
use Rattle.cip_hops.specs.declared.hop.Held.{Held}
use Rattle.cip_hops.specs.declared.hop.Held.TheVariants.{Opening as IsOpening, Open}
use Rattle.cip_hops.specs.declared.hop.Hop.{Hop}
use Rattle.cip_hops.specs.declared.hop.Side.{Side}
use Rattle.cip_hops.specs.declared.hop.Side.TheVariants.{Up, Down}
use Rattle.cip_hops.specs.Sides.{op_of, up_is, down_is}
use Rattle.cip_hops.specs.Hops.{is_id, hop_at, is_hop_by_up, is_hop_by_down, is_hop_by_op, hop_by_op}
use Rattle.cip_config.specs.declared.config.ModuleSettings.{ModuleSettings}
use Rattle.cip_event.specs.declared.event.Command.TheVariants as commands
use Rattle.cip_event.specs.declared.event.Event.{Event}
use Rattle.cip_event.specs.declared.event.Event.TheVariants as events
use Rattle.cip_event.specs.declared.event.Output.{Output}
use Rattle.cip_laws.specs.Changes.{SameCore}
use Rattle.cip_laws.specs.EffectLists.{Stands}
use Rattle.cip_routing.specs.Effects.{Passes, applied, datum_up, datum_by}
use Rattle.cip_laws.specs.Histories.{Turn, state_after, IsHistory}
use Rattle.cip_laws.specs.Outputs.{GaveBy, is_datum, PassedBy, DatumOf}
use Rattle.cip_routing.specs.Produced.{datum_bytes}
use Rattle.cip_routing.specs.State.{State}
use Rattle.cip_routing.specs.Table.{other}
use Rattle.cip_laws.specs.Tells.{Tells, DatumCame, Produced, PassesAs, PassedOn, Entered, Made}
use Rattle.cip_laws.specs.Turns.{Has}
use Rattle.cip_laws.proofs.DataOnce.{datum_of}
use Rattle.cip_routing.proofs.Found.{found_own}
use Rattle.cip_laws.proofs.GaveBy.{gave_by}
use Rattle.cip_laws.proofs.PassedBy.{passed_by}
use Rattle.cip_routing.proofs.Removed.{open_at}
use Rattle.cip_laws.proofs.Standing.{all_stand}
use Rattle.cip_laws.proofs.TellsStand.{passing, passes_stands}
use Rattle.cip_laws.proofs.Triads.{HasOwnTriads, own_triads}
use Rattle.cip_laws.proofs.Turns.{Turned, newest}

-- from where a datum is given by a side of a connection: it came by the other side, it was entered by the op that opened, or an assembly made it
pub data Source (s : State) (event : Event) (side : Side) (hop : Hop) (bytes : List ℕ) : Type 0 where
  CameBy : DatumCame s event (other side) hop bytes → Source s event side hop bytes
  EnteredBy : (of : ℕ) → side ≡ Down → event ≡ events.Command (commands.Enter of bytes) → hop_by_op s.hops of ≡ Some hop → length bytes ≡ hop.opening.ot_size
      → Source s event side hop bytes
  MadeBy : (held : List ℕ) → side ≡ Up → bytes ≡ datum_bytes held hop → Produced s event hop held → Source s event side hop bytes

-- the connection that gave the datum, as it stood before the event
pub record Given (s : State) (event : Event) (x : Output) : Type 0 where
  pub side : Side
  pub hop : Hop
  pub bytes : List ℕ
  pub stands : map.get s.hops.held hop.opening.triad ≡ Some (Open hop)
  pub of : DatumOf hop side bytes x
  pub source : Source s event side hop bytes

source_of : (s : State) (event : Event) (triad : Triad) (side : Side) (bytes : List ℕ) (told : PassesAs s event triad side bytes)
    → Source s event side (passing s event triad side bytes told) bytes
source_of s event triad side bytes (PassedOn hop is came) = CameBy came
source_of s event triad side bytes (Entered of hop is down event_is found sized) = EnteredBy of down event_is found sized
source_of s event triad side bytes (Made held hop is up bytes_are made) = MadeBy held up bytes_are made

own_triad : (s : State) (event : Event) (triad : Triad) (side : Side) (bytes : List ℕ) (told : PassesAs s event triad side bytes)
    → triad ≡ (passing s event triad side bytes told).opening.triad
own_triad s event triad side bytes (PassedOn hop is came) = is
own_triad s event triad side bytes (Entered of hop is down event_is found sized) = is
own_triad s event triad side bytes (Made held hop is up bytes_are made) = is

-- what is given by the connection that stands is given by the one that stood
pub same_up : (old : Held) (hop g : Hop) → SameCore old (Open hop) → old ≡ Open g → g.opening ≡ hop.opening
same_up (IsOpening o ids) hop g core e = absurd core
same_up (Open k) hop g core e = let same : k ≡ g = cc in ap (λ (x : Hop). x.opening) (sym same) ∙ core.0

module _ (config : ModuleSettings) (turns : List Turn) (turn : Turn) (h : IsHistory config (turn ∷ turns)) (x : Output) where
  abbrev s0 : State
  s0 = state_after config turns

  abbrev now : Turned config s0 turn.event (state_after config (turn ∷ turns)) turn.outputs
  now = newest config turn turns h

  own : HasOwnTriads s0
  own = own_triads config turns h.0

  -- by the connection that the effect speaks of
  told_datum : (mid : State) (triad : Triad) (side : Side) (bytes : List ℕ) (hop : Hop) (told : PassesAs s0 turn.event triad side bytes)
      → hop_at s0.hops triad ≡ Some (passing s0 turn.event triad side bytes told)
      → Stands s0 mid (Passes triad side bytes) → hop_at mid.hops triad ≡ Some hop → datum_by side hop bytes ≡ x
      → datum_by side (passing s0 turn.event triad side bytes told) bytes ≡ x
  told_datum mid triad Down bytes hop told found still at is =
      let same : passing s0 turn.event triad Down bytes told ≡ hop = some_same (passing s0 turn.event triad Down bytes told) hop
      (sym found ∙ ap (λ (s : State). hop_at s.hops triad) (sym still) ∙ at) in
      ap (λ (k : Hop). datum_by Down k bytes) same ∙ is
  told_datum mid triad Up bytes hop told found still at is =
      let stood = still.held triad (Open hop) (open_at mid.hops triad hop at) in
      let before : Some stood.old ≡ Some (Open (passing s0 turn.event triad Up bytes told)) =
      sym stood.at ∙ open_at s0.hops triad (passing s0 turn.event triad Up bytes told) found in
      let old : stood.old ≡ Open (passing s0 turn.event triad Up bytes told) = some_same stood.old (Open (passing s0 turn.event triad Up bytes told)) before in
      let same = same_up stood.old hop (passing s0 turn.event triad Up bytes told) stood.core old in
      ap (λ (o : Opening). datum_up o.up bytes) same ∙ is

  by_effect : (g : GaveBy config s0 turn.event now.effects x) → PassedBy (applied config s0 g.before) g.effect x → Given s0 turn.event x
  by_effect g p =
      let told : PassesAs s0 turn.event p.triad p.side p.bytes = subst (Tells config s0 turn.event) p.effect_is g.tells in
      let still : Stands s0 (applied config s0 g.before) (Passes p.triad p.side p.bytes) =
      subst (Stands s0 (applied config s0 g.before)) p.effect_is (all_stand config s0 turn.event now.effects now.decided g.before g.after g.effect g.is) in
      let found = passes_stands s0 turn.event p.triad p.side p.bytes own told in
      let hop : Hop = passing s0 turn.event p.triad p.side p.bytes told in
      let triad = own_triad s0 turn.event p.triad p.side p.bytes told in
      record {
        side = p.side;
        hop = hop;
        bytes = p.bytes;
        stands = ap (map.get s0.hops.held) (sym triad) ∙ open_at s0.hops p.triad hop found;
        of = datum_of hop p.side p.bytes x (told_datum (applied config s0 g.before) p.triad p.side p.bytes p.hop told found still p.stands p.is);
        source = source_of s0 turn.event p.triad p.side p.bytes told;
      }

  -- each datum among the outputs of a turn
  pub given : is_datum x ≡ true → Has turn.outputs x → Given s0 turn.event x
  given data_ has =
      let g = gave_by config s0 turn.event (state_after config (turn ∷ turns)) turn.outputs x now has in
      by_effect g (passed_by x data_ config (applied config s0 g.before) g.effect g.gives)

-- ---- by which link a datum came

has_id : (id : ℕ) (own : Option ℕ) → is_id id own ≡ true → own ≡ Some id
has_id id None t = absurd (cc)
has_id id (Some k) t = ap (λ (i : ℕ). Some i) (eqb-true k id t)

up_way : (port : ℕ) (address : List ℕ) (up : HopUp) → up_is port address up ≡ true → (c : ℕ) × (up ≡ UpLink port address c)
up_way port address (UpLink p a c) t =
    let both = and_parts (eqb p port) (bytes_eq a address) t in
    let ports = eqb-true p port both.0 in
    let addresses : a ≡ address = (bytes_eq-Decides a address).0 both.1 in
    (c, λ i. UpLink (ports i) (addresses i) c)
up_way port address (UpLocal op) t = absurd (cc)

down_way : (port : ℕ) (address : List ℕ) (down : HopDown) → down_is port address down ≡ true → down ≡ DownLink port address
down_way port address (DownLink p a) t =
    let both = and_parts (eqb p port) (bytes_eq a address) t in
    let ports = eqb-true p port both.0 in
    let addresses : a ≡ address = (bytes_eq-Decides a address).0 both.1 in
    λ i. DownLink (ports i) (addresses i)
down_way port address (End config consume produce) t = absurd (cc)

-- under its up id, from the node above
pub by_up : (s : State) (event : Event) (hop : Hop) (bytes : List ℕ) → HasOwnTriads s → (came : DatumCame s event Up hop bytes)
    → (hop.ids.up ≡ Some came.id) × ((c : ℕ) × (hop.opening.up ≡ UpLink came.port came.from c))
by_up s event hop bytes own came =
    let test = (found_own (is_hop_by_up came.id came.port came.from) s.hops hop came.found own).1 in
    let both = and_parts (is_id came.id hop.ids.up) (up_is came.port came.from hop.opening.up) test in
    (has_id came.id hop.ids.up both.0, up_way came.port came.from hop.opening.up both.1)

-- under its down id, from the node below
pub by_down : (s : State) (event : Event) (hop : Hop) (bytes : List ℕ) → HasOwnTriads s → (came : DatumCame s event Down hop bytes)
    → (hop.ids.down ≡ Some came.id) × (hop.opening.down ≡ DownLink came.port came.from)
by_down s event hop bytes own came =
    let test = (found_own (is_hop_by_down came.id came.port came.from) s.hops hop came.found own).1 in
    let both = and_parts (is_id came.id hop.ids.down) (down_is came.port came.from hop.opening.down) test in
    (has_id came.id hop.ids.down both.0, down_way came.port came.from hop.opening.down both.1)

local_op : (op : ℕ) (up : HopUp) → op_of up ≡ Some op → up ≡ UpLocal op
local_op op (UpLink port address c) e = absurd (cc)
local_op op (UpLocal o) e = let same : o ≡ op = cc in ap (λ (n : ℕ). UpLocal n) same

-- the connection that an op opened
pub by_op : (s : State) (hop : Hop) (op : ℕ) → HasOwnTriads s → hop_by_op s.hops op ≡ Some hop → hop.opening.up ≡ UpLocal op
by_op s hop op own found = local_op op hop.opening.up (has_id op (op_of hop.opening.up) (found_own (is_hop_by_op op) s.hops hop found own).1)
