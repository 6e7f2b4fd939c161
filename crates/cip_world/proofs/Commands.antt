-- Commands that are taken, and the one that opened a connection.
use Rattle.std.proofs.Common.{◌≡◌, ℕ, false, cond, List, [], ◌∷◌, Option, Some, None, refl, sym, ap, ◌∙◌, ◌⊎◌, inl, inr, length}
use Rattle.std.specs.FinMap as map
use Rattle.std.proofs.lemmas.Bool.{eq-eqb}
use Rattle.cip_base.specs.declared.numbers.ModuleId.{ModuleId}
use Rattle.cip_base.specs.declared.triad.Triad.{Triad}
use Rattle.cip_open.specs.Open.{Open as OpenRequest}
use Rattle.cip_pending.specs.declared.entry.UpSide.{UpSide}
use Rattle.cip_hops.specs.declared.opening.HopDown.{HopDown}
use Rattle.cip_hops.specs.declared.opening.HopUp.TheVariants.{Link as UpLink, Local as UpLocal}
use Rattle.cip_hops.specs.declared.opening.Opening.{Opening}
use Rattle.cip_hops.specs.declared.hop.Held.{Held}
use Rattle.cip_hops.specs.declared.hop.Hop.{Hop}
use Rattle.cip_hops.specs.Hops.{opening_of, ids_of, hop_by_op}
use Rattle.cip_target.specs.declared.identity.IdentityFields.{IdentityFields}
use Rattle.cip_config.specs.declared.config.ModuleSettings.{ModuleSettings}
use Rattle.cip_routing.specs.CommandRows as rows
use Rattle.cip_event.specs.declared.event.Command.{Command}
use Rattle.cip_event.specs.declared.event.Command.TheVariants as commands
use Rattle.cip_event.specs.declared.event.Event.{Event}
use Rattle.cip_event.specs.declared.event.Event.TheVariants as events
use Rattle.cip_event.specs.declared.event.Output.{Output}
use Rattle.cip_event.specs.declared.event.Output.TheVariants as outputs
use Rattle.cip_event.specs.declared.event.Refused.{Refused}
use Rattle.cip_laws.specs.Births.{Past}
use Rattle.cip_routing.specs.CommandRows.{enter_row}
use Rattle.cip_routing.specs.Effects.{applied}
use Rattle.cip_laws.specs.Histories.{Turn, state_after, IsHistory}
use Rattle.cip_routing.specs.OpenRows.{opening_with}
use Rattle.cip_laws.specs.Outputs.{EndedBy, ByTimeOut, ByReset, ByRefusal, ByDrop}
use Rattle.cip_routing.specs.State.{State, is_spent}
use Rattle.cip_routing.specs.Table.{up_side_of, asked_open}
use Rattle.cip_laws.specs.Tells.{AsksOpen, command_row, refused_by}
use Rattle.cip_laws.proofs.AskedOpens.{asks_row, asks_as}
use Rattle.cip_laws.proofs.GaveBy.{gave_by}
use Rattle.cip_laws.proofs.GivenBy.{ended_by}
use Rattle.cip_laws.proofs.Turns.{newest}
use Rattle.cip_chassis.specs.Plan.{Plan}
use Rattle.cip_world.specs.declared.journal.Entry.TheVariants.{Step, Lost}
use Rattle.cip_world.specs.declared.journal.Input.{Input}
use Rattle.cip_world.specs.declared.journal.Input.TheVariants as inputs
use Rattle.cip_world.specs.Entering.{IsTaken, IsOpened}
use Rattle.cip_world.specs.Journals.{Journal, part}
use Rattle.cip_world.specs.Mirrors.{IsOlder}
use Rattle.cip_world.specs.Runs.{IsModule, IsGiven, IsRun, state_in}
use Rattle.cip_world.proofs.BornAs.{BornAs, GoesOn, EndsHere, Birth, held_as}
use Rattle.cip_world.proofs.Moments.{number_at}
use Rattle.cip_world.proofs.Parts.{turn_of, part_step, run_history}

-- ---- what a command was given as

pub command_given : (t : Plan) (j : Journal) (m : ℕ) (input : Input) (event : Event) (command : Command) → IsGiven t j m input event
    → event ≡ events.Command command
    → input ≡ inputs.Command command
command_given t j m (inputs.Command c) event command is e = let both : events.Command c ≡ events.Command command = sym is
    ∙ e in let same : c ≡ command = cc in ap (λ (x : Command). inputs.Command x) same
command_given t j m (inputs.Tick ms) event command is e = let both : events.Tick ms ≡ events.Command command = sym is ∙ e in absurd (cc)
command_given t j m (inputs.Frame port from name) event command a e =
    let both : events.Frame port from a.waits.flight.body ≡ events.Command command = sym a.event_is ∙ e in absurd (cc)

-- ---- what no row refuses is taken

module _ (config : ModuleSettings) (turns : List Turn) (turn : Turn) (h : IsHistory config (turn ∷ turns)) (command : Command)
    (event_is : turn.event ≡ events.Command command) where
  abbrev s0 : State
  s0 = state_after config turns

  refused_so : (fault : Refused) (mid : State) (e : _) → EndedBy config s0 turn.event mid e (outputs.Refused fault)
      → refused_by (command_row s0 command) ≡ None → ⊥
  refused_so fault mid e (ByTimeOut triad effect_is x_is told) none = cc
  refused_so fault mid e (ByReset up asked op effect_is x_is resets has told) none = cc
  refused_so fault mid e (ByDrop reason effect_is x_is told) none = cc
  refused_so fault mid e (ByRefusal given effect_is x_is told) none =
      let both : events.Command command ≡ events.Command told.command = sym event_is ∙ told.event_is in
      let same : command ≡ told.command = cc in
      let no : None ≡ Some given = sym none ∙ ap (λ (c : Command). refused_by (command_row s0 c)) same ∙ told.meets in
      cc

  pub taken_by : refused_by (command_row s0 command) ≡ None → IsTaken turn.outputs
  taken_by none fault has =
      let now = newest config turn turns h in
      let g = gave_by config s0 turn.event (state_after config (turn ∷ turns)) turn.outputs (outputs.Refused fault) now has in
      refused_so fault (applied config s0 g.before) g.effect
      (ended_by (outputs.Refused fault) refl config s0 turn.event (applied config s0 g.before) g.effect g.tells g.gives) none

-- an Enter of the size of its connection
pub enter_taken : (s : State) (of : ℕ) (bytes : List ℕ) (hop : Hop) → hop_by_op s.hops of ≡ Some hop → length bytes ≡ hop.opening.ot_size
    → refused_by (command_row s (commands.Enter of bytes)) ≡ None
enter_taken s of bytes hop found sized =
    ap (λ (o : Option Hop). refused_by (enter_row bytes o)) found
    ∙ ap (λ b. refused_by (cond b rows.Taken rows.WrongSize)) (eq-eqb (length bytes) hop.opening.ot_size sized)

-- an Open of an op that is not used up
pub open_taken : (i : IdentityFields) (s : State) (command : Command) (op : ℕ) (o : OpenRequest) → asked_open i command ≡ Some (op, o)
    → is_spent op s.ops ≡ false → refused_by (command_row s command) ≡ None
open_taken i s command op o asks unused =
    ap refused_by (asks_row i s command op o asks) ∙ ap (λ b. refused_by (cond b rows.OpUsed rows.Taken)) unused

-- ---- a past turn is an entry

pub past_moment : (t : Plan) (P : List Turn → Turn → Type 0) (F : Type 0) (m : ℕ) (j : Journal) → IsRun t j → Past P (part m j)
    → ((n : ModuleId) (input : Input) (outs : List Output) (before : Journal) → IsOlder (Step n input outs ∷ before) j → n.0 ≡ m
    → (run : IsRun t (Step n input outs ∷ before))
    → P (part m before) (turn_of run.1.event outs) → F) → F
past_moment t P F m [] run past f = absurd past
past_moment t P F m (Step n input outs ∷ j) run past f =
    elim (part_step (λ turns. Past P turns → ((n.0 ≡ m) × P (part m j) (turn_of run.1.event outs)) ⊎ Past P (part m j)) t m n input outs j run.1
    (λ same h. elim h [ inl p ↦ inl (same, p) | inr p ↦ inr p ]) (λ h. inr h) past) [
      | inl now ↦ f n input outs j (inl refl) now.0 run now.1
      | inr old ↦ past_moment t P F m j run.0 old (λ n input outs before older. f n input outs before (inr older))
    ]
past_moment t P F m (Lost frame ∷ j) run past f = past_moment t P F m j run.0 past (λ n input outs before older. f n input outs before (inr older))

-- ---- the command that opened a connection

-- the open that the op spelled
pub record Spelled (config : ModuleSettings) (s : State) (event : Event) (op : ℕ) (o : Opening) : Type 0 where
  pub command : Command
  pub request : OpenRequest
  pub event_is : event ≡ events.Command command
  pub asks : asked_open config.identity command ≡ Some (op, request)
  pub unused : is_spent op s.ops ≡ false
  pub path_is : request.path ≡ o.path
  pub triad_is : request.fields.triad ≡ o.triad

asked_so : (config : ModuleSettings) (s : State) (event : Event) (op : ℕ) (o : Opening) (up : UpSide) (request : OpenRequest) (down : HopDown)
    → AsksOpen config s event up request
    → o ≡ opening_with (up_side_of up request.fields.to_id) down request → o.up ≡ UpLocal op → Spelled config s event op o
asked_so config s event op o up request down (inl c) is local =
    let no : UpLink c.came.port c.came.from request.fields.to_id ≡ UpLocal op =
    ap (λ (u : UpSide). up_side_of u request.fields.to_id) (sym c.came.up_is) ∙ sym (ap (λ (x : Opening). x.up) is) ∙ local in
    absurd (cc)
asked_so config s event op o up request down (inr c) is local =
    let both : UpLocal c.op ≡ UpLocal op = ap (λ (u : UpSide). up_side_of u request.fields.to_id) (sym c.up_is) ∙ sym (ap (λ (x : Opening). x.up) is) ∙ local in
    let same : c.op ≡ op = cc in
    record {
      command = c.command;
      request = request;
      event_is = c.event_is;
      asks = asks_as config.identity c.command c.op op request same c.asks;
      unused = ap (λ (n : ℕ). is_spent n s.ops) (sym same) ∙ c.unused;
      path_is = sym (ap (λ (x : Opening). x.path) is);
      triad_is = sym (ap (λ (x : Opening). x.triad) is);
    }

spelled_by : (config : ModuleSettings) (s : State) (event : Event) (op : ℕ) (o : Opening) → o.up ≡ UpLocal op → BornAs config s event o
    → Spelled config s event op o
spelled_by config s event op o local (GoesOn sending tells) = asked_so config s event op o sending.up tells.o _ tells.asks tells.opening_is local
spelled_by config s event op o local (EndsHere request link tells) = asked_so config s event op o tells.up request _ tells.asks tells.opening_is local

-- the open by which a connection was opened, with its path and its triad
pub record OpenOf (t : Plan) (j : Journal) (m op : ℕ) (o : Opening) : Type 0 where
  pub request : OpenRequest
  pub opened : IsOpened t j m op request
  pub path_is : request.path ≡ o.path
  pub triad_is : request.fields.triad ≡ o.triad

module _ (t : Plan) (j : Journal) (m : ℕ) (config : ModuleSettings) (is : IsModule t m config) (op : ℕ) (o : Opening) (n : ModuleId) (input : Input)
    (outs : List Output) (before : Journal)
    (older : IsOlder (Step n input outs ∷ before) j) (at : n.0 ≡ m) (run : IsRun t (Step n input outs ∷ before))
    (h : IsHistory config (turn_of run.1.event outs ∷ part m before))
    (by : Spelled config (state_in config m before) run.1.event op o) where
  input_is : input ≡ inputs.Command by.command
  input_is = command_given t before n.0 input run.1.event by.command run.1.given by.event_is

  pub open_of_it : OpenOf t j m op o
  open_of_it = record {
    request = by.request;
    opened = record {
      entry = length before;
      at = n;
      command = by.command;
      outs = outs;
      is = number_at (Step n input outs) before j older ∙ ap (λ (i : Input). Some (Step n i outs)) input_is;
      at_is = at;
      taken = taken_by config (part m before) (turn_of run.1.event outs) h by.command by.event_is
          (open_taken config.identity (state_in config m before) by.command op by.request by.asks by.unused);
      config = config;
      is_module = is;
      asks = by.asks;
    };
    path_is = by.path_is;
    triad_is = by.triad_is;
  }

-- whatever is held that a command opened was opened by an Open of its op that was taken
pub opened_by_op : (t : Plan) (j : Journal) (m : ℕ) (config : ModuleSettings) → IsRun t j → IsModule t m config → (q : Triad) (x : Held) (op : ℕ)
    → map.get (state_in config m j).hops.held q ≡ Some x → (opening_of x).up ≡ UpLocal op → OpenOf t j m op (opening_of x)
opened_by_op t j m config run is q x op at local =
    past_moment t (Birth config (opening_of x) (ids_of x)) (OpenOf t j m op (opening_of x)) m j run
    (held_as config (part m j) (run_history t j m config run is) q x at)
    (λ n input outs before older same then b.
    open_of_it t j m config is op (opening_of x) n input outs before older same then b.history
    (spelled_by config (state_in config m before) then.1.event op (opening_of x) local b.as_))
