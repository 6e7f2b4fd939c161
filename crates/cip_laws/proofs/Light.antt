-- The effects of an event do one thing for whom it asks.
use Rattle.std.proofs.Common.{◌≡◌, ℕ, ◌+◌, ◌≤◌, List, Result, Ok, Err, Option, Some, None, subst, arith, Bool, true, false}
use Rattle.cip_base.specs.declared.triad.Triad.{Triad}
use Rattle.cip_base.specs.declared.timing.Timing.{Timing}
use Rattle.cip_message.specs.Request.{Request}
use Rattle.cip_message.specs.declared.fault.DataFault.{DataFault}
use Rattle.cip_unconnected.specs.Unconnected.{Unconnected}
use Rattle.cip_unconnected.specs.UnconnectedAt.{unconnected_at}
use Rattle.cip_unconnected.specs.declared.fault.UnconnectedFault.{UnconnectedFault}
use Rattle.cip_open.specs.Open.{Open}
use Rattle.cip_open.specs.OpenAt.{open_at}
use Rattle.cip_close.specs.Close.{Close}
use Rattle.cip_close.specs.CloseAt.{close_at}
use Rattle.cip_pending.specs.declared.entry.Kind.{Kind}
use Rattle.cip_pending.specs.declared.entry.Kind.TheVariants.{Unconnected as UnconnectedKind, Closing as ClosingKind}
use Rattle.cip_pending.specs.declared.entry.UpSide.{UpSide}
use Rattle.cip_pending.specs.declared.entry.UpSide.TheVariants.{Link, Local}
use Rattle.cip_hops.specs.declared.opening.Opening.{Opening}
use Rattle.cip_hops.specs.declared.hop.Hop.{Hop}
use Rattle.cip_hops.specs.declared.opening.HopUp.TheVariants.{Local as UpLocal}
use Rattle.cip_hops.specs.declared.opening.HopDown.TheVariants.{Link as DownLink}
use Rattle.cip_hops.specs.Hops.{hop_by_op}
use Rattle.cip_target.specs.declared.link.EndLink.{EndLink}
use Rattle.cip_laws.specs.EffectLists.{gain, IsLight, IsBounded}
use Rattle.cip_config.specs.declared.config.ModuleSettings.{ModuleSettings}
use Rattle.cip_event.specs.declared.event.Body.TheVariants as bodies
use Rattle.cip_event.specs.declared.event.Command.TheVariants as commands
use Rattle.cip_event.specs.declared.event.Event.{Event}
use Rattle.cip_event.specs.declared.event.Event.TheVariants as events
use Rattle.cip_event.specs.declared.event.Dropped.{Dropped}
use Rattle.cip_event.specs.declared.event.Refused.{Refused}
use Rattle.cip_routing.specs.CommandRows.{CommandRow}
use Rattle.cip_routing.specs.CommandRows as command
use Rattle.cip_routing.specs.Effects.{Sending, Effect, Replies, Answers, Forwards, Begins, Accepts, Removes, RefusesCommand, Drops}
use Rattle.cip_routing.specs.CloseRows.{CloseRow, close_row}
use Rattle.cip_routing.specs.CloseRows as closes
use Rattle.cip_routing.specs.OpenRows.{OpenRow, open_row, opening_with}
use Rattle.cip_routing.specs.OpenRows as opens
use Rattle.cip_routing.specs.UnconnectedRows.{UnconnectedRow, unconnected_row}
use Rattle.cip_routing.specs.UnconnectedRows as unconnected
use Rattle.cip_routing.specs.RequestRows.{RequestRow, request_row}
use Rattle.cip_routing.specs.RequestRows as request
use Rattle.cip_routing.specs.CommandRows.{op_row, close_command_row, send_row}
use Rattle.cip_routing.specs.State.{State}
use Rattle.cip_routing.specs.Table.{up_side_of, send_below, unconnected_effects, unconnected_data_effects, open_below, open_effects, open_data_effects}
use Rattle.cip_routing.specs.Table.{close_effects, close_below, close_data_effects, request_effects, refused_effects, with_spending, send_effects}
use Rattle.cip_routing.specs.Table.{open_command_effects, closed_effects, close_command_effects, close_of, open_of, sent, decide}
use Rattle.cip_laws.specs.Tells.{asker}
use Rattle.cip_event.specs.Params.{widened}

module _ (d : Effect → ℕ) (b : UpSide → ℕ) (light : IsLight d b) where
  abbrev taken_up : List Effect → ℕ
  taken_up es = gain d es

  -- ---- the lists of the rows

  a_reply : (v : UpSide) (bytes : List ℕ) → d (Replies v bytes) + 0 ≤ b v
  a_reply v bytes = let h = light.replies v bytes in omega (arith, h)

  an_answer : (v : UpSide) (asked : Request) → d (Answers v asked) + 0 ≤ b v
  an_answer v asked = let h = light.answers v asked in omega (arith, h)

  a_forward : (sending : Sending) (kind : Kind) → d (Forwards sending kind) + 0 ≤ b sending.up
  a_forward sending kind = let h = light.forwards sending kind in omega (arith, h)

  a_begin : (sending : Sending) (opening : Opening) → d (Begins sending opening) + 0 ≤ b sending.up
  a_begin sending opening = let h = light.begins sending opening in omega (arith, h)

  an_end : (opening : Opening) (o : Open) (link : EndLink) (v : UpSide) (bytes : List ℕ) → d (Accepts opening o link) + (d (Replies v bytes) + 0) ≤ b v
  an_end opening o link v bytes = let h = light.accepts opening o link v bytes in omega (arith, h)

  a_closing : (triad : Triad) (sending : Sending) (kind : Kind)
      → d (Removes triad) + (d (Forwards sending kind) + 0) ≤ b sending.up
  a_closing triad sending kind = let h = light.closes_on triad sending kind in omega (arith, h)

  a_closed : (triad : Triad) (v : UpSide) (bytes : List ℕ) → d (Removes triad) + (d (Replies v bytes) + 0) ≤ b v
  a_closed triad v bytes = let h = light.closes triad v bytes in omega (arith, h)

  a_drop : (reason : Dropped) (top : ℕ) → d (Drops reason) + 0 ≤ top
  a_drop reason top = let none = light.drops reason in omega (arith, none)

  a_refusal : (fault : Refused) (top : ℕ) → d (RefusesCommand fault) + 0 ≤ top
  a_refusal fault top = let none = light.refuses fault in omega (arith, none)

  -- ---- requests

  sends_once : (v : UpSide) (u : Unconnected) (row : UnconnectedRow) → taken_up (unconnected_effects v u row) ≤ b v
  sends_once v u (unconnected.Refuses refusal) = a_reply v _
  sends_once v u (unconnected.AnsweredHere embedded) = an_answer v embedded
  sends_once v u (unconnected.Forwarded port address rest) = a_forward (send_below v u port address rest) UnconnectedKind

  data_once : (config : ModuleSettings) (s : State) (v : UpSide) (asked : List ℕ) (r : Result Unconnected UnconnectedFault)
      → taken_up (unconnected_data_effects config s v asked r) ≤ b v
  data_once config s v asked (Err fault) = a_reply v _
  data_once config s v asked (Ok u) = sends_once v u (unconnected_row config s.pendings u)

  open_once : (s : State) (v : UpSide) (o : Open) (row : OpenRow) → taken_up (open_effects s v o row) ≤ b v
  open_once s v o (opens.Refuses refusal) = a_reply v _
  open_once s v o (opens.Forwarded port address rest) =
      a_begin (open_below s v o port address rest) (opening_with (up_side_of v o.fields.to_id) (DownLink port address) o)
  open_once s v o (opens.Accepted link) = an_end _ o link v _

  opens_once : (config : ModuleSettings) (s : State) (v : UpSide) (large : Bool) (asked : List ℕ) (r : Result Open DataFault)
      → taken_up (open_data_effects config s v large asked r) ≤ b v
  opens_once config s v large asked (Err fault) = a_reply v _
  opens_once config s v large asked (Ok o) = open_once s v o (open_row config s (up_side_of v o.fields.to_id) o)

  close_once : (v : UpSide) (c : Close) (row : CloseRow) → taken_up (close_effects v c row) ≤ b v
  close_once v c (closes.Refuses refusal) = a_reply v _
  close_once v c (closes.Forwarded port address rest) = a_closing c.fields.triad (close_below v c port address rest) (ClosingKind c.fields.triad)
  close_once v c closes.ClosedAtTheEnd = a_closed c.fields.triad v _

  closes_once : (s : State) (v : UpSide) (asked : List ℕ) (r : Result Close DataFault) → taken_up (close_data_effects s v asked r) ≤ b v
  closes_once s v asked (Err fault) = a_reply v _
  closes_once s v asked (Ok c) = close_once v c (close_row s v c)

  requests_once : (config : ModuleSettings) (s : State) (v : UpSide) (row : RequestRow) → taken_up (request_effects config s v row) ≤ b v
  requests_once config s v request.UnknownPortOrTooLong = a_drop _ (b v)
  requests_once config s v request.NotARequest = a_drop _ (b v)
  requests_once config s v (request.Refuses service refusal) = a_reply v _
  requests_once config s v (request.UnconnectedSend asked) = data_once config s v asked (unconnected_at asked)
  requests_once config s v (request.ForwardOpen large asked) = opens_once config s v large asked (open_at large asked)
  requests_once config s v (request.ForwardClose asked) = closes_once s v asked (close_at asked)
  requests_once config s v (request.Target asked) = an_answer v asked

  -- ---- commands

  refused_once : (row : CommandRow) (es : List Effect) (top : ℕ) → taken_up es ≤ top → taken_up (refused_effects row es) ≤ top
  refused_once command.OpUsed es top h = a_refusal _ top
  refused_once command.NotOpen es top h = a_refusal _ top
  refused_once command.ReservedService es top h = a_refusal _ top
  refused_once command.WrongSize es top h = a_refusal _ top
  refused_once command.NoInstance es top h = a_refusal _ top
  refused_once command.Taken es top h = h

  spent_once : (op : ℕ) (es : List Effect) (top : ℕ) → taken_up es ≤ top → taken_up (with_spending (Local op) es) ≤ top
  spent_once op es top h = let none = light.spends op in omega (arith, h, none)

  closed_once : (s : State) (op of : ℕ) (timing : Timing) (hop : Option Hop) → taken_up (closed_effects s op of timing hop) ≤ b (Local op)
  closed_once s op of timing None = omega arith
  closed_once s op of timing (Some hop) =
      spent_once op (close_effects (Local op) (close_of timing hop) (close_row s (Local of) (close_of timing hop))) (b (Local op))
      (close_once (Local op) (close_of timing hop) (close_row s (Local of) (close_of timing hop)))

  send_once : (config : ModuleSettings) (s : State) (op : ℕ) (u : Unconnected) (row : CommandRow) → taken_up (send_effects config s op u row) ≤ b (Local op)
  send_once config s op u row =
      refused_once row (with_spending (Local op) (unconnected_effects (Local op) u (unconnected_row config s.pendings u))) (b (Local op))
      (spent_once op (unconnected_effects (Local op) u (unconnected_row config s.pendings u)) (b (Local op))
      (sends_once (Local op) u (unconnected_row config s.pendings u)))

  opened_once : (config : ModuleSettings) (s : State) (op : ℕ) (o : Open) → taken_up (open_command_effects config s op o) ≤ b (Local op)
  opened_once config s op o =
      refused_once (op_row s op) (with_spending (Local op) (open_effects s (Local op) o (open_row config s (UpLocal op) o))) (b (Local op))
      (spent_once op (open_effects s (Local op) o (open_row config s (UpLocal op) o)) (b (Local op))
      (open_once s (Local op) o (open_row config s (UpLocal op) o)))

  -- ---- any event

  same_taken : (es fs : List Effect) (top : ℕ) → Some fs ≡ Some es → taken_up fs ≤ top → taken_up es ≤ top
  same_taken es fs top e h = let same : fs ≡ es = cc in subst (λ (x : List Effect). taken_up x ≤ top) same h

  pub light_once : (config : ModuleSettings) (s : State) (event : Event) (es : List Effect) → decide config s event ≡ Some es
      → IsBounded b (asker event) (taken_up es)
  light_once config s (events.Frame port from (bodies.Request number bytes)) es e =
      same_taken es (request_effects config s (Link port from number) (request_row config port bytes)) (b (Link port from number)) e
      (requests_once config s (Link port from number) (request_row config port bytes))
  light_once config s (events.Frame port from (bodies.Reply number bytes)) es e = tt
  light_once config s (events.Frame port from (bodies.Data id bytes)) es e = tt
  light_once config s (events.Command (commands.Open op timing path params)) es e =
      let o = open_of config.identity false timing path (widened params) in
      same_taken es (open_command_effects config s op o) (b (Local op)) e (opened_once config s op o)
  light_once config s (events.Command (commands.LargeOpen op timing path params)) es e =
      let o = open_of config.identity true timing path params in
      same_taken es (open_command_effects config s op o) (b (Local op)) e (opened_once config s op o)
  light_once config s (events.Command (commands.Close op of timing)) es e =
      same_taken es (close_command_effects s op of timing) (b (Local op)) e
      (refused_once (close_command_row s op of) (closed_effects s op of timing (hop_by_op s.hops of)) (b (Local op))
      (closed_once s op of timing (hop_by_op s.hops of)))
  light_once config s (events.Command (commands.Send op timing path asked)) es e =
      same_taken es (send_effects config s op (sent timing path asked) (send_row s op (sent timing path asked))) (b (Local op)) e
      (send_once config s op (sent timing path asked) (send_row s op (sent timing path asked)))
  light_once config s (events.Command (commands.Enter of bytes)) es e = tt
  light_once config s (events.Command (commands.Set instance bytes)) es e = tt
  light_once config s (events.Command (commands.Produce instance)) es e = tt
  light_once config s (events.Tick ms) es e = tt
