-- What goes on, or goes up, is an edit of what came; and a function that puts out what was made, anew or so, keeps its promise.
use Rattle.std.proofs.Common.{◌≡◌, ◌<◌, ℕ, Bool, true, false, cond, eqb, List, [], ◌∷◌, ◌++◌, length, map as map_list, refl, sym, ap, subst, ◌∙◌, arith, Option}
use Rattle.std.proofs.Common.{Some, Result, Ok, Err, IfOk}
use Rattle.std.specs.Option.{option_map, option_map_or}
use Rattle.std.specs.FinMap as map
use Rattle.std.proofs.lemmas.Bool.{eqb-true, eqb-false}
use Rattle.cip_base.specs.declared.triad.Triad.{Triad}
use Rattle.cip_message.specs.Received.{IsReceived}
use Rattle.cip_message.specs.ReplyAt.{reply_at}
use Rattle.cip_unconnected.specs.declared.unconnected.TheConstants.{UNCONNECTED_SEND}
use Rattle.cip_unconnected.specs.Unconnected.{Unconnected, unconnected_bytes}
use Rattle.cip_unconnected.specs.UnconnectedAt.{unconnected_at}
use Rattle.cip_unconnected.specs.GoesOn.{lowered, message_on}
use Rattle.cip_open.specs.Kinds.{open_service}
use Rattle.cip_open.specs.Open.{Open}
use Rattle.cip_open.specs.OpenAt.{open_at}
use Rattle.cip_open.specs.GoesOn.{open_on, success_with, IsOpenSuccess}
use Rattle.cip_open.specs.Success.{OpenSuccess}
use Rattle.cip_close.specs.declared.request.TheConstants.{FORWARD_CLOSE}
use Rattle.cip_close.specs.Close.{Close}
use Rattle.cip_close.specs.CloseAt.{close_at}
use Rattle.cip_close.specs.GoesOn.{close_on}
use Rattle.cip_pending.specs.declared.entry.UpSide.{UpSide}
use Rattle.cip_pending.specs.declared.entry.UpSide.TheVariants.{Link, Local}
use Rattle.cip_pending.specs.declared.entry.Entry.{Entry}
use Rattle.cip_pending.specs.Kinds.{is_large_kind}
use Rattle.cip_pending.specs.Pendings.{waiting_at, without}
use Rattle.cip_pending.specs.declared.entry.Kind.TheVariants.{Unconnected as UnconnectedKind, Closing}
use Rattle.cip_hops.specs.declared.opening.HopUp.{HopUp}
use Rattle.cip_hops.specs.declared.opening.HopDown.TheVariants.{Link as DownLink}
use Rattle.cip_hops.specs.declared.opening.HopUp.TheVariants.{Link as UpLink}
use Rattle.cip_hops.specs.declared.hop.Held.{Held}
use Rattle.cip_hops.specs.Hops.{finished, opening_of, ids_of}
use Rattle.cip_config.specs.declared.config.ModuleSettings.{ModuleSettings}
use Rattle.cip_event.specs.declared.event.Event.{Event}
use Rattle.cip_event.specs.declared.event.Output.{Output}
use Rattle.cip_steps.specs.declared.making.Making.{Making}
use Rattle.cip_steps.specs.declared.making.Making.TheVariants.{Anew, Edited}
use Rattle.cip_steps.specs.declared.making.Outgoing.{Outgoing}
use Rattle.cip_steps.specs.declared.reaction.Reaction.{Reaction}
use Rattle.cip_steps.specs.declared.reaction.Reaction.TheVariants as reactions
use Rattle.cip_steps.specs.declared.reaction.Edit.{Edit}
use Rattle.cip_steps.specs.declared.reaction.Edit.TheVariants.{AsTheyCame, Unwrapped, SentOn, OpenedOn, ClosedOn, SuccessUp}
use Rattle.cip_routing.specs.Effects.{Effect, Forwards, Begins, Removes, Finishes, Takes, given_up, success_up, succeeded, waits_large, replied, reply_up}
use Rattle.cip_routing.specs.Effects.{applied, outputs_of}
use Rattle.cip_routing.specs.OpenRows as opens
use Rattle.cip_routing.specs.OpenRows.{OpenRow, open_row, opening_with}
use Rattle.cip_routing.specs.CloseRows as closes
use Rattle.cip_routing.specs.CloseRows.{CloseRow, close_row}
use Rattle.cip_routing.specs.UnconnectedRows as unconnected
use Rattle.cip_routing.specs.UnconnectedRows.{UnconnectedRow, unconnected_row}
use Rattle.cip_routing.specs.RequestRows.{is_malformed}
use Rattle.cip_routing.specs.ReplyRows.{ReplyRow, UnknownPortOrTooLong, OpenSucceeded, PassedUp, read_row, waiting_row, reply_row}
use Rattle.cip_event.specs.Filled.{filled}
use Rattle.cip_steps.specs.Reactions.{Becomes}
use Rattle.cip_routing.specs.State.{State}
use Rattle.cip_routing.specs.Table.{up_side_of, send_below, open_below, close_below, unconnected_effects, open_effects, close_effects, reply_effects}
use Rattle.cip_routing.specs.Steps.{IsStep}
use Rattle.cip_routing.specs.Table.{with_spending, decide, after_effects, Stepped}
use Rattle.cip_routing.specs.Links.{LeadsOn}
use Rattle.cip_steps.specs.declared.device.Device.{Device}
use Rattle.cip_steps.specs.Code.Device.{state_of_device}
use Rattle.cip_steps.specs.Code.Does.{Does, HasDone}
use Rattle.cip_steps.specs.Code.Reacts.{with_bytes, send_edit, outgoing_of, IsMade, reaction_of, SendCame, OpenCame, CloseCame, Reacted, Reacts, ReactsWhole}
use Rattle.cip_steps.proofs.CameIn.{SaysSuccess, success_came}
use Rattle.cip_routing.proofs.Waiting.{waits_at}
use Rattle.cip_routing.proofs.SendsForwarded.{sent_on}
use Rattle.cip_routing.proofs.OpensForwarded.{open_forwards}
use Rattle.cip_routing.proofs.ClosesForwarded.{close_forwards}

-- ---- the bytes that go on

by_rest : (came : List ℕ) (u : Unconnected) (rest d : List ℕ) (config : ModuleSettings) (s : State) (port : ℕ) (address : List ℕ)
    → IsReceived UNCONNECTED_SEND d came → unconnected_at d ≡ Ok u → LeadsOn config s u.timing u.route port address rest
    → (b : Bool) → eqb (length rest) 0 ≡ b
    → Becomes came (cond b Unwrapped SentOn) (cond b u.request (unconnected_bytes (lowered u rest)))
by_rest came u rest d config s port address received is leads true e = (
  u,
  leads.hop,
  record { data_ = d; request = received; is = is; leads = leads.first },
  ap length (sym leads.rest_is) ∙ eqb-true (length rest) 0 e,
  refl,
)
by_rest came u rest d config s port address received is leads false e = (
  u,
  leads.hop,
  record { data_ = d; request = received; is = is; leads = leads.first },
  (let t = leads.ticks in omega (arith, t)),
  subst (λ (r : List ℕ). 0 < length r) leads.rest_is (let n = eqb-false (length rest) 0 e in omega (arith, n)),
  ap (λ (r : List ℕ). unconnected_bytes (lowered u r)) leads.rest_is,
)

pub send_becomes : (came d : List ℕ) (config : ModuleSettings) (s : State) (u : Unconnected) (port : ℕ) (address rest : List ℕ)
    → IsReceived UNCONNECTED_SEND d came → unconnected_at d ≡ Ok u → unconnected_row config s.pendings u ≡ unconnected.Forwarded port address rest
    → Becomes came (send_edit rest) (message_on u rest)
send_becomes came d config s u port address rest received is e =
    by_rest came u rest d config s port address received is (sent_on config s u port address rest e).2 (eqb (length rest) 0) refl

pub open_becomes : (came d : List ℕ) (config : ModuleSettings) (s : State) (up : HopUp) (o : Open) (port id : ℕ) (address rest : List ℕ)
    → IsReceived (open_service o.fields.large) d came → open_at o.fields.large d ≡ Ok o → open_row config s up o ≡ opens.Forwarded port address rest
    → Becomes came (OpenedOn id) (open_on o id rest)
open_becomes came d config s up o port id address rest received is e =
    let leads = (open_forwards config s up o port address rest e).1.0 in (
      o,
      leads.hop,
      record { data_ = d; request = received; is = is; leads = leads.first },
      (let t = leads.ticks in omega (arith, t)),
      ap (open_on o id) leads.rest_is,
    )

pub close_becomes : (came d : List ℕ) (s : State) (sender : UpSide) (c : Close) (port : ℕ) (address rest : List ℕ)
    → IsReceived FORWARD_CLOSE d came → close_at d ≡ Ok c → close_row s sender c ≡ closes.Forwarded port address rest
    → Becomes came ClosedOn (close_on c rest)
close_becomes came d s sender c port address rest received is e =
    let leads = close_forwards s sender c port address rest e in
    (c, leads.0, record { data_ = d; request = received; is = is; leads = leads.1 }, (let t = leads.3 in omega (arith, t)), ap (close_on c) leads.2)

-- ---- a request that lacks its bytes goes on as it would with them

module _ (config : ModuleSettings) (s : State) (after : ModuleSettings) (new : State) (o : Output) (b : List ℕ) where
  filled_done : (lacking es : List Effect) → applied config s es ≡ applied config s lacking
      → outputs_of config s es ≡ map_list (λ x. filled x b) (outputs_of config s lacking)
      → HasDone config s after new lacking (o ∷ []) → HasDone config s after new es (filled o b ∷ [])
  filled_done lacking es same out done = record {
    does = record { state = same ∙ done.does.state; out = out ∙ ap (map_list (λ x. filled x b)) done.does.out };
    same_config = done.same_config;
  }

-- ---- a reply that lacks its bytes goes up as it would with them

reply_with : (up : UpSide) (old b : List ℕ) → filled (reply_up up old) b ≡ reply_up up b
reply_with (Link port address number) old b = refl
reply_with (Local op) old b = refl

-- ---- what was made is put into an output

module _ (old new : Device) where
  abbrev s : State
  s = state_of_device old

  abbrev Did : List Effect → List Output → Type 0
  Did es os = HasDone old.config s new.config (state_of_device new) es os

  on_by : (m : Making) (Came : List ℕ → Type 0) (o : Output) (effects : List ℕ → List Effect) (b : List ℕ) (edit : Edit)
      → ((came : List ℕ) → Came came → Becomes came edit b)
      → ((x y : List ℕ) → applied old.config s (effects x) ≡ applied old.config s (effects y))
      → ((x y : List ℕ) → outputs_of old.config s (effects x) ≡ map_list (λ p. filled p x) (outputs_of old.config s (effects y)))
      → Did (effects (outgoing_of m b edit).bytes) (o ∷ []) → Reacted m Came old new (effects b) (reaction_of (outgoing_of m b edit).edit o)
  on_by Anew Came o effects b edit becomes same out done = done
  on_by Edited Came o effects b edit becomes same out done = (
    tt,
    λ came is. (b, becomes came is, filled_done old.config s new.config (state_of_device new) o b (effects []) (effects b) (same b []) (out b []) done),
  )

  -- a request that goes on with what was made
  goes_on : (m : Making) (Came : List ℕ → Type 0) (o : Output) (effects : List ℕ → List Effect) (b : List ℕ) (edit : Edit) (made : Outgoing) (r : Reaction)
      → made ≡ outgoing_of m b edit
      → ((came : List ℕ) → Came came → Becomes came edit b)
      → ((x y : List ℕ) → applied old.config s (effects x) ≡ applied old.config s (effects y))
      → ((x y : List ℕ) → outputs_of old.config s (effects x) ≡ map_list (λ p. filled p x) (outputs_of old.config s (effects y)))
      → Did (effects made.bytes) (o ∷ []) → r ≡ reaction_of made.edit o → Reacted m Came old new (effects b) r
  goes_on m Came o effects b edit made r is becomes same out done puts =
      subst (λ (x : Reaction). Reacted m Came old new (effects b) x) (sym (puts ∙ ap (λ (x : Outgoing). reaction_of x.edit o) is))
      (on_by m Came o effects b edit becomes same out (subst (λ (x : Outgoing). Did (effects x.bytes) (o ∷ [])) is done))

  up_by : (m : Making) (Came : List ℕ → Type 0) (up : UpSide) (es : List Effect) (b : List ℕ) (edit : Edit)
      → ((came : List ℕ) → Came came → Becomes came edit b) → Did es (reply_up up b ∷ [])
      → Reacted m Came old new es (reaction_of (outgoing_of m b edit).edit (reply_up up (outgoing_of m b edit).bytes))
  up_by Anew Came up es b edit becomes done = done
  up_by Edited Came up es b edit becomes done =
      (tt, λ came is. (b, becomes came is, subst (λ (o : Output). Did es (o ∷ [])) (sym (reply_with up [] b)) done))

  -- a reply that goes up with what was made
  goes_up : (m : Making) (Came : List ℕ → Type 0) (up : UpSide) (es : List Effect) (b : List ℕ) (made : Outgoing) (o : Output) (r : Reaction)
      → IsMade m Came b made → Did es (reply_up up b ∷ []) → o ≡ reply_up up made.bytes → r ≡ reaction_of made.edit o → Reacted m Came old new es r
  goes_up m Came up es b made o r is done puts with_edit =
      subst (λ (x : Reaction). Reacted m Came old new es x)
      (sym (with_edit ∙ ap (reaction_of made.edit) puts ∙ ap (λ (x : Outgoing). reaction_of x.edit (reply_up up x.bytes)) is.so))
      (up_by m Came up es b is.edit is.becomes done)

  -- ---- what the functions react that take a request on

  pub sent : (m : Making) (o : Output) (up : UpSide) (u : Unconnected) (port : ℕ) (address rest : List ℕ) (made : Outgoing) (r : Reaction)
      → unconnected.Forwarded port address rest ≡ unconnected_row old.config old.pendings u → made ≡ outgoing_of m (message_on u rest) (send_edit rest)
      → Did (Forwards (with_bytes (send_below up u port address []) made.bytes) UnconnectedKind ∷ []) (o ∷ []) → r ≡ reaction_of made.edit o
      → Reacted m (SendCame u) old new (unconnected_effects up u (unconnected_row old.config old.pendings u)) r
  sent m o up u port address rest made r e is done puts =
      subst (λ (row : UnconnectedRow). Reacted m (SendCame u) old new (unconnected_effects up u row) r) e
      (goes_on m (SendCame u) o (λ b. Forwards (with_bytes (send_below up u port address []) b) UnconnectedKind ∷ []) (message_on u rest) (send_edit rest)
      made r is (λ came c. send_becomes came c.0 old.config s u port address rest c.1 c.2 (sym e)) (λ x y. refl) (λ x y. refl) done puts)

  abbrev beginning : UpSide → Open → ℕ → List ℕ → List ℕ → List Effect
  beginning up q port address b =
      with_spending up (Begins (with_bytes (open_below s up q port address []) b) (opening_with (up_side_of up q.fields.to_id) (DownLink port address) q) ∷ [])

  begun_same : (up : UpSide) (q : Open) (port : ℕ) (address x y : List ℕ)
      → applied old.config s (beginning up q port address x) ≡ applied old.config s (beginning up q port address y)
  begun_same (Link by from number) q port address x y = refl
  begun_same (Local op) q port address x y = refl

  begun_out : (up : UpSide) (q : Open) (port : ℕ) (address x y : List ℕ)
      → outputs_of old.config s (beginning up q port address x) ≡ map_list (λ p. filled p x) (outputs_of old.config s (beginning up q port address y))
  begun_out (Link by from number) q port address x y = refl
  begun_out (Local op) q port address x y = refl

  pub opened : (m : Making) (o : Output) (up : UpSide) (q : Open) (port id : ℕ) (address rest : List ℕ) (made : Outgoing) (r : Reaction) → id ≡ old.hops.next
      → opens.Forwarded port address rest ≡ open_row old.config s (up_side_of up q.fields.to_id) q → made ≡ outgoing_of m (open_on q id rest) (OpenedOn id)
      → Did (beginning up q port address made.bytes) (o ∷ []) → r ≡ reaction_of made.edit o
      → Reacted m (OpenCame q) old new (with_spending up (open_effects s up q (open_row old.config s (up_side_of up q.fields.to_id) q))) r
  opened m o up q port id address rest made r next e is done puts =
      subst (λ (row : OpenRow). Reacted m (OpenCame q) old new (with_spending up (open_effects s up q row)) r) e
      (goes_on m (OpenCame q) o (beginning up q port address) (open_on q s.hops.next rest) (OpenedOn s.hops.next) made r
      (is ∙ ap (λ (x : ℕ). outgoing_of m (open_on q x rest) (OpenedOn x)) next)
      (λ came c. open_becomes came c.0 old.config s (up_side_of up q.fields.to_id) q port s.hops.next address rest c.1 c.2 (sym e))
      (begun_same up q port address) (begun_out up q port address) done puts)

  abbrev closing : UpSide → Close → ℕ → List ℕ → List ℕ → List Effect
  closing up c port address b =
      with_spending up (Removes c.fields.triad ∷ Forwards (with_bytes (close_below up c port address []) b) (Closing c.fields.triad) ∷ [])

  closed_same : (up : UpSide) (c : Close) (port : ℕ) (address x y : List ℕ)
      → applied old.config s (closing up c port address x) ≡ applied old.config s (closing up c port address y)
  closed_same (Link by from number) c port address x y = refl
  closed_same (Local op) c port address x y = refl

  closed_out : (up : UpSide) (c : Close) (port : ℕ) (address x y : List ℕ)
      → outputs_of old.config s (closing up c port address x) ≡ map_list (λ p. filled p x) (outputs_of old.config s (closing up c port address y))
  closed_out (Link by from number) c port address x y = refl
  closed_out (Local op) c port address x y = refl

  pub closed : (m : Making) (o : Output) (up sender : UpSide) (c : Close) (port : ℕ) (address rest : List ℕ) (made : Outgoing) (r : Reaction)
      → closes.Forwarded port address rest ≡ close_row s sender c → made ≡ outgoing_of m (close_on c rest) ClosedOn
      → Did (closing up c port address made.bytes) (o ∷ []) → r ≡ reaction_of made.edit o
      → Reacted m (CloseCame c) old new (with_spending up (close_effects up c (close_row s sender c))) r
  closed m o up sender c port address rest made r e is done puts =
      subst (λ (row : CloseRow). Reacted m (CloseCame c) old new (with_spending up (close_effects up c row)) r) e
      (goes_on m (CloseCame c) o (closing up c port address) (close_on c rest) ClosedOn made r is
      (λ came k. close_becomes came k.0 s sender c port address rest k.1 k.2 (sym e)) (closed_same up c port address) (closed_out up c port address) done puts)

  -- what holds of more bytes that came holds of fewer
  pub narrowed : {E : Type 0} (m : Making) (More Fewer : List ℕ → Type 0) (es : List Effect) (r : Result Reaction E)
      → ((came : List ℕ) → Fewer came → More came) → Reacts m More old new es r → Reacts m Fewer old new es r
  narrowed m More Fewer es (Ok (reactions.Whole o)) more reacts = reacts
  narrowed m More Fewer es (Ok (reactions.Edited o edit)) more reacts = (reacts.0, λ came is. reacts.1 came (more came is))
  narrowed m More Fewer es (Ok (reactions.Several all)) more reacts = reacts
  narrowed m More Fewer es (Err fault) more reacts = reacts

  -- what is whole is so however bytes are made
  pub whole_so : {E : Type 0} (m : Making) (Came : List ℕ → Type 0) (es : List Effect) (r : Result Reaction E) → ReactsWhole old new es r
      → Reacts m Came old new es r
  whole_so m Came es (Ok (reactions.Whole o)) reacts = reacts
  whole_so m Came es (Ok (reactions.Edited o edit)) reacts = absurd (reacts.0)
  whole_so m Came es (Ok (reactions.Several all)) reacts = reacts
  whole_so m Came es (Err fault) reacts = reacts

-- ---- a success goes up with the ids of the sides above

pub success_made : {E : Type 0} (m : Making) (large : Bool) (held : Option Held) (x : Held) (port : ℕ) (address : List ℕ) (their_id up_id : ℕ) (came : List ℕ)
    (s : OpenSuccess) (r : Result Outgoing E) → held ≡ Some x → (opening_of x).up ≡ UpLink port address their_id
    → up_id ≡ option_map_or (λ id. id) (ids_of x).up 0
    → IfOk r (λ made. made ≡ outgoing_of m (success_with large s up_id their_id) (SuccessUp up_id their_id))
    → IfOk r (λ made. IsMade m (λ b. (b ≡ came) × IsOpenSuccess large b s) (succeeded large held came s) made)
success_made m large held x port address their_id up_id came s (Ok made) stands above own so =
    let is : succeeded large held came s ≡ success_with large s up_id their_id =
    ap (λ (h : Option Held). succeeded large h came s) stands
    ∙ ap (λ (up : HopUp). success_up large up (ids_of x) came s) above
    ∙ ap (λ (id : ℕ). success_with large s id their_id) (sym own) in record {
      edit = SuccessUp up_id their_id;
      so = so ∙ ap (λ (b : List ℕ). outgoing_of m b (SuccessUp up_id their_id)) (sym is);
      becomes = λ b e. (large, s, e.1, is);
    }
success_made m large held x port address their_id up_id came s (Err fault) stands above own so = tt

-- ---- a step of the routing table

abbrev stepped : State → List Output → Option Stepped
stepped t outs = Some (record { state = t; outputs = outs })

pub is_step : (config : ModuleSettings) (s new : State) (event : Event) (es : List Effect) (outs : List Output) → decide config s event ≡ Some es
    → Does config s es new outs → IsStep config s event new outs
is_step config s new event es outs decides does =
    ap (after_effects config s) decides
    ∙ ap (λ (t : State). stepped t (outputs_of config s es)) does.state
    ∙ ap (stepped new) does.out

-- ---- a reply

pub row_is : (config : ModuleSettings) (s : State) (port : ℕ) (from : List ℕ) (number : ℕ) (b : List ℕ) (entry : Entry) → is_malformed config port b ≡ false
    → Some entry ≡ waiting_at s.pendings number port from → read_row entry.kind (reply_at b) ≡ reply_row config s port from number b
unfolding reply_row
row_is config s port from number b entry fits waits =
    ap (waiting_row b) waits
    ∙ ap (λ (t : Bool). cond t UnknownPortOrTooLong (waiting_row b (waiting_at s.pendings number port from))) (sym fits)

module _ (old new : Device) (m : Making) (port number : ℕ) (from came : List ℕ) (entry : Entry) (up : UpSide) (made : Outgoing) (o : Output) (r : Reaction)
    (waits : Some entry ≡ waiting_at old.pendings number port from)
    (value : Some up ≡ option_map (λ (e : Entry). e.up) (waiting_at old.pendings number port from)) (is : o ≡ reply_up up made.bytes)
    (puts : r ≡ reaction_of made.edit o) (kept : new.config ≡ old.config) where
  abbrev before : State
  before = state_of_device old

  abbrev AsCame : List ℕ → Type 0
  AsCame b = b ≡ came

  own : up ≡ entry.up
  own = let both : Some up ≡ Some entry.up = value ∙ ap (option_map (λ (e : Entry). e.up)) (sym waits) in cc

  stands : map.get old.pendings.entries number ≡ Some entry
  stands = waits_at old.pendings number port from entry (sym waits)

  told : (b : List ℕ) → replied (map.get old.pendings.entries number) b ++ [] ≡ reply_up up b ∷ []
  told b =
      ap (λ (e : Option Entry). replied e b ++ []) stands
      ∙ ap (λ (x : Output). x ∷ []) (ap (λ (v : UpSide). reply_up v b) (sym own))

  abbrev Answered : Type 0
  Answered = Reacted m AsCame old new (reply_effects number came (reply_row old.config before port from number came)) r

  pub finished_up : (large : Bool) (triad : Triad) (success : OpenSuccess) → large ≡ is_large_kind entry.kind
      → OpenSucceeded triad success ≡ reply_row old.config before port from number came
      → IsMade m (λ b. (b ≡ came) × IsOpenSuccess large b success) (succeeded large (map.get old.hops.held triad) came success) made
      → state_of_device new
      ≡ record before { pendings = without before.pendings number; hops = finished before.hops triad success.ot_id before.now }
      → Answered
  finished_up large triad success asked row made_up after =
      let held : Option Held = map.get old.hops.held triad in
      let waiting : Option Entry = waiting_at old.pendings number port from in
      let says = subst (SaysSuccess (waits_large waiting) came) (sym row) (success_came old.config before port from number came) in
      let same : IsOpenSuccess large came success =
      subst (λ (l : Bool). IsOpenSuccess l came success) (ap waits_large (sym waits) ∙ sym asked) says in
      subst (λ (x : ReplyRow). Reacted m AsCame old new (reply_effects number came x) r) row
      (goes_up old new m AsCame up (Finishes number triad came success ∷ []) (succeeded large held came success) made o r
      (record {
        edit = made_up.edit;
        so = made_up.so;
        becomes = λ b e. made_up.becomes b (e, subst (λ (x : List ℕ). IsOpenSuccess large x success) (sym e) same);
      })
      (record {
        does = record {
          state = sym after;
          out =
              told (succeeded (waits_large (map.get old.pendings.entries number)) held came success)
              ∙ ap (λ (l : Bool). reply_up up (succeeded l held came success) ∷ []) (ap waits_large stands ∙ sym asked);
        };
        same_config = kept;
      }) is puts)

  pub passed_up : PassedUp ≡ reply_row old.config before port from number came → made ≡ outgoing_of m came AsTheyCame
      → state_of_device new
      ≡ record before { pendings = without before.pendings number; hops = given_up (map.get before.pendings.entries number) before.hops }
      → Answered
  passed_up row so after =
      subst (λ (x : ReplyRow). Reacted m AsCame old new (reply_effects number came x) r) row
      (goes_up old new m AsCame up (Takes number came ∷ []) came made o r (record { edit = AsTheyCame; so = so; becomes = λ b e. sym e })
      (record { does = record { state = sym after; out = told came }; same_config = kept }) is puts)
