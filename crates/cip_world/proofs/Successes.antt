-- A success by which a module answers a Forward_Open names the up id of a connection that the module opened for that request.
use Rattle.std.proofs.Common.{◌≡◌, ℕ, ◌+◌, Bool, true, false, cond, List, [], ◌∷◌, ◌++◌, Result, Ok, Err, Option, Some, None, refl, sym, ap, subst, ◌∙◌, ◌⊎◌}
use Rattle.std.proofs.Common.{inl, inr, arith, eqb}
use Rattle.std.specs.FinMap as map
use Rattle.std.specs.Ordering.{nat_cmp}
use Rattle.std.specs.Prelude.{is_some, slice_get, nat_lt, length}
use Rattle.std.specs.Option.{option_map_or}
use Rattle.std.proofs.lemmas.Bool.{eq-eqb, cond_both}
use Rattle.cip_base.specs.declared.timing.Status.{Status}
use Rattle.cip_base.specs.declared.triad.Triad.{Triad}
use Rattle.cip_message.specs.Request.{Request}
use Rattle.cip_message.specs.Reply.{Reply, reply_with}
use Rattle.cip_message.specs.Failure.{failure_data, failure_at}
use Rattle.cip_message.specs.ReplyAt.{reply_at}
use Rattle.cip_message.specs.declared.failure.ConnectionFailure.{ConnectionFailure}
use Rattle.cip_message.specs.declared.fault.DataFault.{DataFault}
use Rattle.cip_unconnected.specs.Unconnected.{Unconnected}
use Rattle.cip_open.specs.Open.{Open, open_data, open_bytes}
use Rattle.cip_open.specs.OpenAt.{open_at, open_triad_of, open_words_of}
use Rattle.cip_open.specs.Failed.{open_failure_bytes}
use Rattle.cip_open.specs.Success.{OpenSuccess, open_reply_bytes}
use Rattle.cip_open.specs.SuccessAt.{open_reply_at}
use Rattle.cip_close.specs.Close.{Close}
use Rattle.cip_pending.specs.declared.entry.Entry.{Entry}
use Rattle.cip_pending.specs.declared.entry.UpSide.{UpSide}
use Rattle.cip_pending.specs.declared.entry.UpSide.TheVariants.{Link, Local}
use Rattle.cip_pending.specs.declared.entry.Kind.{Kind}
use Rattle.cip_pending.specs.declared.entry.Kind.TheVariants.{Unconnected as UnconnectedKind, Opening as OpeningKind, OpeningLarge as LargeKind}
use Rattle.cip_pending.specs.declared.entry.Kind.TheVariants.{Closing as ClosingKind}
use Rattle.cip_pending.specs.Kinds.{opened_triad, is_large_kind}
use Rattle.cip_hops.specs.declared.opening.HopUp.{HopUp}
use Rattle.cip_hops.specs.declared.opening.HopUp.TheVariants.{Link as UpLink}
use Rattle.cip_hops.specs.declared.opening.HopDown.{HopDown}
use Rattle.cip_hops.specs.declared.opening.HopDown.TheVariants.{Link as DownLink}
use Rattle.cip_hops.specs.declared.opening.Opening.{Opening}
use Rattle.cip_hops.specs.declared.opening.OwnIds.{OwnIds}
use Rattle.cip_hops.specs.declared.hop.Held.TheVariants.{Opening as IsOpening}
use Rattle.cip_hops.specs.Sides.{up_is_link, down_is_link, own_ids}
use Rattle.cip_target.specs.declared.link.EndLink.{EndLink}
use Rattle.cip_config.specs.declared.config.ModuleSettings.{ModuleSettings}
use Rattle.cip_event.specs.declared.event.Body.TheVariants as bodies
use Rattle.cip_event.specs.declared.event.Event.{Event}
use Rattle.cip_event.specs.declared.event.Event.TheVariants as events
use Rattle.cip_event.specs.declared.event.Output.TheVariants as outputs
use Rattle.cip_routing.specs.declared.refusals.RequestRefusal.{RequestRefusal}
use Rattle.cip_routing.specs.declared.refusals.LinkRefusal.TheVariants.{TicksSpent}
use Rattle.cip_routing.specs.Answers.{failed_unread, failed_at, route_words_data}
use Rattle.cip_routing.specs.Effects.{Sending, Effect, Forwards, Begins, Finishes, Takes, entry_for, kind_for, timed_out_bytes, succeeded, success_up, applied}
use Rattle.cip_routing.specs.OpenRows.{opening_with, end_down, open_row}
use Rattle.cip_routing.specs.OpenRows as opens
use Rattle.cip_routing.specs.ReplyRows.{PassedUp, MalformedForItsKind, OpenSucceeded, kind_row, open_kind_row, opening_row, opened_row, failure_row, triad_eq}
use Rattle.cip_routing.specs.RequestRows.{RequestRow, request_row}
use Rattle.cip_routing.specs.RequestRows as request
use Rattle.cip_routing.specs.State.{State}
use Rattle.cip_routing.specs.Statuses.{open_status, link_status}
use Rattle.cip_routing.specs.Table.{up_side_of, open_effects, open_data_effects, accepted_bytes, request_effects, unread_open_bytes, words_of}
use Rattle.cip_laws.specs.Tells.{Tells, Came, AsksSend, AsksOpen, AsksClose, RepliesAs, RequestFails, SendUnread, SendFails, OpenUnread, OpenFails, OpenEnds}
use Rattle.cip_laws.specs.Tells.{CloseUnread, CloseFails, CloseEnds, AnswersAs, Itself, Embedded, ForwardsAs, FinishesAs, TakesAs, SentOn, ClosedOn}
use Rattle.cip_routing.proofs.Opens.{opens_for}
use Rattle.cip_routing.proofs.Waiting.{waits_at}
use Rattle.cip_laws.specs.Births.{first_opened, born, Past, IsBirth}
use Rattle.cip_laws.specs.Histories.{Turn, state_after, IsHistory}
use Rattle.cip_laws.specs.Turns.{Has, Gave}
use Rattle.cip_laws.proofs.Births.{held_born}
use Rattle.cip_message.proofs.ReadAgain.{ok_reply, reply_is}
use Rattle.cip_open.proofs.ReadAgain.{open_data_read, success_back, failure_back}
use Rattle.cip_laws.proofs.Failures.{open_fails}
use Rattle.cip_laws.proofs.NextRows.{open_row_is}
use Rattle.cip_laws.proofs.Joined.{OpenSent, Opens, SentIn, joined}
use Rattle.cip_base.proofs.MapCases.{some_same}
use Rattle.cip_laws.proofs.Puts.{puts, pending_cases}
use Rattle.cip_laws.proofs.Quiet.{reply_alone}
use Rattle.cip_laws.proofs.GaveBy.{GaveBy, gave_by, RepliesBy, AtOnce, Here, Opened, Taken, Late, reply_by}
use Rattle.cip_laws.proofs.Turns.{Turned, newest, by_turn}
use Rattle.cip_open.specs.Kinds.{open_reply_service}

-- ---- where each request that waits was put

pub record PutIn (config : ModuleSettings) (n : ℕ) (p : Entry) (before : List Turn) (turn : Turn) : Type 0 where
  pub effect : Effect
  pub mid : State
  pub tells : Tells config (state_after config before) turn.event effect
  pub put : puts mid effect ≡ Some p

pub put_in : (config : ModuleSettings) (turns : List Turn) → IsHistory config turns → (n : ℕ) (p : Entry)
    → map.get (state_after config turns).pendings.entries n ≡ Some p → Past (PutIn config n p) turns
put_in config [] h n p at = let none : None ≡ Some p = sym (map.get-empty {X = Entry} nat_cmp n) ∙ at in absurd (cc)
put_in config (turn ∷ turns) h n p at =
    by_turn config (state_after config turns) turn.event
    (λ s outs. (n : ℕ) (p : Entry) → map.get s.pendings.entries n ≡ Some p → PutIn config n p turns turn ⊎ Past (PutIn config n p) turns)
    (λ s outs e tells old n p at. elim (pending_cases config s e n p at) as (λ _. PutIn config n p turns turn ⊎ Past (PutIn config n p) turns) [
      | inl before ↦ old n p before
      | inr put ↦ inl (record { effect = e; mid = s; tells = tells; put = put.1 })
    ])
    (state_after config (turn ∷ turns)) turn.outputs (newest config turn turns h) (λ n p at. inr (put_in config turns h.0 n p at)) n p at

pub past_elim : (P : List Turn → Turn → Type 0) (F : Type 0) (turns : List Turn) → Past P turns → ((before : List Turn) (turn : Turn) → P before turn → F) → F
past_elim P F [] h f = absurd h
past_elim P F (turn ∷ turns) (inl h) f = f turns turn h
past_elim P F (turn ∷ turns) (inr h) f = past_elim P F turns h f

no_open_pass : (large : Bool) (triad : Triad) (r : Reply) → open_kind_row large triad r ≡ PassedUp → r.general ≡ 0 → ⊥
no_open_pass large triad r e general =
    by_service (eqb r.service (open_reply_service large)) (eq-eqb r.general 0 general) e
  where
    no_triad : (b : Bool) (success : OpenSuccess) → cond b (OpenSucceeded triad success) MalformedForItsKind ≡ PassedUp → ⊥
    no_triad true success f = cc
    no_triad false success f = cc

    no_success : (b : Bool) (x : Result OpenSuccess DataFault) → cond b MalformedForItsKind (opened_row triad x) ≡ PassedUp → ⊥
    no_success true x f = cc
    no_success false (Err fault) f = cc
    no_success false (Ok success) f = no_triad (triad_eq success.triad triad) success f

    by_service : (b : Bool) → eqb r.general 0 ≡ true → cond b (opening_row triad r) MalformedForItsKind ≡ PassedUp → ⊥
    by_service true t f = no_success (is_some (slice_get r.extra 0)) (open_reply_at r.data_)
        (sym (ap (λ b. cond b (cond (is_some (slice_get r.extra 0)) MalformedForItsKind (opened_row triad (open_reply_at r.data_)))
        (failure_row triad (failure_at r.data_))) t) ∙ f)
    by_service false t f = cc

no_pass : (kind : Kind) (triad : Triad) (r : Reply) → opened_triad kind ≡ Some triad → kind_row kind r ≡ PassedUp → r.general ≡ 0 → ⊥
no_pass UnconnectedKind triad r opened e general = let no : None ≡ Some triad = opened in cc
no_pass (ClosingKind k) triad r opened e general = let no : None ≡ Some triad = opened in cc
no_pass (OpeningKind triad) k r opened e general = no_open_pass false triad r e general
no_pass (LargeKind triad) k r opened e general = no_open_pass true triad r e general

late_general : (kind : Kind) (words : ℕ) (r : Reply) (bytes : List ℕ) → bytes ≡ timed_out_bytes kind words → reply_at bytes ≡ Ok r → r.general ≡ 1
late_general UnconnectedKind words r bytes is e = ap (λ (x : Reply). x.general)
    (reply_is (reply_with (128 + 0x52) (link_status TicksSpent) (route_words_data (Some words))) r bytes (omega arith) is e)
late_general (OpeningKind triad) words r bytes is e = failure_back false (link_status TicksSpent) (failed_at triad words) r bytes is e
late_general (LargeKind triad) words r bytes is e = failure_back true (link_status TicksSpent) (failed_at triad words) r bytes is e
late_general (ClosingKind triad) words r bytes is e = ap (λ (x : Reply). x.general)
    (reply_is (reply_with 0xCE (link_status TicksSpent) (failure_data (failed_at triad words))) r bytes (omega arith) is e)

-- an id that is there is the one that is told for it
told_id : (own : Option ℕ) (given told : ℕ) → own ≡ Some given → told ≡ option_map_or (λ id. id) own 0 → own ≡ Some told
told_id own given told e is = e ∙ ap (λ (i : ℕ). Some i) (sym (is ∙ ap (λ (x : Option ℕ). option_map_or (λ id. id) x 0) e))

-- ---- a request that came was a Forward_Open

-- of every request number n that came by the port from the address: it was this open
abbrev pub TurnAsks : ℕ → ℕ → List ℕ → Open → Turn → Type 0
TurnAsks port n from oo turn = (b : List ℕ) → turn.event ≡ events.Frame port from (bodies.Request n b) → b ≡ open_bytes oo

abbrev pub AllAsk : ℕ → ℕ → List ℕ → Open → List Turn → Type 0
AllAsk port n from oo [] = Unit {0}
AllAsk port n from oo (turn ∷ turns) = TurnAsks port n from oo turn × AllAsk port n from oo turns

pub past_asks : (port n : ℕ) (from : List ℕ) (oo : Open) (P : List Turn → Turn → Type 0) (F : Type 0) (turns : List Turn) → AllAsk port n from oo turns
    → Past P turns
    → ((before : List Turn) (turn : Turn) → TurnAsks port n from oo turn → P before turn → F) → F
past_asks port n from oo P F [] asks h f = absurd h
past_asks port n from oo P F (turn ∷ turns) asks (inl h) f = f turns turn asks.0 h
past_asks port n from oo P F (turn ∷ turns) asks (inr h) f = past_asks port n from oo P F turns asks.1 h f

module _ (config : ModuleSettings) (port n : ℕ) (from : List ℕ) (oo : Open) where
  abbrev up : UpSide
  up = Link port from n

  row_came : (event : Event) (row : RequestRow) → ((b : List ℕ) → event ≡ events.Frame port from (bodies.Request n b) → b ≡ open_bytes oo)
      → Came config event up row
      → (row ≡ request.UnknownPortOrTooLong) ⊎ (row ≡ request.ForwardOpen oo.fields.large (open_data oo))
  row_came event row only came =
      let e : Link port from n ≡ Link came.port came.from came.number = came.up_is in
      let ports : port ≡ came.port = cc in
      let froms : from ≡ came.from = cc in
      let numbers : n ≡ came.number = cc in
      let is : event ≡ events.Frame port from (bodies.Request n came.bytes) = came.event_is
      ∙ (λ i. events.Frame (sym ports i) (sym froms i) (bodies.Request (sym numbers i) came.bytes)) in
      let bytes = only came.bytes is in
      elim (open_row_is config came.port oo) as (λ _. (row ≡ request.UnknownPortOrTooLong) ⊎ (row ≡ request.ForwardOpen oo.fields.large (open_data oo))) [
        | inl u ↦ inl (sym came.meets ∙ ap (request_row config came.port) bytes ∙ u)
        | inr f ↦ inr (sym came.meets ∙ ap (request_row config came.port) bytes ∙ f)
      ]

  module _ (s : State) (event : Event) (only : (b : List ℕ) → event ≡ events.Frame port from (bodies.Request n b) → b ≡ open_bytes oo) where
    no_refusal : (service : ℕ) (refusal : RequestRefusal) → Came config event up (request.Refuses service refusal) → ⊥
    no_refusal service refusal came = elim (row_came event (request.Refuses service refusal) only came) [ inl e ↦ cc | inr e ↦ cc ]

    no_unconnected : (asked : List ℕ) → Came config event up (request.UnconnectedSend asked) → ⊥
    no_unconnected asked came = elim (row_came event (request.UnconnectedSend asked) only came) [ inl e ↦ cc | inr e ↦ cc ]

    no_close : (asked : List ℕ) → Came config event up (request.ForwardClose asked) → ⊥
    no_close asked came = elim (row_came event (request.ForwardClose asked) only came) [ inl e ↦ cc | inr e ↦ cc ]

    no_target : (asked : Request) → Came config event up (request.Target asked) → ⊥
    no_target asked came = elim (row_came event (request.Target asked) only came) [ inl e ↦ cc | inr e ↦ cc ]

    no_send_asked : (u : Unconnected) → AsksSend config s event up u → ⊥
    no_send_asked u (inl h) = no_unconnected h.asked h.came
    no_send_asked u (inr h) = let e : Link port from n ≡ Local h.op = h.up_is in cc

    no_close_asked : (sender : UpSide) (c : Close) → AsksClose config s event up sender c → ⊥
    no_close_asked sender c (inl h) = no_close h.asked h.came
    no_close_asked sender c (inr h) = let e : Link port from n ≡ Local h.op = h.up_is in cc

    -- the open that is read is the one that was sent
    pub open_asked : (o : Open) → AsksOpen config s event up o → o ≡ oo
    open_asked o (inl h) =
        elim (row_came event (request.ForwardOpen o.fields.large h.asked) only h.came) as (λ _. o ≡ oo) [
          | inl e ↦ absurd (cc)
          | inr e ↦
              let large : o.fields.large ≡ oo.fields.large = cc in
              let same : h.asked ≡ open_data oo = cc in
              open_data_read oo o ((λ i. open_at (sym large i) (sym same i)) ∙ h.read)
        ]
    open_asked o (inr h) = let e : Link port from n ≡ Local h.op = h.up_is in absurd (cc)

    -- what is put among the requests that wait opens a connection
    put_opens : (mid : State) (e : Effect) (p : Entry) → Tells config s event e → puts mid e ≡ Some p → p.up ≡ up
        → (triad : Triad) × (opened_triad p.kind ≡ Some triad)
    put_opens mid (Begins sending opening) p tells put is =
        let same : entry_for mid sending (kind_for opening) ≡ p = cc in
        (opening.triad, ap (λ (x : Entry). opened_triad x.kind) (sym same) ∙ opens_for opening)
    put_opens mid (Forwards sending kind) p tells put is =
        let same : entry_for mid sending kind ≡ p = cc in
        absurd (no_forward sending kind (ap (λ (x : Entry). x.up) same ∙ is) tells)
      where
        no_forward : (sending : Sending) (kind : Kind) → sending.up ≡ up → ForwardsAs config s event sending kind → ⊥
        no_forward sending kind is (SentOn same h) = no_send_asked h.u (subst (λ (x : UpSide). AsksSend config s event x h.u) is h.asks)
        no_forward sending kind is (ClosedOn triad same h) =
            no_close_asked h.closes.sender h.c (subst (λ (x : UpSide). AsksClose config s event x h.closes.sender h.c) is h.closes.asks)
    put_opens mid e p tells put is = absurd (cc)

  -- ---- the success of a turn

  -- the connection whose up id a success names
  pub record Below (turns : List Turn) (success : OpenSuccess) : Type 0 where
    pub opening : Opening
    pub ids : OwnIds
    pub birth : Past (IsBirth config opening ids) turns
    pub down : HopDown
    pub opening_is : opening ≡ opening_with (UpLink port from oo.fields.to_id) down oo
    pub id_is : ids.up ≡ Some success.ot_id

  -- what was opened for that request
  record SentFor (o : Opening) (ids : OwnIds) : Type 0 where
    down : HopDown
    opening_is : o ≡ opening_with (UpLink port from oo.fields.to_id) down oo
    next : ℕ
    ids_are : ids ≡ own_ids next o

  sent_for : (number : ℕ) (p : Entry) (o : Opening) (ids : OwnIds) (before : List Turn) (turn : Turn) → TurnAsks port n from oo turn
      → OpenSent config number p o ids before turn → p.up ≡ up → SentFor o ids
  sent_for number p o ids before turn only sent is =
      let ups : sent.sending.up ≡ up = sym sent.up_is ∙ is in
      let asks : AsksOpen config (state_after config before) turn.event up sent.tells.o = subst
      (λ (u : UpSide). AsksOpen config (state_after config before) turn.event u sent.tells.o) ups sent.tells.asks in
      let same : sent.tells.o ≡ oo = open_asked (state_after config before) turn.event only sent.tells.o asks in
      record {
        down = DownLink sent.sending.port sent.sending.address;
        opening_is = sent.tells.opening_is
            ∙ ap (λ (u : UpSide). opening_with (up_side_of u sent.tells.o.fields.to_id) (DownLink sent.sending.port sent.sending.address) sent.tells.o) ups
            ∙ ap (λ (x : Open). opening_with (up_side_of (Link port from n) x.fields.to_id) (DownLink sent.sending.port sent.sending.address) x) same;
        next = (state_after config before).hops.next;
        ids_are = sent.ids_are;
      }

  up_given : (o : Opening) (ids : OwnIds) → SentFor o ids → (id : ℕ) × (ids.up ≡ Some id)
  up_given o ids f =
      let link : up_is_link o.up ≡ true = ap (λ (x : Opening). up_is_link x.up) f.opening_is in
      let id = f.next + cond (down_is_link o.down) 1 0 in
      (id, ap (λ (x : OwnIds). x.up) f.ids_are ∙ ap (λ b. cond b (Some id) None) link)

  up_bytes : (large : Bool) (o : Opening) (ids : OwnIds) (came : List ℕ) (done : OpenSuccess) → SentFor o ids
      → success_up large o.up ids came done ≡ open_reply_bytes large (record done { ot_id = option_map_or (λ id. id) ids.up 0; to_id = oo.fields.to_id })
  up_bytes large o ids came done f = ap (λ (u : HopUp). success_up large u ids came done) (ap (λ (x : Opening). x.up) f.opening_is)

  module _ (turns : List Turn) (turn : Turn) (h : IsHistory config (turn ∷ turns)) (asks : AllAsk port n from oo (turn ∷ turns)) (bytes : List ℕ)
      (reply : Reply) (success : OpenSuccess)
      (read : reply_at bytes ≡ Ok reply) (general : reply.general ≡ 0) (success_is : open_reply_at reply.data_ ≡ Ok success) where
    abbrev s0 : State
    s0 = state_after config turns

    abbrev only : (b : List ℕ) → turn.event ≡ events.Frame port from (bodies.Request n b) → b ≡ open_bytes oo
    only = asks.0

    fails : (large : Bool) (status : Status) (f : ConnectionFailure) → bytes ≡ open_failure_bytes large status f → (status.general ≡ 0 → ⊥) → ⊥
    fails large status f is wrong = wrong (sym (failure_back large status f reply bytes is read) ∙ general)

    unread_fails : (large : Bool) (asked : List ℕ) (fault : DataFault) → bytes ≡ unread_open_bytes large asked fault → ⊥
    unread_fails large asked fault e = fails large (open_status (opens.unread_row large asked fault)) _ e (open_fails (opens.unread_row large asked fault))

    -- the open ended here
    ended : (o : Open) (link : EndLink) → AsksOpen config s0 turn.event up o → open_row config s0 (up_side_of up o.fields.to_id) o ≡ opens.Accepted link
        → bytes ≡ accepted_bytes o s0.hops.next → Below (turn ∷ turns) success
    ended o link (inr k) meets is = let e : Link port from n ≡ Local k.op = k.up_is in absurd (cc)
    ended o link (inl k) meets is =
        let same : o ≡ oo = open_asked s0 turn.event only o (inl k) in
        let v : UpSide = Link k.came.port k.came.from k.came.number in
        let opening : Opening = opening_with (up_side_of v o.fields.to_id) (end_down link) o in
        let row : open_row config s0 (up_side_of v o.fields.to_id) o ≡ opens.Accepted link =
        ap (λ (u : UpSide). open_row config s0 (up_side_of u o.fields.to_id) o)
        (sym k.came.up_is) ∙ meets in
        let born_is : born config s0 turn.event ≡ Some opening =
        ap (born config s0) k.came.event_is
        ∙ ap (λ r. first_opened (request_effects config s0 v r)) k.came.meets
        ∙ ap (λ r. first_opened (open_data_effects config s0 v o.fields.large k.asked r)) k.read
        ∙ ap (λ r. first_opened (open_effects s0 v o r)) row in
        let id = success_back o.fields.large
        (record { ot_id = s0.hops.next; to_id = o.fields.to_id; triad = o.fields.triad; ot_api = o.fields.ot_rpi; to_api = o.fields.to_rpi; reply = [] })
        success reply bytes is read success_is in
        record {
          opening = opening;
          ids = own_ids s0.hops.next opening;
          birth = inl (record { is = born_is; ids_are = refl });
          down = end_down link;
          opening_is = ap (λ (u : UpSide). opening_with (up_side_of u o.fields.to_id) (end_down link) o) (sym k.came.up_is)
              ∙ ap (λ (x : Open). opening_with (up_side_of (Link port from n) x.fields.to_id) (end_down link) x) same;
          id_is = ap (λ (i : ℕ). Some i) (omega (arith, id));
        }

    at_once : RepliesAs config s0 turn.event up bytes → Below (turn ∷ turns) success
    at_once (RequestFails service refusal came is) = absurd (no_refusal s0 turn.event only service refusal came)
    at_once (SendUnread asked fault came unread is) = absurd (no_unconnected s0 turn.event only asked came)
    at_once (SendFails u refusal asked meets is) = absurd (no_send_asked s0 turn.event only u asked)
    at_once (OpenUnread large asked fault came unread is) = absurd (unread_fails large asked fault is)
    at_once (OpenFails o refusal asked meets is) =
        absurd (fails o.fields.large (open_status refusal) (failed_at o.fields.triad (words_of o.path)) is (open_fails refusal))
    at_once (OpenEnds o link asked meets is) = ended o link asked meets is
    at_once (CloseUnread asked fault came unread is) = absurd (no_close s0 turn.event only asked came)
    at_once (CloseFails sender c refusal asked meets is) = absurd (no_close_asked s0 turn.event only sender c asked)
    at_once (CloseEnds sender c asked meets is) = absurd (no_close_asked s0 turn.event only sender c asked)

    here : (asked : Request) → AnswersAs config s0 turn.event up asked → ⊥
    here asked (Itself came) = no_target s0 turn.event only asked came
    here asked (Embedded u k whole r) = no_send_asked s0 turn.event only u k

    now : Turned config s0 turn.event (state_after config (turn ∷ turns)) turn.outputs
    now = newest config turn turns h

    -- what came to a request that was passed on
    passed_up : (before after : List Effect) (e : Effect) (number : ℕ) (p : Entry) → before ++ (e ∷ after) ≡ now.effects → Tells config s0 turn.event e
        → e ≡ Takes number bytes
        → map.get (applied config s0 before).pendings.entries number ≡ Some p → p.up ≡ up → ⊥
    passed_up before after e number p is tells effect_is at ups =
        let told : TakesAs s0 turn.event number bytes = subst (Tells config s0 turn.event) effect_is tells in
        let first : before ≡ [] = reply_alone config s0 turn.event now.effects before after e told.came.port number told.came.from bytes
        told.came.event_is now.decided is in
        let waits = waits_at s0.pendings number told.came.port told.came.from told.entry told.came.waits in
        let same : p ≡ told.entry = some_same p told.entry
        (sym at ∙ ap (λ (es : List Effect). map.get (applied config s0 es).pendings.entries number) first ∙ waits) in
        let own : told.entry.up ≡ up = ap (λ (x : Entry). x.up) (sym same) ∙ ups in
        let replies : told.reply ≡ reply = ok_reply told.reply reply (sym told.came.read ∙ read) in
        past_asks port n from oo (PutIn config number told.entry) ⊥ turns asks.1 (put_in config turns h.0 number told.entry waits) (λ earlier t asked put.
        let opens_it = put_opens (state_after config earlier) t.event asked put.mid put.effect told.entry put.tells put.put own in
        no_pass told.entry.kind opens_it.0 told.reply opens_it.1 told.meets
        (ap (λ (r : Reply). r.general) replies ∙ general))

    -- a success that came from below, with the own up id
    opened_up : (before after : List Effect) (e : Effect) (number : ℕ) (triad : Triad) (came : List ℕ) (done : OpenSuccess) (p : Entry)
        → before ++ (e ∷ after) ≡ now.effects → Tells config s0 turn.event e
        → e ≡ Finishes number triad came done → map.get (applied config s0 before).pendings.entries number ≡ Some p → p.up ≡ up
        → bytes ≡ succeeded (is_large_kind p.kind) (map.get (applied config s0 before).hops.held triad) came done → Below (turn ∷ turns) success
    opened_up before after e number triad came done p is tells effect_is at ups bytes_are =
        let told : FinishesAs s0 turn.event number triad came done = subst (Tells config s0 turn.event) effect_is tells in
        let first : before ≡ [] = reply_alone config s0 turn.event now.effects before after e told.came.port number told.came.from came
        told.came.event_is now.decided is in
        let waits = waits_at s0.pendings number told.came.port told.came.from told.entry told.came.waits in
        let same : p ≡ told.entry = some_same p told.entry
        (sym at ∙ ap (λ (es : List Effect). map.get (applied config s0 es).pendings.entries number) first ∙ waits) in
        let own : told.entry.up ≡ up = ap (λ (x : Entry). x.up) (sym same) ∙ ups in
        let was : Opens (SentIn config turns) s0 number told.entry triad = (joined config turns h.0).each number told.entry triad waits told.kind in
        let sent : SentFor was.opening was.ids = past_asks port n from oo (OpenSent config number told.entry was.opening was.ids)
        (SentFor was.opening was.ids) turns asks.1 was.of
        (λ earlier t asked sent. sent_for number told.entry was.opening was.ids earlier t asked sent own) in
        let given = up_given was.opening was.ids sent in
        let large = is_large_kind p.kind in
        let spelled : bytes ≡ open_reply_bytes large (record done { ot_id = option_map_or (λ id. id) was.ids.up 0; to_id = oo.fields.to_id }) =
        bytes_are ∙ ap (λ (es : List Effect). succeeded large (map.get (applied config s0 es).hops.held triad) came done) first
        ∙ ap (λ x. succeeded large x came done) was.at ∙ up_bytes large was.opening was.ids came done sent in
        let id = success_back large (record done {
          ot_id = option_map_or
              (λ id. id) was.ids.up 0;
          to_id = oo.fields.to_id;
        }) success reply bytes spelled read success_is in
        record {
          opening = was.opening;
          ids = was.ids;
          birth = inr (held_born config turns h.0 triad (IsOpening was.opening was.ids) was.at);
          down = sent.down;
          opening_is = sent.opening_is;
          id_is = told_id was.ids.up given.0 success.ot_id given.1 id;
        }

    by_way : (g : GaveBy config s0 turn.event now.effects (outputs.Send port from (bodies.Reply n bytes)))
        → RepliesBy config s0 turn.event (applied config s0 g.before) g.effect up bytes → Below (turn ∷ turns) success
    by_way g (AtOnce k) = at_once k
    by_way g (Here asked effect_is k bytes_are) = absurd (here asked k)
    by_way g (Opened number triad came done p effect_is at ups bytes_are) =
        opened_up g.before g.after g.effect number triad came done p g.is g.tells effect_is at ups bytes_are
    by_way g (Taken number p effect_is at ups) = absurd (passed_up g.before g.after g.effect number p g.is g.tells effect_is at ups)
    by_way g (Late number p effect_is at ups is) = let one = late_general p.kind p.words reply bytes is read in absurd (omega (arith, one, general))

    pub below_now : Has turn.outputs (outputs.Send port from (bodies.Reply n bytes)) → Below (turn ∷ turns) success
    below_now has =
        let g = gave_by config s0 turn.event (state_after config (turn ∷ turns)) turn.outputs (outputs.Send port from (bodies.Reply n bytes)) now has in
        by_way g (reply_by port n from bytes config s0 turn.event (applied config s0 g.before) g.effect g.tells g.gives)

  -- the success that a module gave names the up id of a connection that it opened
  pub below : (turns : List Turn) → IsHistory config turns → AllAsk port n from oo turns → (bytes : List ℕ) (reply : Reply) (success : OpenSuccess)
      → reply_at bytes ≡ Ok reply → reply.general ≡ 0
      → open_reply_at reply.data_ ≡ Ok success → Gave turns (outputs.Send port from (bodies.Reply n bytes)) → Below turns success
  below [] h asks bytes reply success read general is gave = absurd gave
  below (turn ∷ turns) h asks bytes reply success read general is (inl has) = below_now turns turn h asks bytes reply success read general is has
  below (turn ∷ turns) h asks bytes reply success read general is (inr gave) =
      let old = below turns h.0 asks.1 bytes reply success read general is gave in
      record { opening = old.opening; ids = old.ids; birth = inr old.birth; down = old.down; opening_is = old.opening_is; id_is = old.id_is }
