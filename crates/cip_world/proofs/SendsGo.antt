-- What a step whose event asks an Unconnected_Send did for it, and what one did for the request that was embedded in it.
use Rattle.std.proofs.Common.{◌≡◌, ℕ, ◌+◌, Bool, true, false, cond, List, [], ◌∷◌, Ok, Err, Option, Some, None, refl, sym, ap, subst, ◌∙◌, ◌⊎◌, inl, inr, arith}
use Rattle.std.proofs.Common.{length, not, ◌&&◌, eqb, leb, ltb, take, drop, ◌*◌, Result}
use Rattle.std.specs.Prelude.{slice_index, nat_lt}
use Rattle.std.proofs.lemmas.Bool.Decides.{nat_tests}
use Rattle.cip_segment.specs.declared.fault.PathFault.{PathFault}
use Rattle.cip_segment.specs.Reading.{path_at}
use Rattle.cip_message.specs.declared.fault.RequestFault.TheVariants.{NotRequest, PathSize}
use Rattle.cip_message.specs.Request.{request_with}
use Rattle.cip_message.specs.RequestAt.{with_path}
use Rattle.cip_base.specs.declared.timing.Status.{Status}
use Rattle.cip_base.specs.declared.timing.Timing.{Timing}
use Rattle.cip_segment.specs.declared.segment.Segment.{Segment}
use Rattle.cip_segment.specs.declared.segment.Segment.TheVariants.{Class, Instance}
use Rattle.cip_segment.specs.Reading.{segments_of}
use Rattle.cip_message.specs.Request.{Request}
use Rattle.cip_message.specs.RequestAt.{request_at}
use Rattle.cip_unconnected.specs.Unconnected.{Unconnected, unconnected_data, unconnected_bytes}
use Rattle.cip_unconnected.specs.UnconnectedAt.{unconnected_at, route_words_of}
use Rattle.cip_unconnected.specs.GoesOn.{message_on}
use Rattle.cip_unconnected.proofs.ReadAgain.{unconnected_data_read}
use Rattle.cip_open.specs.Open.{Open}
use Rattle.cip_close.specs.Close.{Close}
use Rattle.cip_pending.specs.declared.entry.UpSide.{UpSide}
use Rattle.cip_pending.specs.declared.entry.Kind.{Kind}
use Rattle.cip_pending.specs.declared.entry.Kind.TheVariants.{Unconnected as UnconnectedKind, Opening as OpeningKind, Closing as ClosingKind}
use Rattle.cip_target.specs.declared.object.ObjectPath.{ObjectPath}
use Rattle.cip_target.specs.Object.{attribute_in, with_attribute, instance_in, object_of}
use Rattle.cip_target.specs.Objects.{target_answer}
use Rattle.cip_target.specs.Rows.{target_row, path_row, answer_of, reply_service, plain_reply, is_reset}
use Rattle.cip_message.specs.Reply.{reply_bytes}
use Rattle.cip_config.specs.declared.config.ModuleSettings.{ModuleSettings}
use Rattle.cip_event.specs.declared.event.Body.TheVariants as bodies
use Rattle.cip_event.specs.declared.event.Command.TheVariants as commands
use Rattle.cip_event.specs.declared.event.Event.{Event}
use Rattle.cip_event.specs.declared.event.Event.TheVariants as events
use Rattle.cip_routing.specs.declared.refusals.RequestRefusal.{RequestRefusal}
use Rattle.cip_routing.specs.declared.refusals.RequestRefusal.TheVariants.{PathFormNotSupported}
use Rattle.cip_routing.specs.Answers.{failure_bytes, unconnected_failed}
use Rattle.cip_routing.specs.Effects.{Sending, objects_of, here_answer}
use Rattle.cip_routing.specs.Object.{begins_with_manager}
use Rattle.cip_routing.specs.RequestRows.{RequestRow, is_malformed, object_row, manager_row, read_row, request_row}
use Rattle.cip_routing.specs.RequestRows as request
use Rattle.cip_routing.specs.State.{State}
use Rattle.cip_routing.specs.Statuses.{request_status, unconnected_status}
use Rattle.cip_routing.specs.Table.{sent, words_of}
use Rattle.cip_laws.specs.Tells.{Came, AsksSend, AsksOpen, AsksClose, RepliesAs, RequestFails, SendUnread, SendFails, OpenUnread, OpenFails, OpenEnds}
use Rattle.cip_laws.specs.Tells.{CloseUnread, CloseFails, CloseEnds, AnswersAs, Itself, Embedded, ForwardsAs, SentOn, ClosedOn}
use Rattle.cip_routing.specs.Links.{LeadsOn}
use Rattle.cip_routing.specs.UnconnectedRows as unconnected
use Rattle.cip_laws.proofs.AskedOpens.{no_open_event}
use Rattle.cip_laws.proofs.GoesOn.{allowed}
use Rattle.cip_laws.proofs.NextRows.{send_row_is}
use Rattle.cip_world.proofs.PutIn.{SentFor, Forwarded, Begun}
use Rattle.cip_routing.specs.Resets.{can_reset}

frame_is : (p q : ℕ) (a b : List ℕ) (k n : ℕ) (c d : List ℕ) → events.Frame p a (bodies.Request k c) ≡ events.Frame q b (bodies.Request n d)
    → (p ≡ q) × (a ≡ b) × (k ≡ n) × (c ≡ d)
frame_is p q a b k n c d e = (cc, cc, cc, cc)

-- the reply of a failed Unconnected_Send begins so
pub is_failed : (status : Status) (words : Option ℕ) (bytes : List ℕ) → bytes ≡ unconnected_failed status words → slice_index bytes 0 ≡ 0xD2
is_failed status words bytes e = ap (λ (b : List ℕ). slice_index b 0) e

-- ---- an Unconnected_Send

-- the event asks it: a command spells it, or it came as it is written
pub data AsksSendThat (event : Event) (u : Unconnected) : Type 0 where
  Spelled : (op : ℕ) (timing : Timing) (path request : List ℕ) → event ≡ events.Command (commands.Send op timing path request) → u ≡ sent timing path request
      → AsksSendThat event u
  CameSo : (port n : ℕ) (from : List ℕ) → event ≡ events.Frame port from (bodies.Request n (unconnected_bytes u)) → AsksSendThat event u

-- it went on
pub record SendGoes (config : ModuleSettings) (s : State) (event : Event) (u : Unconnected) (sending : Sending) (kind : Kind) : Type 0 where
  pub kind_is : kind ≡ UnconnectedKind
  pub rest : List ℕ
  pub leads : LeadsOn config s u.timing u.route sending.port sending.address rest
  pub bytes_are : sending.bytes ≡ message_on u rest
  pub embedded : Request
  pub read : request_at u.request ≡ Ok embedded
  pub allowed_ : begins_with_manager (segments_of embedded.path) ≡ false

module _ (config : ModuleSettings) (s : State) (event : Event) (u : Unconnected) (is : AsksSendThat event u) where
  came_row : (up : UpSide) (row : RequestRow) → Came config event up row
      → (row ≡ request.UnknownPortOrTooLong) ⊎ (row ≡ request.UnconnectedSend (unconnected_data u))
  came_row up row came = by_form is
    where
      by_form : AsksSendThat event u → (row ≡ request.UnknownPortOrTooLong) ⊎ (row ≡ request.UnconnectedSend (unconnected_data u))
      by_form (Spelled op timing path asked event_is spells) =
          let no : events.Command (commands.Send op timing path asked) ≡ events.Frame came.port came.from (bodies.Request came.number came.bytes) =
          sym event_is ∙ came.event_is in absurd (cc)
      by_form (CameSo port n from event_is) =
          let parts = frame_is came.port port came.from from came.number n came.bytes (unconnected_bytes u) (sym came.event_is ∙ event_is) in
          let row_is : request_row config came.port (unconnected_bytes u) ≡ row = ap (request_row config came.port) (sym parts.3) ∙ came.meets in
          elim (send_row_is config came.port u) [ inl dropped ↦ inl (sym row_is ∙ dropped) | inr met ↦ inr (sym row_is ∙ met) ]

  not_came : (up : UpSide) (row : RequestRow) → (row ≡ request.UnknownPortOrTooLong → ⊥) → (row ≡ request.UnconnectedSend (unconnected_data u) → ⊥)
      → Came config event up row → ⊥
  not_came up row a b came = elim (came_row up row came) [ inl dropped ↦ a dropped | inr met ↦ b met ]

  no_open : (up : UpSide) (o : Open) → AsksOpen config s event up o → ⊥
  no_open up o (inl h) = not_came up (request.ForwardOpen o.fields.large h.asked) (λ e. cc) (λ e. cc) h.came
  no_open up o (inr h) = by_form is
    where
      by_form : AsksSendThat event u → ⊥
      by_form (Spelled op timing path asked event_is spells) =
          no_open_event config.identity h.command (commands.Send op timing path asked) (h.op, o) (sym h.event_is ∙ event_is) h.asks refl
      by_form (CameSo port n from event_is) =
          let no : events.Frame port from (bodies.Request n (unconnected_bytes u)) ≡ events.Command h.command =
          sym event_is ∙ h.event_is in cc

  no_close : (up sender : UpSide) (c : Close) → AsksClose config s event up sender c → ⊥
  no_close up sender c (inl h) = not_came up (request.ForwardClose h.asked) (λ e. cc) (λ e. cc) h.came
  no_close up sender c (inr h) = by_form is
    where
      by_form : AsksSendThat event u → ⊥
      by_form (Spelled op timing path asked event_is spells) =
          let no : events.Command (commands.Send op timing path asked) ≡ events.Command (commands.Close h.op h.of h.timing) = sym event_is ∙ h.event_is in cc
      by_form (CameSo port n from event_is) =
          let no : events.Frame port from (bodies.Request n (unconnected_bytes u)) ≡ events.Command (commands.Close h.op h.of h.timing) =
          sym event_is ∙ h.event_is in cc

  asked_data : (up : UpSide) (asked : List ℕ) → Came config event up (request.UnconnectedSend asked) → asked ≡ unconnected_data u
  asked_data up asked came = elim (came_row up (request.UnconnectedSend asked) came) [ inl dropped ↦ absurd (cc) | inr met ↦ cc ]

  -- it asks no other
  same_send : (up : UpSide) (v : Unconnected) → AsksSend config s event up v → v ≡ u
  same_send up v (inl h) = unconnected_data_read u v (ap unconnected_at (sym (asked_data up h.asked h.came)) ∙ h.read)
  same_send up v (inr h) = by_form is
    where
      by_form : AsksSendThat event u → v ≡ u
      by_form (Spelled op timing path asked event_is spells) =
          let both : events.Command (commands.Send h.op h.timing h.path h.asked) ≡ events.Command (commands.Send op timing path asked) =
          sym h.event_is ∙ event_is in
          let timings : h.timing ≡ timing = cc in
          let paths : h.path ≡ path = cc in
          let all : h.asked ≡ asked = cc in
          h.spells ∙ (λ i. sent (timings i) (paths i) (all i)) ∙ sym spells
      by_form (CameSo port n from event_is) =
          let no : events.Frame port from (bodies.Request n (unconnected_bytes u)) ≡ events.Command (commands.Send h.op h.timing h.path h.asked) =
          sym event_is ∙ h.event_is in absurd (cc)

  pub send_goes : (sending : Sending) (kind : Kind) → SentFor config s event sending kind → SendGoes config s event u sending kind
  send_goes sending kind (Begun o kind_is h) = absurd (no_open sending.up h.o h.asks)
  send_goes sending kind (Forwarded h) = by_kind kind h
    where
      by_kind : (kind : Kind) → ForwardsAs config s event sending kind → SendGoes config s event u sending kind
      by_kind kind (ClosedOn triad is h) = absurd (no_close sending.up h.closes.sender h.c h.closes.asks)
      by_kind kind (SentOn is h) =
          let same = same_send sending.up h.u h.asks in
          record {
            kind_is = is;
            rest = h.rest;
            leads = subst (λ (x : Unconnected). LeadsOn config s x.timing x.route sending.port sending.address h.rest) same h.leads;
            bytes_are = h.bytes_are ∙ ap (λ (x : Unconnected). message_on x h.rest) same;
            embedded = h.embedded;
            read = ap (λ (x : Unconnected). request_at x.request) (sym same) ∙ h.read;
            allowed_ = allowed config s.pendings h.u h.embedded sending.port sending.address h.rest h.read h.meets;
          }

  -- it failed, if it was replied to at once
  pub send_replied : (up : UpSide) (bytes : List ℕ) → RepliesAs config s event up bytes → slice_index bytes 0 ≡ 0xD2
  send_replied up bytes (RequestFails service refusal came e) = absurd (not_came up (request.Refuses service refusal) (λ e. cc) (λ e. cc) came)
  send_replied up bytes (SendUnread asked fault came read e) =
      is_failed (unconnected_status (unconnected.unread_row asked fault)) (route_words_of asked) bytes e
  send_replied up bytes (SendFails v refusal asks meets e) = is_failed (unconnected_status refusal) (Some (words_of v.route)) bytes e
  send_replied up bytes (OpenUnread large asked fault came read e) = absurd (not_came up (request.ForwardOpen large asked) (λ e. cc) (λ e. cc) came)
  send_replied up bytes (OpenFails o refusal asks meets e) = absurd (no_open up o asks)
  send_replied up bytes (OpenEnds o link asks meets e) = absurd (no_open up o asks)
  send_replied up bytes (CloseUnread asked fault came read e) = absurd (not_came up (request.ForwardClose asked) (λ e. cc) (λ e. cc) came)
  send_replied up bytes (CloseFails sender c refusal asks meets e) = absurd (no_close up sender c asks)
  send_replied up bytes (CloseEnds sender c asks meets e) = absurd (no_close up sender c asks)

  -- the target answers what it holds where no route is left
  pub send_answered : (up : UpSide) (asked : Request) → AnswersAs config s event up asked → (u.route ≡ []) × (request_at u.request ≡ Ok asked)
  send_answered up asked (Itself came) = absurd (not_came up (request.Target asked) (λ e. cc) (λ e. cc) came)
  send_answered up asked (Embedded v asks whole read) =
      let same = same_send up v asks in
      (ap (λ (x : Unconnected). x.route) (sym same) ∙ whole, ap (λ (x : Unconnected). request_at x.request) (sym same) ∙ read)

-- ---- the embedded request itself

-- the event asks what was embedded, which is not for the Connection Manager
pub record AsksItself (event : Event) (asked : List ℕ) (r : Request) : Type 0 where
  pub port : ℕ
  pub n : ℕ
  pub from : List ℕ
  pub event_is : event ≡ events.Frame port from (bodies.Request n asked)
  pub read : request_at asked ≡ Ok r
  pub allowed_ : begins_with_manager (segments_of r.path) ≡ false

-- of a path that does not begin with class 6
pub data TargetRow (r : Request) (row : RequestRow) : Type 0 where
  IsDropped : row ≡ request.UnknownPortOrTooLong → TargetRow r row
  NamesNone : object_of (segments_of r.path) ≡ None → row ≡ request.Refuses r.service PathFormNotSupported → TargetRow r row
  IsTarget : row ≡ request.Target r → TargetRow r row

attribute_row : (r : Request) (c i : ℕ) (x : Option (Option ℕ)) → eqb c 6 ≡ false
    → ((with_attribute c i x ≡ None) × (object_row r (with_attribute c i x) ≡ request.Refuses r.service PathFormNotSupported)) ⊎
    (object_row r (with_attribute c i x) ≡ request.Target r)
attribute_row r c i None other = inl (refl, refl)
attribute_row r c i (Some a) other = inr (ap (λ b. cond b (manager_row r (record { class_ = c; instance = i; attribute = a })) (request.Target r)) other)

class_row : (r : Request) (c : ℕ) (others : List Segment) → eqb c 6 ≡ false
    → ((instance_in c others ≡ None) × (object_row r (instance_in c others) ≡ request.Refuses r.service PathFormNotSupported)) ⊎
    (object_row r (instance_in c others) ≡ request.Target r)
class_row r c (Instance i ∷ others) other = attribute_row r c i (attribute_in others) other
class_row r c s other = inl (refl, refl)

named_row : (r : Request) (s : List Segment) → begins_with_manager s ≡ false
    → ((object_of s ≡ None) × (object_row r (object_of s) ≡ request.Refuses r.service PathFormNotSupported)) ⊎ (object_row r (object_of s) ≡ request.Target r)
named_row r (Class c ∷ others) other = class_row r c others other
named_row r s other = inl (refl, refl)

row_is : (config : ModuleSettings) (port : ℕ) (asked : List ℕ) (r : Request) (row : RequestRow) → request_at asked ≡ Ok r
    → begins_with_manager (segments_of r.path) ≡ false
    → request_row config port asked ≡ row → TargetRow r row
unfolding request_row
row_is config port asked r row read other meets =
    elim (is_malformed config port asked) as (λ b. cond b request.UnknownPortOrTooLong (read_row asked (request_at asked)) ≡ row → TargetRow r row) [
      | true ↦ λ e. IsDropped (sym e)
      | false ↦ λ e.
          let is : object_row r (object_of (segments_of r.path)) ≡ row = sym (ap (read_row asked) read) ∙ e in
          elim (named_row r (segments_of r.path) other) [
            | inl none ↦ NamesNone none.0 (sym is ∙ none.1)
            | inr target ↦ IsTarget (sym is ∙ target)
          ]
    ] meets

-- a request that is read has a service below 128
path_service : (x : Result (List Segment) PathFault) (p r : Request) → with_path x p ≡ Ok r → r.service ≡ p.service
path_service (Ok g) p r e = let same : p ≡ r = cc in ap (λ (y : Request). y.service) (sym same)
path_service (Err fault) p r e = absurd (cc)

small_service : (b : List ℕ) (r : Request) → request_at b ≡ Ok r → leb 128 r.service ≡ false
unfolding request_at
small_service [] r e = absurd (cc)
small_service (n ∷ []) r e = absurd (cc)
small_service (n ∷ w ∷ rest) r e = by_big (leb 128 n) refl e
  where
    by_size : (c : Bool) → leb 128 n ≡ false
        → cond c (Err PathSize) (with_path (path_at (take (2 * w) rest)) (request_with n (take (2 * w) rest) (drop (2 * w) rest))) ≡ Ok r
        → leb 128 r.service ≡ false
    by_size true small h = absurd (cc)
    by_size false small h =
        ap (leb 128) (path_service (path_at (take (2 * w) rest)) (request_with n (take (2 * w) rest) (drop (2 * w) rest)) r h) ∙ small

    by_big : (c : Bool) → leb 128 n ≡ c
        → cond c (Err NotRequest)
        (cond (nat_lt (length rest) (2 * w)) (Err PathSize) (with_path (path_at (take (2 * w) rest)) (request_with n (take (2 * w) rest) (drop (2 * w) rest))))
        ≡ Ok r → leb 128 r.service ≡ false
    by_big true t h = absurd (cc)
    by_big false t h = by_size (nat_lt (length rest) (2 * w)) t h

small_reply : (n : ℕ) → leb 128 n ≡ false → reply_service n ≡ 128 + n
small_reply n small = let low : ltb n 128 ≡ true = grind (arith, nat_tests, small) in ap (λ b. cond b (128 + n) n) low

-- a path that names no object is answered alike by the row and by the target
none_answered : (config : ModuleSettings) (s : State) (asked : List ℕ) (r : Request) → request_at asked ≡ Ok r → object_of (segments_of r.path) ≡ None
    → failure_bytes r.service (request_status PathFormNotSupported) ≡ reply_bytes (here_answer config s r)
unfolding target_row
none_answered config s asked r read none =
    let objects = objects_of config s in
    ap (λ (n : ℕ). reply_bytes (record { service = n; general = 5; extra = []; data_ = [] })) (sym (small_reply r.service (small_service asked r read)))
    ∙ ap (λ (o : Option ObjectPath). reply_bytes (answer_of r.service (path_row objects.identity objects.assemblies o r.service r.data_))) (sym none)
    ∙ ap (λ (o : Option ObjectPath). reply_bytes (cond (is_reset (path_row objects.identity objects.assemblies o r.service r.data_) && not (can_reset s))
    (plain_reply r.service 0x0C []) (target_answer objects r))) (sym none)

module _ (config : ModuleSettings) (s : State) (event : Event) (asked : List ℕ) (r : Request) (is : AsksItself event asked r) where
  target_came : (up : UpSide) (row : RequestRow) → Came config event up row → TargetRow r row
  target_came up row came =
      let parts = frame_is came.port is.port came.from is.from came.number is.n came.bytes asked (sym came.event_is ∙ is.event_is) in
      row_is config came.port asked r row is.read is.allowed_ (ap (request_row config came.port) (sym parts.3) ∙ came.meets)

  no_send_row : (data_ : List ℕ) → TargetRow r (request.UnconnectedSend data_) → ⊥
  no_send_row data_ (IsDropped e) = cc
  no_send_row data_ (NamesNone none e) = cc
  no_send_row data_ (IsTarget e) = cc

  no_open_row : (large : Bool) (data_ : List ℕ) → TargetRow r (request.ForwardOpen large data_) → ⊥
  no_open_row large data_ (IsDropped e) = cc
  no_open_row large data_ (NamesNone none e) = cc
  no_open_row large data_ (IsTarget e) = cc

  no_close_row : (data_ : List ℕ) → TargetRow r (request.ForwardClose data_) → ⊥
  no_close_row data_ (IsDropped e) = cc
  no_close_row data_ (NamesNone none e) = cc
  no_close_row data_ (IsTarget e) = cc

  itself_no_send : (up : UpSide) (u : Unconnected) → AsksSend config s event up u → ⊥
  itself_no_send up u (inl h) = no_send_row h.asked (target_came up (request.UnconnectedSend h.asked) h.came)
  itself_no_send up u (inr h) =
      let no : events.Frame is.port is.from (bodies.Request is.n asked) ≡ events.Command (commands.Send h.op h.timing h.path h.asked) =
      sym is.event_is ∙ h.event_is in cc

  itself_no_open : (up : UpSide) (o : Open) → AsksOpen config s event up o → ⊥
  itself_no_open up o (inl h) = no_open_row o.fields.large h.asked (target_came up (request.ForwardOpen o.fields.large h.asked) h.came)
  itself_no_open up o (inr h) =
      let no : events.Frame is.port is.from (bodies.Request is.n asked) ≡ events.Command h.command =
      sym is.event_is ∙ h.event_is in cc

  itself_no_close : (up sender : UpSide) (c : Close) → AsksClose config s event up sender c → ⊥
  itself_no_close up sender c (inl h) = no_close_row h.asked (target_came up (request.ForwardClose h.asked) h.came)
  itself_no_close up sender c (inr h) =
      let no : events.Frame is.port is.from (bodies.Request is.n asked) ≡ events.Command (commands.Close h.op h.of h.timing) =
      sym is.event_is ∙ h.event_is in cc

  -- it goes nowhere
  pub itself_stays : (sending : Sending) (kind : Kind) → SentFor config s event sending kind → ⊥
  itself_stays sending kind (Begun o kind_is h) = itself_no_open sending.up h.o h.asks
  itself_stays sending kind (Forwarded h) = by_kind kind h
    where
      by_kind : (kind : Kind) → ForwardsAs config s event sending kind → ⊥
      by_kind kind (SentOn is h) = itself_no_send sending.up h.u h.asks
      by_kind kind (ClosedOn triad is h) = itself_no_close sending.up h.closes.sender h.c h.closes.asks

  failed_so : (service : ℕ) (refusal : RequestRefusal) (bytes : List ℕ) → TargetRow r (request.Refuses service refusal)
      → bytes ≡ failure_bytes service (request_status refusal) → bytes ≡ reply_bytes (here_answer config s r)
  failed_so service refusal bytes (IsDropped e) is_ = absurd (cc)
  failed_so service refusal bytes (NamesNone none e) is_ =
      let services : service ≡ r.service = cc in
      let refusals : refusal ≡ PathFormNotSupported = cc in
      is_ ∙ (λ i. failure_bytes (services i) (request_status (refusals i))) ∙ none_answered config s asked r is.read none
  failed_so service refusal bytes (IsTarget e) is_ = absurd (cc)

  -- what is replied at once is what the module's own objects answer
  pub itself_replied : (up : UpSide) (bytes : List ℕ) → RepliesAs config s event up bytes → bytes ≡ reply_bytes (here_answer config s r)
  itself_replied up bytes (RequestFails service refusal came e) =
      failed_so service refusal bytes (target_came up (request.Refuses service refusal) came) e
  itself_replied up bytes (SendUnread asked_ fault came read e) = absurd (no_send_row asked_ (target_came up (request.UnconnectedSend asked_) came))
  itself_replied up bytes (SendFails u refusal asks meets e) = absurd (itself_no_send up u asks)
  itself_replied up bytes (OpenUnread large asked_ fault came read e) =
      absurd (no_open_row large asked_ (target_came up (request.ForwardOpen large asked_) came))
  itself_replied up bytes (OpenFails o refusal asks meets e) = absurd (itself_no_open up o asks)
  itself_replied up bytes (OpenEnds o link asks meets e) = absurd (itself_no_open up o asks)
  itself_replied up bytes (CloseUnread asked_ fault came read e) = absurd (no_close_row asked_ (target_came up (request.ForwardClose asked_) came))
  itself_replied up bytes (CloseFails sender c refusal asks meets e) = absurd (itself_no_close up sender c asks)
  itself_replied up bytes (CloseEnds sender c asks meets e) = absurd (itself_no_close up sender c asks)

  target_is : (x : Request) → TargetRow r (request.Target x) → x ≡ r
  target_is x (IsDropped e) = absurd (cc)
  target_is x (NamesNone none e) = absurd (cc)
  target_is x (IsTarget e) = cc

  pub itself_answered : (up : UpSide) (x : Request) → AnswersAs config s event up x → x ≡ r
  itself_answered up x (Itself came) = target_is x (target_came up (request.Target x) came)
  itself_answered up x (Embedded u asks whole read) = absurd (itself_no_send up u asks)
