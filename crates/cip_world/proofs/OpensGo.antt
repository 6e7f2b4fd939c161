-- What a step whose event asks an open did for it: sent it on, refused it or accepted it, and nothing else.
use Rattle.std.proofs.Common.{◌≡◌, ℕ, ◌≤◌, Bool, true, false, cond, List, Option, Some, None, refl, sym, ap, subst, ◌∙◌, ◌⊎◌, inl, inr, arith, length, ◌/◌, ◌+◌}
use Rattle.std.specs.FinMap as map
use Rattle.std.specs.Prelude.{nat_lt, not, ◌||◌, eqb, is_some}
use Rattle.std.proofs.lemmas.Bool.Decides.{nat_tests}
use Rattle.cip_base.specs.declared.triad.Triad.{Triad}
use Rattle.cip_message.specs.Failure.{HasTriadForWords}
use Rattle.cip_message.specs.Numbers.{triad_in}
use Rattle.cip_message.specs.Request.{Request}
use Rattle.cip_message.specs.declared.failure.ConnectionFailure.{ConnectionFailure}
use Rattle.cip_message.specs.declared.fault.DataFault.{DataFault}
use Rattle.cip_open.specs.Open.{Open, open_layout, open_data, open_bytes}
use Rattle.cip_open.specs.Kinds.{open_fixed_part}
use Rattle.cip_open.specs.OpenAt.{open_at, open_triad_of, open_words_of}
use Rattle.cip_open.proofs.Opens.{layout_long}
use Rattle.cip_open.specs.Failed.{open_failure_bytes}
use Rattle.cip_open.specs.GoesOn.{lowered}
use Rattle.cip_open.proofs.ReadAgain.{open_data_read}
use Rattle.cip_unconnected.specs.Unconnected.{Unconnected}
use Rattle.cip_close.specs.Close.{Close}
use Rattle.cip_segment.specs.Reading.{HopAt, hop_of, segments_of}
use Rattle.cip_pending.specs.declared.entry.UpSide.{UpSide}
use Rattle.cip_pending.specs.declared.entry.Kind.{Kind}
use Rattle.cip_hops.specs.declared.opening.Opening.{Opening}
use Rattle.cip_hops.specs.declared.opening.HopUp.{HopUp}
use Rattle.cip_hops.specs.Hops.{refusal}
use Rattle.cip_target.specs.declared.link.EndLink.{EndLink}
use Rattle.cip_config.specs.declared.config.ModuleSettings.{ModuleSettings}
use Rattle.cip_event.specs.declared.event.Body.TheVariants as bodies
use Rattle.cip_event.specs.declared.event.Command.{Command}
use Rattle.cip_event.specs.declared.event.Command.TheVariants as commands
use Rattle.cip_event.specs.declared.event.Event.{Event}
use Rattle.cip_event.specs.declared.event.Event.TheVariants as events
use Rattle.cip_routing.specs.declared.refusals.KeyPart.{KeyPart}
use Rattle.cip_routing.specs.declared.refusals.LinkRefusal.{LinkRefusal}
use Rattle.cip_routing.specs.declared.refusals.OpenRefusal.{OpenRefusal}
use Rattle.cip_routing.specs.declared.refusals.OpenRefusal.TheVariants.{ConnectionTypeNotSupported, RpiOfZero, TriadInUse, NoRoomToPassOn}
use Rattle.cip_routing.specs.Answers.{failed_at}
use Rattle.cip_routing.specs.Effects.{Sending, kind_for}
use Rattle.cip_routing.specs.Keys.{leading_mismatch}
use Rattle.cip_routing.specs.Links.{link_refusal, LeadsOn}
use Rattle.cip_routing.specs.OpenRows.{OpenRow, Refuses, Forwarded, Accepted, on_row, hop_row, key_row, is_supported, open_row, unread_row}
use Rattle.cip_routing.specs.RequestRows.{RequestRow, request_row}
use Rattle.cip_routing.specs.RequestRows as request
use Rattle.cip_routing.specs.State.{State}
use Rattle.cip_routing.specs.Statuses.{open_status}
use Rattle.cip_routing.specs.Table.{up_side_of, asked_open, open_on, words_of, unread_open_bytes, accepted_bytes}
use Rattle.cip_laws.specs.Tells.{Came, AsksSend, AsksOpen, AsksClose, RepliesAs, RequestFails, SendUnread, SendFails, OpenUnread, OpenFails, OpenEnds}
use Rattle.cip_laws.specs.Tells.{CloseUnread, CloseFails, CloseEnds, AnswersAs, Itself, Embedded, ForwardsAs, SentOn, ClosedOn}
use Rattle.cip_laws.proofs.AskedOpens.{no_open_event, one_open}
use Rattle.cip_laws.proofs.NextRows.{open_row_is}
use Rattle.cip_world.specs.TrailTells.{RefusedBy, Unread, Read}
use Rattle.cip_world.proofs.PutIn.{SentFor, Forwarded as SentForward, Begun}
use Rattle.std.proofs.lemmas.Bool.{le-ltb}

-- the event asks this open: a command spells it, or it came as it is written
pub data AsksThat (config : ModuleSettings) (event : Event) (o : Open) : Type 0 where
  Spelled : (command : Command) (op : ℕ) → event ≡ events.Command command → asked_open config.identity command ≡ Some (op, o) → AsksThat config event o
  CameSo : (port n : ℕ) (from : List ℕ) → event ≡ events.Frame port from (bodies.Request n (open_bytes o)) → AsksThat config event o

-- ---- an open that is accepted names no hop

past_three : (a b c : Bool) (x y z : OpenRefusal) (r : OpenRow) (link : EndLink)
    → cond a (Refuses x) (cond b (Refuses y) (cond c (Refuses z) r)) ≡ Accepted link → r ≡ Accepted link
past_three true b c x y z r link e = absurd (cc)
past_three false true c x y z r link e = absurd (cc)
past_three false false true x y z r link e = absurd (cc)
past_three false false false x y z r link e = e

not_on : (config : ModuleSettings) (s : State) (up : HopUp) (o : Open) (hop : HopAt) (x : Option LinkRefusal) (link : EndLink)
    → on_row s up o hop x ≡ Accepted link → ⊥
not_on config s up o hop (Some fault) link e = cc
not_on config s up o hop None link e = by_room _ e
  where
    by_room : (b : Bool) → cond b (Refuses NoRoomToPassOn) (Forwarded hop.port hop.address hop.rest) ≡ Accepted link → ⊥
    by_room true e = cc
    by_room false e = cc

ends_row : (config : ModuleSettings) (s : State) (up : HopUp) (o : Open) (x : Option HopAt) (link : EndLink) → hop_row config s up o x ≡ Accepted link
    → x ≡ None
ends_row config s up o None link e = refl
ends_row config s up o (Some hop) link e = absurd (not_on config s up o hop (link_refusal config s.pendings o.fields.timing hop.port hop.address) link e)

ends_key : (config : ModuleSettings) (s : State) (up : HopUp) (o : Open) (x : Option KeyPart) (link : EndLink) → key_row config s up o x ≡ Accepted link
    → hop_of o.path ≡ None
ends_key config s up o (Some part) link e = absurd (cc)
ends_key config s up o None link e = ends_row config s up o (hop_of o.path) link e

pub accepted_ends : (config : ModuleSettings) (s : State) (up : HopUp) (o : Open) (link : EndLink) → open_row config s up o ≡ Accepted link
    → hop_of o.path ≡ None
unfolding open_row
accepted_ends config s up o link e =
    ends_key config s up o (leading_mismatch config (segments_of o.path)) link
    (past_three (not (is_supported o)) (eqb o.fields.ot_rpi 0 || eqb o.fields.to_rpi 0) (is_some
    (map.get s.hops.held o.fields.triad)) ConnectionTypeNotSupported RpiOfZero TriadInUse
    (key_row config s up o (leading_mismatch config (segments_of o.path))) link e)

-- ---- what is read of an open that cannot be read

data_long : (o : Open) → length (open_data o) ≡ open_fixed_part o.fields.large + length o.path
data_long o = layout_long o.fields.large 0 0 0 (length o.path / 2) o

long_enough : (o : Open) → nat_lt (length (open_data o)) (open_fixed_part o.fields.large) ≡ false
long_enough o =
    let l : open_fixed_part o.fields.large ≤ length (open_data o) = omega (arith, data_long o) in
    le-ltb (length (open_data o)) (open_fixed_part o.fields.large) l

-- the path size stands at its place
words_stand : (large : Bool) (o : Open) → open_words_of large (open_layout large 0 0 0 (length o.path / 2) o) ≡ Some (words_of o.path)
words_stand true o = refl
words_stand false o = refl

unread_is : (o : Open) (fault : DataFault) → unread_open_bytes o.fields.large (open_data o) fault
    ≡ open_failure_bytes o.fields.large (open_status (unread_row o.fields.large (open_data o) fault))
    (record { triad = open_triad_of (open_data o); words = Some (words_of o.path) })
unread_is o fault =
    let large = o.fields.large in
    let bytes : ConnectionFailure → List ℕ = λ f. open_failure_bytes large (open_status (unread_row large (open_data o) fault)) f in
    ap (λ b. bytes (cond b (record { triad = None; words = None }) (record { triad = open_triad_of (open_data o); words = open_words_of large (open_data o) })))
    (long_enough o)
    ∙ ap (λ (w : Option ℕ). bytes (record { triad = open_triad_of (open_data o); words = w })) (words_stand large o)

has_triad : (o : Open) → HasTriadForWords (record { triad = open_triad_of (open_data o); words = Some (words_of o.path) })
has_triad o none =
    let l : 18 ≤ length (open_data o) = omega (arith, data_long o) in
    let long : nat_lt (length (open_data o)) 18 ≡ false = grind (arith, nat_tests, l) in
    let some = ap (λ b. cond b None (Some (triad_there o))) long in
    let no : None ≡ Some (triad_there o) = sym none ∙ some in
    absurd (cc)
  where
    triad_there : Open → Triad
    triad_there o = triad_in (open_data o) 10

-- ---- a step whose event asks this open

-- it was refused, with the words of its path
pub record OpenRefused (config : ModuleSettings) (s : State) (event : Event) (o : Open) (bytes : List ℕ) : Type 0 where
  pub refusal : OpenRefusal
  pub why : RefusedBy config s event refusal
  pub failure : ConnectionFailure
  pub words_is : failure.words ≡ Some (words_of o.path)
  pub triad_there : HasTriadForWords failure
  pub large : Bool
  pub large_is : large ≡ o.fields.large
  pub bytes_are : bytes ≡ open_failure_bytes large (open_status refusal) failure

-- it was accepted, at the end of its path
pub record OpenAccepted (config : ModuleSettings) (s : State) (event : Event) (o : Open) (bytes : List ℕ) : Type 0 where
  pub up : UpSide
  pub link : EndLink
  pub asks : AsksOpen config s event up o
  pub meets : open_row config s (up_side_of up o.fields.to_id) o ≡ Accepted link
  pub ends : hop_of o.path ≡ None
  pub bytes_are : bytes ≡ accepted_bytes o s.hops.next

-- it went on
pub record OpenGoes (config : ModuleSettings) (s : State) (event : Event) (o : Open) (sending : Sending) (kind : Kind) : Type 0 where
  pub up : UpSide
  pub opening : Opening
  pub kind_is : kind ≡ kind_for opening
  pub large_is : opening.large ≡ o.fields.large
  pub own : ℕ
  pub rest : List ℕ
  pub leads : LeadsOn config s o.fields.timing o.path sending.port sending.address rest
  pub bytes_are : sending.bytes ≡ open_bytes (lowered o own rest)
  pub words_are : sending.words ≡ words_of o.path
  pub meets : open_row config s (up_side_of up o.fields.to_id) o ≡ Forwarded sending.port sending.address rest
  pub asks : AsksOpen config s event up o

frame_is : (p q : ℕ) (a b : List ℕ) (k n : ℕ) (c d : List ℕ) → events.Frame p a (bodies.Request k c) ≡ events.Frame q b (bodies.Request n d)
    → (p ≡ q) × (a ≡ b) × (k ≡ n) × (c ≡ d)
frame_is p q a b k n c d e = (cc, cc, cc, cc)

module _ (config : ModuleSettings) (s : State) (event : Event) (o : Open) (is : AsksThat config event o) where
  -- a request that came is this open, or dropped
  came_row : (up : UpSide) (row : RequestRow) → Came config event up row
      → (row ≡ request.UnknownPortOrTooLong) ⊎ (row ≡ request.ForwardOpen o.fields.large (open_data o))
  came_row up row came = by_form is
    where
      by_form : AsksThat config event o → (row ≡ request.UnknownPortOrTooLong) ⊎ (row ≡ request.ForwardOpen o.fields.large (open_data o))
      by_form (Spelled command op event_is asks) =
          let no : events.Command command ≡ events.Frame came.port came.from (bodies.Request came.number came.bytes) =
          sym event_is ∙ came.event_is in absurd (cc)
      by_form (CameSo port n from event_is) =
          let parts = frame_is came.port port came.from from came.number n came.bytes (open_bytes o) (sym came.event_is ∙ event_is) in
          let row_is : request_row config came.port (open_bytes o) ≡ row = ap (request_row config came.port) (sym parts.3) ∙ came.meets in
          elim (open_row_is config came.port o) [ inl dropped ↦ inl (sym row_is ∙ dropped) | inr met ↦ inr (sym row_is ∙ met) ]

  not_came : (up : UpSide) (row : RequestRow) → (row ≡ request.UnknownPortOrTooLong → ⊥) → (row ≡ request.ForwardOpen o.fields.large (open_data o) → ⊥)
      → Came config event up row → ⊥
  not_came up row a b came = elim (came_row up row came) [ inl dropped ↦ a dropped | inr met ↦ b met ]

  no_send : (up : UpSide) (u : Unconnected) → AsksSend config s event up u → ⊥
  no_send up u (inl h) = not_came up (request.UnconnectedSend h.asked) (λ e. cc) (λ e. cc) h.came
  no_send up u (inr h) = by_form is
    where
      by_form : AsksThat config event o → ⊥
      by_form (Spelled command op event_is asks) =
          no_open_event config.identity command (commands.Send h.op h.timing h.path h.asked) (op, o) (sym event_is ∙ h.event_is) asks refl
      by_form (CameSo port n from event_is) =
          let no : events.Frame port from (bodies.Request n (open_bytes o)) ≡ events.Command (commands.Send h.op h.timing h.path h.asked) =
          sym event_is ∙ h.event_is in cc

  no_close : (up sender : UpSide) (c : Close) → AsksClose config s event up sender c → ⊥
  no_close up sender c (inl h) = not_came up (request.ForwardClose h.asked) (λ e. cc) (λ e. cc) h.came
  no_close up sender c (inr h) = by_form is
    where
      by_form : AsksThat config event o → ⊥
      by_form (Spelled command op event_is asks) =
          no_open_event config.identity command (commands.Close h.op h.of h.timing) (op, o) (sym event_is ∙ h.event_is) asks refl
      by_form (CameSo port n from event_is) =
          let no : events.Frame port from (bodies.Request n (open_bytes o)) ≡ events.Command (commands.Close h.op h.of h.timing) =
          sym event_is ∙ h.event_is in cc

  asked_data : (up : UpSide) (large : Bool) (asked : List ℕ) → Came config event up (request.ForwardOpen large asked)
      → (large ≡ o.fields.large) × (asked ≡ open_data o)
  asked_data up large asked came = elim (came_row up (request.ForwardOpen large asked) came) [ inl dropped ↦ absurd (cc) | inr met ↦ (cc, cc) ]

  -- it asks no other open
  pub same_open : (up : UpSide) (p : Open) → AsksOpen config s event up p → p ≡ o
  same_open up p (inl h) =
      let same = asked_data up p.fields.large h.asked h.came in
      open_data_read o p (ap (open_at o.fields.large) (sym same.1) ∙ ap (λ (l : Bool). open_at l h.asked) (sym same.0) ∙ h.read)
  same_open up p (inr h) = by_form is
    where
      by_form : AsksThat config event o → p ≡ o
      by_form (Spelled command op event_is asks) =
          let both : events.Command h.command ≡ events.Command command = sym h.event_is ∙ event_is in
          let same : h.command ≡ command = cc in
          ap (λ (x : ℕ × Open). x.1) (one_open config.identity h.command command (h.op, p) (op, o) same h.asks asks)
      by_form (CameSo port n from event_is) =
          let no : events.Frame port from (bodies.Request n (open_bytes o)) ≡ events.Command h.command =
          sym event_is ∙ h.event_is in absurd (cc)

  -- ---- what it did

  pub open_goes : (sending : Sending) (kind : Kind) → SentFor config s event sending kind → OpenGoes config s event o sending kind
  open_goes sending kind (SentForward h) = absurd (by_kind kind h)
    where
      by_kind : (kind : Kind) → ForwardsAs config s event sending kind → ⊥
      by_kind kind (SentOn is h) = no_send sending.up h.u h.asks
      by_kind kind (ClosedOn triad is h) = no_close sending.up h.closes.sender h.c h.closes.asks
  open_goes sending kind (Begun opening kind_is h) =
      let same = same_open sending.up h.o h.asks in
      record {
        up = sending.up;
        opening = opening;
        kind_is = kind_is;
        large_is = ap (λ (x : Opening). x.large) h.opening_is ∙ ap (λ (x : Open). x.fields.large) same;
        own = s.hops.next;
        rest = h.rest;
        leads = subst (λ (x : Open). LeadsOn config s x.fields.timing x.path sending.port sending.address h.rest) same h.leads;
        bytes_are = h.bytes_are ∙ ap (λ (x : Open). open_on x s.hops.next h.rest) same;
        words_are = h.words_are ∙ ap (λ (x : Open). words_of x.path) same;
        meets = subst (λ (x : Open). open_row config s (up_side_of sending.up x.fields.to_id) x ≡ Forwarded sending.port sending.address h.rest) same h.meets;
        asks = subst (AsksOpen config s event sending.up) same h.asks;
      }

  pub no_answer : (up : UpSide) (asked : Request) → AnswersAs config s event up asked → ⊥
  no_answer up asked (Itself came) = not_came up (request.Target asked) (λ e. cc) (λ e. cc) came
  no_answer up asked (Embedded u asks whole read) = no_send up u asks

  pub open_replied : (up : UpSide) (bytes : List ℕ) → RepliesAs config s event up bytes
      → OpenRefused config s event o bytes ⊎ OpenAccepted config s event o bytes
  open_replied up bytes (RequestFails service refusal came e) = absurd (not_came up (request.Refuses service refusal) (λ e. cc) (λ e. cc) came)
  open_replied up bytes (SendUnread asked fault came read e) = absurd (not_came up (request.UnconnectedSend asked) (λ e. cc) (λ e. cc) came)
  open_replied up bytes (SendFails u refusal asks meets e) = absurd (no_send up u asks)
  open_replied up bytes (CloseUnread asked fault came read e) = absurd (not_came up (request.ForwardClose asked) (λ e. cc) (λ e. cc) came)
  open_replied up bytes (CloseFails sender c refusal asks meets e) = absurd (no_close up sender c asks)
  open_replied up bytes (CloseEnds sender c asks meets e) = absurd (no_close up sender c asks)
  open_replied up bytes (OpenUnread large asked fault came read e) =
      let same = asked_data up large asked came in
      inl (record {
        refusal = unread_row o.fields.large (open_data o) fault;
        why = Unread up large asked fault came read (λ i. unread_row (sym same.0 i) (sym same.1 i) fault);
        large = o.fields.large;
        large_is = refl;
        failure = record { triad = open_triad_of (open_data o); words = Some (words_of o.path) };
        words_is = refl;
        triad_there = has_triad o;
        bytes_are = e ∙ (λ i. unread_open_bytes (same.0 i) (same.1 i) fault) ∙ unread_is o fault;
      })
  open_replied up bytes (OpenFails p refusal asks meets e) =
      let same = same_open up p asks in
      inl (record {
        refusal = refusal;
        why = Read up p asks meets;
        large = p.fields.large;
        large_is = ap (λ (x : Open). x.fields.large) same;
        failure = failed_at p.fields.triad (words_of p.path);
        words_is = ap (λ (x : Open). Some (words_of x.path)) same;
        triad_there = λ none. absurd (cc);
        bytes_are = e;
      })
  open_replied up bytes (OpenEnds p link asks meets e) =
      let same = same_open up p asks in
      inr (record {
        up = up;
        link = link;
        asks = subst (AsksOpen config s event up) same asks;
        meets = subst (λ (x : Open). open_row config s (up_side_of up x.fields.to_id) x ≡ Accepted link) same meets;
        ends = accepted_ends config s (up_side_of up o.fields.to_id) o link
            (subst (λ (x : Open). open_row config s (up_side_of up x.fields.to_id) x ≡ Accepted link) same meets);
        bytes_are = e ∙ ap (λ (x : Open). accepted_bytes x s.hops.next) same;
      })
