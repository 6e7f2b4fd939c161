-- A request that meets a row of the Connection Manager came as a request for that service, and a reply that meets the row of a success as a success.
use Rattle.std.proofs.Common.{◌≡◌, ℕ, List, [], ◌∷◌, Option, Some, None, Result, Ok, Err, Bool, true, false, not, eqb, is_some, slice_get, refl, ap, ◌∙◌, arith}
use Rattle.std.proofs.lemmas.Bool.{cond_both, eqb-true}
use Rattle.cip_segment.specs.declared.segment.Segment.{Segment}
use Rattle.cip_segment.specs.Reading.{segments_of}
use Rattle.cip_message.specs.declared.request.TheConstants.{CONNECTION_MANAGER}
use Rattle.cip_message.specs.declared.fault.RequestFault.{RequestFault}
use Rattle.cip_message.specs.declared.fault.RequestFault.TheVariants.{TooShort, PathSize, Path, NotRequest}
use Rattle.cip_message.specs.Request.{Request, request_with}
use Rattle.cip_message.specs.RequestAt.{request_at}
use Rattle.cip_message.specs.Received.{IsManager, IsReceived}
use Rattle.cip_unconnected.specs.declared.unconnected.TheConstants.{UNCONNECTED_SEND}
use Rattle.cip_open.specs.declared.kinds.TheConstants.{FORWARD_OPEN, LARGE_FORWARD_OPEN}
use Rattle.cip_close.specs.declared.request.TheConstants.{FORWARD_CLOSE}
use Rattle.cip_target.specs.declared.object.ObjectPath.{ObjectPath}
use Rattle.cip_target.specs.Object.{object_of}
use Rattle.cip_base.specs.declared.triad.Triad.{Triad}
use Rattle.cip_message.specs.declared.fault.ReplyFault.{ReplyFault}
use Rattle.cip_message.specs.declared.fault.DataFault.{DataFault}
use Rattle.cip_message.specs.declared.failure.ConnectionFailure.{ConnectionFailure}
use Rattle.cip_message.specs.Failure.{failure_at}
use Rattle.cip_message.specs.Reply.{Reply}
use Rattle.cip_message.specs.ReplyAt.{reply_at, IsDone}
use Rattle.cip_open.specs.Kinds.{open_service, open_reply_service}
use Rattle.cip_open.specs.Success.{OpenSuccess}
use Rattle.cip_open.specs.SuccessAt.{open_reply_at}
use Rattle.cip_open.specs.GoesOn.{IsOpenSuccess}
use Rattle.cip_close.specs.declared.request.TheConstants.{FORWARD_CLOSE_REPLY}
use Rattle.cip_close.specs.Success.{CloseSuccess}
use Rattle.cip_close.specs.SuccessAt.{close_reply_at}
use Rattle.cip_pending.specs.declared.entry.Entry.{Entry}
use Rattle.cip_pending.specs.declared.entry.Kind.{Kind}
use Rattle.cip_pending.specs.declared.entry.Kind.TheVariants.{Unconnected, Opening, OpeningLarge, Closing}
use Rattle.cip_pending.specs.Kinds.{is_large_kind}
use Rattle.cip_pending.specs.Pendings.{waiting_at}
use Rattle.cip_routing.specs.State.{State}
use Rattle.cip_routing.specs.Effects.{waits_large}
use Rattle.cip_routing.specs.ReplyRows.{ReplyRow, OpenSucceeded, triad_eq, is_own, failure_row, opened_row, closed_row, opening_row, open_kind_row, kind_row}
use Rattle.cip_routing.specs.ReplyRows.{waiting_row, reply_row}
use Rattle.cip_routing.specs.ReplyRows as replies
use Rattle.cip_config.specs.declared.config.ModuleSettings.{ModuleSettings}
use Rattle.cip_routing.specs.RequestRows.{RequestRow, UnconnectedSend, ForwardOpen, ForwardClose, is_malformed, read_row, object_row, manager_row, request_row}

-- what a row of the Connection Manager says of the bytes
abbrev pub SaysOf : List ℕ → RequestRow → Type 0
SaysOf b (UnconnectedSend d) = IsReceived UNCONNECTED_SEND d b
SaysOf b (ForwardOpen large d) = IsReceived (open_service large) d b
SaysOf b (ForwardClose d) = IsReceived FORWARD_CLOSE d b
SaysOf b row = Unit {0}

is_manager : (s : List Segment) (object : ObjectPath) → object_of s ≡ Some object → object.class_ ≡ CONNECTION_MANAGER → object.instance ≡ 1 → IsManager s
is_manager s object e ec ei = grind arith

received : (b : List ℕ) (r : Request) (object : ObjectPath) (service : ℕ) → object.class_ ≡ CONNECTION_MANAGER → object.instance ≡ 1
    → object_of (segments_of r.path) ≡ Some object → request_at b ≡ Ok r → r.service ≡ service → IsReceived service r.data_ b
received b r object service ec ei is e es = record {
  path = r.path;
  reads = e ∙ ap (λ (s : ℕ). Ok (request_with s r.path r.data_)) es;
  manager = is_manager (segments_of r.path) object is ec ei;
}

abbrev ok : Reply → Result Reply ReplyFault
ok r = Ok r

not_false : (b : Bool) → not b ≡ false → b ≡ true
not_false true e = refl
not_false false e = cc

by_manager : (b : List ℕ) (r : Request) (object : ObjectPath) → object.class_ ≡ CONNECTION_MANAGER → object_of (segments_of r.path) ≡ Some object
    → request_at b ≡ Ok r → SaysOf b (manager_row r object)
by_manager b r object ec is e =
    cond_both (not (eqb object.instance 1)) _ _ (SaysOf b) (λ other. tt)
    (λ one.
    let ei : object.instance ≡ 1 = eqb-true _ _ (not_false _ one) in
    let says = received b r object in
    cond_both (eqb r.service UNCONNECTED_SEND) _ _ (SaysOf b) (λ s. says UNCONNECTED_SEND ec ei is e (eqb-true _ _ s))
    (λ no_send. cond_both (eqb r.service FORWARD_OPEN) _ _ (SaysOf b) (λ s. says FORWARD_OPEN ec ei is e (eqb-true _ _ s))
    (λ no_open. cond_both (eqb r.service LARGE_FORWARD_OPEN) _ _ (SaysOf b) (λ s. says LARGE_FORWARD_OPEN ec ei is e (eqb-true _ _ s))
    (λ no_large. cond_both (eqb r.service FORWARD_CLOSE) _ _ (SaysOf b) (λ s. says FORWARD_CLOSE ec ei is e (eqb-true _ _ s)) (λ no_close. tt)))))

by_object : (b : List ℕ) (r : Request) (o : Option ObjectPath) → object_of (segments_of r.path) ≡ o → request_at b ≡ Ok r → SaysOf b (object_row r o)
by_object b r None is e = tt
by_object b r (Some object) is e =
    cond_both (eqb object.class_ CONNECTION_MANAGER) _ _ (SaysOf b) (λ c. by_manager b r object (eqb-true _ _ c) is e) (λ other. tt)

by_read : (b : List ℕ) (r : Result Request RequestFault) → request_at b ≡ r → SaysOf b (read_row b r)
by_read b (Err TooShort) e = tt
by_read b (Err NotRequest) e = tt
by_read b (Err PathSize) e = tt
by_read b (Err (Path f)) e = tt
by_read b (Ok r) e = by_object b r (object_of (segments_of r.path)) refl e

pub came_in : (config : ModuleSettings) (port : ℕ) (b : List ℕ) → SaysOf b (request_row config port b)
unfolding request_row
came_in config port b = cond_both (is_malformed config port b) _ _ (SaysOf b) (λ malformed. tt) (λ fits. by_read b (request_at b) refl)

-- ---- a success

abbrev pub SaysSuccess : Bool → List ℕ → ReplyRow → Type 0
SaysSuccess large b (OpenSucceeded triad success) = IsOpenSuccess large b success
SaysSuccess large b row = Unit {0}

no_words : (e : List ℕ) → is_some (slice_get e 0) ≡ false → e ≡ []
no_words [] h = refl
no_words (x ∷ e) h = cc

done : (b : List ℕ) (r : Reply) (service : ℕ) → reply_at b ≡ Ok r → r.service ≡ service → r.general ≡ 0 → r.extra ≡ [] → IsDone service r.data_ b
done b r service e es eg ee =
    e
    ∙ ap (λ (s : ℕ). ok (record { service = s; general = r.general; extra = r.extra; data_ = r.data_ })) es
    ∙ ap (λ (g : ℕ). ok (record { service = service; general = g; extra = r.extra; data_ = r.data_ })) eg
    ∙ ap (λ (x : List ℕ). ok (record { service = service; general = 0; extra = x; data_ = r.data_ })) ee

by_success : (large : Bool) (b : List ℕ) (triad : Triad) (r : Reply) → IsDone (open_reply_service large) r.data_ b → (q : Result OpenSuccess DataFault)
    → open_reply_at r.data_ ≡ q → SaysSuccess large b (opened_row triad q)
by_success large b triad r d (Err f) e = tt
by_success large b triad r d (Ok s) e =
    cond_both (triad_eq s.triad triad) _ _ (SaysSuccess large b) (λ same. record { data_ = r.data_; reply = d; is = e }) (λ other. tt)

by_failure : (large : Bool) (b : List ℕ) (triad : Triad) (q : Result ConnectionFailure DataFault) → SaysSuccess large b (failure_row triad q)
by_failure large b triad (Err f) = tt
by_failure large b triad (Ok f) = cond_both (is_own triad f.triad) _ _ (SaysSuccess large b) (λ own. tt) (λ other. tt)

by_opening : (large : Bool) (b : List ℕ) (triad : Triad) (r : Reply) → reply_at b ≡ Ok r → r.service ≡ open_reply_service large
    → SaysSuccess large b (opening_row triad r)
by_opening large b triad r e es =
    cond_both (eqb r.general 0) _ _ (SaysSuccess large b)
    (λ good. cond_both (is_some (slice_get r.extra 0)) _ _ (SaysSuccess large b) (λ more. tt)
    (λ none. by_success large b triad r (done b r (open_reply_service large) e es (eqb-true _ _ good) (no_words r.extra none)) (open_reply_at r.data_) refl))
    (λ bad. by_failure large b triad (failure_at r.data_))

by_closed : (large : Bool) (b : List ℕ) (triad : Triad) (q : Result CloseSuccess DataFault) → SaysSuccess large b (closed_row triad q)
by_closed large b triad (Err f) = tt
by_closed large b triad (Ok s) = cond_both (triad_eq s.triad triad) _ _ (SaysSuccess large b) (λ same. tt) (λ other. tt)

by_open_kind : (large : Bool) (b : List ℕ) (triad : Triad) (r : Reply) → reply_at b ≡ Ok r → SaysSuccess large b (open_kind_row large triad r)
by_open_kind large b triad r e =
    cond_both (eqb r.service (open_reply_service large)) _ _ (SaysSuccess large b) (λ s. by_opening large b triad r e (eqb-true _ _ s)) (λ other. tt)

by_kind : (b : List ℕ) (kind : Kind) (r : Reply) → reply_at b ≡ Ok r → SaysSuccess (is_large_kind kind) b (kind_row kind r)
by_kind b Unconnected r e = tt
by_kind b (Opening triad) r e = by_open_kind false b triad r e
by_kind b (OpeningLarge triad) r e = by_open_kind true b triad r e
by_kind b (Closing triad) r e =
    cond_both (eqb r.service FORWARD_CLOSE_REPLY) _ _ (SaysSuccess false b)
    (λ s. cond_both (eqb r.general 0) _ _ (SaysSuccess false b)
    (λ good. cond_both (is_some (slice_get r.extra 0)) _ _ (SaysSuccess false b) (λ more. tt) (λ none. by_closed false b triad (close_reply_at r.data_)))
    (λ bad. by_failure false b triad (failure_at r.data_)))
    (λ other. tt)

by_reply : (b : List ℕ) (kind : Kind) (q : Result Reply ReplyFault) → reply_at b ≡ q → SaysSuccess (is_large_kind kind) b (replies.read_row kind q)
by_reply b kind (Err f) e = tt
by_reply b kind (Ok r) e = by_kind b kind r e

by_entry : (b : List ℕ) (o : Option Entry) → SaysSuccess (waits_large o) b (waiting_row b o)
by_entry b None = tt
by_entry b (Some entry) = by_reply b entry.kind (reply_at b) refl

pub success_came : (config : ModuleSettings) (s : State) (port : ℕ) (from : List ℕ) (number : ℕ) (b : List ℕ)
    → SaysSuccess (waits_large (waiting_at s.pendings number port from)) b (reply_row config s port from number b)
unfolding reply_row
success_came config s port from number b =
    cond_both (is_malformed config port b) _ _ (SaysSuccess (waits_large (waiting_at s.pendings number port from)) b)
    (λ malformed. tt) (λ fits. by_entry b (waiting_at s.pendings number port from))
