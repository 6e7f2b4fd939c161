-- What goes on for an Unconnected_Send or a Forward_Close is no Forward_Open.
use Rattle.std.proofs.Common.{◌≡◌, ◌<◌, ℕ, Bool, true, false, cond, get_or, List, [], ◌∷◌, length, Ok, Option, Some, None, refl, sym, ap, ◌∙◌, arith, eqb}
use Rattle.cip_segment.specs.declared.segment.Segment.{Segment}
use Rattle.cip_segment.specs.declared.segment.Segment.TheVariants.{Class, Instance}
use Rattle.cip_segment.specs.Reading.{segments_of}
use Rattle.cip_message.specs.Manager.{manager_request, manager_bytes}
use Rattle.cip_message.specs.Request.{Request}
use Rattle.cip_message.specs.RequestAt.{request_at}
use Rattle.cip_message.proofs.Managers.{manager_is_read}
use Rattle.cip_unconnected.specs.Unconnected.{Unconnected, unconnected_bytes, unconnected_data, is_too_long}
use Rattle.cip_close.specs.Close.{Close, close_data, close_bytes}
use Rattle.cip_pending.specs.Pendings.{Pendings}
use Rattle.cip_target.specs.Object.{attribute_in, with_attribute, instance_in, object_of}
use Rattle.cip_config.specs.declared.config.ModuleSettings.{ModuleSettings}
use Rattle.cip_routing.specs.declared.refusals.UnconnectedRefusal.TheVariants.{EmbeddedRequestNotAllowed}
use Rattle.cip_routing.specs.CommandRows as command
use Rattle.cip_routing.specs.CommandRows.{send_row}
use Rattle.cip_routing.specs.Object.{begins_with_manager}
use Rattle.cip_routing.specs.RequestRows.{UnknownPortOrTooLong, ForwardOpen, Target, is_malformed, read_row, manager_row, object_row, request_row}
use Rattle.cip_routing.specs.State.{State, is_spent}
use Rattle.cip_routing.specs.Table.{one_less, message_on}
use Rattle.cip_routing.specs.UnconnectedRows.{UnconnectedRow, embedded_row, route_row, unconnected_row}
use Rattle.cip_routing.specs.UnconnectedRows as unconnected
use Rattle.cip_laws.proofs.NextRows.{manager_object}

-- the row of bytes, unless they come by no port or are too long
row_or : (config : ModuleSettings) (port : ℕ) (bytes : List ℕ) (large : Bool) (d : List ℕ) → request_row config port bytes ≡ ForwardOpen large d
    → read_row bytes (request_at bytes) ≡ ForwardOpen large d
unfolding request_row
row_or config port bytes large d e =
    elim (is_malformed config port bytes) as (λ b. cond b UnknownPortOrTooLong (read_row bytes (request_at bytes)) ≡ ForwardOpen large d
    → read_row bytes (request_at bytes) ≡ ForwardOpen large d) [
      | true ↦ λ s. absurd (cc)
      | false ↦ λ s. s
    ] e

manager_read : (s : ℕ) (d : List ℕ) → s < 128 → read_row (manager_bytes s d) (request_at (manager_bytes s d))
    ≡ object_row (manager_request s d) (object_of (Class 6 ∷ Instance 1 ∷ []))
manager_read s d small = ap (read_row (manager_bytes s d)) (manager_is_read s d small) ∙ ap (object_row (manager_request s d)) manager_object

pub close_no_open : (config : ModuleSettings) (port : ℕ) (c : Close) (d : List ℕ) (large : Bool)
    → request_row config port (close_bytes c) ≡ ForwardOpen large d → ⊥
close_no_open config port c d large e = let no = sym (manager_read 0x4E (close_data c) (omega arith)) ∙ row_or config port (close_bytes c) large d e in cc

pub send_no_open : (config : ModuleSettings) (port : ℕ) (u : Unconnected) (d : List ℕ) (large : Bool)
    → request_row config port (unconnected_bytes u) ≡ ForwardOpen large d → ⊥
send_no_open config port u d large e =
    let no = sym (manager_read 0x52 (unconnected_data u) (omega arith)) ∙ row_or config port (unconnected_bytes u) large d e in cc

-- ---- an embedded request

class_row : (r : Request) (c i : ℕ) (x : Option (Option ℕ)) (large : Bool) (d : List ℕ) → eqb c 6 ≡ false
    → object_row r (with_attribute c i x) ≡ ForwardOpen large d → ⊥
class_row r c i None large d other e = cc
class_row r c i (Some a) large d other e =
    let is : object_row r (with_attribute c i (Some a)) ≡ Target r =
    ap (λ b. cond b (manager_row r (record { class_ = c; instance = i; attribute = a })) (Target r)) other in
    let no : Target r ≡ ForwardOpen large d = sym is ∙ e in cc

behind_class : (r : Request) (c : ℕ) (others : List Segment) (large : Bool) (d : List ℕ) → eqb c 6 ≡ false
    → object_row r (instance_in c others) ≡ ForwardOpen large d → ⊥
behind_class r c (Instance i ∷ others) large d other e = class_row r c i (attribute_in others) large d other e
behind_class r c s large d other e = cc

no_manager : (r : Request) (s : List Segment) (large : Bool) (d : List ℕ) → begins_with_manager s ≡ false → object_row r (object_of s) ≡ ForwardOpen large d → ⊥
no_manager r (Class c ∷ others) large d other e = behind_class r c others large d other e
no_manager r s large d other e = cc

-- what is sent on does not begin with the Connection Manager
pub allowed : (config : ModuleSettings) (p : Pendings) (u : Unconnected) (r : Request) (port : ℕ) (address rest : List ℕ) → request_at u.request ≡ Ok r
    → unconnected_row config p u ≡ unconnected.Forwarded port address rest
    → begins_with_manager (segments_of r.path) ≡ false
unfolding unconnected_row
allowed config p u r port address rest read meets =
    let row : embedded_row config p u (Ok r) ≡ unconnected.Forwarded port address rest = sym (ap (embedded_row config p u) read) ∙ meets in
    elim (begins_with_manager (segments_of r.path)) as (λ b. cond b (unconnected.Refuses EmbeddedRequestNotAllowed) (route_row config p u r)
    ≡ unconnected.Forwarded port address rest → b ≡ false) [
      | true ↦ λ s. absurd (cc)
      | false ↦ λ s. refl
    ] row

-- nor is what is answered here for it
pub answered_allowed : (config : ModuleSettings) (p : Pendings) (u : Unconnected) (r embedded : Request) → request_at u.request ≡ Ok r
    → unconnected_row config p u ≡ unconnected.AnsweredHere embedded
    → begins_with_manager (segments_of r.path) ≡ false
unfolding unconnected_row
answered_allowed config p u r embedded read meets =
    let row : embedded_row config p u (Ok r) ≡ unconnected.AnsweredHere embedded = sym (ap (embedded_row config p u) read) ∙ meets in
    elim (begins_with_manager (segments_of r.path)) as (λ b. cond b (unconnected.Refuses EmbeddedRequestNotAllowed) (route_row config p u r)
    ≡ unconnected.AnsweredHere embedded → b ≡ false) [
      | true ↦ λ s. absurd (cc)
      | false ↦ λ s. refl
    ] row

-- ---- a Send

taken_row : (a b c : Bool) → cond a command.OpUsed (cond b command.ReservedService (cond c command.WrongSize command.Taken)) ≡ command.Taken → b ≡ false
taken_row true b c e = absurd (cc)
taken_row false true c e = absurd (cc)
taken_row false false c e = refl

-- the request of a Send that is taken is not of the service that is Unconnected_Send's
pub send_service : (s : State) (op : ℕ) (u : Unconnected) → send_row s op u ≡ command.Taken → eqb (get_or u.request 0 0) 0x52 ≡ false
unfolding send_row
send_service s op u e = taken_row (is_spent op s.ops) (eqb (get_or u.request 0 0) 0x52) (is_too_long u) e

-- ---- the message that goes on

pub message_no_open : (config there : ModuleSettings) (p : Pendings) (u : Unconnected) (r : Request) (port q : ℕ) (address rest d : List ℕ) (large : Bool)
    → request_at u.request ≡ Ok r
    → unconnected_row config p u ≡ unconnected.Forwarded port address rest → request_row there q (message_on u rest) ≡ ForwardOpen large d → ⊥
message_no_open config there p u r port q address rest d large read meets =
    elim (eqb (length rest) 0) as (λ b. request_row there q
    (cond b u.request (unconnected_bytes (record { timing = one_less u.timing; request = u.request; route = rest }))) ≡ ForwardOpen large d → ⊥) [
      | true ↦ λ e. no_manager r (segments_of r.path) large d (allowed config p u r port address rest read meets)
          (sym (ap (read_row u.request) read) ∙ row_or there q u.request large d e)
      | false ↦ λ e. send_no_open there q (record { timing = one_less u.timing; request = u.request; route = rest }) d large e
    ]
