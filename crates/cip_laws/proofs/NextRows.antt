-- What is sent on meets the group that it is meant for, at any module that has the port, or is dropped there as too long.
use Rattle.std.proofs.Common.{◌≡◌, ℕ, true, false, cond, List, [], ◌∷◌, ap, ◌∙◌, ◌⊎◌, inl, inr, refl, arith, Bool}
use Rattle.cip_segment.specs.declared.segment.Segment.TheVariants.{Class, Instance}
use Rattle.cip_segment.specs.Reading.{segments_of}
use Rattle.cip_segment.proofs.PathsRead.{segments_of-Spells}
use Rattle.cip_message.specs.Manager.{manager_path, manager_request}
use Rattle.cip_message.specs.RequestAt.{request_at}
use Rattle.cip_message.proofs.Managers.{manager_spells, manager_readable, manager_is_read}
use Rattle.cip_open.specs.Open.{Open, open_data, open_bytes}
use Rattle.cip_target.specs.Object.{object_of}
use Rattle.cip_unconnected.specs.Unconnected.{Unconnected, unconnected_bytes, unconnected_data}
use Rattle.cip_close.specs.Close.{Close, close_data, close_bytes}
use Rattle.cip_config.specs.declared.config.ModuleSettings.{ModuleSettings}
use Rattle.cip_routing.specs.RequestRows.{RequestRow, UnknownPortOrTooLong, UnconnectedSend, ForwardOpen, ForwardClose, is_malformed, read_row, object_row}
use Rattle.cip_routing.specs.RequestRows.{unless_malformed, request_row}
use Rattle.cip_open.specs.Kinds.{open_service}
use Rattle.cip_open.proofs.Services.{service_low}

pub manager_object : object_of (segments_of manager_path) ≡ object_of (Class 6 ∷ Instance 1 ∷ [])
manager_object = ap object_of (segments_of-Spells manager_path (Class 6 ∷ Instance 1 ∷ []) manager_readable manager_spells)

meets : (config : ModuleSettings) (port : ℕ) (bytes : List ℕ) (row : RequestRow) → read_row bytes (request_at bytes) ≡ row
    → request_row config port bytes ≡ unless_malformed config port bytes row
unfolding request_row
meets config port bytes row e = ap (unless_malformed config port bytes) e

-- the Connection Manager knows the service of an open, large or not
kind_meets : (large : Bool) (d : List ℕ) → object_row (manager_request (open_service large) d) (object_of (Class 6 ∷ Instance 1 ∷ [])) ≡ ForwardOpen large d
kind_meets true d = refl
kind_meets false d = refl

pub open_meets : (config : ModuleSettings) (port : ℕ) (o : Open)
    → request_row config port (open_bytes o) ≡ unless_malformed config port (open_bytes o) (ForwardOpen o.fields.large (open_data o))
open_meets config port o =
    meets config port (open_bytes o) (ForwardOpen o.fields.large (open_data o))
    (ap (read_row (open_bytes o)) (manager_is_read (open_service o.fields.large) (open_data o) (service_low o.fields.large))
    ∙ ap (object_row (manager_request (open_service o.fields.large) (open_data o))) manager_object
    ∙ kind_meets o.fields.large (open_data o))

pub send_meets : (config : ModuleSettings) (port : ℕ) (u : Unconnected)
    → request_row config port (unconnected_bytes u) ≡ unless_malformed config port (unconnected_bytes u) (UnconnectedSend (unconnected_data u))
send_meets config port u =
    meets config port (unconnected_bytes u) (UnconnectedSend (unconnected_data u))
    (ap (read_row (unconnected_bytes u)) (manager_is_read 0x52 (unconnected_data u) (omega arith))
    ∙ ap (object_row (manager_request 0x52 (unconnected_data u))) manager_object)

pub close_meets : (config : ModuleSettings) (port : ℕ) (c : Close)
    → request_row config port (close_bytes c) ≡ unless_malformed config port (close_bytes c) (ForwardClose (close_data c))
close_meets config port c =
    meets config port (close_bytes c) (ForwardClose (close_data c))
    (ap (read_row (close_bytes c)) (manager_is_read 0x4E (close_data c) (omega arith)) ∙ ap (object_row (manager_request 0x4E (close_data c))) manager_object)

-- ---- dropped, or this row

either : (config : ModuleSettings) (port : ℕ) (bytes : List ℕ) (row : RequestRow)
    → (unless_malformed config port bytes row ≡ UnknownPortOrTooLong) ⊎ (unless_malformed config port bytes row ≡ row)
either config port bytes row =
    elim (is_malformed config port bytes) as (λ b. (cond b UnknownPortOrTooLong row ≡ UnknownPortOrTooLong) ⊎ (cond b UnknownPortOrTooLong row ≡ row))
    [ true ↦ inl refl | false ↦ inr refl ]

then_either : (config : ModuleSettings) (port : ℕ) (bytes : List ℕ) (row : RequestRow)
    → request_row config port bytes ≡ unless_malformed config port bytes row
    → (request_row config port bytes ≡ UnknownPortOrTooLong) ⊎ (request_row config port bytes ≡ row)
then_either config port bytes row e = elim (either config port bytes row) [ inl dropped ↦ inl (e ∙ dropped) | inr met ↦ inr (e ∙ met) ]

pub open_row_is : (config : ModuleSettings) (port : ℕ) (o : Open)
    → (request_row config port (open_bytes o) ≡ UnknownPortOrTooLong) ⊎ (request_row config port (open_bytes o) ≡ ForwardOpen o.fields.large (open_data o))
open_row_is config port o = then_either config port (open_bytes o) (ForwardOpen o.fields.large (open_data o)) (open_meets config port o)

pub send_row_is : (config : ModuleSettings) (port : ℕ) (u : Unconnected)
    → (request_row config port (unconnected_bytes u) ≡ UnknownPortOrTooLong)
    ⊎ (request_row config port (unconnected_bytes u) ≡ UnconnectedSend (unconnected_data u))
send_row_is config port u = then_either config port (unconnected_bytes u) (UnconnectedSend (unconnected_data u)) (send_meets config port u)

pub close_row_is : (config : ModuleSettings) (port : ℕ) (c : Close)
    → (request_row config port (close_bytes c) ≡ UnknownPortOrTooLong) ⊎ (request_row config port (close_bytes c) ≡ ForwardClose (close_data c))
close_row_is config port c = then_either config port (close_bytes c) (ForwardClose (close_data c)) (close_meets config port c)
