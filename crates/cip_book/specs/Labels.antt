-- A frame in short.
use Rattle.std.specs.Prelude.{ℕ, Bool, false, not, ◌==◌, ◌&&◌, is_none}
use Rattle.std.specs.Prelude.{Option, Some, None, Result, Ok, Err}
use Rattle.cip_base.specs.declared.timing.Status.{Status}
use Rattle.cip_event.specs.declared.event.Body.{Body}
use Rattle.cip_event.specs.declared.event.Body.TheVariants.{Request, Reply, Data}
use Rattle.cip_message.specs.Request.{Request as Asked}
use Rattle.cip_message.specs.Reply.{Reply as Answered, status_of}
use Rattle.cip_message.specs.RequestAt.{request_at}
use Rattle.cip_message.specs.ReplyAt.{reply_at}
use Rattle.cip_book.specs.declared.label.Kind.{Kind}
use Rattle.cip_book.specs.declared.label.Kind.TheVariants as kinds
use Rattle.cip_book.specs.declared.label.Label.{Label}

abbrev pub label_with : Kind → ℕ → Option ℕ → Option Status → Label
label_with kind number service status =
    record { kind = kind; number = number; service = service; status = status }

-- of a request its service, where it can be read
abbrev pub request_label : {E : Type 0} → ℕ → Result Asked E → Label
request_label number (Ok request) = label_with kinds.Request number (Some request.service) None
request_label number (Err fault) = label_with kinds.Request number None None

-- of a reply its service and status, where it can be read
abbrev pub reply_label : {E : Type 0} → ℕ → Result Answered E → Label
reply_label number (Ok reply) =
    label_with kinds.Reply number (Some reply.service) (Some (status_of reply))
reply_label number (Err fault) = label_with kinds.Reply number None None

abbrev pub label_of : Body → Label
label_of (Request number bytes) = request_label number (request_at bytes)
label_of (Reply number bytes) = reply_label number (reply_at bytes)
label_of (Data id bytes) = label_with kinds.Data id None None

abbrev pub is_bad : Option Status → Bool
is_bad None = false
is_bad (Some status) = not (status.general == 0)

abbrev pub is_failure : Label → Bool
is_failure label = is_bad label.status

abbrev pub is_message : Kind → Bool
is_message kinds.Data = false
is_message kind = not false

abbrev pub is_unreadable : Label → Bool
is_unreadable label = is_message label.kind && is_none label.service
