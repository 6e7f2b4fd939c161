-- What the code decided on: which row of the table it is; and of a request that goes on, that it
-- can.
use Rattle.std.specs.Prelude.{◌≡◌, ℕ, ◌+◌, ◌%◌, ◌≤◌, ◌<◌, List, length, Option, None, Some}
use Rattle.cip_base.specs.declared.limits.TheConstants.{MAX_MESSAGE}
use Rattle.cip_base.specs.declared.timing.Timing.{Timing}
use Rattle.cip_base.specs.declared.triad.Triad.{Triad}
use Rattle.cip_message.specs.Reading.{request_of}
use Rattle.cip_pending.specs.Pendings.{Pendings, refusal}
use Rattle.cip_routing.specs.declared.unconnected_rows.UnconnectedDecision.{UnconnectedDecision}
use Rattle.cip_routing.specs.declared.unconnected_rows.UnconnectedDecision.TheVariants as decisions
use Rattle.cip_routing.specs.declared.request_rows.RequestDecision.{RequestDecision}
use Rattle.cip_routing.specs.declared.request_rows.RequestDecision.TheVariants as request_decisions
use Rattle.cip_routing.specs.RequestRows.{RequestRow}
use Rattle.cip_routing.specs.RequestRows as requests
use Rattle.cip_routing.specs.declared.reply_rows.ReplyDecision.{ReplyDecision}
use Rattle.cip_routing.specs.declared.reply_rows.ReplyDecision.TheVariants as reply_decisions
use Rattle.cip_routing.specs.UnconnectedRows.{UnconnectedRow, Refuses, AnsweredHere, Forwarded}
use Rattle.cip_routing.specs.ReplyRows.{ReplyRow}
use Rattle.cip_routing.specs.ReplyRows as replies
use Rattle.cip_open.specs.Reading.{success_of}

abbrev pub request_row_of : RequestDecision → RequestRow
request_row_of request_decisions.UnknownPortOrTooLong = requests.UnknownPortOrTooLong
request_row_of request_decisions.NotARequest = requests.NotARequest
request_row_of (request_decisions.Refuses service refusal) = requests.Refuses service refusal
request_row_of (request_decisions.UnconnectedSend sent) = requests.UnconnectedSend sent.now
request_row_of (request_decisions.ForwardOpen large asked) = requests.ForwardOpen large asked.now
request_row_of (request_decisions.ForwardClose asked) = requests.ForwardClose asked.now
request_row_of (request_decisions.Target request) = requests.Target (request_of request)

-- the service of a failure has bit 7 clear, and an Unconnected_Send is no longer than a message may
-- be
abbrev pub RequestLeads : RequestDecision → Type 0
RequestLeads request_decisions.UnknownPortOrTooLong = Unit {0}
RequestLeads request_decisions.NotARequest = Unit {0}
RequestLeads (request_decisions.Refuses service refusal) = service < 128
RequestLeads (request_decisions.UnconnectedSend sent) = 6 + length sent.now ≤ MAX_MESSAGE
RequestLeads (request_decisions.ForwardOpen large asked) = Unit {0}
RequestLeads (request_decisions.ForwardClose asked) = Unit {0}
RequestLeads (request_decisions.Target request) = request.service < 128

abbrev pub unconnected_row_of : UnconnectedDecision → UnconnectedRow
unconnected_row_of (decisions.Refuses refusal) = Refuses refusal
unconnected_row_of (decisions.AnsweredHere request) = AnsweredHere (request_of request)
unconnected_row_of (decisions.Forwarded port address rest) = Forwarded port address rest.bytes.now

-- a request that is answered here is one; a request that goes on has ticks for it, a place among
-- the pendings, and a path that is no longer than the route
abbrev pub Leads : Pendings → Timing → List ℕ → UnconnectedDecision → Type 0
Leads p timing route (decisions.Refuses fault) = Unit {0}
Leads p timing route (decisions.AnsweredHere request) = request.service < 128
Leads p timing route (decisions.Forwarded port address rest) =
    (2 ≤ timing.ticks) × (refusal p ≡ None) × (length rest.bytes.now ≤ length route)

abbrev pub reply_row_of : ReplyDecision → ReplyRow
reply_row_of reply_decisions.Malformed = replies.MalformedForItsKind
reply_row_of (reply_decisions.OpenSucceeded triad success) =
    replies.OpenSucceeded triad (success_of success)
reply_row_of reply_decisions.PassedUp = replies.PassedUp

-- a success is of the triad whose open was asked for, and can be written once more
abbrev pub ReplyLeads : Option Triad → ReplyDecision → Type 0
ReplyLeads asked reply_decisions.Malformed = Unit {0}
ReplyLeads asked (reply_decisions.OpenSucceeded triad success) =
    (asked ≡ Some triad) × (length success.reply.now % 2 ≡ 0) × (length success.reply.now ≤ 510)
ReplyLeads asked reply_decisions.PassedUp = Unit {0}
