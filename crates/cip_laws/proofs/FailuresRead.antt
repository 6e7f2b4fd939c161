-- What a module replies to a request that fails is read back whole.
use Rattle.std.proofs.Common.{◌≡◌, ℕ, Bool, ◌+◌, [], Ok, Option, arith, ◌<◌, ◌≤◌, true, false, cond, List, length, refl, ap, ◌∙◌}
use Rattle.cip_base.specs.declared.timing.Status.{Status}
use Rattle.cip_base.specs.declared.triad.Triad.{Triad}
use Rattle.cip_message.specs.Failure.{failure_at, failure_data}
use Rattle.cip_message.specs.Reply.{reply_with}
use Rattle.cip_message.specs.ReplyAt.{reply_at}
use Rattle.cip_message.proofs.Failures.{failure_back}
use Rattle.cip_message.proofs.Replies.{reply_back}
use Rattle.cip_open.specs.Kinds.{open_reply_service, open_fixed_part}
use Rattle.cip_open.proofs.Services.{reply_service_high}
use Rattle.cip_routing.specs.Answers.{failure_bytes, route_words_data, unconnected_failed, failed_at, open_failed, close_failed, failed_unread}
use Rattle.std.proofs.lemmas.Bool.{lt-ltb, le-ltb}
use Rattle.cip_message.specs.declared.fault.DataFault.{DataFault}
use Rattle.cip_message.specs.declared.failure.ConnectionFailure.{ConnectionFailure}
use Rattle.cip_open.specs.OpenAt.{open_triad_of, open_words_of}
use Rattle.cip_open.specs.Failed.{open_failure_bytes}
use Rattle.cip_pending.specs.Kinds.{opening_kind}
use Rattle.cip_routing.specs.Effects.{timed_out_bytes}
use Rattle.cip_routing.specs.Statuses.{link_status, open_status}
use Rattle.cip_routing.specs.declared.refusals.LinkRefusal.TheVariants.{TicksSpent}
use Rattle.cip_routing.specs.Table.{unread_open_bytes}
use Rattle.cip_routing.specs.OpenRows.{unread_row}

pub request_read : (service : ℕ) (status : Status) → reply_at (failure_bytes service status) ≡ Ok (reply_with (128 + service) status [])
request_read service status = reply_back (reply_with (128 + service) status []) (omega arith)

pub send_read : (status : Status) (words : Option ℕ) → reply_at (unconnected_failed status words) ≡ Ok (reply_with 0xD2 status (route_words_data words))
send_read status words = reply_back (reply_with 0xD2 status (route_words_data words)) (omega arith)

-- the data has the triad, so it may have words
told : (triad : Triad) (words : ℕ) → failure_at (failure_data (failed_at triad words)) ≡ Ok (failed_at triad words)
told triad words = failure_back (failed_at triad words) (λ none. absurd (cc))

pub open_read : (large : Bool) (status : Status) (triad : Triad) (words : ℕ)
    → (reply_at (open_failed large status triad words) ≡ Ok (reply_with (open_reply_service large) status (failure_data (failed_at triad words))))
    × (failure_at (failure_data (failed_at triad words)) ≡ Ok (failed_at triad words))
open_read large status triad words = (
  reply_back (reply_with (open_reply_service large) status (failure_data (failed_at triad words))) (reply_service_high large),
  told triad words,
)

pub close_read : (status : Status) (triad : Triad) (words : ℕ)
    → (reply_at (close_failed status triad words) ≡ Ok (reply_with 0xCE status (failure_data (failed_at triad words))))
    × (failure_at (failure_data (failed_at triad words)) ≡ Ok (failed_at triad words))
close_read status triad words = (reply_back (reply_with 0xCE status (failure_data (failed_at triad words))) (omega arith), told triad words)

-- an open whose reply did not come in time
pub open_late : (large : Bool) (triad : Triad) (words : ℕ)
    → timed_out_bytes (opening_kind large triad) words ≡ open_failed large (link_status TicksSpent) triad words
open_late true triad words = refl
open_late false triad words = refl

-- one that cannot be read
any_read : (large : Bool) (status : Status) (f : ConnectionFailure)
    → reply_at (open_failure_bytes large status f) ≡ Ok (reply_with (open_reply_service large) status (failure_data f))
any_read large status f = reply_back (reply_with (open_reply_service large) status (failure_data f)) (reply_service_high large)

abbrev known : Bool → List ℕ → ConnectionFailure
known large d = record { triad = open_triad_of d; words = open_words_of large d }

abbrev telling : Bool → List ℕ → DataFault → ConnectionFailure → List ℕ
telling large d fault f = open_failure_bytes large (open_status (unread_row large d fault)) f

pub open_cut : (large : Bool) (d : List ℕ) (fault : DataFault) → length d < open_fixed_part large
    → reply_at (unread_open_bytes large d fault) ≡ Ok (reply_with (open_reply_service large) (open_status (unread_row large d fault)) [])
open_cut large d fault lt =
    ap (λ b. reply_at (telling large d fault (cond b failed_unread (known large d)))) (lt-ltb (length d) (open_fixed_part large) lt)
    ∙ any_read large (open_status (unread_row large d fault)) failed_unread

pub open_unread : (large : Bool) (d : List ℕ) (fault : DataFault) → open_fixed_part large ≤ length d
    → reply_at (unread_open_bytes large d fault)
    ≡ Ok (reply_with (open_reply_service large) (open_status (unread_row large d fault)) (failure_data (known large d)))
open_unread large d fault le =
    ap (λ b. reply_at (telling large d fault (cond b failed_unread (known large d)))) (le-ltb (length d) (open_fixed_part large) le)
    ∙ any_read large (open_status (unread_row large d fault)) (known large d)
