-- The replies that rows answer.
use Rattle.std.specs.Prelude.{ℕ, ◌+◌, [], ◌∷◌, Bool, Option, Some, None}
use Rattle.cip_base.specs.Words.{Octets, WordCount}
use Rattle.cip_base.specs.declared.timing.Status.{Status}
use Rattle.cip_base.specs.declared.triad.Triad.{Triad}
use Rattle.cip_unconnected.specs.declared.unconnected.TheConstants.{UNCONNECTED_SEND}
use Rattle.cip_message.specs.Reply.{reply_bytes, extra_words}
use Rattle.cip_message.specs.declared.failure.ConnectionFailure.{ConnectionFailure}
use Rattle.cip_open.specs.Failed.{open_failure_bytes}
use Rattle.cip_close.specs.Failed.{close_failure_bytes}
use Rattle.cip_routing.specs.declared.refusals.UnconnectedRefusal.{UnconnectedRefusal}
use Rattle.cip_routing.specs.Statuses.{unconnected_status}

-- the reply of a service, with bit 7 of the service set
abbrev pub answered : ℕ → Status → Octets → Octets
answered service status d = reply_bytes
    (record {
      service = 128 + service;
      general = status.general;
      extra =
          extra_words status.extra;
      data_ = d;
    })

abbrev pub failure_bytes : ℕ → Status → Octets
failure_bytes service status = answered service status []

-- the words of the path as received, where they are known: the one byte of data of a failed
-- Unconnected_Send
abbrev pub route_words_data : Option ℕ → Octets
route_words_data None = []
route_words_data (Some words) = words ∷ []

abbrev pub unconnected_failed : Status → Option ℕ → Octets
unconnected_failed status words = answered UNCONNECTED_SEND status (route_words_data words)

abbrev pub unconnected_failure : UnconnectedRefusal → Option ℕ → Octets
unconnected_failure refusal words = unconnected_failed (unconnected_status refusal) words

-- what a failed open or close tells: its triad, and the words of the path as received
abbrev pub failed_at : Triad → WordCount → ConnectionFailure
failed_at triad words = record { triad = Some triad; words = Some words }

-- of an open or a close whose fixed part is cut
abbrev pub failed_unread : ConnectionFailure
failed_unread = record { triad = None; words = None }

abbrev pub open_failed : Bool → Status → Triad → WordCount → Octets
open_failed large status triad words = open_failure_bytes large status (failed_at triad words)

abbrev pub close_failed : Status → Triad → WordCount → Octets
close_failed status triad words = close_failure_bytes status (failed_at triad words)
