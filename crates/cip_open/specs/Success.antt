-- The data of a successful open's reply (Volume 1, chapter 3, Forward_Open and Large_Forward_Open,
-- successful response).
use Rattle.std.specs.Prelude.{◌≡◌, ℕ, Bool, ◌*◌, ◌/◌, ◌∷◌, ◌++◌, length}
use Rattle.cip_base.specs.Fields.{double}
use Rattle.cip_base.specs.Words.{Octets, ConnectionId, Microseconds, WordCount}
use Rattle.cip_base.specs.declared.triad.Triad.{Triad}
use Rattle.cip_open.specs.Kinds.{open_reply_service}
use Rattle.cip_message.specs.declared.fault.DataFault.{DataFault}
use Rattle.cip_message.specs.Numbers.{triad_bytes}
use Rattle.cip_message.specs.Cut.{IsPartFault}
use Rattle.cip_message.specs.Reply.{reply_bytes, done_with}

pub record OpenSuccess : Type 0 where
  pub ot_id : ConnectionId
  pub to_id : ConnectionId
  pub triad : Triad
  pub ot_api : Microseconds
  pub to_api : Microseconds
  pub reply : Octets

-- O→T and T→O connection id, connection triad, O→T and T→O API, size of the application reply in
-- words, a reserved byte, the application reply
abbrev pub open_reply_layout : WordCount → ℕ → OpenSuccess → Octets
open_reply_layout words x s =
    double s.ot_id ++ (double s.to_id ++ (triad_bytes s.triad
    ++ (double s.ot_api ++ (double s.to_api ++ (words ∷ x ∷ s.reply)))))

-- the reserved byte has any value
abbrev pub ReadsOpenReply : Octets → OpenSuccess → Type 0
ReadsOpenReply b s =
    (words : WordCount) × (x : ℕ)
    × (length s.reply ≡ 2 * words) × (b ≡ open_reply_layout words x s)

abbrev pub HasOpenReplyLayout : Octets → Type 0
HasOpenReplyLayout b = (s : OpenSuccess) × ReadsOpenReply b s

-- the first fault that fits
abbrev pub IsOpenReplyFault : Octets → DataFault → Type 0
IsOpenReplyFault b f = IsPartFault HasOpenReplyLayout (λ c g. ⊥) b f

-- the data as it is written: the reserved byte 00
abbrev pub open_reply_data : OpenSuccess → Octets
open_reply_data s = open_reply_layout (length s.reply / 2) 0 s

-- the whole message: a reply of the service with status 00
abbrev pub open_reply_bytes : Bool → OpenSuccess → Octets
open_reply_bytes large s = reply_bytes (done_with (open_reply_service large) (open_reply_data s))
