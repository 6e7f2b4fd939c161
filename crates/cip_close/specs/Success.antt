-- The data of a successful Forward_Close's reply (Volume 1, chapter 3, Forward_Close, successful
-- response).
use Rattle.std.specs.Prelude.{◌≡◌, ℕ, ◌*◌, ◌/◌, ◌∷◌, ◌++◌, length}
use Rattle.cip_base.specs.Words.{Octets, WordCount}
use Rattle.cip_base.specs.declared.triad.Triad.{Triad}
use Rattle.cip_close.specs.declared.request.TheConstants.{FORWARD_CLOSE_REPLY}
use Rattle.cip_message.specs.declared.fault.DataFault.{DataFault}
use Rattle.cip_message.specs.Numbers.{triad_bytes}
use Rattle.cip_message.specs.Cut.{IsPartFault}
use Rattle.cip_message.specs.Reply.{reply_bytes, done_with}

pub record CloseSuccess : Type 0 where
  pub triad : Triad
  pub reply : Octets

-- connection triad, size of the application reply in words, a reserved byte, the application reply
abbrev pub close_reply_layout : WordCount → ℕ → CloseSuccess → Octets
close_reply_layout words x s = triad_bytes s.triad ++ (words ∷ x ∷ s.reply)

-- the reserved byte has any value
abbrev pub ReadsCloseReply : Octets → CloseSuccess → Type 0
ReadsCloseReply b s =
    (words : WordCount) × (x : ℕ)
    × (length s.reply ≡ 2 * words) × (b ≡ close_reply_layout words x s)

abbrev pub HasCloseReplyLayout : Octets → Type 0
HasCloseReplyLayout b = (s : CloseSuccess) × ReadsCloseReply b s

-- the first fault that fits
abbrev pub IsCloseReplyFault : Octets → DataFault → Type 0
IsCloseReplyFault b f = IsPartFault HasCloseReplyLayout (λ c g. ⊥) b f

-- the data as it is written: the reserved byte 00
abbrev pub close_reply_data : CloseSuccess → Octets
close_reply_data s = close_reply_layout (length s.reply / 2) 0 s

-- the whole message: a reply of Forward_Close with status 00
abbrev pub close_reply_bytes : CloseSuccess → Octets
close_reply_bytes s = reply_bytes (done_with FORWARD_CLOSE_REPLY (close_reply_data s))
