-- A reply of the Message Router (Volume 1, chapter 2, Message Router reply format).
use Rattle.std.specs.Prelude.{◌≡◌, ℕ, ◌*◌, ◌<◌, ◌≤◌, List, [], ◌∷◌, ◌++◌, length, slice_get, Option, Some, None}
use Rattle.cip_base.specs.Words.{Octets}
use Rattle.cip_base.specs.declared.timing.Status.{Status}
use Rattle.cip_message.specs.declared.fault.ReplyFault.{ReplyFault}
use Rattle.cip_message.specs.declared.fault.ReplyFault.TheVariants.{TooShort, NotReply, ExtraSize}
use Rattle.cip_message.specs.Numbers.{words_bytes}

-- the fields of a reply: `extra` has the words of additional status
pub record Reply : Type 0 where
  pub service : ℕ
  pub general : ℕ
  pub extra : List ℕ
  pub data_ : Octets

-- service with bit 7 set, a reserved byte, general status, size of the additional status in words,
-- additional status, data
abbrev pub reply_layout : ℕ → Reply → Octets
reply_layout reserved r =
    r.service ∷ reserved ∷ r.general ∷ length r.extra ∷ words_bytes r.extra ++ r.data_

-- the reserved byte is read with any value
abbrev pub ReadsReply : Octets → Reply → Type 0
ReadsReply b r = (128 ≤ r.service) × ((reserved : ℕ) × (b ≡ reply_layout reserved r))

-- the bytes of a reply, the reserved byte 00
abbrev pub reply_bytes : Reply → Octets
reply_bytes r = reply_layout 0 r

-- the first fault that fits
abbrev pub IsReplyFault : Octets → ReplyFault → Type 0
IsReplyFault b TooShort = length b < 4
IsReplyFault b NotReply =
    (s : ℕ) × (x : ℕ) × (g : ℕ) × (n : ℕ) × (rest : Octets)
    × (b ≡ s ∷ x ∷ g ∷ n ∷ rest) × (s < 128)
IsReplyFault b ExtraSize =
    (s : ℕ) × (x : ℕ) × (g : ℕ) × (n : ℕ) × (rest : Octets)
    × (b ≡ s ∷ x ∷ g ∷ n ∷ rest) × (128 ≤ s) × (length rest < 2 * n)

-- the words of additional status of a status that is written: one at most
abbrev pub extra_words : Option ℕ → List ℕ
extra_words None = []
extra_words (Some n) = n ∷ []

-- the record of a reply with this status
abbrev pub reply_with : ℕ → Status → Octets → Reply
reply_with service status d = record {
  service = service;
  general = status.general;
  extra = extra_words status.extra;
  data_ = d;
}

-- all of such a reply but its data
abbrev pub reply_header : ℕ → Status → Octets
reply_header service status = reply_bytes (reply_with service status [])

-- the general status, and the first word of additional status
abbrev pub status_of : Reply → Status
status_of r = record { general = r.general; extra = slice_get r.extra 0 }

-- the record of a reply that says that all is done
abbrev pub done_with : ℕ → Octets → Reply
done_with service d = record { service = service; general = 0; extra = []; data_ = d }
