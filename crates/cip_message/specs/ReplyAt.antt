-- What reading bytes as a reply gives. Definitions above, which go by cases on what was read, use
-- this function; the relation of `Reply` says what it has to be, and the laws of this crate tie the
-- two together.
use Rattle.std.specs.Prelude.{◌≡◌, ℕ, ◌*◌, nat_lt, if◌then◌else◌, [], ◌∷◌, length, take, drop, Result, Ok, Err}
use Rattle.cip_base.specs.Words.{Octets}
use Rattle.cip_message.specs.declared.fault.ReplyFault.{ReplyFault}
use Rattle.cip_message.specs.declared.fault.ReplyFault.TheVariants.{TooShort, NotReply, ExtraSize}
use Rattle.cip_message.specs.Numbers.{words_in}
use Rattle.cip_message.specs.Reply.{Reply, done_with}

-- of a service, a general status, a size in words, and the bytes after it
abbrev pub reply_from : ℕ → ℕ → ℕ → Octets → Result Reply ReplyFault
reply_from s g n rest =
    if nat_lt s 128 then Err NotReply
    else if nat_lt (length rest) (2 * n) then Err ExtraSize
    else Ok (record {
      service = s;
      general = g;
      extra = words_in (take (2 * n) rest);
      data_ = drop (2 * n) rest;
    })

-- the reply, or the first fault that fits
unfoldable pub reply_at : Octets → Result Reply ReplyFault
reply_at [] = Err TooShort
reply_at (s ∷ []) = Err TooShort
reply_at (s ∷ x ∷ []) = Err TooShort
reply_at (s ∷ x ∷ g ∷ []) = Err TooShort
reply_at (s ∷ x ∷ g ∷ n ∷ rest) = reply_from s g n rest

-- the bytes are read as a reply that says that all is done, with this data
abbrev pub IsDone : ℕ → Octets → Octets → Type 0
IsDone service d b = reply_at b ≡ Ok (done_with service d)
