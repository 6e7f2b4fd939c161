-- What is read of the bytes of a close and of its success is what was written, whatever the path or the application reply is.
use Rattle.std.proofs.Common.{◌≡◌, ℕ, List, [], Ok, sym, ap, ◌∙◌, arith}
use Rattle.cip_message.specs.Counted.{counted_at, counted_path_at}
use Rattle.cip_message.specs.Reply.{Reply, done_with}
use Rattle.cip_message.specs.ReplyAt.{reply_at}
use Rattle.cip_message.proofs.ReadAgain.{part_read, path_part_read, part_of, reply_is}
use Rattle.cip_message.proofs.Words.{triad_again}
use Rattle.cip_close.specs.Close.{Close, close_data}
use Rattle.cip_close.specs.CloseAt.{close_at, close_fields_in, close_in}
use Rattle.cip_close.specs.Success.{CloseSuccess, close_reply_data, close_reply_bytes}
use Rattle.cip_close.specs.SuccessAt.{close_reply_at, close_success_in}

layout_fields : (c : Close) → close_fields_in (close_data c) ≡ c.fields
layout_fields c = λ i. record { timing = c.fields.timing; triad = triad_again c.fields.triad [] i }

pub close_data_read : (c d : Close) → close_at (close_data c) ≡ Ok d → d ≡ c
unfolding close_at
close_data_read c d e =
    let of = part_of (close_in (close_data c)) (counted_path_at 10 12 (close_data c)) d e in
    let path : of.part ≡ c.path = path_part_read 10 12 (close_data c) of.part of.is in
    of.makes ∙ (λ i. record { fields = layout_fields c i; path = path i })

pub close_success_read : (s t : CloseSuccess) → close_reply_at (close_reply_data s) ≡ Ok t → t ≡ s
unfolding close_reply_at
close_success_read s t e =
    let of = part_of (close_success_in (close_reply_data s)) (counted_at 8 10 (close_reply_data s)) t e in
    let reply : of.part ≡ s.reply = part_read 8 10 (close_reply_data s) of.part of.is in
    of.makes ∙ (λ i. record { triad = triad_again s.triad [] i; reply = reply i })

-- the whole reply, read as a reply and its data
pub close_success_back : (s t : CloseSuccess) (r : Reply) (bytes : List ℕ) → bytes ≡ close_reply_bytes s → reply_at bytes ≡ Ok r
    → close_reply_at r.data_ ≡ Ok t → t ≡ s
close_success_back s t r bytes is e read =
    let same = reply_is (done_with 0xCE (close_reply_data s)) r bytes (omega arith) is e in
    close_success_read s t (ap (λ (x : Reply). close_reply_at x.data_) (sym same) ∙ read)
