-- What is read of the bytes of an open, of its success and of its failure is what was written, whatever the path or the application reply is.
use Rattle.std.proofs.Common.{◌≡◌, ◌/◌, ℕ, Bool, List, [], length, Ok, refl, sym, ap, ◌∙◌}
use Rattle.cip_base.specs.declared.timing.Status.{Status}
use Rattle.cip_message.specs.Counted.{counted_at, counted_path_at}
use Rattle.cip_message.specs.Failure.{failure_data}
use Rattle.cip_message.specs.Reply.{Reply, reply_with, done_with}
use Rattle.cip_message.specs.ReplyAt.{reply_at}
use Rattle.cip_message.specs.declared.failure.ConnectionFailure.{ConnectionFailure}
use Rattle.cip_message.proofs.ReadAgain.{part_read, path_part_read, part_of, reply_is}
use Rattle.cip_message.proofs.Words.{double_again, triad_again}
use Rattle.cip_open.specs.Failed.{open_failure_bytes}
use Rattle.cip_open.specs.Kinds.{open_reply_service, words_place, open_fixed_part}
use Rattle.cip_open.specs.Open.{Open, open_data}
use Rattle.cip_open.specs.OpenAt.{open_at, open_fields_in, open_in}
use Rattle.cip_open.specs.Success.{OpenSuccess, open_reply_data, open_reply_bytes}
use Rattle.cip_open.specs.SuccessAt.{open_reply_at, open_success_in}
use Rattle.cip_open.proofs.Services.{reply_service_high}
use Rattle.cip_open.proofs.Opens.{layout_fields, layout_path}

-- whatever its path: what is read of it is it
pub open_data_read : (o p : Open) → open_at o.fields.large (open_data o) ≡ Ok p → p ≡ o
unfolding open_at
open_data_read o p e =
    let large = o.fields.large in
    let of = part_of (open_in large (open_data o)) (counted_path_at (words_place large) (open_fixed_part large) (open_data o)) p e in
    let path : of.part ≡ o.path =
    path_part_read (words_place large) (open_fixed_part large) (open_data o) of.part of.is ∙ layout_path large 0 0 0 (length o.path / 2) o in
    let fields : open_fields_in large (open_data o) ≡ o.fields = layout_fields large 0 0 0 (length o.path / 2) o refl in
    of.makes ∙ (λ i. record { fields = fields i; path = path i })

-- what is read as of one service is of that service
pub large_read : (large : Bool) (b : List ℕ) (o : Open) → open_at large b ≡ Ok o → o.fields.large ≡ large
unfolding open_at
large_read large b o e =
    ap (λ (x : Open). x.fields.large) (part_of (open_in large b) (counted_path_at (words_place large) (open_fixed_part large) b) o e).makes

pub open_success_read : (s t : OpenSuccess) → open_reply_at (open_reply_data s) ≡ Ok t → t ≡ s
unfolding open_reply_at
open_success_read s t e =
    let of = part_of (open_success_in (open_reply_data s)) (counted_at 24 26 (open_reply_data s)) t e in
    let reply : of.part ≡ s.reply = part_read 24 26 (open_reply_data s) of.part of.is in
    of.makes ∙ (λ i. record {
      ot_id = double_again s.ot_id i;
      to_id = double_again s.to_id i;
      triad = triad_again s.triad [] i;
      ot_api = double_again s.ot_api i;
      to_api = double_again s.to_api i;
      reply = reply i;
    })

-- the whole reply, read as a reply and its data
pub open_success_back : (large : Bool) (s t : OpenSuccess) (r : Reply) (bytes : List ℕ) → bytes ≡ open_reply_bytes large s → reply_at bytes ≡ Ok r
    → open_reply_at r.data_ ≡ Ok t → t ≡ s
open_success_back large s t r bytes is e read =
    let same = reply_is (done_with (open_reply_service large) (open_reply_data s)) r bytes (reply_service_high large) is e in
    open_success_read s t (ap (λ (x : Reply). open_reply_at x.data_) (sym same) ∙ read)

-- its O→T id
pub success_back : (large : Bool) (s t : OpenSuccess) (r : Reply) (bytes : List ℕ) → bytes ≡ open_reply_bytes large s → reply_at bytes ≡ Ok r
    → open_reply_at r.data_ ≡ Ok t → t.ot_id ≡ s.ot_id
success_back large s t r bytes is e read = ap (λ (x : OpenSuccess). x.ot_id) (open_success_back large s t r bytes is e read)

-- what is read of a failure has its status
pub failure_back : (large : Bool) (status : Status) (f : ConnectionFailure) (r : Reply) (bytes : List ℕ) → bytes ≡ open_failure_bytes large status f
    → reply_at bytes ≡ Ok r → r.general ≡ status.general
failure_back large status f r bytes is e =
    ap (λ (x : Reply). x.general) (reply_is (reply_with (open_reply_service large) status (failure_data f)) r bytes (reply_service_high large) is e)
