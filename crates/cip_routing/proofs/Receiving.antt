-- What a reply that opens was waited for by, and that it can be written once more.
use Rattle.std.proofs.Common.{◌≡◌, ℕ, Bool, true, false, cond, eqb, refl, ap, ◌∙◌, Result, Ok, Err, is_some, Some, ◌%◌, ◌≤◌, ◌<◌, List, length, subst, arith}
use Rattle.std.specs.Prelude.{slice_get, slice_index}
use Rattle.cip_base.specs.declared.triad.Triad.{Triad}
use Rattle.cip_message.specs.Reply.{Reply}
use Rattle.cip_message.specs.Failure.{failure_at}
use Rattle.cip_message.specs.declared.failure.ConnectionFailure.{ConnectionFailure}
use Rattle.cip_message.specs.declared.fault.ReplyFault.{ReplyFault}
use Rattle.cip_message.specs.declared.fault.DataFault.{DataFault}
use Rattle.cip_open.specs.Kinds.{open_reply_service}
use Rattle.cip_open.specs.Success.{OpenSuccess, ReadsOpenReply, open_reply_layout}
use Rattle.cip_open.specs.SuccessAt.{open_reply_at}
use Rattle.cip_close.specs.Success.{CloseSuccess}
use Rattle.cip_close.specs.SuccessAt.{close_reply_at}
use Rattle.cip_pending.specs.declared.entry.Kind.{Kind}
use Rattle.cip_pending.specs.declared.entry.Kind.TheVariants.{Unconnected, Opening, OpeningLarge, Closing}
use Rattle.cip_pending.specs.Kinds.{opened_triad}
use Rattle.cip_routing.specs.ReplyRows.{ReplyRow, OpenSucceeded, PassedUp, MalformedForItsKind, triad_eq, is_own, failure_row, opened_row, closed_row}
use Rattle.cip_routing.specs.ReplyRows.{opening_row, open_kind_row, closing_row, read_row}
use Rattle.cip_base.specs.Fields.{IsBytes}

either_row : {P : Type 0} (b : Bool) (x y z : ReplyRow) → cond b x y ≡ z → (x ≡ z → P) → (y ≡ z → P) → P
either_row true x y z e f g = f e
either_row false x y z e f g = g e

module _ {P : Type 0} (triad : Triad) (success : OpenSuccess) where
  not_malformed : MalformedForItsKind ≡ OpenSucceeded triad success → P
  not_malformed e = absurd (cc)

  not_passed : PassedUp ≡ OpenSucceeded triad success → P
  not_passed e = absurd (cc)

  no_failure : (asked : Triad) (r : Result ConnectionFailure DataFault) → failure_row asked r ≡ OpenSucceeded triad success → P
  no_failure asked (Err fault) e = not_malformed e
  no_failure asked (Ok failure) e = either_row (is_own asked failure.triad) PassedUp MalformedForItsKind (OpenSucceeded triad success) e not_passed
      not_malformed

  no_close : (asked : Triad) (r : Result CloseSuccess DataFault) → closed_row asked r ≡ OpenSucceeded triad success → P
  no_close asked (Err fault) e = not_malformed e
  no_close asked (Ok closed) e = either_row (triad_eq closed.triad asked) PassedUp MalformedForItsKind (OpenSucceeded triad success) e not_passed not_malformed

  no_closing : (asked : Triad) (r : Reply) → closing_row asked r ≡ OpenSucceeded triad success → P
  no_closing asked r e =
      either_row (eqb r.general 0) (cond (is_some (slice_get r.extra 0)) MalformedForItsKind (closed_row asked (close_reply_at r.data_)))
      (failure_row asked (failure_at r.data_)) (OpenSucceeded triad success) e
      (λ s. either_row (is_some (slice_get r.extra 0)) MalformedForItsKind (closed_row asked (close_reply_at r.data_)) (OpenSucceeded triad success) s
      not_malformed (no_close asked (close_reply_at r.data_)))
      (no_failure asked (failure_at r.data_))

opened_same : (triad asked : Triad) (success other : OpenSuccess) → OpenSucceeded asked other ≡ OpenSucceeded triad success → asked ≡ triad
opened_same triad asked success other e = cc

opened_asked : (triad asked : Triad) (success : OpenSuccess) (r : Result OpenSuccess DataFault) → opened_row asked r ≡ OpenSucceeded triad success
    → asked ≡ triad
opened_asked triad asked success (Err fault) e = not_malformed triad success e
opened_asked triad asked success (Ok other) e =
    either_row (triad_eq other.triad asked) (OpenSucceeded asked other) MalformedForItsKind (OpenSucceeded triad success) e
    (opened_same triad asked success other) (not_malformed triad success)

opening_asked : (triad asked : Triad) (success : OpenSuccess) (r : Reply) → opening_row asked r ≡ OpenSucceeded triad success → asked ≡ triad
opening_asked triad asked success r e =
    either_row (eqb r.general 0) (cond (is_some (slice_get r.extra 0)) MalformedForItsKind (opened_row asked (open_reply_at r.data_)))
    (failure_row asked (failure_at r.data_)) (OpenSucceeded triad success) e
    (λ s. either_row (is_some (slice_get r.extra 0)) MalformedForItsKind (opened_row asked (open_reply_at r.data_)) (OpenSucceeded triad success) s
    (not_malformed triad success) (opened_asked triad asked success (open_reply_at r.data_)))
    (no_failure triad success asked (failure_at r.data_))

of_open_asked : (large : Bool) (triad asked : Triad) (success : OpenSuccess) (r : Reply) → open_kind_row large asked r ≡ OpenSucceeded triad success
    → asked ≡ triad
of_open_asked large triad asked success r e =
    either_row (eqb r.service (open_reply_service large)) (opening_row asked r) MalformedForItsKind (OpenSucceeded triad success) e
    (opening_asked triad asked success r) (not_malformed triad success)

-- a success is of the triad that its request opens
pub opens_only : (kind : Kind) (r : Result Reply ReplyFault) (triad : Triad) (success : OpenSuccess) → read_row kind r ≡ OpenSucceeded triad success
    → opened_triad kind ≡ Some triad
opens_only kind (Err fault) triad success e = not_malformed triad success e
opens_only Unconnected (Ok r) triad success e = not_passed triad success e
opens_only (Opening asked) (Ok r) triad success e = ap (λ (t : Triad). Some t) (of_open_asked false triad asked success r e)
opens_only (OpeningLarge asked) (Ok r) triad success e = ap (λ (t : Triad). Some t) (of_open_asked true triad asked success r e)
opens_only (Closing asked) (Ok r) triad success e =
    either_row (eqb r.service 0xCE) (closing_row asked r) MalformedForItsKind (OpenSucceeded triad success) e (no_closing triad success asked r)
    (not_malformed triad success)

-- ---- written once more

words_stand : (words x : ℕ) (s : OpenSuccess) → slice_index (open_reply_layout words x s) 24 ≡ words
words_stand words x s = refl

pub small_reply : (b : List ℕ) (s : OpenSuccess) → IsBytes b → ReadsOpenReply b s → (length s.reply % 2 ≡ 0) × (length s.reply ≤ 510)
small_reply b s bytes (words, x, long, is) =
    let byte : words < 256 = subst (λ n. n < 256) (ap (λ (l : List ℕ). slice_index l 24) is ∙ words_stand words x s) (bytes 24) in
    (omega (arith, long), omega (arith, long, byte))
