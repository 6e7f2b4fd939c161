-- The success of an open as it came.
use Rattle.std.proofs.Common.{◌≡◌, ℕ, Bool, ◌+◌, ◌/◌, ◌≤◌, List, length, drop, subst, ap, ◌∙◌, arith}
use Rattle.std.specs.Prelude.{MatchResult, Result}
use Rattle.cip_base.specs.Fields.{IsBytes}
use Rattle.cip_message.specs.declared.fault.ReplyFault.{ReplyFault}
use Rattle.cip_message.specs.declared.fault.DataFault.{DataFault}
use Rattle.cip_message.specs.Reply.{Reply, reply_layout, done_with, ReadsReply, IsReplyFault}
use Rattle.cip_message.proofs.Replies.{reply_verdict}
use Rattle.cip_message.proofs.Readers.{IsBytes-drop}
use Rattle.cip_open.specs.Kinds.{open_reply_service}
use Rattle.cip_open.specs.Success.{OpenSuccess, open_reply_layout, ReadsOpenReply, IsOpenReplyFault}
use Rattle.cip_open.specs.GoesOn.{IsOpenSuccess}
use Rattle.cip_open.proofs.Successes.{open_reply_verdict}

pub record CameSuccess (large : Bool) (b : List ℕ) (s : OpenSuccess) : Type 0 where
  pub x : ℕ
  pub y : ℕ
  pub words : ℕ
  pub words_is : words ≡ length s.reply / 2
  pub is : b ≡ reply_layout x (done_with (open_reply_service large) (open_reply_layout words y s))
  pub long : 30 ≤ length b

pub came_success : (large : Bool) (b : List ℕ) (s : OpenSuccess) → IsBytes b → IsOpenSuccess large b s → CameSuccess large b s
came_success large b s fits g =
    let r : Reply = done_with (open_reply_service large) g.data_ in
    let (high, (x, e)) = subst (λ (q : Result Reply ReplyFault). MatchResult q (ReadsReply b) (IsReplyFault b)) g.reply (reply_verdict b fits) in
    let fits_d : IsBytes g.data_ = subst IsBytes (ap (λ (t : List ℕ). drop 4 t) e) (IsBytes-drop 4 b fits) in
    let (n, y, len, f) = subst (λ (q : Result OpenSuccess DataFault). MatchResult q (ReadsOpenReply g.data_) (IsOpenReplyFault g.data_)) g.is
    (open_reply_verdict g.data_ fits_d) in
    let is : b ≡ reply_layout x (done_with (open_reply_service large) (open_reply_layout n y s)) =
    e ∙ ap (λ (t : List ℕ). reply_layout x (done_with (open_reply_service large) t)) f in
    let long : length b ≡ 30 + length s.reply = ap (λ (t : List ℕ). length t) is ∙ omega arith in record {
      x = x;
      y = y;
      words = n;
      words_is = omega (arith, len);
      is = is;
      long = omega (arith, long);
    }
