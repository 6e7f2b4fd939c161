-- What is read of bytes that were written is what was written, whatever it holds: of a part at the end of data, and of a whole reply.
use Rattle.std.proofs.Common.{◌≡◌, ◌≤◌, ℕ, Bool, true, false, cond, List, length, drop, ltb, Result, Ok, Err, sym, ap, ◌∙◌, refl}
use Rattle.cip_segment.specs.declared.segment.Segment.{Segment}
use Rattle.cip_segment.specs.declared.fault.PathFault.{PathFault}
use Rattle.cip_segment.specs.Reading.{path_at}
use Rattle.cip_message.specs.Counted.{whole_length, counted_at, with_part, if_path, then_path, counted_path_at}
use Rattle.cip_message.specs.Reply.{Reply, reply_bytes}
use Rattle.cip_message.specs.ReplyAt.{reply_at}
use Rattle.cip_message.specs.declared.fault.DataFault.{DataFault}
use Rattle.cip_message.specs.declared.fault.DataFault.TheVariants.{Short, Long}
use Rattle.cip_message.specs.declared.fault.ReplyFault.{ReplyFault}
use Rattle.cip_message.proofs.Replies.{reply_back}

-- ---- the part at the end

abbrev gives_bytes : Result (List ℕ) DataFault → Result (List ℕ) DataFault
gives_bytes r = r

counted_part : (a b : Bool) (p q : List ℕ) → gives_bytes (cond a (Err Short) (cond b (Err Long) (Ok p))) ≡ Ok q → q ≡ p
counted_part true b p q e = absurd (cc)
counted_part false true p q e = absurd (cc)
counted_part false false p q e = cc

checked_path : (r : Result (List Segment) PathFault) (p q : List ℕ) → gives_bytes (if_path r p) ≡ Ok q → q ≡ p
checked_path (Ok segments) p q e = cc
checked_path (Err fault) p q e = absurd (cc)

counted_path : (a b : Bool) (p q : List ℕ) → gives_bytes (then_path (cond a (Err Short) (cond b (Err Long) (Ok p)))) ≡ Ok q → q ≡ p
counted_path true b p q e = absurd (cc)
counted_path false true p q e = absurd (cc)
counted_path false false p q e = checked_path (path_at p) p q e

pub part_read : (size start : ℕ) (b q : List ℕ) → counted_at size start b ≡ Ok q → q ≡ drop start b
unfolding counted_at
part_read size start b q e = counted_part (ltb (length b) (whole_length size start b)) (ltb (whole_length size start b) (length b)) (drop start b) q e

pub path_part_read : (size start : ℕ) (b q : List ℕ) → counted_path_at size start b ≡ Ok q → q ≡ drop start b
unfolding counted_path_at counted_at
path_part_read size start b q e = counted_path (ltb (length b) (whole_length size start b)) (ltb (whole_length size start b) (length b)) (drop start b) q e

-- what is read with a part is made of it
pub record PartOf (A : Type 0) (r : Result (List ℕ) DataFault) (make : List ℕ → A) (x : A) : Type 0 where
  pub part : List ℕ
  pub is : r ≡ Ok part
  pub makes : x ≡ make part

pub part_of : {A : Type 0} (make : List ℕ → A) (r : Result (List ℕ) DataFault) (x : A) → with_part make r ≡ Ok x → PartOf A r make x
part_of make (Ok part) x e = record { part = part; is = refl; makes = cc }
part_of make (Err fault) x e = absurd (cc)

-- ---- a reply

abbrev gives_reply : Reply → Result Reply ReplyFault
gives_reply r = Ok r

pub ok_reply : (x y : Reply) → gives_reply x ≡ gives_reply y → x ≡ y
ok_reply x y e = cc

pub reply_is : (r s : Reply) (bytes : List ℕ) → 128 ≤ r.service → bytes ≡ reply_bytes r → reply_at bytes ≡ Ok s → s ≡ r
reply_is r s bytes big is e = ok_reply s r (sym e ∙ ap reply_at is ∙ reply_back r big)
