-- Reading the data of a successful Forward_Close's reply gives exactly the record that has its layout.
use Rattle.std.proofs.Common.{◌≡◌, ℕ, ◌*◌, ◌/◌, ◌%◌, List, [], ◌∷◌, ◌++◌, length, drop, get_or, Result, Ok, Err, sym, ap, subst, ◌∙◌, arith}
use Rattle.std.specs.Prelude.{MatchResult}
use Rattle.std.proofs.lemmas.List.{length-drop}
use Rattle.cip_base.specs.Fields.{IsBytes}
use Rattle.cip_base.specs.declared.triad.Triad.{Triad}
use Rattle.cip_message.specs.declared.fault.DataFault.{DataFault}
use Rattle.cip_message.specs.Numbers.{triad_in}
use Rattle.cip_message.specs.Counted.{whole_length, with_part}
use Rattle.cip_message.proofs.Words.{triad_again, triad_back}
use Rattle.cip_message.proofs.Counteds.{counted_at-whole}
use Rattle.cip_message.proofs.Parts.{part_verdict, part_faults}
use Rattle.cip_message.proofs.Fronts.{fronts}
use Rattle.cip_close.specs.Success.{CloseSuccess, close_reply_layout, ReadsCloseReply, IsCloseReplyFault, close_reply_data}
use Rattle.cip_close.specs.SuccessAt.{close_success_in, close_reply_at}

-- ---- what has the layout is read

abbrev succeeded : Triad → List ℕ → Result CloseSuccess DataFault
succeeded triad reply = Ok (record { triad = triad; reply = reply })

layout_read : (n x : ℕ) (s : CloseSuccess) → length s.reply ≡ 2 * n → close_reply_at (close_reply_layout n x s) ≡ Ok s
unfolding close_reply_at
layout_read n x s len =
    ap (with_part (close_success_in (close_reply_layout n x s))) (counted_at-whole 8 10 (close_reply_layout n x s) (omega (arith, len)))
    ∙ ap (λ (t : Triad). succeeded t s.reply) (triad_again s.triad [])

pub close_reply_read : (b : List ℕ) (s : CloseSuccess) → ReadsCloseReply b s → close_reply_at b ≡ Ok s
close_reply_read b s (n, x, len, e) = subst (λ (c : List ℕ). close_reply_at c ≡ Ok s) (sym e) (layout_read n x s len)

-- ---- what is read has the layout, and each fault is the one that fits

reads : (b : List ℕ) → IsBytes b → length b ≡ whole_length 8 10 b → ReadsCloseReply b (record { triad = triad_in b 0; reply = drop 10 b })
reads b fits len =
    let at : ℕ → ℕ = λ i. get_or b i 0 in (
      at 8,
      at 9,
      omega (arith, len, length-drop 10 b),
      fronts 10 b (omega (arith, len))
          ∙ ap (λ (z : List ℕ). z ++ (at 8 ∷ at 9 ∷ drop 10 b))
          (sym (triad_back (at 0) (at 1) (at 2) (at 3) (at 4) (at 5) (at 6) (at 7) (fits 0) (fits 1) (fits 2) (fits 3) (fits 4) (fits 5) (fits 6)
          (fits 7))),
    )

layout_len : (b : List ℕ) (s : CloseSuccess) → ReadsCloseReply b s → length b ≡ whole_length 8 10 b
layout_len b s (n, x, len, e) = subst (λ (c : List ℕ). length c ≡ whole_length 8 10 c) (sym e) (omega (arith, len))

pub close_reply_verdict : (b : List ℕ) → IsBytes b → MatchResult (close_reply_at b) (ReadsCloseReply b) (IsCloseReplyFault b)
unfolding close_reply_at
close_reply_verdict b fits = part_verdict 8 10 (omega arith) close_success_in ReadsCloseReply reads layout_len b fits

pub close_reply_faults : (b : List ℕ) (f : DataFault) → IsCloseReplyFault b f → close_reply_at b ≡ Err f
unfolding close_reply_at
close_reply_faults b f h = part_faults 8 10 (omega arith) close_success_in ReadsCloseReply reads layout_len b f h

-- ---- what is written is read back

pub close_reply_back : (s : CloseSuccess) → length s.reply % 2 ≡ 0 → close_reply_at (close_reply_data s) ≡ Ok s
close_reply_back s even = layout_read (length s.reply / 2) 0 s (omega arith)
