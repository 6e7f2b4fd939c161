-- Reading the data of a successful Forward_Open's reply gives exactly the record that has its layout.
use Rattle.std.proofs.Common.{◌≡◌, ℕ, ◌*◌, ◌/◌, ◌%◌, List, [], ◌∷◌, ◌++◌, length, drop, get_or, Result, Ok, Err, refl, sym, ap, subst, ◌∙◌, arith}
use Rattle.std.specs.Prelude.{MatchResult}
use Rattle.std.proofs.lemmas.List.{length-drop}
use Rattle.cip_base.specs.Fields.{IsBytes}
use Rattle.cip_base.specs.declared.triad.Triad.{Triad}
use Rattle.cip_message.specs.declared.fault.DataFault.{DataFault}
use Rattle.cip_message.specs.Counted.{whole_length, with_part}
use Rattle.cip_message.proofs.Words.{double_again, triad_again, double_back, triad_back}
use Rattle.cip_message.proofs.Counteds.{counted_at-whole}
use Rattle.cip_message.proofs.Parts.{part_verdict, part_faults}
use Rattle.cip_message.proofs.Fronts.{fronts}
use Rattle.cip_open.specs.Success.{OpenSuccess, open_reply_layout, ReadsOpenReply, IsOpenReplyFault, open_reply_data}
use Rattle.cip_open.specs.SuccessAt.{open_success_in, open_reply_at}

-- ---- what has the layout is read

abbrev made : ℕ → ℕ → Triad → ℕ → ℕ → List ℕ → OpenSuccess
made ot_id to_id triad ot_api to_api reply = record { ot_id = ot_id; to_id = to_id; triad = triad; ot_api = ot_api; to_api = to_api; reply = reply }

same_fields : (a a' b b' : ℕ) (x x' : Triad) (c c' d d' : ℕ) (reply : List ℕ) → a ≡ a' → b ≡ b' → x ≡ x' → c ≡ c' → d ≡ d'
    → made a b x c d reply ≡ made a' b' x' c' d' reply
same_fields a a' b b' x x' c c' d d' reply ea eb ex ec ed = rw (ea, eb, ex, ec, ed) refl

layout_fields : (n x : ℕ) (s : OpenSuccess) → open_success_in (open_reply_layout n x s) s.reply ≡ s
layout_fields n x s =
    same_fields _ _ _ _ _ _ _ _ _ _ _ (double_again s.ot_id) (double_again s.to_id) (triad_again s.triad []) (double_again s.ot_api) (double_again s.to_api)

abbrev succeeded : OpenSuccess → Result OpenSuccess DataFault
succeeded s = Ok s

layout_read : (n x : ℕ) (s : OpenSuccess) → length s.reply ≡ 2 * n → open_reply_at (open_reply_layout n x s) ≡ Ok s
unfolding open_reply_at
layout_read n x s len =
    ap (with_part (open_success_in (open_reply_layout n x s))) (counted_at-whole 24 26 (open_reply_layout n x s) (omega (arith, len)))
    ∙ ap succeeded (layout_fields n x s)

pub open_reply_read : (b : List ℕ) (s : OpenSuccess) → ReadsOpenReply b s → open_reply_at b ≡ Ok s
open_reply_read b s (n, x, len, e) = subst (λ (c : List ℕ). open_reply_at c ≡ Ok s) (sym e) (layout_read n x s len)

-- ---- what is read has the layout, and each fault is the one that fits

abbrev parts : List ℕ → List ℕ → List ℕ → List ℕ → List ℕ → ℕ → ℕ → List ℕ → List ℕ
parts ot_id to_id triad ot_api to_api n x reply = ot_id ++ (to_id ++ (triad ++ (ot_api ++ (to_api ++ (n ∷ x ∷ reply)))))

same_parts : (a a' b b' c c' d d' e e' : List ℕ) (n x : ℕ) (reply : List ℕ) → a ≡ a' → b ≡ b' → c ≡ c' → d ≡ d' → e ≡ e'
    → parts a b c d e n x reply ≡ parts a' b' c' d' e' n x reply
same_parts a a' b b' c c' d d' e e' n x reply ea eb ec ed ee = rw (ea, eb, ec, ed, ee) refl

reads : (b : List ℕ) → IsBytes b → length b ≡ whole_length 24 26 b → ReadsOpenReply b (open_success_in b (drop 26 b))
reads b fits len =
    let at : ℕ → ℕ = λ i. get_or b i 0 in (
      at 24,
      at 25,
      omega (arith, len, length-drop 26 b),
      fronts 26 b (omega (arith, len))
          ∙ sym (same_parts _ (at 0 ∷ at 1 ∷ at 2 ∷ at 3 ∷ []) _ (at 4 ∷ at 5 ∷ at 6 ∷ at 7 ∷ [])
          _ (at 8 ∷ at 9 ∷ at 10 ∷ at 11 ∷ at 12 ∷ at 13 ∷ at 14 ∷ at 15 ∷ []) _ (at 16 ∷ at 17 ∷ at 18 ∷ at 19 ∷ []) _
          (at 20 ∷ at 21 ∷ at 22 ∷ at 23 ∷ []) (at 24) (at 25) (drop 26 b)
          (double_back (at 0) (at 1) (at 2) (at 3) (fits 0) (fits 1) (fits 2) (fits 3))
          (double_back (at 4) (at 5) (at 6) (at 7) (fits 4) (fits 5) (fits 6) (fits 7))
          (triad_back (at 8) (at 9) (at 10) (at 11) (at 12) (at 13) (at 14) (at 15) (fits 8) (fits 9) (fits 10) (fits 11) (fits 12) (fits 13) (fits 14)
          (fits 15))
          (double_back (at 16) (at 17) (at 18) (at 19) (fits 16) (fits 17) (fits 18) (fits 19))
          (double_back (at 20) (at 21) (at 22) (at 23) (fits 20) (fits 21) (fits 22) (fits 23))),
    )

layout_len : (b : List ℕ) (s : OpenSuccess) → ReadsOpenReply b s → length b ≡ whole_length 24 26 b
layout_len b s (n, x, len, e) = subst (λ (c : List ℕ). length c ≡ whole_length 24 26 c) (sym e) (omega (arith, len))

pub open_reply_verdict : (b : List ℕ) → IsBytes b → MatchResult (open_reply_at b) (ReadsOpenReply b) (IsOpenReplyFault b)
unfolding open_reply_at
open_reply_verdict b fits = part_verdict 24 26 (omega arith) open_success_in ReadsOpenReply reads layout_len b fits

pub open_reply_faults : (b : List ℕ) (f : DataFault) → IsOpenReplyFault b f → open_reply_at b ≡ Err f
unfolding open_reply_at
open_reply_faults b f h = part_faults 24 26 (omega arith) open_success_in ReadsOpenReply reads layout_len b f h

-- ---- what is written is read back

pub open_reply_back : (s : OpenSuccess) → length s.reply % 2 ≡ 0 → open_reply_at (open_reply_data s) ≡ Ok s
open_reply_back s even = layout_read (length s.reply / 2) 0 s (omega arith)
