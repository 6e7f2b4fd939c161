-- The part that is counted in words at the end of data.
use Rattle.std.proofs.Common.{◌≡◌, ℕ, ◌<◌, ◌≤◌, cond, ltb, List, length, drop, Result, Ok, Err, refl, ap, ◌∙◌, arith}
use Rattle.std.proofs.lemmas.Bool.{cond_both, ltb-true, ltb-false, le-ltb, lt-ltb}
use Rattle.cip_segment.specs.declared.segment.Segment.{Segment}
use Rattle.cip_segment.specs.declared.fault.PathFault.{PathFault}
use Rattle.cip_segment.specs.Spelling.{IsReadable, IsFault}
use Rattle.cip_segment.specs.Reading.{path_at}
use Rattle.cip_segment.proofs.PathsRead.{path_at-readable, path_at-Ok-readable, path_at-Err}
use Rattle.cip_base.specs.Fields.{IsBytes}
use Rattle.cip_message.specs.declared.fault.DataFault.{DataFault}
use Rattle.cip_message.specs.declared.fault.DataFault.TheVariants.{Short, Long, Path}
use Rattle.cip_message.specs.Counted.{whole_length, counted_at, if_path, then_path, counted_path_at}
use Rattle.cip_message.proofs.Readers.{IsBytes-drop}

abbrev pub counted : List ℕ → Result (List ℕ) DataFault
counted p = Ok p

abbrev pub refused : DataFault → Result (List ℕ) DataFault
refused f = Err f

pub counted_at-Short : (size start : ℕ) (b : List ℕ) → length b < whole_length size start b → counted_at size start b ≡ refused Short
unfolding counted_at
counted_at-Short size start b lt = rw (lt-ltb _ _ lt) refl

pub counted_at-whole : (size start : ℕ) (b : List ℕ) → length b ≡ whole_length size start b → counted_at size start b ≡ counted (drop start b)
unfolding counted_at
counted_at-whole size start b e =
    rw (le-ltb (length b) (whole_length size start b) (omega arith), le-ltb (whole_length size start b) (length b) (omega arith)) refl

pub counted_path_at-Short : (size start : ℕ) (b : List ℕ) → length b < whole_length size start b → counted_path_at size start b ≡ refused Short
unfolding counted_path_at
counted_path_at-Short size start b lt = ap then_path (counted_at-Short size start b lt)

pub counted_path_at-whole : (size start : ℕ) (b : List ℕ) → length b ≡ whole_length size start b → IsReadable (drop start b)
    → counted_path_at size start b ≡ counted (drop start b)
unfolding counted_path_at
counted_path_at-whole size start b e readable = ap then_path (counted_at-whole size start b e)
    ∙ ap (λ r. if_path r (drop start b)) (path_at-readable (drop start b) readable)

pub counted_at-Long : (size start : ℕ) (b : List ℕ) → whole_length size start b < length b → counted_at size start b ≡ refused Long
unfolding counted_at
counted_at-Long size start b lt = rw (le-ltb (length b) (whole_length size start b) (omega arith), lt-ltb (whole_length size start b) (length b) lt) refl

pub counted_path_at-Long : (size start : ℕ) (b : List ℕ) → whole_length size start b < length b → counted_path_at size start b ≡ refused Long
unfolding counted_path_at
counted_path_at-Long size start b lt = ap then_path (counted_at-Long size start b lt)

pub counted_path_at-Path : (size start : ℕ) (b : List ℕ) (f : PathFault) → length b ≡ whole_length size start b → path_at (drop start b) ≡ Err f
    → counted_path_at size start b ≡ refused (Path f)
unfolding counted_path_at
counted_path_at-Path size start b f e fault = ap then_path (counted_at-whole size start b e) ∙ ap (λ r. if_path r (drop start b)) fault

-- what the length of the data says of the answer
pub counted_verdict : (P : Result (List ℕ) DataFault → Type 0) (size start : ℕ) (b : List ℕ)
    → (length b < whole_length size start b → P (refused Short)) → (whole_length size start b < length b → P (refused Long))
    → (length b ≡ whole_length size start b → P (counted (drop start b)))
    → P (counted_at size start b)
unfolding counted_at
counted_verdict P size start b short long whole =
    cond_both (ltb (length b) (whole_length size start b)) (Err Short) (cond (ltb (whole_length size start b) (length b)) (Err Long) (Ok (drop start b))) P
    (λ e. short (ltb-true _ _ e))
    (λ d. cond_both (ltb (whole_length size start b) (length b)) (Err Long) (Ok (drop start b)) P
    (λ e. long (ltb-true _ _ e))
    (λ e. let le : length b ≤ whole_length size start b = ltb-false _ _ e in let ge : whole_length size start b ≤ length b = ltb-false _ _ d in
    whole (omega arith)))

path_verdict : (P : Result (List ℕ) DataFault → Type 0) (p : List ℕ) (read : Result (List Segment) PathFault) → IsBytes p → path_at p ≡ read
    → (IsReadable p → P (counted p)) → ((f : PathFault) → IsFault p f → P (refused (Path f))) → P (if_path read p)
path_verdict P p (Ok s) fits e readable fault = readable (path_at-Ok-readable p s fits e)
path_verdict P p (Err f) fits e readable fault = fault f (path_at-Err p f fits e)

pub counted_path_verdict : (P : Result (List ℕ) DataFault → Type 0) (size start : ℕ) (b : List ℕ) → IsBytes b
    → (length b < whole_length size start b → P (refused Short)) → (whole_length size start b < length b → P (refused Long))
    → (length b ≡ whole_length size start b → IsReadable (drop start b) → P (counted (drop start b)))
    → (length b ≡ whole_length size start b → (f : PathFault) → IsFault (drop start b) f → P (refused (Path f)))
    → P (counted_path_at size start b)
unfolding counted_path_at
counted_path_verdict P size start b fits short long whole fault =
    counted_verdict (λ r. P (then_path r)) size start b short long
    (λ e. path_verdict P (drop start b) (path_at (drop start b)) (IsBytes-drop start b fits) refl (whole e) (fault e))
