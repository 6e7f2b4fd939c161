-- Reading data that ends with a part counted in words is exact, whatever stands in front of that part.
use Rattle.std.proofs.Common.{◌≡◌, ℕ, ◌<◌, List, length, drop, Err, sym, ap, subst, ◌∙◌}
use Rattle.std.specs.Prelude.{MatchResult}
use Rattle.cip_base.specs.Fields.{IsBytes}
use Rattle.cip_segment.specs.Spelling.{IsReadable, IsFault}
use Rattle.cip_segment.specs.Reading.{path_at}
use Rattle.cip_segment.proofs.PathsRead.{path_at-IsFault}
use Rattle.cip_message.specs.declared.fault.DataFault.{DataFault}
use Rattle.cip_message.specs.declared.fault.DataFault.TheVariants.{Short, Long, Path}
use Rattle.cip_message.specs.Counted.{whole_length, counted_at, counted_path_at, with_part}
use Rattle.cip_message.specs.Cut.{IsCutOff, IsOverlong, IsPathFault, IsPartFault}
use Rattle.cip_message.proofs.Counteds.{counted_at-Short, counted_at-Long, counted_path_at-Short, counted_path_at-Long, counted_path_at-Path, counted_verdict}
use Rattle.cip_message.proofs.Counteds.{counted_path_verdict}
use Rattle.cip_message.proofs.Ends.{cut_off, overlong, whole-zeros, whole-take, cut_short, over_long}
use Rattle.cip_message.proofs.Readers.{IsBytes-drop}

-- `make b part` is the record that ends with this part; its layout has the size at `size`, and the part from `start` on
module _ {O : Type 0} (size start : ℕ) (before : size < start) (make : List ℕ → List ℕ → O) (Lays : List ℕ → O → Type 0)
    (lays : (b : List ℕ) → IsBytes b → length b ≡ whole_length size start b → Lays b (make b (drop start b)))
    (len_of : (b : List ℕ) (o : O) → Lays b o → length b ≡ whole_length size start b) where
  abbrev HasLayout : List ℕ → Type 0
  HasLayout b = (o : O) × Lays b o

  has_layout : (b : List ℕ) → IsBytes b → length b ≡ whole_length size start b → HasLayout b
  has_layout b fits len = (make b (drop start b), lays b fits len)

  layout_len : (b : List ℕ) → HasLayout b → length b ≡ whole_length size start b
  layout_len b (o, laid) = len_of b o laid

  short : (b : List ℕ) → IsBytes b → length b < whole_length size start b → IsCutOff HasLayout b
  short b fits lt = cut_off HasLayout (whole_length size start) has_layout (whole-zeros size start) b fits lt

  long : (b : List ℕ) → IsBytes b → whole_length size start b < length b → IsOverlong HasLayout b
  long b fits lt = overlong HasLayout (whole_length size start) has_layout (λ c le. whole-take size start c before) b fits lt

  -- ---- a part of bytes

  pub part_verdict : (b : List ℕ) → IsBytes b
      → MatchResult (with_part (make b) (counted_at size start b)) (Lays b) (IsPartFault HasLayout (λ c f. ⊥) b)
  part_verdict b fits =
      counted_verdict (λ r. MatchResult (with_part (make b) r) (Lays b) (IsPartFault HasLayout (λ c f. ⊥) b)) size start b
      (λ lt. short b fits lt) (λ lt. long b fits lt) (λ e. lays b fits e)

  pub part_faults : (b : List ℕ) (f : DataFault) → IsPartFault HasLayout (λ c f. ⊥) b f → with_part (make b) (counted_at size start b) ≡ Err f
  part_faults b Short h = ap (with_part (make b)) (counted_at-Short size start b (cut_short HasLayout size start before layout_len b h))
  part_faults b Long h = ap (with_part (make b)) (counted_at-Long size start b (over_long HasLayout size start before layout_len b h))
  part_faults b (Path f) h = absurd h

  -- ---- a path

  module _ (path_of : O → List ℕ) (made : (b p : List ℕ) → path_of (make b p) ≡ p)
      (behind : (b : List ℕ) (o : O) → Lays b o → drop start b ≡ path_of o) where
    pub path_verdict : (b : List ℕ) → IsBytes b
        → MatchResult (with_part (make b) (counted_path_at size start b)) (λ o. IsReadable (path_of o) × Lays b o)
        (IsPartFault HasLayout (IsPathFault Lays path_of) b)
    path_verdict b fits =
        counted_path_verdict
        (λ r. MatchResult (with_part (make b) r) (λ o. IsReadable (path_of o) × Lays b o)
        (IsPartFault HasLayout (IsPathFault Lays path_of) b)) size start b fits
        (λ lt. short b fits lt) (λ lt. long b fits lt)
        (λ e readable. (subst IsReadable (sym (made b (drop start b))) readable, lays b fits e))
        (λ e f fault. (make b (drop start b), lays b fits e, subst (λ (p : List ℕ). IsFault p f) (sym (made b (drop start b))) fault))

    pub path_faults : (b : List ℕ) (f : DataFault) → IsBytes b → IsPartFault HasLayout (IsPathFault Lays path_of) b f
        → with_part (make b) (counted_path_at size start b) ≡ Err f
    path_faults b Short fits h = ap (with_part (make b)) (counted_path_at-Short size start b (cut_short HasLayout size start before layout_len b h))
    path_faults b Long fits h = ap (with_part (make b)) (counted_path_at-Long size start b (over_long HasLayout size start before layout_len b h))
    path_faults b (Path f) fits (o, laid, fault) =
        let is : drop start b ≡ path_of o = behind b o laid in
        let path_fits : IsBytes (path_of o) = subst IsBytes is (IsBytes-drop start b fits) in
        ap (with_part (make b)) (counted_path_at-Path size start b f (len_of b o laid) (ap path_at is ∙ path_at-IsFault (path_of o) f path_fits fault))
