-- Reading a text gives the list that it spells, or its fault.
use Rattle.std.proofs.Common.{◌≡◌, ℕ, zero, suc, ◌<◌, ◌≤◌, ◌↔◌, true, false, ltb, ◌⊎◌, inl, inr, List, [], ◌∷◌}
use Rattle.std.proofs.Common.{◌++◌, length, Result, Ok, Err, refl, sym, ap, subst, ◌∙◌, append_assoc, arith}
use Rattle.std.proofs.lemmas.Bool.{ltb-true, ltb-false, lt-ltb, le-ltb, cond_both}
use Rattle.std.proofs.lemmas.List.{length-append}
use Rattle.std.proofs.Math.Logic.{∥∥₁_elim}
use Rattle.cip_base.specs.Fields.{IsBytes}
use Rattle.cip_segment.specs.declared.segment.Segment.{Segment}
use Rattle.cip_segment.specs.declared.fault.PathFault.{PathFault}
use Rattle.cip_segment.specs.declared.fault.PathFault.TheVariants.{Truncated, TooLong}
use Rattle.cip_segment.specs.Spelling.{Spells, IsReadable, IsFault, Splits}
use Rattle.cip_segment.specs.Scan.{◌>>=◌, At, segment_at}
use Rattle.cip_segment.specs.Reading.{segments_within, path_at, or_none, segments_of, rest_or_none, behind, IsSplit}
use Rattle.cip_segment.proofs.Forms.{found, form_scans}
use Rattle.cip_segment.proofs.Verdict.{Verdict, verdict}
use Rattle.cip_segment.proofs.Paths.{nothing_read, form_shorter, IsReadTo, IsBytes-suffix, Splits-readable, at_start, one_more, falls, at_fault, unreadable}
use Rattle.cip_segment.proofs.Whole.{one_fault}

abbrev pub Read : Type 0
Read = Result (List Segment) PathFault

abbrev pub got : List Segment → Read
got s = Ok s

abbrev pub failed : PathFault → Read
failed f = Err f

abbrev fails : PathFault → At Segment
fails f = Err f

-- with a first segment
abbrev with_first : Segment → Read → Read
with_first g r = r >>= λ others. Ok (g ∷ others)

within-first : (n : ℕ) (b : List ℕ) (g : Segment) (y : List ℕ) → segment_at b ≡ found g y → segments_within (suc n) b ≡ with_first g (segments_within n y)
unfolding segments_within
within-first n [] g y e = let none : fails Truncated ≡ found g y = sym nothing_read ∙ e in absurd cc
within-first n (v ∷ b) g y e = ap (λ (r : At Segment). r >>= λ first. (segments_within n first.1 >>= λ others. Ok (first.0 ∷ others))) e

within-fault : (n : ℕ) (b : List ℕ) (f : PathFault) → (b ≡ [] → ⊥) → segment_at b ≡ Err f → segments_within (suc n) b ≡ failed f
unfolding segments_within
within-fault n [] f some e = absurd (some refl)
within-fault n (v ∷ b) f some e = ap (λ (r : At Segment). r >>= λ first. (segments_within n first.1 >>= λ others. Ok (first.0 ∷ others))) e

within-nil : (n : ℕ) → segments_within n [] ≡ got []
unfolding segments_within
within-nil zero = refl
within-nil (suc n) = refl

split_shorter : (b y : List ℕ) (g : Segment) (n : ℕ) → Splits b g y → length b ≤ suc n → length y ≤ n
split_shorter b y g n (x, e, f) le =
    let len : length b ≡ length (x ++ y) = ap (λ (z : List ℕ). length z) e in
    omega (arith, form_shorter g x y f)

split_some : (b y : List ℕ) (g : Segment) → Splits b g y → length b ≤ 0 → ⊥
split_some b y g (x, e, f) le =
    let len : length b ≡ length (x ++ y) = ap (λ (z : List ℕ). length z) e in
    omega (arith, form_shorter g x y f)

pub split_read : (b y : List ℕ) (g : Segment) → Splits b g y → segment_at b ≡ found g y
split_read b y g (x, e, f) = ap segment_at e ∙ form_scans g x y f

-- what is spelled is read
spelled_within : (s : List Segment) (b : List ℕ) (n : ℕ) → length b ≤ n → Spells b s → segments_within n b ≡ got s
spelled_within [] b n le e = ap (segments_within n) e ∙ within-nil n
spelled_within (g ∷ s) b zero le (x, y, e, f, h) = absurd (split_some b y g (x, e, f) le)
spelled_within (g ∷ s) b (suc n) le (x, y, e, f, h) =
    within-first n b g y (split_read b y g (x, e, f)) ∙ ap (with_first g) (spelled_within s y n (split_shorter b y g n (x, e, f) le) h)

path_at-within : (b : List ℕ) → length b ≤ 510 → path_at b ≡ segments_within (length b) b
unfolding path_at
path_at-within b le = let fits : ltb 510 (length b) ≡ false = le-ltb _ _ le in rw fits refl

path_at-long : (b : List ℕ) → 510 < length b → path_at b ≡ failed TooLong
unfolding path_at
path_at-long b lt = let long : ltb 510 (length b) ≡ true = lt-ltb _ _ lt in rw long refl

pub path_at-Spells : (b : List ℕ) (s : List Segment) → length b ≤ 510 → Spells b s → path_at b ≡ got s
path_at-Spells b s le h = path_at-within b le ∙ spelled_within s b (length b) (omega arith) h

-- a path is read
pub path_at-readable : (b : List ℕ) → IsReadable b → path_at b ≡ got (segments_of b)
unfolding segments_of
path_at-readable b h =
    elim (path_at b) as (λ (r : Read). (path_at b ≡ r → r ≡ got (or_none r))) [
      | Ok s ↦ λ e. refl
      | Err f ↦ λ e. absurd (∥∥₁_elim h.1 (λ x y. absurd x) (λ t. let both : failed f ≡ got t.0 = sym e ∙ path_at-Spells b t.0 h.0 t.1 in cc))
    ] refl

-- what was read is read with more steps too
more_steps : (n m : ℕ) (b : List ℕ) (s : List Segment) → segments_within n b ≡ got s → n ≤ m → segments_within m b ≡ got s
unfolding segments_within
more_steps n m [] s e le = within-nil m ∙ sym (within-nil n) ∙ e
more_steps zero m (v ∷ b) s e le = absurd cc
more_steps (suc n) zero (v ∷ b) s e le = absurd (omega arith)
more_steps (suc n) (suc m) (v ∷ b) s e le =
    elim (segment_at (v ∷ b)) as (λ (r : At Segment). (r >>= λ first. (segments_within n first.1 >>= λ others. Ok (first.0 ∷ others))) ≡ got s
    → (r >>= λ first. (segments_within m first.1 >>= λ others. Ok (first.0 ∷ others))) ≡ got s) [
      | Err f ↦ λ d. d
      | Ok first ↦ λ d.
          elim (segments_within n first.1) as (λ (r : Read). segments_within n first.1 ≡ r → with_first first.0 r ≡ got s
          → with_first first.0 (segments_within m first.1) ≡ got s) [
            | Err f ↦ λ was h. absurd cc
            | Ok others ↦ λ was h. ap (with_first first.0) (more_steps n m first.1 others was (omega arith)) ∙ h
          ] refl d
    ] e

split_within : (n : ℕ) (b y : List ℕ) (g : Segment) → length b ≡ n → Splits b g y → IsReadable y → segments_within n b ≡ got (g ∷ segments_of y)
split_within zero b y g len s h = absurd (split_some b y g s (omega arith))
split_within (suc n) b y g len s h =
    let others : segments_within (length y) y ≡ got (segments_of y) = sym (path_at-within y h.0) ∙ path_at-readable y h in
    within-first n b g y (split_read b y g s) ∙ ap (with_first g) (more_steps (length y) n y (segments_of y) others (split_shorter b y g n s (omega arith)))

-- the first segment of a path, and the path behind it
pub split : (b y : List ℕ) (g : Segment) → IsReadable b → Splits b g y → IsSplit b g y
unfolding segments_of behind
split b y g h s = record {
  segments = ap or_none (path_at-within b h.0 ∙ split_within (length b) b y g refl s (Splits-readable b y g s h));
  rest_is = sym (ap rest_or_none (split_read b y g s));
}

pub segments_of-Spells : (b : List ℕ) (s : List Segment) → IsReadable b → Spells b s → segments_of b ≡ s
unfolding segments_of
segments_of-Spells b s h spelled = ap or_none (path_at-Spells b s h.0 spelled)

pub segments_of-nil : segments_of [] ≡ []
segments_of-nil = segments_of-Spells [] [] (omega arith, ∣ ([], refl) ∣₁) refl

-- a text that is read to a fault has that fault
fault_within : (s : List Segment) (b done rest : List ℕ) (f : PathFault) (n : ℕ) → length b ≤ n → b ≡ done ++ rest → (rest ≡ [] → ⊥) → Spells done s
    → segment_at rest ≡ Err f → segments_within n b ≡ failed f
fault_within s [] done [] f n le parts some h e = absurd (some refl)
fault_within s [] done (v ∷ rest) f n le parts some h e = absurd (omega (arith, ap (λ (z : List ℕ). length z) parts, length-append done (v ∷ rest)))
fault_within s (v ∷ b) done rest f zero le parts some h e = absurd (omega arith)
fault_within [] (v ∷ b) done rest f (suc n) le parts some h e =
    within-fault n (v ∷ b) f (λ none. absurd cc) (ap segment_at (parts ∙ ap (λ (z : List ℕ). z ++ rest) h) ∙ e)
fault_within (g ∷ s) (v ∷ b) done rest f (suc n) le parts some (x, y, d, form, h) e =
    let whole : v ∷ b ≡ x ++ (y ++ rest) = parts ∙ ap (λ (z : List ℕ). z ++ rest) d ∙ append_assoc x y rest in
    let front : Splits (v ∷ b) g (y ++ rest) = (x, whole, form) in
    within-first n (v ∷ b) g (y ++ rest) (split_read (v ∷ b) (y ++ rest) g front)
    ∙ ap (with_first g) (fault_within s (y ++ rest) y rest f n (split_shorter (v ∷ b) (y ++ rest) g n front le) refl some h e)

pub path_at-stops : (b rest : List ℕ) (f : PathFault) → length b ≤ 510 → (length rest ≡ 0 → ⊥) → IsReadTo b rest → segment_at rest ≡ Err f
    → path_at b ≡ failed f
path_at-stops b rest f le some h e =
    path_at-within b le
    ∙ fault_within h.list b h.done rest f (length b) (omega arith) h.parts (λ none. some (ap (λ (z : List ℕ). length z) none)) h.spelled e

pub path_at-TooLong : (b : List ℕ) → 510 < length b → path_at b ≡ failed TooLong
path_at-TooLong b lt = path_at-long b lt

-- ---- what is read, of a list of bytes, is spelled

within_spells : (n : ℕ) (b : List ℕ) (s : List Segment) → IsBytes b → segments_within n b ≡ got s → Spells b s
unfolding segments_within
within_spells n [] s fits e = let none : got s ≡ got [] = sym e ∙ within-nil n in let is : s ≡ [] = cc in
    subst (λ (t : List Segment). Spells [] t) (sym is) refl
within_spells zero (v ∷ b) s fits e = absurd cc
within_spells (suc n) (v ∷ b) s fits e =
    elim (segment_at (v ∷ b)) as (λ (r : At Segment). Verdict (v ∷ b) r
    → (r >>= λ first. (segments_within n first.1 >>= λ others. Ok (first.0 ∷ others))) ≡ got s → Spells (v ∷ b) s) [
      | Err f ↦ λ stops d. absurd cc
      | Ok first ↦ λ form d.
          elim (segments_within n first.1) as (λ (r : Read). segments_within n first.1 ≡ r → with_first first.0 r ≡ got s → Spells (v ∷ b) s) [
            | Err f ↦ λ was h. absurd cc
            | Ok others ↦ λ was h.
                let is : s ≡ first.0 ∷ others = cc in
                let bytes : IsBytes first.1 = IsBytes-suffix form.0 first.1 (v ∷ b) form.2 fits in
                let spelled : Spells first.1 others = within_spells n first.1 others bytes was in
                subst (λ (t : List Segment). Spells (v ∷ b) t) (sym is) (form.0, first.1, form.2, form.1, spelled)
          ] refl d
    ] (verdict (v ∷ b) fits) e

pub path_at-cases : (b : List ℕ) → ((length b ≤ 510) × (path_at b ≡ segments_within (length b) b)) ⊎ ((510 < length b) × (path_at b ≡ failed TooLong))
path_at-cases b =
    cond_both (ltb 510 (length b)) true false
    (λ z. ((length b ≤ 510) × (path_at b ≡ segments_within (length b) b)) ⊎ ((510 < length b) × (path_at b ≡ failed TooLong)))
    (λ e. let lt = ltb-true _ _ e in inr (lt, path_at-long b lt))
    (λ e. let le = ltb-false _ _ e in inl (le, path_at-within b le))

-- what is read is what is spelled
pub path_at-Ok : (b : List ℕ) (s : List Segment) → IsBytes b → path_at b ≡ got s → (length b ≤ 510) × Spells b s
path_at-Ok b s fits e =
    elim (path_at-cases b) [
      | inl h ↦ (h.0, within_spells (length b) b s fits (sym h.1 ∙ e))
      | inr h ↦ absurd (let both : got s ≡ failed TooLong = sym e ∙ h.1 in cc)
    ]

pub path_at-Ok-readable : (b : List ℕ) (s : List Segment) → IsBytes b → path_at b ≡ got s → IsReadable b
path_at-Ok-readable b s fits e = let h = path_at-Ok b s fits e in (h.0, ∣ (s, h.1) ∣₁)

pub segments_of-spelled : (b : List ℕ) → IsBytes b → IsReadable b → Spells b (segments_of b)
segments_of-spelled b fits h = (path_at-Ok b (segments_of b) fits (path_at-readable b h)).1

within_fault : (n : ℕ) (b rest : List ℕ) (f : PathFault) → IsBytes b → length b ≤ 510 → IsReadTo b rest → length rest ≤ n
    → segments_within n rest ≡ failed f → IsFault b f
unfolding segments_within
within_fault n b [] f fits le h len e = absurd (let both : failed f ≡ got [] = sym e ∙ within-nil n in cc)
within_fault zero b (v ∷ rest) f fits le h len e = absurd (omega arith)
within_fault (suc n) b (v ∷ rest) f fits le h len e =
    elim (segment_at (v ∷ rest)) as (λ (r : At Segment). segment_at (v ∷ rest) ≡ r
    → (r >>= λ first. (segments_within n first.1 >>= λ others. Ok (first.0 ∷ others))) ≡ failed f → IsFault b f) [
      | Err g ↦ λ was d.
          let same : g ≡ f = cc in
          at_fault b (v ∷ rest) f fits le (λ none. omega arith) h (was ∙ ap (λ (k : PathFault). fails k) same)
      | Ok first ↦ λ was d.
          elim (segments_within n first.1) as (λ (r : Read). segments_within n first.1 ≡ r → with_first first.0 r ≡ failed f → IsFault b f) [
            | Ok others ↦ λ is k. absurd cc
            | Err g ↦ λ is k.
                let same : g ≡ f = cc in
                within_fault n b first.1 f fits le (one_more b (v ∷ rest) first.1 first.0 fits h was)
                (let fell = falls b (v ∷ rest) first.1 first.0 fits h was in omega (arith, fell)) (is ∙ ap failed same)
          ] refl d
    ] refl e

-- a text that is not read has the fault
pub path_at-Err : (b : List ℕ) (f : PathFault) → IsBytes b → path_at b ≡ failed f → IsFault b f
path_at-Err b f fits e =
    elim (path_at-cases b) [
      | inl h ↦ within_fault (length b) b b f fits h.0 (at_start b) (omega arith) (sym h.1 ∙ e)
      | inr h ↦ (let both : f ≡ TooLong = cc in subst (λ (g : PathFault). IsFault b g) (sym both) h.0)
    ]

pub path_at-IsFault : (b : List ℕ) (f : PathFault) → IsBytes b → IsFault b f → path_at b ≡ failed f
path_at-IsFault b f fits h =
    elim (path_at b) as (λ (r : Read). path_at b ≡ r → r ≡ failed f) [
      | Ok s ↦ λ e. absurd (unreadable b f h (path_at-Ok-readable b s fits e))
      | Err g ↦ λ e. ap failed (one_fault b g f (path_at-Err b g fits e) h)
    ] refl

-- the end of a path
pub segments_of-empty : (b : List ℕ) → length b ≡ 0 → segments_of b ≡ []
segments_of-empty [] e = segments_of-nil
segments_of-empty (x ∷ b) e = absurd (omega arith)

pub split_not_nil : (b y : List ℕ) (g : Segment) → IsSplit b g y → segments_of b ≡ [] → ⊥
split_not_nil b y g s e = let both : g ∷ segments_of y ≡ [] = sym s.segments ∙ e in cc

-- ---- the laws

pub spelled_both : (b : List ℕ) (s : List Segment) → IsBytes b → ((path_at b ≡ got s) ↔ ((length b ≤ 510) × Spells b s))
spelled_both b s fits = (path_at-Ok b s fits, λ h. path_at-Spells b s h.0 h.1)

pub fault_both : (b : List ℕ) (f : PathFault) → IsBytes b → ((path_at b ≡ failed f) ↔ IsFault b f)
fault_both b f fits = (path_at-Err b f fits, path_at-IsFault b f fits)
