-- Reading the data of Forward_Close gives exactly the record that has its layout.
use Rattle.std.proofs.Common.{◌≡◌, ℕ, ◌*◌, ◌/◌, List, [], ◌∷◌, ◌++◌, length, drop, get_or, Result, Ok, Err, refl, sym, ap, subst, ◌∙◌, arith}
use Rattle.std.specs.Prelude.{MatchResult}
use Rattle.std.proofs.lemmas.List.{length-drop}
use Rattle.cip_base.specs.Fields.{IsBytes}
use Rattle.cip_base.specs.declared.triad.Triad.{Triad}
use Rattle.cip_segment.specs.Spelling.{IsReadable}
use Rattle.cip_segment.proofs.Whole.{whole_words}
use Rattle.cip_message.specs.declared.fault.DataFault.{DataFault}
use Rattle.cip_message.specs.Counted.{whole_length, with_part}
use Rattle.cip_message.proofs.Words.{triad_again, triad_back}
use Rattle.cip_message.proofs.Counteds.{counted_path_at-whole}
use Rattle.cip_message.proofs.Parts.{path_verdict, path_faults}
use Rattle.cip_message.proofs.Fronts.{fronts}
use Rattle.cip_close.specs.Close.{Close, close_layout, LaysClose, ReadsClose, IsCloseFault, close_data}
use Rattle.cip_close.specs.CloseAt.{close_fields_in, close_in, close_at}

-- ---- what has the layout is read

abbrev closed : ℕ → ℕ → Triad → List ℕ → Result Close DataFault
closed tick ticks triad path = Ok (record { fields = record { timing = record { tick = tick; ticks = ticks }; triad = triad }; path = path })

layout_read : (n x : ℕ) (o : Close) → IsReadable o.path → length o.path ≡ 2 * n → close_at (close_layout n x o) ≡ Ok o
unfolding close_at
layout_read n x o readable len =
    ap (with_part (close_in (close_layout n x o))) (counted_path_at-whole 10 12 (close_layout n x o) (omega (arith, len)) readable)
    ∙ ap (λ (t : Triad). closed o.fields.timing.tick o.fields.timing.ticks t o.path) (triad_again o.fields.triad [])

pub close_read : (b : List ℕ) (o : Close) → ReadsClose b o → close_at b ≡ Ok o
close_read b o (readable, (n, x, len, e)) = subst (λ (c : List ℕ). close_at c ≡ Ok o) (sym e) (layout_read n x o readable len)

-- ---- what is read has the layout, and each fault is the one that fits

lays : (b : List ℕ) → IsBytes b → length b ≡ whole_length 10 12 b → LaysClose b (record { fields = close_fields_in b; path = drop 12 b })
lays b fits len =
    let at : ℕ → ℕ = λ i. get_or b i 0 in (
      at 10,
      at 11,
      omega (arith, len, length-drop 12 b),
      fronts 12 b (omega (arith, len))
          ∙ ap (λ (z : List ℕ). at 0 ∷ at 1 ∷ z ++ (at 10 ∷ at 11 ∷ drop 12 b))
          (sym (triad_back (at 2) (at 3) (at 4) (at 5) (at 6) (at 7) (at 8) (at 9) (fits 2) (fits 3) (fits 4) (fits 5) (fits 6) (fits 7) (fits 8)
          (fits 9))),
    )

layout_len : (b : List ℕ) (o : Close) → LaysClose b o → length b ≡ whole_length 10 12 b
layout_len b o (n, x, len, e) = subst (λ (c : List ℕ). length c ≡ whole_length 10 12 c) (sym e) (omega (arith, len))

path_is : (b : List ℕ) (o : Close) → LaysClose b o → drop 12 b ≡ o.path
path_is b o (n, x, len, e) = ap (λ (c : List ℕ). drop 12 c) e

pub close_verdict : (b : List ℕ) → IsBytes b → MatchResult (close_at b) (ReadsClose b) (IsCloseFault b)
unfolding close_at
close_verdict b fits = path_verdict 10 12 (omega arith) close_in LaysClose lays layout_len (λ o. o.path) (λ c p. refl) path_is b fits

pub close_faults : (b : List ℕ) (f : DataFault) → IsBytes b → IsCloseFault b f → close_at b ≡ Err f
unfolding close_at
close_faults b f fits h = path_faults 10 12 (omega arith) close_in LaysClose lays layout_len (λ o. o.path) (λ c p. refl) path_is b f fits h

-- ---- what is written is read back

pub close_back : (o : Close) → IsReadable o.path → close_at (close_data o) ≡ Ok o
close_back o readable = layout_read (length o.path / 2) 0 o readable (whole_words o.path readable)
