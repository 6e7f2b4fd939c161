-- Reading the data of a failure gives exactly the record that has its layout.
use Rattle.std.proofs.Common.{◌≡◌, ℕ, ◌≤◌, List, [], ◌∷◌, ◌++◌, length, Option, Some, None, Result, Ok, Err, refl, sym, ap, subst, ◌∙◌, arith}
use Rattle.std.specs.Prelude.{MatchResult, slice_get}
use Rattle.std.proofs.lemmas.Bool.{ne_eqb, le-ltb, lt-ltb}
use Rattle.cip_base.specs.Fields.{IsBytes}
use Rattle.cip_base.specs.declared.triad.Triad.{Triad}
use Rattle.cip_message.specs.declared.fault.DataFault.{DataFault}
use Rattle.cip_message.specs.declared.fault.DataFault.TheVariants.{Short, Long, Path}
use Rattle.cip_message.specs.declared.failure.ConnectionFailure.{ConnectionFailure}
use Rattle.cip_message.specs.Numbers.{triad_in, triad_bytes}
use Rattle.cip_message.specs.Failure.{ReadsFailure, IsFailureFault, failure_at, failure_data, HasTriadForWords}
use Rattle.cip_message.proofs.Words.{triad_again, triad_back}

abbrev told : Option Triad → Option ℕ → Result ConnectionFailure DataFault
told t w = Ok (record { triad = t; words = w })

failure_at-long : (b : List ℕ) → 8 ≤ length b → failure_at b ≡ told (Some (triad_in b 0)) (slice_get b 8)
unfolding failure_at
failure_at-long b le = rw (ne_eqb (length b) 0 (λ e. omega arith), le-ltb (length b) 8 le) refl

-- ---- what has the layout is read

pub failure_read : (b : List ℕ) (f : ConnectionFailure) → ReadsFailure b f → failure_at b ≡ Ok f
unfolding failure_at
failure_read b f h = reads b f.triad f.words h
  where
    reads : (b : List ℕ) (t : Option Triad) (w : Option ℕ) → ReadsFailure b (record { triad = t; words = w })
        → failure_at b ≡ Ok (record { triad = t; words = w })
    reads b None None e = rw e refl
    reads b None (Some n) e = absurd e
    reads b (Some t) None e = rw (e, triad_again t []) refl
    reads b (Some t) (Some n) (rest, e) =
        subst (λ (z : List ℕ). failure_at z ≡ told (Some t) (Some n)) (sym e)
        (failure_at-long (triad_bytes t ++ (n ∷ rest)) (omega arith) ∙ ap (λ (x : Triad). told (Some x) (Some n)) (triad_again t (n ∷ rest)))

-- ---- what is read has the layout, and each fault is the one that fits

pub failure_verdict : (b : List ℕ) → IsBytes b → MatchResult (failure_at b) (ReadsFailure b) (IsFailureFault b)
unfolding failure_at
failure_verdict [] fits = refl
failure_verdict (a ∷ []) fits = (omega arith, omega arith)
failure_verdict (a ∷ c ∷ []) fits = (omega arith, omega arith)
failure_verdict (a ∷ c ∷ d ∷ []) fits = (omega arith, omega arith)
failure_verdict (a ∷ c ∷ d ∷ e ∷ []) fits = (omega arith, omega arith)
failure_verdict (a ∷ c ∷ d ∷ e ∷ f ∷ []) fits = (omega arith, omega arith)
failure_verdict (a ∷ c ∷ d ∷ e ∷ f ∷ g ∷ []) fits = (omega arith, omega arith)
failure_verdict (a ∷ c ∷ d ∷ e ∷ f ∷ g ∷ h ∷ []) fits = (omega arith, omega arith)
failure_verdict (a ∷ c ∷ d ∷ e ∷ f ∷ g ∷ h ∷ i ∷ []) fits =
    sym (triad_back a c d e f g h i (fits 0) (fits 1) (fits 2) (fits 3) (fits 4) (fits 5) (fits 6) (fits 7))
failure_verdict (a ∷ c ∷ d ∷ e ∷ f ∷ g ∷ h ∷ i ∷ n ∷ rest) fits =
    let b : List ℕ = a ∷ c ∷ d ∷ e ∷ f ∷ g ∷ h ∷ i ∷ n ∷ rest in
    let back = triad_back a c d e f g h i (fits 0) (fits 1) (fits 2) (fits 3) (fits 4) (fits 5) (fits 6) (fits 7) in
    subst (λ (r : Result ConnectionFailure DataFault). MatchResult r (ReadsFailure b) (IsFailureFault b)) (sym (failure_at-long b (omega arith)))
    (rest, ap (λ (z : List ℕ). z ++ (n ∷ rest)) (sym back))

-- ---- what is written is read back

pub failure_back : (f : ConnectionFailure) → HasTriadForWords f → failure_at (failure_data f) ≡ Ok f
failure_back f h = failure_read (failure_data f) f (reads f.triad f.words h)
  where
    reads : (t : Option Triad) (w : Option ℕ) → HasTriadForWords (record { triad = t; words = w })
        → ReadsFailure (failure_data (record { triad = t; words = w })) (record { triad = t; words = w })
    reads None None h = refl
    reads None (Some n) h = let bad = h refl in absurd cc
    reads (Some t) None h = refl
    reads (Some t) (Some n) h = (0 ∷ [], refl)

-- ---- a fault that fits is the one that is answered

pub failure_faults : (b : List ℕ) (f : DataFault) → IsFailureFault b f → failure_at b ≡ Err f
unfolding failure_at
failure_faults b Short (some, short) = rw (ne_eqb (length b) 0 (λ e. omega arith), lt-ltb (length b) 8 short) refl
failure_faults b Long h = absurd h
failure_faults b (Path f) h = absurd h
