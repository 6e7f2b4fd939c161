-- The feeds of a module among others.
use Rattle.std.proofs.Common.{◌≡◌, ◌≢◌, ℕ, List, [], ◌∷◌, ◌++◌, Bool, true, false, refl, sym, cond}
use Rattle.std.proofs.Common.{arith, ◌∙◌, ap, take, drop, length, get_or, ◌<◌, ◌≤◌, ◌+◌, eqb}
use Rattle.std.proofs.lemmas.Bool.{eq-eqb, ne_eqb}
use Rattle.std.proofs.lemmas.List.{take_more, take-append-drop}
use Rattle.cip_base.specs.declared.numbers.ModuleId.{ModuleId}
use Rattle.cip_threads.specs.declared.feed.Feed.{Feed}
use Rattle.cip_threads.specs.Feeds.{feeds_of, fed_if, ticks_of}

pub feeds-append : (m : ℕ) (xs ys : List (ModuleId × Feed)) → feeds_of m (xs ++ ys) ≡ feeds_of m xs ++ feeds_of m ys
feeds-append m [] ys = refl
feeds-append m (f ∷ xs) ys = ap (λ (r : List Feed). fed_if m f r) (feeds-append m xs ys) ∙ apart (eqb f.0.0 m)
  where
    apart : (b : Bool) → cond b (f.1 ∷ (feeds_of m xs ++ feeds_of m ys)) (feeds_of m xs ++ feeds_of m ys)
        ≡ cond b (f.1 ∷ feeds_of m xs) (feeds_of m xs) ++ feeds_of m ys
    apart true = refl
    apart false = refl

pub one_other : (m : ℕ) (x : ModuleId × Feed) → x.0.0 ≢ m → feeds_of m (x ∷ []) ≡ []
one_other m x other = ap (λ (b : Bool). cond b (x.1 ∷ []) []) (ne_eqb x.0.0 m other)

pub one_own : (m : ℕ) (x : ModuleId × Feed) → x.0.0 ≡ m → feeds_of m (x ∷ []) ≡ x.1 ∷ []
one_own m x same = ap (λ (b : Bool). cond b (x.1 ∷ []) []) (eq-eqb x.0.0 m same)

-- one feed more
pub feeds_more : (feeds : List (ModuleId × Feed)) (i m : ℕ) (x : ModuleId × Feed) → i < length feeds → x ≡ get_or feeds i x
    → feeds_of m (take (i + 1) feeds) ≡ feeds_of m (take i feeds) ++ feeds_of m (x ∷ [])
feeds_more feeds i m x lt at =
    ap (feeds_of m) (take_more feeds i x lt ∙ ap (λ (y : ModuleId × Feed). take i feeds ++ y ∷ []) (sym at)) ∙ feeds-append m (take i feeds) (x ∷ [])

-- ---- their time

ticks-append : (xs ys : List Feed) → ticks_of (xs ++ ys) ≡ ticks_of xs + ticks_of ys
ticks-append [] ys = omega arith
ticks-append (x ∷ xs) ys = let r = ticks-append xs ys in omega arith

pub ticks_more : (feeds : List (ModuleId × Feed)) (i m : ℕ) (x : ModuleId × Feed) → i < length feeds → x ≡ get_or feeds i x
    → ticks_of (feeds_of m (take (i + 1) feeds)) ≡ ticks_of (feeds_of m (take i feeds)) + ticks_of (feeds_of m (x ∷ []))
ticks_more feeds i m x lt at = ap ticks_of (feeds_more feeds i m x lt at) ∙ ticks-append (feeds_of m (take i feeds)) (feeds_of m (x ∷ []))

-- a beginning has at most the time of all
pub ticks_begin : (feeds : List (ModuleId × Feed)) (i m : ℕ) → ticks_of (feeds_of m (take i feeds)) ≤ ticks_of (feeds_of m feeds)
ticks_begin feeds i m =
    let s = ap (λ (l : List (ModuleId × Feed)). ticks_of (feeds_of m l)) (sym (take-append-drop i feeds))
    ∙ ap ticks_of (feeds-append m (take i feeds) (drop i feeds)) ∙ ticks-append (feeds_of m (take i feeds)) (feeds_of m (drop i feeds)) in
    omega arith
