-- How many bounds are not what they stand for. One fewer is not, once one of them is written.
use Rattle.std.proofs.Common.{◌≡◌, ◌≢◌, ℕ, zero, suc, ◌+◌, ◌<◌, cond, List, [], ◌∷◌, length, get_or, set, eqb, arith}
use Rattle.std.proofs.lemmas.Bool.Decides.{nat_tests}

abbrev is_off : ℕ → ℕ → ℕ
is_off bound truth = cond (eqb bound truth) 0 1

abbrev pub stale : (ℕ → ℕ) → List ℕ → ℕ
stale truth [] = 0
stale truth (bound ∷ rest) = is_off bound (truth zero) + stale (λ key. truth (suc key)) rest

itself : (n : ℕ) → is_off n n ≡ 0
itself n = grind (arith, nat_tests)

another : (m n : ℕ) → m ≢ n → is_off m n ≡ 1
another m n ne = grind (arith, nat_tests)

pub fewer : (truth : ℕ → ℕ) (bounds : List ℕ) (key : ℕ) → key < length bounds → get_or bounds key 0 ≢ truth key
    → stale truth (set bounds key (truth key)) < stale truth bounds
fewer truth [] key within ne = absurd (omega arith)
fewer truth (bound ∷ rest) zero within ne = omega (arith, itself (truth zero), another bound (truth zero) ne)
fewer truth (bound ∷ rest) (suc key) within ne =
    let less = fewer (λ k. truth (suc k)) rest key (omega arith) ne in
    omega (arith, less)
