-- The parts of network connection parameters stand in their bits.
use Rattle.std.proofs.Common.{◌≡◌, ◌<◌, ◌+◌, ◌*◌, ◌/◌, ◌%◌, ℕ, refl, ◌∙◌, arith}
use Rattle.cip_open.specs.Params.{parts, sized, params_of, large_params_of}

same_parts : (s s' v v' p p' k k' r r' : ℕ) → s ≡ s' → v ≡ v' → p ≡ p' → k ≡ k' → r ≡ r' → parts s v p k r ≡ parts s' v' p' k' r'
same_parts s s' v v' p p' k k' r r' es ev ep ek er = rw (es, ev, ep, ek, er) refl

abbrev word : ℕ → ℕ → ℕ → ℕ → ℕ → ℕ
word s v p k r = s + 512 * v + 1024 * p + 8192 * k + 32768 * r

pub small_parts : (s v p k r : ℕ) → s < 512 → v < 2 → p < 4 → k < 4 → r < 2 → params_of (word s v p k r) ≡ parts s v p k r
small_parts s v p k r ls lv lp lk lr =
    let w = word s v p k r in
    same_parts (w % 512) s ((w / 512) % 2) v ((w / 1024) % 4) p ((w / 8192) % 4) k ((w / 32768) % 2) r
    (omega (arith, ls, lv, lp, lk, lr)) (omega (arith, ls, lv, lp, lk, lr)) (omega (arith, ls, lv, lp, lk, lr))
    (omega (arith, ls, lv, lp, lk, lr)) (omega (arith, ls, lv, lp, lk, lr))

abbrev high : ℕ → ℕ → ℕ → ℕ → ℕ
high v p k r = 512 * v + 1024 * p + 8192 * k + 32768 * r

pub large_parts : (s v p k r : ℕ) → s < 65536 → v < 2 → p < 4 → k < 4 → r < 2 → large_params_of (s + 65536 * high v p k r) ≡ parts s v p k r
large_parts s v p k r ls lv lp lk lr =
    let low : (s + 65536 * high v p k r) % 65536 ≡ s = omega (arith, ls) in
    let up : (s + 65536 * high v p k r) / 65536 ≡ high v p k r = omega (arith, ls) in
    let h = high v p k r in
    (λ i. sized (low i) (up i))
    ∙ same_parts s s ((h / 512) % 2) v ((h / 1024) % 4) p ((h / 8192) % 4) k ((h / 32768) % 2) r refl
    (omega (arith, lv, lp, lk, lr)) (omega (arith, lv, lp, lk, lr)) (omega (arith, lv, lp, lk, lr))
    (omega (arith, lv, lp, lk, lr))
