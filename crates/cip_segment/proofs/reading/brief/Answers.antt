use Rattle.std.proofs.Common.{ℕ, [], ◌∷◌, ◌-◌, ◌≤◌, inl, length, take, drop, Ok, sym, ap, ◌∙◌, arith}
use Rattle.std.specs.Prelude.{slice_index}
use Rattle.cip_segment.specs.declared.segment.Segment.TheVariants.{Class, Instance}
use Rattle.cip_segment.proofs.Brief.{brief_at, small_at}
use Rattle.cip_segment.proofs.reading.brief.Goals as goal

pub returns-then-head-eq32 : goal.returns-then-head-eq32
returns-then-head-eq32 c =
    let b = c.args.bytes.now in
    let n = slice_index b 1 in
    let two : 2 ≤ length b = omega (arith, c.in-len2-up.len_at_least) in
    let small = small_at b (λ i. omega (arith, c.type_inv.bytes i)) two in
    brief_at b two (Class n) (inl (small, ap (λ (h : ℕ). h ∷ n ∷ []) c.if-head-eq32.true))
    ∙ ap (λ (m : ℕ). Ok (Class m, take (length b - 2) (drop 2 b))) (sym c.from.ensures)

pub returns-then-head-eq36 : goal.returns-then-head-eq36
returns-then-head-eq36 c =
    let b = c.args.bytes.now in
    let n = slice_index b 1 in
    let two : 2 ≤ length b = omega (arith, c.in-len2-up.len_at_least) in
    let small = small_at b (λ i. omega (arith, c.type_inv.bytes i)) two in
    brief_at b two (Instance n) (inl (small, ap (λ (h : ℕ). h ∷ n ∷ []) c.if-head-eq36.true))
    ∙ ap (λ (m : ℕ). Ok (Instance m, take (length b - 2) (drop 2 b))) (sym c.from-then-head-eq36.ensures)
