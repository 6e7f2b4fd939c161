use Rattle.std.proofs.Common.{◌≡◌, ℕ, List, drop, map, ◌++◌, vec_items, Bor}
use Rattle.std.specs.Str.Lines.{lines_of_parts}
use Rattle.cip_words.proofs.text.lines.Given as goal

abbrev pub invariant-loop-i : goal.invariant-loop-i
invariant-loop-i l =
    let texts : List (Bor (List ℕ)) → List (List ℕ) = map (λ part. part.now) in
    texts (vec_items l.found) ++ lines_of_parts (texts (drop l.i l.part-items)) ≡ lines_of_parts (texts l.part-items)
