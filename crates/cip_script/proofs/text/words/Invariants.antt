use Rattle.std.proofs.Common.{◌≡◌, ◌≤◌, ℕ, List, ◌++◌, drop, map, vec_items, Bor}
use Rattle.std.specs.Str.{IsCharBoundary}
use Rattle.cip_script.specs.Text.{words_of}
use Rattle.cip_script.proofs.WordsLaws.{NoSpace}
use Rattle.cip_script.proofs.text.words.Given as goal

abbrev pub invariant-loop-i : goal.invariant-loop-i
invariant-loop-i l =
    let texts : List (Bor (List ℕ)) → List (List ℕ) = map (λ part. part.now) in
    record {
      within : l.start ≤ l.i;
      boundary : IsCharBoundary l.line l.start;
      none : NoSpace l.line l.start l.i;
      found : texts (vec_items l.found) ++ words_of (drop l.start l.line) ≡ words_of l.line;
    }
