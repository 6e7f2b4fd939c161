use Rattle.std.proofs.Common.{◌≡◌, ℕ, ◌≤◌, ◌<◌, ◌++◌, map, get_or, drop, false}
use Rattle.std.specs.List.{slice_split}
use Rattle.cip_words.specs.Shown.{is_space, words_of}
use Rattle.cip_words.proofs.reading.ascii_words.Given as goal

abbrev pub invariant-bytes : goal.invariant-bytes
invariant-bytes l = record {
  within : l.start ≤ l.i;
  plain : (k : ℕ) → l.start ≤ k → k < l.i → is_space (get_or l.line k 0) ≡ false;
  parts : map (λ word. word.now) l.parts.items ++ slice_split is_space (drop l.start l.line) ≡ words_of l.line;
}
