use Rattle.std.proofs.Common.{◌≡◌, ◌+◌, ◌-◌, ◌≤◌, length, drop, All, vec_items}
use Rattle.cip_segment.specs.Short.{IsWritable}
use Rattle.cip_tool.specs.Words.{texts}
use Rattle.cip_tool.specs.Routes.{before, words_from}
use Rattle.cip_tool.proofs.reading.read_words.Given as goal

abbrev pub invariant-reading : goal.invariant-reading
invariant-reading l = record {
  writable : All IsWritable (vec_items l.found);
  within : l.at ≤ length l.words;
  read : before (vec_items l.found) (words_from (l.at + 1) (texts (drop l.at l.words))) ≡ words_from 1 (texts l.words);
}

abbrev pub decreases-reading : goal.decreases-reading
decreases-reading l = length l.words - l.at
