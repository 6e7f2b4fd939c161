use Rattle.std.proofs.Common.{arith, ◌≡◌, refl, length}
use Rattle.std.proofs.lemmas.Result.{on_ok_weaker}
use Rattle.std.proofs.lemmas.Str.{IsCharBoundary-after_ascii, IsCharBoundary-start}
use Rattle.cip_script.proofs.WordsLaws.{NoSpace, none_more, word_more, word_end}
use Rattle.cip_script.proofs.text.words.Goals as goal
use Rattle.cip_script.proofs.text.words.Goals.{then-byte-eq32+in_ok-push_word, else-byte-eq32}

pub loop-i-init : goal.loop-i-init
loop-i-init c = record {
  within = omega arith;
  boundary = IsCharBoundary-start c.args.line.now c.utf8.line;
  none = λ k lo hi. absurd (omega arith);
  found = rw c.clear.ensures.items refl;
}

pub loop-i-preserved : goal.loop-i-preserved
loop-i-preserved c =
    let line = c.args.line.now in
    let i = c.loop-i.i in
    let inv = c.loop-i.invariant in
    let value = c.as_bytes-bytes.ensures.value in
    let len = c.as_bytes-bytes.ensures.len in
    elim c.if-byte-eq32.branch [
      | then-byte-eq32+in_ok-push_word w ↦
          let space = rw value at w.if-byte-eq32.true in
          record {
            within = omega (arith, w.start-is);
            boundary = rw w.start-is (IsCharBoundary-after_ascii line i c.utf8.line (omega arith) (omega arith));
            none = λ k lo hi. absurd (omega (arith, w.start-is));
            found = rw (w.found-is, w.start-is) (word_more line _ _ c.loop-i.start i _ inv.within (omega arith) inv.none space w.range.ensures.value
                w.in_ok-push_word.ensures inv.found);
          }
      | else-byte-eq32 w ↦ record {
        within = omega (arith, w.start-is);
        boundary = rw w.start-is inv.boundary;
        none = rw w.start-is (none_more line c.loop-i.start i inv.none (rw value at w.if-byte-eq32.false));
        found = rw (w.found-is, w.start-is) inv.found;
      }
    ]

pub returns : goal.returns
returns c =
    let line = c.args.line.now in
    let inv = c.loop-i.invariant in
    let len = c.as_bytes-bytes.ensures.len in
    let ends : c.loop-i.i ≡ length line = omega arith in
    let none : NoSpace line c.loop-i.start (length line) = rw (← ends) inv.none in
    on_ok_weaker c.push_word-2.result
    (λ more. word_end line _ _ c.loop-i.start _ (omega arith) none c.range_from.ensures.value more inv.found) c.push_word-2.ensures
