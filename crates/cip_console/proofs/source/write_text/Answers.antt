use Rattle.std.proofs.Common.{arith, sym, take, drop, take-append-drop, append-nil, ◌++◌, []}
use Rattle.std.proofs.Math.Seq.{take-add}
use Rattle.std.proofs.lemmas.List.{take_rest}
use Rattle.std.proofs.Math.ListN.{length-drop}
use Rattle.std.proofs.KnownBytes.{Appends-kept, Appends-trans}
use Rattle.cip_console.proofs.source.write_text.Goals as goal

pub loop-at-preserved : goal.loop-at-preserved
loop-at-preserved g c =
    let at = c.loop-at.at in
    let n = c.in-Ok.count in
    let text = c.args.text.now in
    let taken = rw (take_rest text at) at c.in-Ok.ensures.bytes in
    let bound = rw (take_rest text at, length-drop at text) at c.in-Ok.ensures.bound in
    record {
      within = omega (arith, bound);
      wrote = rw (take-add at n text) (Appends-trans _ _ _ _ _ c.loop-at.invariant.wrote taken);
      taken = λ h. c.loop-at.invariant.taken (c.in-Ok.ensures.taken (omega arith) h);
    }

pub returns-in-Ok-eq0-clause-err : goal.returns-in-Ok-eq0-clause-err
returns-in-Ok-eq0-clause-err g c =
    let at = c.loop-at.at in
    let text = c.args.text.now in
    record {
      front = take at text ++ [];
      rest = drop at text;
      split = rw (append-nil (take at text)) (sym (take-append-drop at text));
      wrote = Appends-trans _ _ _ _ _ c.loop-at.invariant.wrote (rw c.in-Ok-eq0.field-0-test at c.in-Ok-eq0.ensures.bytes);
    }

pub returns-in-Err-clause-err : goal.returns-in-Err-clause-err
returns-in-Err-clause-err g c =
    let at = c.loop-at.at in
    let text = c.args.text.now in
    record {
      front = take at text;
      rest = drop at text;
      split = sym (take-append-drop at text);
      wrote = Appends-kept _ _ _ _ c.loop-at.invariant.wrote c.in-Err.ensures.bytes;
    }
