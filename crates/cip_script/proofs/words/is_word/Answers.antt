use Rattle.std.proofs.Common.{sym, ext_get_or, arith}
use Rattle.std.proofs.lemmas.Slice.Eq.{bytes_eq-Decides}
use Rattle.cip_script.proofs.words.is_word.Goals as goal

pub returns : goal.returns
returns c =
    let word = c.args.word.now in
    let other = c.args.other.now in
    let len = c.as_bytes-bytes.ensures.len in
    let lens = c.as_bytes-others.ensures.len in
    sym ((bytes_eq-Decides word other).1 (ext_get_or 0 word other (omega arith) (λ k h. c.bytes.invariant k (omega arith))))
