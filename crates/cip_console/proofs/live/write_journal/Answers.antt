use Rattle.std.proofs.Common.{◌≡◌, ◌∷◌, ◌+◌, drop, sym, subst}
use Rattle.std.proofs.lemmas.List.{drop_more}
use Rattle.cip_world.specs.declared.journal.Entry.{Entry}
use Rattle.cip_console.proofs.LiveLaws.{front_written, front_of_one, one_written}
use Rattle.cip_console.proofs.live.write_journal.Goals as goal

pub returns-in-Err-clause-err : goal.returns-in-Err-clause-err
returns-in-Err-clause-err g c = front_written _ _ _ _ _ _ _ c.loop-k.invariant.writing

pub returns-in-Err-flush-clause-err : goal.returns-in-Err-flush-clause-err
returns-in-Err-flush-clause-err g c =
    let next = subst (λ (e : Entry). drop c.loop-k.k c.args.journal.now ≡ e ∷ drop (c.loop-k.k + 1) c.args.journal.now) (sym c.index-journal-k.is)
    (drop_more c.args.journal.now c.loop-k.k c.index-journal-k.result c.loop-k-test.true) in
    front_of_one c.args.names.now c.args.journal.now _ _ _ _ _ _ c.loop-k.k c.index-journal-k.result c.loop-k.invariant.writing next c.in-Ok.ensures
    c.in-Err-flush.ensures.err

pub loop-k-preserved : goal.loop-k-preserved
loop-k-preserved g c =
    let next = subst (λ (e : Entry). drop c.loop-k.k c.args.journal.now ≡ e ∷ drop (c.loop-k.k + 1) c.args.journal.now) (sym c.index-journal-k.is)
    (drop_more c.args.journal.now c.loop-k.k c.index-journal-k.result c.loop-k-test.true) in
    record {
      writing = one_written c.args.names.now c.args.journal.now _ _ _ _ _ _ _ c.loop-k.k c.index-journal-k.result c.loop-k.invariant.writing next
          c.in-Ok.ensures c.in-Ok-flush.ensures.ok;
      taken = λ h. c.loop-k.invariant.taken (c.in-Ok-flush.ensures.taken h);
    }
