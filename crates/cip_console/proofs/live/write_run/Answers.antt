use Rattle.std.proofs.Common.{List, ℕ, [], subst}
use Rattle.cip_console.specs.Known.{AppendsFront}
use Rattle.cip_console.specs.Live.{entries_text, last_text}
use Rattle.cip_console.specs.Playing.{Prints}
use Rattle.cip_console.proofs.Prints.{front_then}
use Rattle.cip_console.proofs.live.write_run.Goals as goal

pub returns-clause-err : goal.returns-clause-err
returns-clause-err g c =
    let prints = subst (λ (l : List ℕ). Prints (g.W.Sink.contents c.args.writer.now) (g.W.Sink.contents c.write_journal.new.writer) l
    c.write_journal.new.text.items (entries_text c.args.names.now 0 c.args.journal.now)) c.new-text.ensures.items c.in-Ok.ensures.ok in
    front_then _ _ _ [] _ _ (last_text c.args.end) prints
    (subst (AppendsFront (g.W.Sink.contents c.write_journal.new.writer) (g.W.Sink.contents c.flush.new.writer)) c.in-Ok-put_last.ensures
    c.in-Err-flush.ensures.err)
