use Rattle.cip_console.proofs.LiveLaws.{Writing}
use Rattle.cip_console.proofs.live.write_journal.Given as goal

abbrev pub invariant-loop-k : goal.invariant-loop-k
invariant-loop-k g l =
    record {
      writing : Writing l.names l.journal (g.W.Sink.contents l.initial.writer) (g.W.Sink.contents l.writer) l.initial.text.items l.text.items l.k;
      taken : g.W.Sink.has_refused l.writer → g.W.Sink.has_refused l.initial.writer;
    }
