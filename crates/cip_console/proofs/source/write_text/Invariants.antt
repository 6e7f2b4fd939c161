-- What was written so far is a prefix of the text.
use Rattle.std.proofs.Common.{◌≤◌, ◌-◌, take, length}
use Rattle.std.specs.Io.KnownBytes.{Appends}
use Rattle.cip_console.proofs.source.write_text.Given as goal

abbrev pub invariant-loop-at : goal.invariant-loop-at
invariant-loop-at g l =
    record {
      within : l.at ≤ length l.text;
      wrote : Appends (g.S.Sink.contents l.initial.sink) (g.S.Sink.contents l.sink) (take l.at l.text);
      taken : g.S.Sink.has_refused l.sink → g.S.Sink.has_refused l.initial.sink;
    }

abbrev pub decreases-loop-at : goal.decreases-loop-at
decreases-loop-at g l = length l.text - l.at
