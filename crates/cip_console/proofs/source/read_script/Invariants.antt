-- What was read so far is what the source gave, at least one byte a turn.
use Rattle.std.proofs.Common.{◌≤◌, ◌+◌, vec_items, length}
use Rattle.std.specs.Io.KnownBytes.{Consumes}
use Rattle.cip_console.proofs.source.read_script.Given as goal

abbrev pub invariant-loop : goal.invariant-loop
invariant-loop g l = (length (vec_items l.script) ≤ 1048576) × (l.counter ≤ length (vec_items l.script))
    × Consumes (g.S.Source.remaining l.initial.reader) (g.S.Source.remaining l.reader) (vec_items l.script)
    × (g.S.Source.asks l.reader ≤ g.S.Source.asks l.initial.reader + l.counter)
