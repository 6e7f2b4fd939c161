use Rattle.std.proofs.Common.{◌≡◌, ◌++◌, drop}
use Rattle.cip_transcript.specs.TablesText.{hops_text}
use Rattle.cip_transcript.proofs.show_tables.put_hops.Given as goal

abbrev pub invariant-loop-row : goal.invariant-loop-row
invariant-loop-row l = l.text.items ++ hops_text (drop l.row-index l.rows) ≡ l.initial.text.items ++ hops_text l.rows
