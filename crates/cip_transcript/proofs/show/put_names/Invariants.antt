use Rattle.std.proofs.Common.{◌≡◌, ◌++◌, drop}
use Rattle.cip_transcript.specs.Show.{names_text}
use Rattle.cip_transcript.proofs.show.put_names.Given as goal

abbrev pub invariant-loop-at : goal.invariant-loop-at
invariant-loop-at l = l.text.items ++ names_text l.names (drop l.at-index l.modules) ≡ l.initial.text.items ++ names_text l.names l.modules
