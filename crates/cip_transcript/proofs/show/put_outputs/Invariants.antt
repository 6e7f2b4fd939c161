use Rattle.std.proofs.Common.{◌≡◌, ◌≤◌, ◌++◌, drop, take}
use Rattle.cip_transcript.specs.Show.{outputs_text}
use Rattle.cip_transcript.proofs.show.put_outputs.Given as goal

abbrev pub invariant-loop-index : goal.invariant-loop-index
invariant-loop-index l =
    (l.end ≤ 256)
    × (l.text.items ++ take l.end l.room ++ outputs_text l.index (drop l.index l.outputs)
    ≡ l.initial.text.items ++ take l.initial.end l.initial.room ++ outputs_text 0 l.outputs)
