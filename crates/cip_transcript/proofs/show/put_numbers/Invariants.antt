use Rattle.std.proofs.Common.{◌≡◌, ◌++◌, drop}
use Rattle.cip_transcript.specs.Show.{numbers_text}
use Rattle.cip_transcript.proofs.show.put_numbers.Given as goal

abbrev pub invariant-loop-number : goal.invariant-loop-number
invariant-loop-number l = l.text.items ++ numbers_text (drop l.number-index l.numbers) ≡ l.initial.text.items ++ numbers_text l.numbers
