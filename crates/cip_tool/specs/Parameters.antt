-- The word of network connection parameters, from its parts.
use Rattle.std.specs.Prelude.{ℕ, ◌+◌, ◌*◌, Bool, if◌then◌else◌}
use Rattle.cip_open.specs.declared.parameters.Priority.{Priority}
use Rattle.cip_open.specs.declared.parameters.Priority.TheVariants.{Low, High, Scheduled, Urgent}
use Rattle.cip_open.specs.declared.parameters.ConnectionKind.{ConnectionKind}
use Rattle.cip_open.specs.declared.parameters.ConnectionKind.TheVariants.{Null, Multicast, PointToPoint, Reserved}
use Rattle.cip_open.specs.declared.parameters.Params.{Params}

abbrev pub flag : Bool → ℕ
flag set = if set then 1 else 0

abbrev pub priority_bits : Priority → ℕ
priority_bits Low = 0
priority_bits High = 1
priority_bits Scheduled = 2
priority_bits Urgent = 3

abbrev pub kind_bits : ConnectionKind → ℕ
kind_bits Null = 0
kind_bits Multicast = 1
kind_bits PointToPoint = 2
kind_bits Reserved = 3

-- bits 9 and above of a word; the reserved bit is 0
abbrev pub high_bits : Params → ℕ
high_bits p = 512 * flag p.variable + 1024 * priority_bits p.priority + 8192 * kind_bits p.kind
    + 32768 * flag p.redundant

-- the word, or of a large open the double word
abbrev pub word_of : Bool → Params → ℕ
word_of large p = if large then p.size + 65536 * high_bits p else p.size + high_bits p
