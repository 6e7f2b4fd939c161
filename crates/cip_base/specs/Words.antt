-- What a number or a list of numbers means, for signatures and fields to say.
use Rattle.std.specs.Prelude.{ℕ, List}

-- bytes, each a number below 256
abbrev pub Octets : Type 0
Octets = List ℕ

-- the bytes that name a node on a link
abbrev pub LinkAddress : Type 0
LinkAddress = List ℕ

-- the number of a port
abbrev pub PortIdentifier : Type 0
PortIdentifier = ℕ

-- the id of one direction of a connection on a link
abbrev pub ConnectionId : Type 0
ConnectionId = ℕ

-- the number under which a request waits for its reply
abbrev pub RequestNumber : Type 0
RequestNumber = ℕ

-- the number that a command of a module bears
abbrev pub OpNumber : Type 0
OpNumber = ℕ

-- an instance of a class
abbrev pub InstanceNumber : Type 0
InstanceNumber = ℕ

abbrev pub Microseconds : Type 0
Microseconds = ℕ

abbrev pub Milliseconds : Type 0
Milliseconds = ℕ

-- a size in words of two bytes
abbrev pub WordCount : Type 0
WordCount = ℕ
