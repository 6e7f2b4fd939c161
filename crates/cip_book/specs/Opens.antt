-- The connections that ops of modules open.
use Rattle.std.specs.Prelude.{ℕ, Bool, false, ◌==◌, ◌&&◌, List, [], ◌∷◌}
use Rattle.std.specs.Prelude.{Option, Some, None, Result, Ok, Err}
use Rattle.std.specs.Str.{bytes_eq}
use Rattle.cip_message.specs.Reply.{Reply as Answered}
use Rattle.cip_book.specs.declared.opens.Way.{Way}

-- the reply tells of a success
abbrev pub is_success : {E : Type 0} → Result Answered E → Bool
is_success (Ok reply) = reply.general == 0
is_success (Err fault) = false

-- the op, where there is one alone
abbrev pub only_op : List ℕ → Option ℕ
only_op (op ∷ []) = Some op
only_op ops = None

-- the connection is open, and goes by the modules at these places
abbrev pub is_by : Way → List ℕ → Bool
is_by way modules = way.is_open && bytes_eq way.modules.items modules
