use Rattle.cip_hops.specs.Sides.{op_of}
use Rattle.cip_hops.proofs.Callers.{none_held}
use Rattle.played_parts.proofs.connections.table_of_command.Goals as goal

pub begin-requires-clause-op : goal.begin-requires-clause-op
begin-requires-clause-op c = none_held c.in_ok-table.table 1 1 (op_of c.in_ok-opening.opening.up) c.in_ok-table.ensures
