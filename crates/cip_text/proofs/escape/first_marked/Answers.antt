use Rattle.std.proofs.Common.{arith, rules}
use Rattle.cip_text.proofs.Escaping.{escaped_drop}
use Rattle.cip_text.proofs.escape.first_marked.Goals as goal

pub returns-then-is_marked : goal.returns-then-is_marked
returns-then-is_marked c = record {
  within = omega arith;
  marked = search rules;
  parts = rw (escaped_drop c.args.bytes.now c.bytes.at (omega arith)) at c.bytes.invariant;
}
