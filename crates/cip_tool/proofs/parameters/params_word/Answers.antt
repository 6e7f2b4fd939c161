use Rattle.std.proofs.Common.{arith, rules, ◌≡◌, ◌+◌, ◌*◌}
use Rattle.cip_tool.specs.Parameters.{flag, priority_bits, kind_bits}
use Rattle.cip_tool.proofs.parameters.params_word.Goals as goal

pub returns-clause-reads : goal.returns-clause-reads
returns-clause-reads c =
    let p = c.args.params.now in
    let sum : c.from-2.result + c.high_bits-high.result
    ≡ p.size + 512 * flag p.variable + 1024 * priority_bits p.priority + 8192 * kind_bits p.kind + 32768 * flag p.redundant =
    omega arith in
    rw sum (search rules)
