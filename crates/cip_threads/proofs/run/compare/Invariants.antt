use Rattle.std.proofs.Common.{◌≡◌, reverse, length, vec_len}
use Rattle.cip_threads.specs.Meetings.{AreMet}
use Rattle.cip_threads.specs.Reports.{AgreeTo}
use Rattle.cip_threads.proofs.run.compare.Given as goal

abbrev pub invariant-loop-m : goal.invariant-loop-m
invariant-loop-m l = AgreeTo l.topology (reverse l.journal) l.tables.items l.m × (vec_len l.messages ≡ length l.topology.modules)
    × AreMet (reverse l.journal) l.messages.items
