use Rattle.std.proofs.Common.{arith}
use Rattle.slab.specs.Slab.{get}
use Rattle.cip_clock.proofs.Bounded.{removed}
use Rattle.cip_pending.specs.Quiet.{deadline_of}
use Rattle.cip_pending.proofs.records.Records.remove.Goals as goal

pub invariant_of-self : goal.invariant_of-self
invariant_of-self c = record {
  room = omega (arith, c.remove.ensures.capacity, c.self.invariant.room);
  bounded = removed deadline_of (get c.self.inside.kept) (get c.remove.new.self) c.self.inside.times c.args.key c.self.invariant.bounded
      c.remove.ensures.updates.others c.remove.ensures.updates.changed;
}
