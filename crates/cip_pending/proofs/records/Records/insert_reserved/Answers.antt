use Rattle.std.proofs.Common.{◌<◌, length, sym, ap, subst, ◌∙◌, arith, min, get_or, set}
use Rattle.std.proofs.lemmas.List.{length-set}
use Rattle.slab.specs.Slab.{get}
use Rattle.cip_clock.proofs.Bounded.{lowered}
use Rattle.cip_pending.specs.Quiet.{deadline_of, IsBounded}
use Rattle.cip_pending.proofs.records.Records.insert_reserved.Goals as goal

pub invariant_of-self : goal.invariant_of-self
invariant_of-self c =
    let times = c.self.inside.times in
    let key = c.insert_reserved-key.result in
    let kept = c.insert_reserved-key.new.self in
    let within : key < length times =
    omega (arith, c.insert_reserved-key.ensures.key_in_range, c.insert_reserved-key.ensures.capacity, c.self.invariant.room) in
    subst (IsBounded kept) (sym (c.lower.ensures ∙ ap (λ time. set times key (min (get_or times key 0) time)) c.bound_of.ensures)) (record {
      room = simp length-set (omega (arith, c.insert_reserved-key.ensures.capacity, c.self.invariant.room));
      bounded = lowered deadline_of (get c.self.inside.kept) (get kept) times key c.args.entry c.self.invariant.bounded within
          c.insert_reserved-key.ensures.updates.others c.insert_reserved-key.ensures.updates.changed;
    })
