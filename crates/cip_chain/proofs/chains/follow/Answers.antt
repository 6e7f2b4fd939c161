use Rattle.std.proofs.Common.{List, [], ◌∷◌, ◌++◌, refl, ap, subst, ◌∙◌}
use Rattle.cip_base.specs.declared.numbers.ModuleId.{ModuleId}
use Rattle.cip_chain.specs.Found.{member, IsNext}
use Rattle.cip_chain.proofs.Followed.{reached_first, reached_next, shorter, viewed, fault_of}
use Rattle.cip_chain.proofs.chains.follow.Goals as goal

pub loop-next-init : goal.loop-next-init
loop-next-init g c =
    reached_first c.args.world.now.ledger.plan c.args.world.now.ledger.journal c.args.at.0 c.args.op c.in_ok-here.here c.put.new.modules.items
    c.in_ok-here.ensures.ok
    (c.in_ok-put.ensures ∙ ap (λ (ms : List ModuleId). ms ++ c.in_ok-here.here.at ∷ []) c.new-modules.ensures.items)

pub loop-next-smaller : goal.loop-next-smaller
loop-next-smaller g c =
    let t = c.args.world.now.ledger.plan in
    let j = c.args.world.now.ledger.journal in
    let r = c.loop-next.invariant in
    shorter t j c.loop-next.here c.in-Ok-Hop.next r.hop r.seen
    (subst (IsNext t j (member c.loop-next.here r.hop)) c.in-Ok-Hop.field-0-is (c.in-Ok-Hop.ensures.ok r.hop r.seen))

pub loop-next-preserved : goal.loop-next-preserved
loop-next-preserved g c =
    let t = c.args.world.now.ledger.plan in
    let j = c.args.world.now.ledger.journal in
    let r = c.loop-next.invariant in
    reached_next t j c.args.at.0 c.args.op c.loop-next.here c.in-Ok-Hop.next c.loop-next.modules.items c.put-in-Ok-Hop.new.modules.items r
    (subst (IsNext t j (member c.loop-next.here r.hop)) c.in-Ok-Hop.field-0-is (c.in-Ok-Hop.ensures.ok r.hop r.seen)) c.in_ok-put-in-Ok-Hop.ensures

pub returns-in-Ok-End-clause-ok : goal.returns-in-Ok-End-clause-ok
returns-in-Ok-End-clause-ok g c =
    let t = c.args.world.now.ledger.plan in
    let j = c.args.world.now.ledger.journal in
    viewed t j c.args.at.0 c.args.op c.loop-next.here c.loop-next.modules.items
    (record { modules = c.loop-next.modules.items; end = record { consume = c.in-Ok-End.consume; produce = c.in-Ok-End.produce } })
    c.requires.run c.loop-next.invariant
    (subst (IsNext t j (member c.loop-next.here c.loop-next.invariant.hop)) c.in-Ok-End.field-0-is
    (c.in-Ok-End.ensures.ok c.loop-next.invariant.hop c.loop-next.invariant.seen)) refl

pub returns-in-Err-clause-fault : goal.returns-in-Err-clause-fault
returns-in-Err-clause-fault g c =
    fault_of c.args.world.now.ledger.plan c.args.world.now.ledger.journal c.args.at.0 c.args.op c.loop-next.here c.loop-next.modules.items c.in-Err.fault
    c.loop-next.invariant (c.in-Err.ensures.fault c.loop-next.invariant.hop c.loop-next.invariant.seen)
