use Rattle.std.proofs.Common.{◌≡◌, ◌∙◌, [], sym, subst, refl, Ok, Err}
use Rattle.cip_chassis.specs.Plan.{Plan}
use Rattle.cip_console.specs.declared.playing.PlayFault.{PlayFault}
use Rattle.cip_console.specs.declared.playing.PlayFault.TheVariants.{Stopped, Write, NoMemory}
use Rattle.cip_console.specs.Playing.{Prints, Plays}
use Rattle.cip_console.specs.Transcript.{played}
use Rattle.cip_chain.proofs.Indexes.{index_later}
use Rattle.cip_console.proofs.Grows.{played_grows}
use Rattle.cip_console.proofs.Running.{running_on, running_step, running_ends, running_stops, running_front, running_unwritten, stop_unwritten, none_popped}
use Rattle.cip_console.proofs.console.run_steps.Goals as goal

pub loop-numbered-preserved : goal.loop-numbered-preserved
loop-numbered-preserved g c =
    let t = c.args.world.now.ledger.plan in
    let j = c.loop-numbered.world.ledger.journal in
    let k = c.play.new.world.ledger.journal in
    let running = running_on t c.args.steps.items _ _ _ j _ _ c.loop-numbered.invariant.running c.in-Some.ensures.items in
    let ended = subst (λ (p : Plan). Plays (played p j c.in-Some.numbered.step) (g.W.Sink.contents c.loop-numbered.writer) (g.W.Sink.contents c.play.new.writer)
    c.loop-numbered.text.items
    c.play.new.text.items k (Ok tt)) c.loop-numbered.invariant.plan c.in-Ok.ensures.plays in
    record {
      stand = c.play.ensures.stand;
      index = index_later c.play.new.index j k c.play.ensures.index (played_grows t j k c.in-Some.numbered.step ended.ends);
      plan = c.play.ensures.plan ∙ c.loop-numbered.invariant.plan;
      taken = λ h. c.loop-numbered.invariant.taken (c.in-Ok.ensures.taken (λ e. absurd (cc)) h);
      running = running_step t c.args.steps.items _ _ _ _ _ j k c.in-Some.numbered c.pop_front.new.self.items running ended;
    }

pub returns-in-Ok-flush-clause-wrote : goal.returns-in-Ok-flush-clause-wrote
returns-in-Ok-flush-clause-wrote g c =
    let t = c.args.world.now.ledger.plan in
    let j = c.loop-numbered.world.ledger.journal in
    let running = running_on t c.args.steps.items _ _ _ j _ _ c.loop-numbered.invariant.running c.in-Some.ensures.items in
    let full = subst (λ (p : Plan). Plays (played p j c.in-Some.numbered.step) (g.W.Sink.contents c.loop-numbered.writer) (g.W.Sink.contents c.play.new.writer)
    c.loop-numbered.text.items
    c.play.new.text.items c.play.new.world.ledger.journal (Err (Stopped c.in-Err-Stopped.fault))) c.loop-numbered.invariant.plan
    (rw c.in-Err-Stopped.field-0-is at c.in-Err-Stopped.ensures.plays) in
    let whole = subst (λ l. Prints (g.W.Sink.contents c.play.new.writer) (g.W.Sink.contents c.flush.new.writer) c.play.new.text.items l [])
    (c.in-Ok-flush.ensures.all refl) c.in-Ok-flush.ensures.ok in
    let (stop, wrote) = running_stops t c.args.steps.items _ _ _ _ _ _ j c.in-Some.numbered c.pop_front.new.self.items _ running full whole in
    rw c.tell_waiting.ensures.contents (rw c.in-Err-Stopped.field-0-is stop, wrote)

pub returns-in-Err-clause-wrote : goal.returns-in-Err-clause-wrote
returns-in-Err-clause-wrote g c =
    let t = c.args.world.now.ledger.plan in
    let j = c.loop-numbered.world.ledger.journal in
    let running = running_on t c.args.steps.items _ _ _ j _ _ c.loop-numbered.invariant.running c.in-Some.ensures.items in
    let full = subst (λ (p : Plan). Plays (played p j c.in-Some.numbered.step) (g.W.Sink.contents c.loop-numbered.writer) (g.W.Sink.contents c.play.new.writer)
    c.loop-numbered.text.items
    c.play.new.text.items c.play.new.world.ledger.journal (Err (Stopped c.in-Err-Stopped.fault))) c.loop-numbered.invariant.plan
    (rw c.in-Err-Stopped.field-0-is at c.in-Err-Stopped.ensures.plays) in
    stop_unwritten t c.args.steps.items _ _ _ _ _ _ j c.in-Some.numbered c.pop_front.new.self.items _ running full c.in-Err.ensures.err

pub returns-in-Err-Write-clause-wrote : goal.returns-in-Err-Write-clause-wrote
returns-in-Err-Write-clause-wrote g c =
    let t = c.args.world.now.ledger.plan in
    let j = c.loop-numbered.world.ledger.journal in
    let running = running_on t c.args.steps.items _ _ _ j _ _ c.loop-numbered.invariant.running c.in-Some.ensures.items in
    running_front t c.args.steps.items _ _ _ _ j c.in-Some.numbered c.pop_front.new.self.items running
    (subst (λ (p : Plan). Plays (played p j c.in-Some.numbered.step) (g.W.Sink.contents c.loop-numbered.writer) (g.W.Sink.contents c.play.new.writer)
    c.loop-numbered.text.items
    c.play.new.text.items c.play.new.world.ledger.journal (Err Write)) c.loop-numbered.invariant.plan
    (rw c.in-Err-Write.field-0-is at c.in-Err-Write.ensures.plays))

pub returns-in-Err-NoMemory-clause-wrote : goal.returns-in-Err-NoMemory-clause-wrote
returns-in-Err-NoMemory-clause-wrote g c =
    let t = c.args.world.now.ledger.plan in
    let j = c.loop-numbered.world.ledger.journal in
    let running = running_on t c.args.steps.items _ _ _ j _ _ c.loop-numbered.invariant.running c.in-Some.ensures.items in
    running_front t c.args.steps.items _ _ _ _ j c.in-Some.numbered c.pop_front.new.self.items running
    (subst (λ (p : Plan). Plays (played p j c.in-Some.numbered.step) (g.W.Sink.contents c.loop-numbered.writer) (g.W.Sink.contents c.play.new.writer)
    c.loop-numbered.text.items
    c.play.new.text.items c.play.new.world.ledger.journal (Err NoMemory)) c.loop-numbered.invariant.plan
    (rw c.in-Err-NoMemory.field-0-is at c.in-Err-NoMemory.ensures.plays))

pub returns-in-Ok-flush-2-clause-wrote : goal.returns-in-Ok-flush-2-clause-wrote
returns-in-Ok-flush-2-clause-wrote g c =
    let t = c.args.world.now.ledger.plan in
    let j = c.loop-numbered.world.ledger.journal in
    let empty = none_popped c.loop-numbered.left.items c.pop_front.new.self.items c.in_default.ensures.items c.pop_front.ensures.rest in
    let running = running_on t c.args.steps.items _ _ _ j _ _ c.loop-numbered.invariant.running empty in
    running_ends t c.args.steps.items _ _ _ _ j running
    (subst (λ l. Prints (g.W.Sink.contents c.loop-numbered.writer) (g.W.Sink.contents c.flush-2.new.writer) c.loop-numbered.text.items l [])
    (c.in-Ok-flush-2.ensures.all refl) c.in-Ok-flush-2.ensures.ok)

pub returns-clause-wrote : goal.returns-clause-wrote
returns-clause-wrote g c =
    running_unwritten c.args.world.now.ledger.plan c.args.steps.items _ _ _ _ c.loop-numbered.world.ledger.journal c.loop-numbered.left.items
    c.loop-numbered.invariant.running
    c.in-Err-flush.ensures.err
