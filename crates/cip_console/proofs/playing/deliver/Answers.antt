use Rattle.std.proofs.Common.{◌≡◌, ◌+◌, ◌-◌, ◌++◌, ◌∙◌, true, false, List, Err, sym, ap, subst}
use Rattle.cip_chassis.specs.Plan.{Plan}
use Rattle.cip_world.specs.Journals.{Journal}
use Rattle.cip_world.specs.Runs.{IsRun}
use Rattle.cip_world.specs.Waiting.{waiting}
use Rattle.cip_world.specs.Worlds.{DeliversOne, IsOneMore}
use Rattle.cip_world.proofs.Ran.{one_more}
use Rattle.cip_console.specs.declared.playing.PlayFault.{PlayFault}
use Rattle.cip_console.specs.Known.{AppendsFront}
use Rattle.cip_console.specs.Playing.{Prints}
use Rattle.cip_console.specs.Transcript.{deliveries, newest}
use Rattle.cip_transcript.specs.Show.{names_of}
use Rattle.cip_console.proofs.PlayedLaws.{one_played, one_unwritten, unwritten_as, front_so_far, none_waits, all_delivered}
use Rattle.cip_console.proofs.playing.deliver.Goals as goal

pub returns-clause-plays : goal.returns-clause-plays
returns-clause-plays g c =
    all_delivered c.args.world.now.ledger.plan _ _ _ _ _ c.args.limit c.loop-i.i c.loop-i.world.ledger.journal c.loop-i-test.false c.loop-i.invariant.playing

pub returns-in-Ok-false-clause-plays : goal.returns-in-Ok-false-clause-plays
returns-in-Ok-false-clause-plays g c =
    let t = c.args.world.now.ledger.plan in
    let none : IsOneMore t c.loop-i.world.ledger.journal c.deliver_least.new.self.ledger.journal false =
    subst (λ (p : Plan). IsOneMore p c.loop-i.world.ledger.journal c.deliver_least.new.self.ledger.journal false) c.loop-i.invariant.plan
    (subst (IsOneMore c.loop-i.world.ledger.plan c.loop-i.world.ledger.journal c.deliver_least.new.self.ledger.journal) c.in-Ok-false.field-0-test
    c.in-Ok-false.ensures.ok) in
    none_waits t _ _ _ _ _ (c.args.limit - c.loop-i.i) c.loop-i.world.ledger.journal c.deliver_least.new.self.ledger.journal c.loop-i.invariant.playing none.1
    none.0

pub returns-in-Err-clause-plays : goal.returns-in-Err-clause-plays
returns-in-Err-clause-plays g c = front_so_far _ _ _ _ _ _ c.loop-i.invariant.playing

pub loop-i-preserved : goal.loop-i-preserved
loop-i-preserved g c =
    let t = c.args.world.now.ledger.plan in
    let j = c.loop-i.world.ledger.journal in
    let k = c.deliver_least.new.self.ledger.journal in
    let plan = c.deliver_least.ensures.plan ∙ c.loop-i.invariant.plan in
    record {
      stand = c.deliver_least.ensures.stand;
      plan = plan;
      taken = λ h. c.loop-i.invariant.taken (c.in-Ok.ensures.taken (λ e. absurd (cc)) h);
      playing = one_played t _ _ _ _ _ _ _ c.args.limit c.loop-i.i j k c.loop-i-test.true c.loop-i.invariant.playing
          (subst (λ (p : Plan). DeliversOne p j k) c.loop-i.invariant.plan
          (one_more c.loop-i.world.ledger.plan j k c.in-Ok-true.field-0 c.in-Ok-true.field-0-test c.in-Ok-true.ensures.ok))
          (subst (λ (p : Plan). IsRun p k) plan c.show.ensures.run)
          (subst (λ ns. Prints (g.W.Sink.contents c.loop-i.writer) (g.W.Sink.contents c.show.new.writer) c.loop-i.text.items c.show.new.text.items
          (newest ns k)) c.requires.names
          c.in-Ok.ensures.ok);
    }

pub returns-in-Err-show-clause-plays : goal.returns-in-Err-show-clause-plays
returns-in-Err-show-clause-plays g c =
    let t = c.args.world.now.ledger.plan in
    let j = c.loop-i.world.ledger.journal in
    let k = c.deliver_least.new.self.ledger.journal in
    let plan = c.deliver_least.ensures.plan ∙ c.loop-i.invariant.plan in
    unwritten_as (deliveries t c.args.limit c.args.world.now.ledger.journal) (g.W.Sink.contents c.args.writer.now) (g.W.Sink.contents c.show.new.writer)
    c.args.text.now.items
    c.show.new.text.items k c.in-Err-show.fault (λ why e. c.show.ensures.step why (c.in-Err-show.is ∙ ap (λ (f : PlayFault). Err f) e))
    (one_unwritten t _ _ _ _ _ _ c.args.limit c.loop-i.i j k c.loop-i-test.true c.loop-i.invariant.playing
    (subst (λ (p : Plan). DeliversOne p j k) c.loop-i.invariant.plan
    (one_more c.loop-i.world.ledger.plan j k c.in-Ok-true.field-0 c.in-Ok-true.field-0-test c.in-Ok-true.ensures.ok))
    (subst (λ (p : Plan). IsRun p k) plan c.show.ensures.run)
    (subst (λ ns. AppendsFront (g.W.Sink.contents c.loop-i.writer) (g.W.Sink.contents c.show.new.writer) (c.loop-i.text.items ++ newest ns k)) c.requires.names
    c.in-Err-show.ensures.err))
