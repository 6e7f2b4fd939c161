use Rattle.std.proofs.Common.{◌∙◌, ◌++◌, ap, subst, Err}
use Rattle.cip_chassis.specs.Plan.{Plan}
use Rattle.cip_world.specs.Waiting.{waiting}
use Rattle.cip_console.specs.declared.playing.PlayFault.{PlayFault}
use Rattle.cip_console.specs.Known.{AppendsFront}
use Rattle.cip_console.specs.Playing.{Prints}
use Rattle.cip_console.specs.Transcript.{end_text, ran}
use Rattle.cip_console.proofs.PlayedLaws.{run_fails, run_played, run_unended, unwritten_as}
use Rattle.cip_console.proofs.playing.run_line.Goals as goal

pub returns-in-Ok-show_end-clause-plays : goal.returns-in-Ok-show_end-clause-plays
returns-in-Ok-show_end-clause-plays g c =
    let k = c.deliver.new.world.ledger.journal in
    run_played c.args.world.now.ledger.plan c.args.limit c.args.world.now.ledger.journal k c.show_end.new.world.ledger.journal _ _ _ _ _ _
    c.in-Ok.ensures.plays c.show_end.ensures.journal
    (subst (λ (p : Plan). Prints (g.W.Sink.contents c.deliver.new.writer) (g.W.Sink.contents c.show_end.new.writer) c.deliver.new.text.items
    c.show_end.new.text.items (end_text (waiting p k))) c.deliver.ensures.plan c.in-Ok-show_end.ensures.ok)

pub returns-in-Err-show_end-clause-plays : goal.returns-in-Err-show_end-clause-plays
returns-in-Err-show_end-clause-plays g c =
    let t = c.args.world.now.ledger.plan in
    let j = c.args.world.now.ledger.journal in
    let k = c.deliver.new.world.ledger.journal in
    unwritten_as (ran t c.args.limit j) (g.W.Sink.contents c.args.writer.now) (g.W.Sink.contents c.show_end.new.writer) c.args.text.now.items
    c.show_end.new.text.items c.show_end.new.world.ledger.journal c.in-Err-show_end.fault
    (λ why e. c.show_end.ensures.step why (c.in-Err-show_end.is ∙ ap (λ (f : PlayFault). Err f) e))
    (run_unended t c.args.limit j k _ _ _ _ _ c.in-Ok.ensures.plays
    (subst (λ (p : Plan). AppendsFront (g.W.Sink.contents c.deliver.new.writer) (g.W.Sink.contents c.show_end.new.writer)
    (c.deliver.new.text.items ++ end_text (waiting p k))) c.deliver.ensures.plan c.in-Err-show_end.ensures.err))

pub returns-in-Err-clause-plays : goal.returns-in-Err-clause-plays
returns-in-Err-clause-plays g c =
    run_fails c.args.world.now.ledger.plan c.args.limit c.args.world.now.ledger.journal _ _ _ _ c.deliver.new.world.ledger.journal c.in-Err.fault
    c.in-Err.ensures.plays
