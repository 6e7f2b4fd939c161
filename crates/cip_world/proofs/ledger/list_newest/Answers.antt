use Rattle.std.proofs.Common.{◌++◌, ◌∙◌, sym, ap, subst, List}
use Rattle.cip_event.specs.declared.frame.FrameName.{FrameName}
use Rattle.cip_world.specs.Names.{AreRising}
use Rattle.cip_world.proofs.Waits.{before_mid, one_more}
use Rattle.cip_world.proofs.ledger.list_newest.Goals as goal

pub add-requires : goal.add-requires
add-requires c =
    let more = one_more c.args.topology.now c.args.at.0 c.args.entry c.loop-looked.looked c.args.outputs.now
    c.index-outputs-output.result c.loop-looked-test.true
    c.index-outputs-output.is (sym c.arrives.ensures ∙ c.if-arrives.true) in
    before_mid c.loop-looked.listed _ _
    (subst AreRising (sym c.loop-looked.invariant.0 ∙ ap (λ (x : List FrameName). c.loop-looked.listed ++ x) more) c.requires.rising)
