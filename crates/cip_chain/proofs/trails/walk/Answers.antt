use Rattle.std.proofs.Common.{ℕ, [], List, sym, ap, ◌∙◌, ◌++◌, ◌∷◌, Vec, Global}
use Rattle.cip_world.proofs.StepAt.{at_place}
use Rattle.cip_world.proofs.TrailGrows.{tip, no_trail}
use Rattle.cip_chain.specs.declared.trails.Sought.{Sought}
use Rattle.cip_chain.specs.Seeking.{is_next, sought_behind}
use Rattle.cip_chain.proofs.Walked.{walks_on, walks_past, walk_ends, is_at_end}
use Rattle.cip_chain.proofs.trails.walk.Goals as goal
use Rattle.cip_chain.proofs.trails.walk.Goals.{then-is_next+in_ok-push+else-is_nothing, else-is_next}

pub loop-k-init : goal.loop-k-init
loop-k-init c =
    (c.new-trail.ensures.items ∙ sym (no_trail c.args.at.0 c.args.op), ap (λ (ks : List ℕ). sought_behind [] (tip ks)) (sym (no_trail c.args.at.0 c.args.op)))

pub loop-k-preserved : goal.loop-k-preserved
loop-k-preserved c =
    let at = at_place c.args.journal.now c.loop-k.k c.index-journal-k.result c.loop-k-test.true c.index-journal-k.is in
    let test = sym c.is_next.ensures in
    elim c.if-is_next.branch [
      | then-is_next+in_ok-push+else-is_nothing w ↦
          let so = walks_on c.args.journal.now c.loop-k.k c.index-journal-k.result c.args.at.0 c.args.op at
          (ap (λ (x : Sought). is_next c.args.at.0 c.args.op x c.index-journal-k.result) (sym c.loop-k.invariant.1) ∙ test ∙ w.if-is_next.true) in (
            ap (λ (v : Vec ℕ Global). v.items) w.trail-is ∙ w.in_ok-push.ensures.items ∙ ap (λ (ks : List ℕ). ks ++ c.loop-k.k ∷ []) c.loop-k.invariant.0
                ∙ sym so.0,
            w.sought-is ∙ w.behind-sought.ensures ∙ sym so.1,
          )
      | else-is_next w ↦
          let so = walks_past c.args.journal.now c.loop-k.k c.index-journal-k.result c.args.at.0 c.args.op at
          (ap (λ (x : Sought). is_next c.args.at.0 c.args.op x c.index-journal-k.result) (sym c.loop-k.invariant.1) ∙ test ∙ w.if-is_next.false) in
          (ap (λ (v : Vec ℕ Global). v.items) w.trail-is ∙ c.loop-k.invariant.0 ∙ sym so.0, w.sought-is ∙ c.loop-k.invariant.1 ∙ sym so.1)
    ]

pub returns-then-is_nothing : goal.returns-then-is_nothing
returns-then-is_nothing c =
    let at = at_place c.args.journal.now c.loop-k.k c.index-journal-k.result c.loop-k-test.true c.index-journal-k.is in
    let so = walks_on c.args.journal.now c.loop-k.k c.index-journal-k.result c.args.at.0 c.args.op at
    (ap (λ (x : Sought). is_next c.args.at.0 c.args.op x c.index-journal-k.result) (sym c.loop-k.invariant.1) ∙ sym c.is_next.ensures ∙ c.if-is_next.true) in
    let ends = is_at_end c.behind-sought.result (sym c.is_nothing.ensures ∙ c.if-is_nothing.true) in
    c.in_ok-push.ensures.items ∙ ap (λ (ks : List ℕ). ks ++ c.loop-k.k ∷ []) c.loop-k.invariant.0 ∙ sym so.0
    ∙ sym (walk_ends c.args.journal.now c.args.at.0 c.args.op c.loop-k.k c.loop-k-test.true (so.1 ∙ sym c.behind-sought.ensures ∙ ends))
