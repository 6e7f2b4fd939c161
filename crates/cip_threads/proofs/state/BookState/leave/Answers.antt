use Rattle.std.proofs.Common.{sym, subst, ◌≡◌, ◌∙◌, reverse}
use Rattle.cip_world.specs.Waiting.{waiting}
use Rattle.cip_threads.specs.declared.views.BookView.{BookView}
use Rattle.cip_threads.specs.Books.{count_hands}
use Rattle.cip_threads.specs.Ends.{MayEnd}
use Rattle.cip_threads.specs.Flows.{goes_to}
use Rattle.cip_threads.proofs.Keeping.{finish_is, split_is}
use Rattle.cip_threads.proofs.state.BookState.leave.Goals as goal

pub returns : goal.returns
returns c =
    let s = c.self.inside in
    let k = c.self.invariant.kept in
    let idle : count_hands s.hands.items ≡ 0 = subst (λ (v : BookView). count_hands v.hands ≡ 0) (sym c.self.view_is) c.requires.idle in
    let may = subst (λ (v : BookView). MayEnd v c.args.end) (sym c.self.view_is) c.requires.end in
    let waits = c.in-Ok-merge.ensures.names (goes_to s.topology (reverse s.journal.items)) (waiting s.topology (reverse s.journal.items)) (split_is _ k idle) in
    rw (← c.self.view_is) (finish_is _ _ _ c.args.end k idle c.in-Ok.ensures.feeds c.in-Ok.ensures.size waits (c.in-Ok-merge.ensures.size
    ∙ sym c.self.invariant.frame_count) may)
