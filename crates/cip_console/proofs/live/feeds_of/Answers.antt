use Rattle.std.proofs.Common.{◌≡◌, ◌<◌, List, sym, subst}
use Rattle.std.specs.Prelude.{All}
use Rattle.std.proofs.lemmas.List.Elements.{All-push}
use Rattle.cip_script.specs.declared.steps.Numbered.{Numbered}
use Rattle.cip_console.specs.Live.{Fed, feeds_of}
use Rattle.cip_console.proofs.LiveLaws.{before, one_fed}
use Rattle.cip_console.proofs.live.feeds_of.Goals as goal

pub loop-numbered-preserved : goal.loop-numbered-preserved
loop-numbered-preserved c =
    let whole = feeds_of c.args.modules c.args.steps.items in
    let so_far = subst (λ (l : List Numbered). before c.loop-numbered.found.items (feeds_of c.args.modules l) ≡ whole) c.in-Some.ensures.items
    c.loop-numbered.invariant.so_far in
    record {
      so_far = subst (λ (l : List Fed). before l (feeds_of c.args.modules c.pop_front.new.self.items) ≡ whole) (sym c.in-Ok.ensures)
          (one_fed c.args.modules c.loop-numbered.found.items whole c.in-Some.numbered c.pop_front.new.self.items c.in_ok-fed.fed so_far
          c.in_ok-fed.ensures.gives);
      within = subst (All (λ (fed : Fed). fed.0.0 < c.args.modules)) (sym c.in-Ok.ensures)
          (All-push (λ (fed : Fed). fed.0.0 < c.args.modules) c.loop-numbered.found.items c.in_ok-fed.fed c.loop-numbered.invariant.within
          c.in_ok-fed.ensures.within);
    }
