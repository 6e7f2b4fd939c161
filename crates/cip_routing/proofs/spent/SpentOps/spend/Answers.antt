use Rattle.std.proofs.Common.{◌∙◌, sym, subst, ℕ, List, Err}
use Rattle.std.specs.Prelude.{is_ok}
use Rattle.cip_routing.specs.Rising.{IsRising, IsPlace}
use Rattle.cip_routing.proofs.OpsLemmas.{insert_is, rising_insert, either_rising}
use Rattle.cip_routing.proofs.spent.SpentOps.spend.Goals as goal

pub invariant_of-self : goal.invariant_of-self
invariant_of-self c =
    let place = subst (λ (xs : List ℕ). IsPlace c.args.op xs (Err c.in-Err.at)) c.deref.ensures.value c.in-Err.ensures in
    record {
      rising = subst IsRising (sym c.insert.ensures.items)
          (either_rising (is_ok c.insert.result) _ _ (rising_insert c.args.op c.args.self.now.ops.items c.in-Err.at c.args.self.now.rising place.0 place.1
          place.2) c.args.self.now.rising);
    }

pub returns : goal.returns
returns c =
    let place = subst (λ (xs : List ℕ). IsPlace c.args.op xs (Err c.in-Err.at)) c.deref.ensures.value c.in-Err.ensures in
    c.in-Ok.ensures.items ∙ insert_is c.args.op c.args.self.now.ops.items c.in-Err.at place.0 place.1 place.2
