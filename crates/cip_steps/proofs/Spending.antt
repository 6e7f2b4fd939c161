-- What a command does begins with its op.
use Rattle.std.proofs.Common.{◌≡◌, ℕ, Bool, true, false, cond, sym, ap, subst, ◌∙◌, Some, None, List, []}
use Rattle.cip_pending.specs.declared.entry.UpSide.{UpSide}
use Rattle.cip_pending.specs.declared.entry.UpSide.TheVariants.{Link, Local}
use Rattle.cip_hops.specs.Hops.{Hops, IsOpFree}
use Rattle.cip_config.specs.declared.config.ModuleSettings.{ModuleSettings}
use Rattle.cip_event.specs.declared.event.Output.{Output}
use Rattle.cip_steps.specs.Code.Does.{Does}
use Rattle.cip_routing.specs.Effects.{Effect, applied}
use Rattle.cip_routing.specs.Code.Fit.{AreSpent}
use Rattle.cip_steps.specs.Code.Ready.{IsAsked}
use Rattle.cip_routing.specs.State.{State, is_spent, spent_with}
use Rattle.cip_routing.specs.Table.{with_spending}

-- the op first, and then the rest from there
pub spending : (config : ModuleSettings) (s mid new : State) (up : UpSide) (es : List Effect) (outs : List Output)
    → mid ≡ applied config s (with_spending up []) → Does config mid es new outs → Does config s (with_spending up es) new outs
spending config s mid new (Link port address number) es outs e d = subst (λ (x : State). Does config x es new outs) e d
spending config s mid new (Local op) es outs e d =
    let from : Does config (record s { ops = spent_with op s.ops }) es new outs = subst (λ (x : State). Does config x es new outs) e d in
    record { state = from.state; out = from.out }

-- what came in by a link uses up none
pub asked_alone : (P : List Effect → Type 0) (up : UpSide) (es : List Effect) → IsAsked up → P (with_spending up es) → P es
asked_alone P (Link port address number) es asked p = p
asked_alone P (Local op) es asked p = absurd asked

-- an op that was not used is that of no connection
pub new_op : (h : Hops) (ops : List ℕ) (op : ℕ) → AreSpent h ops → is_spent op ops ≡ false → IsOpFree h (Some op)
new_op h ops op spent fresh = record {
  differs = λ triad x o at one by.
      let same : op ≡ o = cc in
      let used : is_spent op ops ≡ true = ap (λ n. is_spent n ops) same ∙ spent triad x o at by in
      let both : false ≡ true = sym fresh ∙ used in
      cc;
}

pub no_op : (h : Hops) → IsOpFree h None
no_op h = record { differs = λ triad x o at one by. cc }

-- of two, the first, where the test holds
pub if_true : {X : Type 0} (b : Bool) (x y z : X) → z ≡ cond b x y → b ≡ true → z ≡ x
if_true true x y z e t = e
if_true false x y z e t = absurd (cc)
