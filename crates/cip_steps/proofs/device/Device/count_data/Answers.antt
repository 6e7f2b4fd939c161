use Rattle.std.proofs.Common.{ℕ, Option, refl, ap, ◌∙◌, Some}
use Rattle.cip_hops.specs.Hops.{first_after}
use Rattle.cip_steps.specs.Code.Device.{state_of_device}
use Rattle.cip_steps.specs.Code.Made.{counted_by}
use Rattle.cip_routing.specs.State.{State}
use Rattle.cip_steps.proofs.Made.{counted_from, counts_next, counts_all, counts_done, counts_fewer}
use Rattle.cip_routing.proofs.Walks.{hop_fewer}
use Rattle.cip_steps.proofs.device.Device.count_data.Goals as goal

pub loop-hop-init : goal.loop-hop-init
loop-hop-init c = record { config = refl; state = counts_all c.args.instance (state_of_device c.args.self.now) }

pub loop-hop-smaller-in-Some-count_for : goal.loop-hop-smaller-in-Some-count_for
loop-hop-smaller-in-Some-count_for c =
    counts_fewer c.loop-hop.self.hops c.counts.new.self.hops c.loop-hop.after c.in-Some.hop.now (Some c.in-Some-count_for.count) c.is_within.ensures
    (c.in-Some.ensures ∙ ap (λ a. first_after a c.loop-hop.self.hops) c.as_ref.ensures.value)
    (ap (λ (s : State). s.hops) c.counts.ensures.after)

pub loop-hop-preserved-in-Some-count_for : goal.loop-hop-preserved-in-Some-count_for
loop-hop-preserved-in-Some-count_for c =
    let s : State = state_of_device c.loop-hop.self in
    let hop = c.in-Some.hop.now in record {
      config = c.counts.ensures.config ∙ c.loop-hop.invariant.config;
      state = ap (counted_from c.args.instance (Some hop.opening.triad)) c.counts.ensures.after
          ∙ ap (λ (o : Option ℕ). counted_from c.args.instance (Some hop.opening.triad) (record s { hops = counted_by s.hops hop.opening.triad o }))
          c.in-Some-count_for.ensures
          ∙ counts_next c.args.instance c.loop-hop.after s hop c.is_within.ensures
          (c.in-Some.ensures ∙ ap (λ a. first_after a c.loop-hop.self.hops) c.as_ref.ensures.value)
          ∙ c.loop-hop.invariant.state;
    }

pub loop-hop-smaller : goal.loop-hop-smaller
loop-hop-smaller c = hop_fewer c.loop-hop.self.hops c.is_within.ensures c.loop-hop.after c.in-Some.hop.now
    (c.in-Some.ensures ∙ ap (λ a. first_after a c.loop-hop.self.hops) c.as_ref.ensures.value)

pub loop-hop-preserved : goal.loop-hop-preserved
loop-hop-preserved c =
    let s : State = state_of_device c.loop-hop.self in
    let hop = c.in-Some.hop.now in record {
      config = c.loop-hop.invariant.config;
      state = ap (λ (o : Option ℕ). counted_from c.args.instance (Some hop.opening.triad) (record s { hops = counted_by s.hops hop.opening.triad o }))
          c.in_default-count_for.ensures
          ∙ counts_next c.args.instance c.loop-hop.after s hop c.is_within.ensures
          (c.in-Some.ensures ∙ ap (λ a. first_after a c.loop-hop.self.hops) c.as_ref.ensures.value)
          ∙ c.loop-hop.invariant.state;
    }

pub returns-clause-after : goal.returns-clause-after
returns-clause-after c =
    counts_done c.args.instance c.loop-hop.after (state_of_device c.loop-hop.self)
    (c.in_default.ensures ∙ ap (λ a. first_after a c.loop-hop.self.hops) c.as_ref.ensures.value)
    ∙ c.loop-hop.invariant.state
