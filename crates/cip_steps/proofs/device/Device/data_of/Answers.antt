use Rattle.std.proofs.Common.{◌≡◌, ◌++◌, ◌∷◌, [], List, Vec, Global, ap, sym, ◌∙◌, Some, None}
use Rattle.cip_hops.specs.declared.hop.Hop.{Hop}
use Rattle.cip_hops.specs.Hops.{first_after}
use Rattle.cip_event.specs.declared.event.Output.{Output}
use Rattle.cip_routing.specs.Effects.{datum_up}
use Rattle.cip_steps.specs.Code.Made.{made_all}
use Rattle.cip_routing.proofs.Walks.{opens_above, hop_walks, hop_walked, hop_fewer, opens_all}
use Rattle.cip_steps.proofs.Made.{made_more, made_less, made_done}
use Rattle.cip_steps.proofs.device.Device.data_of.Goals.{then-reads_from+in_ok-bytes+in_ok-put, else-reads_from}
use Rattle.cip_steps.proofs.device.Device.data_of.Goals as goal

pub loop-hop-init : goal.loop-hop-init
loop-hop-init c =
    ap (λ (z : List Output). z ++ made_all c.args.instance c.args.held.now (opens_above None c.args.self.now.hops)) c.new-outputs.ensures.items
    ∙ ap (λ (z : List Hop). made_all c.args.instance c.args.held.now z) (opens_all c.args.self.now.hops)

pub loop-hop-smaller : goal.loop-hop-smaller
loop-hop-smaller c = hop_fewer c.args.self.now.hops c.is_within.ensures c.loop-hop.after c.in-Some.hop.now
    (c.in-Some.ensures ∙ ap (λ a. first_after a c.args.self.now.hops) c.as_ref.ensures.value)

pub loop-hop-preserved : goal.loop-hop-preserved
loop-hop-preserved c =
    let rest : List Hop = opens_above (Some c.in-Some.hop.now.opening.triad) c.args.self.now.hops in
    let left : List Hop = opens_above c.loop-hop.after c.args.self.now.hops in
    let walk : left ≡ c.in-Some.hop.now ∷ rest = hop_walks c.args.self.now.hops c.is_within.ensures c.loop-hop.after c.in-Some.hop.now
    (c.in-Some.ensures ∙ ap (λ a. first_after a c.args.self.now.hops) c.as_ref.ensures.value) in
    elim c.if-reads_from.branch [
      | then-reads_from+in_ok-bytes+in_ok-put w ↦ (
          ap (λ (v : Vec Output Global). v.items ++ made_all c.args.instance c.args.held.now rest) w.outputs-is
          ∙ ap (λ (z : List Output). z ++ made_all c.args.instance c.args.held.now rest) w.in_ok-put.ensures
          ∙ ap (λ (z : Output). (c.loop-hop.outputs.items ++ z ∷ []) ++ made_all c.args.instance c.args.held.now rest)
          (w.datum_up.ensures ∙ ap (datum_up c.in-Some.hop.now.opening.up) w.in_ok-bytes.ensures)
          ∙ made_more c.args.instance c.args.held.now c.in-Some.hop.now rest left walk c.loop-hop.outputs.items (sym w.if-reads_from.ensures)
          ∙ c.loop-hop.invariant)
      | else-reads_from w ↦ (
          ap (λ (v : Vec Output Global). v.items ++ made_all c.args.instance c.args.held.now rest) w.outputs-is
          ∙ made_less c.args.instance c.args.held.now c.in-Some.hop.now rest left walk c.loop-hop.outputs.items (sym w.if-reads_from.ensures)
          ∙ c.loop-hop.invariant)
    ]

pub returns : goal.returns
returns c = made_done c.args.instance c.args.held.now (opens_above c.loop-hop.after c.args.self.now.hops) c.loop-hop.outputs.items
    (hop_walked c.args.self.now.hops c.loop-hop.after (c.in_default.ensures ∙ ap (λ a. first_after a c.args.self.now.hops) c.as_ref.ensures.value))
    ∙ c.loop-hop.invariant
