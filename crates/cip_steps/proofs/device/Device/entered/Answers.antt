use Rattle.std.proofs.Common.{Option, refl, sym, ap, subst, ◌∙◌, [], ◌∷◌}
use Rattle.cip_hops.specs.declared.hop.Hop.{Hop}
use Rattle.cip_hops.specs.Hops.{is_hop_by_op}
use Rattle.cip_routing.specs.Table.{enter_effects}
use Rattle.cip_steps.specs.Code.Device.{state_of_device}
use Rattle.cip_steps.specs.Code.Does.{Does}
use Rattle.cip_routing.proofs.Found.{found_held}
use Rattle.cip_event.specs.declared.event.Output.{Output}
use Rattle.cip_event.specs.Filled.{filled}
use Rattle.cip_steps.proofs.Sends.{enters, down_filled}
use Rattle.cip_steps.proofs.device.Device.entered.Goals as goal

pub returns : goal.returns
returns c =
    let m = c.args.self.now in
    let hop = c.in_ok-hop.hop.now in
    let taken = c.in_ok-hop.ensures in
    let bytes = c.args.bytes.now in
    record {
      does = subst (λ (x : Option Hop). Does m.config (state_of_device m) (enter_effects bytes x) (state_of_device m) (filled c.datum_down.result bytes ∷ []))
          (sym taken.1.0)
          (enters m.config (state_of_device m) hop bytes (filled c.datum_down.result bytes) taken.1.1
          (found_held (is_hop_by_op c.args.of) m.hops hop taken.1.0 c.is_within.ensures)
          (ap (λ (o : Output). filled o bytes) c.datum_down.ensures ∙ down_filled hop hop.opening.down c.no_bytes.result bytes));
      same_config = refl;
    }
