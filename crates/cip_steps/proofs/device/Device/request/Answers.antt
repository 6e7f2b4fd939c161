use Rattle.std.proofs.Common.{◌≡◌, sym, ap, subst, ◌∙◌, List, ℕ}
use Rattle.cip_message.specs.Received.{IsReceived}
use Rattle.cip_unconnected.specs.declared.unconnected.TheConstants.{UNCONNECTED_SEND}
use Rattle.cip_open.specs.Kinds.{open_service}
use Rattle.cip_close.specs.declared.request.TheConstants.{FORWARD_CLOSE}
use Rattle.cip_pending.specs.declared.entry.UpSide.TheVariants.{Link}
use Rattle.cip_config.specs.declared.config.ModuleSettings.{ModuleSettings}
use Rattle.cip_routing.specs.RequestRows.{RequestRow, UnconnectedSend, ForwardOpen, ForwardClose, request_row}
use Rattle.cip_steps.specs.Code.Device.{state_of_device}
use Rattle.cip_steps.specs.Code.Reacts.{Reacts}
use Rattle.cip_routing.specs.Table.{request_effects}
use Rattle.cip_steps.proofs.CameIn.{SaysOf, came_in}
use Rattle.cip_steps.proofs.InPlace.{narrowed}
use Rattle.cip_steps.proofs.device.Device.request.Goals as goal

pub returns-in-UnconnectedSend : goal.returns-in-UnconnectedSend
returns-in-UnconnectedSend c =
    let m = c.args.self.now in
    let b = c.args.bytes.now in
    let new = c.unconnected_send.new.self in
    let d = c.in-UnconnectedSend.data_.now in
    let e = c.in-UnconnectedSend.ensures.row ∙ ap (λ (config : ModuleSettings). request_row config c.args.port b) c.settings.ensures.value in
    subst (λ (row : RequestRow). Reacts c.args.making (λ came. came ≡ b) m new
    (request_effects m.config (state_of_device m) (Link c.args.port c.args.from.now c.args.number) row) c.unconnected_send.result) e
    (subst (λ (from : List ℕ). Reacts c.args.making (λ came. came ≡ b) m new
    (request_effects m.config (state_of_device m) (Link c.args.port from c.args.number) (UnconnectedSend d)) c.unconnected_send.result) c.copy.ensures
    (narrowed m new c.args.making (IsReceived UNCONNECTED_SEND d) (λ came. came ≡ b) _ c.unconnected_send.result
    (λ came is. subst (IsReceived UNCONNECTED_SEND d) (sym is) (subst (SaysOf b) (sym e) (came_in m.config c.args.port b))) c.unconnected_send.ensures))

pub returns-in-ForwardOpen : goal.returns-in-ForwardOpen
returns-in-ForwardOpen c =
    let m = c.args.self.now in
    let b = c.args.bytes.now in
    let new = c.forward_open.new.self in
    let d = c.in-ForwardOpen.data_.now in
    let large = c.in-ForwardOpen.large in
    let e = c.in-ForwardOpen.ensures.row ∙ ap (λ (config : ModuleSettings). request_row config c.args.port b) c.settings.ensures.value in
    subst (λ (row : RequestRow). Reacts c.args.making (λ came. came ≡ b) m new
    (request_effects m.config (state_of_device m) (Link c.args.port c.args.from.now c.args.number) row) c.forward_open.result) e
    (subst (λ (from : List ℕ). Reacts c.args.making (λ came. came ≡ b) m new
    (request_effects m.config (state_of_device m) (Link c.args.port from c.args.number) (ForwardOpen large d)) c.forward_open.result) c.copy.ensures
    (narrowed m new c.args.making (IsReceived (open_service large) d) (λ came. came ≡ b) _ c.forward_open.result
    (λ came is. subst (IsReceived (open_service large) d) (sym is) (subst (SaysOf b) (sym e) (came_in m.config c.args.port b))) c.forward_open.ensures))

pub returns-in-ForwardClose : goal.returns-in-ForwardClose
returns-in-ForwardClose c =
    let m = c.args.self.now in
    let b = c.args.bytes.now in
    let new = c.forward_close.new.self in
    let d = c.in-ForwardClose.data_.now in
    let e = c.in-ForwardClose.ensures.row ∙ ap (λ (config : ModuleSettings). request_row config c.args.port b) c.settings.ensures.value in
    subst (λ (row : RequestRow). Reacts c.args.making (λ came. came ≡ b) m new
    (request_effects m.config (state_of_device m) (Link c.args.port c.args.from.now c.args.number) row) c.forward_close.result) e
    (subst (λ (from : List ℕ). Reacts c.args.making (λ came. came ≡ b) m new
    (request_effects m.config (state_of_device m) (Link c.args.port from c.args.number) (ForwardClose d)) c.forward_close.result) c.copy.ensures
    (narrowed m new c.args.making (IsReceived FORWARD_CLOSE d) (λ came. came ≡ b) _ c.forward_close.result
    (λ came is. subst (IsReceived FORWARD_CLOSE d) (sym is) (subst (SaysOf b) (sym e) (came_in m.config c.args.port b))) c.forward_close.ensures))
