use Rattle.std.proofs.Common.{◌≡◌, ℕ, ◌+◌, drop, List, [], ◌∷◌, ◌++◌, length, vec_items, sym, ap, ◌∙◌, subst}
use Rattle.cip_config.specs.declared.config.ModuleSettings.{ModuleSettings}
use Rattle.cip_config.specs.declared.config.PortConfig.{PortConfig}
use Rattle.cip_chassis.specs.Seats.{IsIndexOf, AreFree, all_seated}
use Rattle.toml.specs.View.{items_view}
use Rattle.cip_topology.specs.ModuleTables.{modules_after}
use Rattle.cip_topology.proofs.Entries.{next_module}
use Rattle.cip_topology.proofs.Indexed.{free_ports, index_push}
use Rattle.cip_topology.proofs.module_tables.modules.Goals as goal

pub seat-requires : goal.seat-requires
seat-requires c =
    let index = subst (λ (ms : List ModuleSettings). IsIndexOf ms c.loop-entry.seats) (sym c.as_slice.ensures.value) c.loop-entry.invariant.1 in
    let free = free_ports _ c.args.links.now c.as_slice.result.now c.loop-entry.seats _ c.in_ok-config.config c.requires index c.in_ok-config.ensures in
    let ports : c.in_ok-config.config.ports ≡ c.as_slice-ports.result.now = ap (λ (s : ModuleSettings). s.ports) (sym c.settings.ensures.value)
    ∙ sym c.as_slice-ports.ensures in
    let count : length c.as_slice.result.now ≡ c.len.result = c.as_slice.ensures.len ∙ sym c.len.ensures in
    subst (λ (n : ℕ). AreFree n c.as_slice-ports.result.now c.loop-entry.seats) count
    (subst (λ (ps : List PortConfig). AreFree (length c.as_slice.result.now) ps c.loop-entry.seats) ports free)

pub loop-entry-preserved : goal.loop-entry-preserved
loop-entry-preserved c =
    let index = subst (λ (ms : List ModuleSettings). IsIndexOf ms c.loop-entry.seats) (sym c.as_slice.ensures.value) c.loop-entry.invariant.1 in
    let more = index_push _ c.args.links.now c.as_slice.result.now c.loop-entry.seats _ c.in_ok-config.config c.requires index c.in_ok-config.ensures in
    let ports : c.in_ok-config.config.ports ≡ c.as_slice-ports.result.now = ap (λ (s : ModuleSettings). s.ports) (sym c.settings.ensures.value)
    ∙ sym c.as_slice-ports.ensures in
    let count : length c.as_slice.result.now ≡ c.len.result = c.as_slice.ensures.len ∙ sym c.len.ensures in
    let seats : all_seated (length c.as_slice.result.now) c.in_ok-config.config.ports c.loop-entry.seats ≡ c.seat.new.seats =
    (λ i. all_seated (count i) (ports i) c.loop-entry.seats) ∙ sym c.in_ok-seat.ensures in
    let modules : c.as_slice.result.now ++ c.in_ok-config.config ∷ [] ≡ vec_items c.push.new.self =
    ap (λ (ms : List ModuleSettings). ms ++ c.in_ok-config.config ∷ []) c.as_slice.ensures.value ∙ sym c.in_ok-push.ensures.items in
    let target = modules_after c.args.links.now [] (items_view c.args.entries.now) in
    let rest = subst (λ (ms : List ModuleSettings). modules_after c.args.links.now ms (items_view (drop c.loop-entry.entry-index c.args.entries.now)) ≡ target)
    (sym c.as_slice.ensures.value) c.loop-entry.invariant.0 in
    let number : c.len-number.result + 1 ≡ length c.as_slice.result.now + 1 = ap (λ n. n + 1) (c.len-number.ensures ∙ sym c.as_slice.ensures.len) in
    let next = next_module c.args.links.now c.as_slice.result.now c.args.entries.now c.loop-entry.entry-index
    (c.len-number.result + 1) c.entry-item.result c.in_ok-config.config target
    c.loop-entry-test.true c.entry-item.is number c.in_ok-config.ensures rest in (
      subst (λ (ms : List ModuleSettings). modules_after c.args.links.now ms (items_view (drop (c.loop-entry.entry-index + 1) c.args.entries.now))
          ≡ target) modules next,
      subst (λ (ms : List ModuleSettings). IsIndexOf ms c.seat.new.seats) modules
          (subst (IsIndexOf (c.as_slice.result.now ++ c.in_ok-config.config ∷ [])) seats more),
    )
