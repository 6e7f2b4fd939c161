-- How many items some values make.
use Rattle.std.proofs.Common.{◌≡◌, ℕ, suc, ◌+◌, ◌<◌, List, [], ◌∷◌, ◌++◌, length, get_or, drop, Ok, refl, sym, ap, ◌∙◌}
use Rattle.toml.specs.declared.value.Value.{Value}
use Rattle.toml.specs.Data.{item}
use Rattle.toml.specs.View.{view, items_view}
use Rattle.toml.proofs.Views.{items_view-drop}
use Rattle.cip_config.specs.declared.config.ModuleSettings.{ModuleSettings}
use Rattle.cip_chassis.specs.declared.links.Link.{Link}
use Rattle.cip_topology.specs.Keys.{Read, ◌>>=◌, item_count}
use Rattle.cip_topology.specs.ModuleTables.{settings_of, modules_after}

pub item_count-items_view : (vs : List Value) → item_count (items_view vs) ≡ length vs
item_count-items_view [] = refl
item_count-items_view (v ∷ vs) = ap suc (item_count-items_view vs)

pub ruleset counts = (item_count-items_view)

-- one more module is read
pub next_module : (links : List Link) (ms : List ModuleSettings) (vs : List Value) (i n : ℕ) (v : Value) (c : ModuleSettings) (r : Read (List ModuleSettings))
    → i < length vs
    → v ≡ get_or vs i v → n ≡ length ms + 1 → settings_of n links ms (view v) ≡ Ok c → modules_after links ms (items_view (drop i vs)) ≡ r
    → modules_after links (ms ++ c ∷ []) (items_view (drop (i + 1) vs)) ≡ r
next_module links ms vs i n v c r lt is count read rest =
    let items : items_view (drop i vs) ≡ item (view v) (items_view (drop (i + 1) vs)) =
    items_view-drop vs i v lt ∙ ap (λ (x : Value). item (view x) (items_view (drop (i + 1) vs))) (sym is) in
    let here : settings_of (length ms + 1) links ms (view v) ≡ Ok c = ap (λ (k : ℕ). settings_of k links ms (view v)) (sym count) ∙ read in
    sym (ap (λ (x : Read ModuleSettings). x >>= λ c. modules_after links (ms ++ c ∷ []) (items_view (drop (i + 1) vs))) here)
    ∙ sym (ap (modules_after links ms) items) ∙ rest
