-- The tables that the first state of a config is shown by.
use Rattle.std.proofs.Common.{◌≡◌, List, [], ◌∷◌, length, refl, sym, ap, subst, ◌∙◌, map, arith}
use Rattle.std.specs.Prelude.{filter_map}
use Rattle.std.specs.FinMap as finite
use Rattle.std.specs.Ordering.{nat_cmp}
use Rattle.cip_base.specs.Triads.{triad_cmp}
use Rattle.cip_pending.specs.declared.entry.Entry.{Entry}
use Rattle.cip_hops.specs.declared.hop.Held.{Held}
use Rattle.cip_hops.specs.Hops.{as_hop}
use Rattle.cip_config.specs.declared.config.ModuleSettings.{ModuleSettings}
use Rattle.cip_routing.specs.declared.tables.Tables.{Tables}
use Rattle.cip_routing.specs.Rising.{IsRising}
use Rattle.cip_routing.specs.State.{initial_state}
use Rattle.cip_routing.specs.Views.{row_of, hop_row_of, assemblies_of, ShowsState, HasFirstCounts, HoldsNothing}

no_items : {X : Type 0} (xs : List X) → length xs ≡ 0 → xs ≡ []
no_items [] e = refl
no_items (x ∷ xs) e = cc

no_pendings : finite.entries (finite.empty {X = Entry} {R = nat_cmp}) ≡ []
no_pendings = no_items (finite.entries (finite.empty {X = Entry} {R = nat_cmp})) (sym (finite.len-entries (finite.empty {X = Entry} {R = nat_cmp}))
    ∙ finite.len-empty nat_cmp Entry)

no_connections : finite.entries (finite.empty {X = Held} {R = triad_cmp}) ≡ []
no_connections = no_items (finite.entries (finite.empty {X = Held} {R = triad_cmp})) (sym (finite.len-entries (finite.empty {X = Held} {R = triad_cmp}))
    ∙ finite.len-empty triad_cmp Held)

module _ (config : ModuleSettings) (tables : Tables) where
  shown_pendings : map row_of (finite.entries (initial_state config).pendings.entries) ≡ []
  shown_pendings = ap (map row_of) no_pendings

  shown_hops : map hop_row_of (filter_map (λ e. as_hop e.1) (finite.entries (initial_state config).hops.held)) ≡ []
  shown_hops = ap (λ es. map hop_row_of (filter_map (λ e. as_hop e.1) es)) no_connections

  pub first_shown : HasFirstCounts config tables → HoldsNothing tables → tables.assemblies ≡ assemblies_of (initial_state config)
      → ShowsState (initial_state config) tables
  first_shown counts nothing assemblies = record {
    now = counts.now;
    last_id = counts.last_id;
    last_number = counts.last_number;
    pendings = nothing.pendings ∙ sym shown_pendings;
    hops = nothing.hops ∙ sym shown_hops;
    assemblies = assemblies;
    ops = nothing.ops;
    rising = subst IsRising (sym nothing.ops) (λ i j l h. omega arith);
  }

  pub shown_counts : ShowsState (initial_state config) tables → HasFirstCounts config tables
  shown_counts s = record { now = s.now; last_id = s.last_id; last_number = s.last_number }

  pub shown_nothing : ShowsState (initial_state config) tables → HoldsNothing tables
  shown_nothing s = record { pendings = s.pendings ∙ shown_pendings; hops = s.hops ∙ shown_hops; ops = s.ops }
