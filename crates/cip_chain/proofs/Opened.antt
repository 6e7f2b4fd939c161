-- The connection of an op, found by a look at the connections of its module.
use Rattle.std.proofs.Common.{◌≡◌, ℕ, Bool, true, Option, Some, None, refl, sym, ap, ◌∙◌, length, ◌≤◌, arith}
use Rattle.std.specs.Prelude.{slice_get}
use Rattle.std.specs.Option.{option_and_then, option_map}
use Rattle.std.specs.FinMap as finite
use Rattle.std.proofs.lemmas.Bool.{eqb-true, eq-eqb}
use Rattle.std.proofs.lemmas.Option.{slice_get_within}
use Rattle.cip_hops.specs.declared.hop.Held.{Held}
use Rattle.cip_hops.specs.declared.hop.Held.TheVariants.{Opening as IsOpening, Open}
use Rattle.cip_hops.specs.declared.hop.Hop.{Hop}
use Rattle.cip_hops.specs.declared.opening.HopUp.{HopUp}
use Rattle.cip_hops.specs.declared.opening.HopUp.TheVariants.{Link as UpLink, Local as UpLocal}
use Rattle.cip_hops.specs.Hops.{Hops, as_hop, first_hop, hop_by_op, is_hop_by_op, is_id}
use Rattle.cip_hops.specs.Sides.{op_of}
use Rattle.cip_config.specs.declared.config.ModuleSettings.{ModuleSettings}
use Rattle.cip_routing.specs.declared.tables.HopRow.{HopRow}
use Rattle.cip_routing.specs.Views.{hop_row_of}
use Rattle.cip_routing.proofs.Found.{found_own}
use Rattle.cip_laws.proofs.Triads.{own_triads}
use Rattle.cip_chassis.specs.Plan.{Plan}
use Rattle.cip_world.specs.Chains.{HasHop}
use Rattle.cip_world.specs.Journals.{Journal, part}
use Rattle.cip_world.specs.Runs.{IsModule, IsRun, state_in}
use Rattle.cip_world.specs.Worlds.{looked_up}
use Rattle.cip_world.proofs.Parts.{run_history}
use Rattle.cip_chain.specs.Found.{IsNotOpen, IsOpened}
use Rattle.cip_chain.specs.declared.seeking.Here.{Here}

pub has_id : (id : ℕ) (own : Option ℕ) → is_id id own ≡ true → own ≡ Some id
has_id id None t = absurd (cc)
has_id id (Some k) t = ap (λ (i : ℕ). Some i) (eqb-true k id t)

pub id_has : (id : ℕ) (own : Option ℕ) → own ≡ Some id → is_id id own ≡ true
id_has id own e = ap (is_id id) e ∙ eq-eqb id id refl

pub local_op : (op : ℕ) (up : HopUp) → op_of up ≡ Some op → up ≡ UpLocal op
local_op op (UpLink port address c) e = absurd (cc)
local_op op (UpLocal o) e = let same : o ≡ op = cc in ap (λ (n : ℕ). UpLocal n) same

-- a look at a module of the topology
pub look_at : (t : Plan) (j : Journal) (m : ℕ) (config : ModuleSettings) (look : Hops → Option Hop) → IsModule t m config
    → looked_up t j m look ≡ look (state_in config m j).hops
look_at t j m config look is = ap (option_and_then (λ (c : ModuleSettings). look (state_in c m j).hops)) is

is_open : (x : Option Held) (hop : Hop) → option_and_then as_hop x ≡ Some hop → x ≡ Some (Open hop)
is_open None hop e = absurd (cc)
is_open (Some (IsOpening o ids)) hop e = absurd (cc)
is_open (Some (Open g)) hop e = let same : g ≡ hop = cc in ap (λ (h : Hop). Some (Open h)) same

-- what a look comes upon stands there, and passes the test
pub record Looked (t : Plan) (j : Journal) (m : ℕ) (test : Hop → Bool) (hop : Hop) : Type 0 where
  pub has : HasHop t j (record { at = m; hop = hop })
  pub passes : test hop ≡ true

pub looked : (t : Plan) (j : Journal) (m : ℕ) (test : Hop → Bool) (hop : Hop) → IsRun t j → Some hop ≡ looked_up t j m (first_hop test) → Looked t j m test hop
looked t j m test hop run e = by (slice_get t.modules m) refl e
  where
    by : (o : Option ModuleSettings) → slice_get t.modules m ≡ o
        → Some hop ≡ option_and_then (λ (c : ModuleSettings). first_hop test (state_in c m j).hops) o → Looked t j m test hop
    by None is e = absurd (cc)
    by (Some config) is e =
        let own = own_triads config (part m j) (run_history t j m config run is) in
        let found = found_own test (state_in config m j).hops hop (sym e) own in
        let stands = is_open (finite.get (state_in config m j).hops.held hop.opening.triad) hop found.0 in
        record { has = record { config = config; is_module = is; stands = stands }; passes = found.1 }

some_row : (a b : HopRow) → Some a ≡ Some b → a ≡ b
some_row a b e = cc

-- the connection of a row that was found
pub row_of : (row : HopRow) (o : Option Hop) → Some row ≡ option_map hop_row_of o → (hop : Hop) × (Some hop ≡ o) × (row ≡ hop_row_of hop)
row_of row None e = absurd (cc)
row_of row (Some hop) e = (hop, refl, some_row row (hop_row_of hop) e)

-- no row, no connection
pub no_row : (o : Option Hop) → None ≡ option_map hop_row_of o → None ≡ o
no_row None e = refl
no_row (Some hop) e = absurd (cc)

pub opened_at : (t : Plan) (j : Journal) (op : ℕ) (here : Here) → IsRun t j
    → Some here.row ≡ option_map hop_row_of (looked_up t j here.at.0 (λ (hs : Hops). hop_by_op hs op)) → IsOpened t j here.at.0 op here
opened_at t j op here run e =
    let found = row_of here.row (looked_up t j here.at.0 (λ (hs : Hops). hop_by_op hs op)) e in
    let hop : Hop = found.0 in
    let l = looked t j here.at.0 (is_hop_by_op op) hop run found.1 in
    record {
      hop = hop;
      seen = record { has = l.has; row_is = found.2 };
      at_is = refl;
      up_is = local_op op hop.opening.up (has_id op (op_of hop.opening.up) l.passes);
    }

-- where there is no module, no connection is
pub no_module : (t : Plan) (j : Journal) (m op : ℕ) → length t.modules ≤ m → IsNotOpen t j m op
no_module t j m op past x has same up =
    let within = slice_get_within t.modules x.at has.config has.is_module in omega (arith, past, within, same)
