-- A datum goes on by the connection that was found by its id, and that side is watched anew.
use Rattle.std.proofs.Common.{◌≡◌, ℕ, true, false, not, List, [], ◌∷◌, ◌++◌, refl, sym, ap, subst, ◌∙◌, Option, Some, None, is_some, if◌then◌else◌, ◌==◌}
use Rattle.std.proofs.Common.{length, arith}
use Rattle.std.proofs.lemmas.Bool.Decides.{nat_tests}
use Rattle.std.specs.Option.{option_map_or}
use Rattle.std.specs.FinMap as map
use Rattle.cip_base.specs.declared.triad.Triad.{Triad}
use Rattle.cip_hops.specs.declared.opening.HopUp.{HopUp}
use Rattle.cip_hops.specs.declared.opening.HopUp.TheVariants.{Link as UpLink, Local as UpLocal}
use Rattle.cip_hops.specs.declared.opening.HopDown.{HopDown}
use Rattle.cip_hops.specs.declared.hop.Hop.{Hop}
use Rattle.cip_hops.specs.declared.hop.Side.{Side}
use Rattle.cip_hops.specs.declared.hop.Side.TheVariants.{Up, Down}
use Rattle.cip_hops.specs.declared.hop.Held.TheVariants.{Open}
use Rattle.cip_hops.specs.Hops.{Hops, hop_at, hop_by_up, hop_by_down, is_hop_by_up, is_hop_by_down, up_id_of, down_id_of, HasId, IsWithin, changed, touched}
use Rattle.cip_hops.specs.Hops.{is_link}
use Rattle.cip_hops.proofs.Named.{and_first, is_id_true}
use Rattle.cip_hops.proofs.Touching.{held_open}
use Rattle.cip_config.specs.declared.config.ModuleSettings.{ModuleSettings}
use Rattle.cip_event.specs.declared.event.Output.{Output}
use Rattle.cip_routing.specs.declared.outputs.Writing.{Writing}
use Rattle.cip_routing.specs.DataRows.{DataRow, WrongSize, id_row, below_row, above_row, from_down_row}
use Rattle.cip_routing.specs.Effects.{Effect, Passes, Renews, applied, outputs_of, passed, datum_by, renewed}
use Rattle.cip_steps.specs.Code.Does.{HasDone}
use Rattle.cip_routing.specs.Code.Plans.{own_id, writing_row, written_effects}
use Rattle.cip_routing.specs.State.{State}
use Rattle.cip_routing.specs.Table.{datum_effects, other}
use Rattle.cip_routing.proofs.Found.{found_own}

-- ---- a connection found by an own id

module _ (h : Hops) (w : IsWithin h) (id port : ℕ) (address : List ℕ) (hop : Hop) where
  pub up_named : hop_by_up h id port address ≡ Some hop → HasId up_id_of h id hop.opening.triad
  up_named e =
      let found = found_own (is_hop_by_up id port address) h hop e w.triads in
      record { hop = hop; stands = found.0; named = is_id_true id hop.ids.up (and_first _ _ found.1) }

  pub down_named : hop_by_down h id port address ≡ Some hop → HasId down_id_of h id hop.opening.triad
  down_named e =
      let found = found_own (is_hop_by_down id port address) h hop e w.triads in
      record { hop = hop; stands = found.0; named = is_id_true id hop.ids.down (and_first _ _ found.1) }

-- ---- a side that has an own id is a link, and so it is watched

module _ (h : Hops) (w : IsWithin h) (id : ℕ) (triad : Triad) where
  linked : (side : Side) (n : HasId (own_id side) h id triad) → is_link side n.hop ≡ true
  linked Up n = sym (w.each triad (Open n.hop) (held_open (map.get h.held triad) n.hop n.stands)).up ∙ ap is_some n.named
  linked Down n = sym (w.each triad (Open n.hop) (held_open (map.get h.held triad) n.hop n.stands)).down ∙ ap is_some n.named

  pub renewed_is : (side : Side) (now : ℕ) → HasId (own_id side) h id triad → renewed h triad side now ≡ changed h triad (touched side now)
  renewed_is side now n =
      ap (λ (o : Option Hop). if option_map_or (is_link side) o false then changed h triad (touched side now) else h) n.stands
      ∙ ap (λ b. if b then changed h triad (touched side now) else h) (linked side n)

-- ---- the rows

module _ (config config' : ModuleSettings) (s new : State) (triad : Triad) (hop : Hop) (bytes : List ℕ) (at : hop_at s.hops triad ≡ Some hop)
    (same : config' ≡ config) where
  -- it goes on by the other side
  pub passed_on : (side : Side) → new ≡ record s { hops = renewed s.hops triad side s.now }
      → HasDone config s config' new (Passes triad (other side) bytes ∷ Renews triad side ∷ []) (datum_by (other side) hop bytes ∷ [])
  passed_on side is = record {
    does = record { state = sym is; out = ap (λ (o : Option Hop). passed (other side) o bytes ++ []) at };
    same_config = same;
  }

  -- what an end writes puts nothing out
  silent : (writing : Option Writing) (t : State) → outputs_of config t (written_effects triad bytes writing) ≡ []
  silent None t = refl
  silent (Some w) t = counted w.count t
    where
      counted : (count : Option ℕ) (t : State) → outputs_of config t (written_effects triad bytes (Some (record { instance = w.instance; count = count }))) ≡ []
      counted None t = refl
      counted (Some n) t = refl

  -- it ends here
  pub ended : (writing : Option Writing) → applied config (record s { hops = renewed s.hops triad Up s.now }) (written_effects triad bytes writing) ≡ new
      → HasDone config s config' new (Passes triad Down bytes ∷ Renews triad Up ∷ written_effects triad bytes writing) (datum_by Down hop bytes ∷ [])
  ended writing is = record {
    does = record {
      state = is;
      out = ap (λ (o : Option Hop). passed Down o bytes ++ outputs_of config (record s { hops = renewed s.hops triad Up s.now }) (written_effects triad
          bytes writing)) at
          ∙ ap (λ (rest : List Output). datum_by Down hop bytes ∷ rest) (silent writing _);
    };
    same_config = same;
  }

-- the row by the size and the sides
sized : (n m : ℕ) → n ≡ m → (n == m) ≡ true
sized n m e = grind (arith, nat_tests)

pub up_row : (bytes : List ℕ) (o below : Option Hop) (hop : Hop) (down : HopDown) → o ≡ Some hop → length bytes ≡ hop.opening.ot_size
    → hop.opening.down ≡ down → id_row bytes o below ≡ below_row hop bytes down
up_row bytes o below hop down e size is =
    ap (λ x. id_row bytes x below) e
    ∙ ap (λ b. if not b then WrongSize else below_row hop bytes hop.opening.down) (sized _ _ size)
    ∙ ap (below_row hop bytes) is

pub down_row : (bytes : List ℕ) (o below : Option Hop) (hop : Hop) → o ≡ None → below ≡ Some hop → length bytes ≡ hop.opening.to_size
    → id_row bytes o below ≡ above_row hop hop.opening.up
down_row bytes o below hop none e size =
    ap (λ x. id_row bytes x below) none ∙ ap (from_down_row bytes) e
    ∙ ap (λ b. if not b then WrongSize else above_row hop hop.opening.up) (sized _ _ size)

-- a datum that goes up was passed on, or arrived
pub above_effects : (hop : Hop) (bytes : List ℕ) (up : HopUp)
    → datum_effects bytes (above_row hop up) ≡ Passes hop.opening.triad Up bytes ∷ Renews hop.opening.triad Down ∷ []
above_effects hop bytes (UpLink port address their_id) = refl
above_effects hop bytes (UpLocal op) = refl

-- the effects of the row that an end meets
pub end_effects : (triad : Triad) (bytes : List ℕ) (writing : Option Writing)
    → datum_effects bytes (writing_row triad bytes writing) ≡ Passes triad Down bytes ∷ Renews triad Up ∷ written_effects triad bytes writing
end_effects triad bytes None = refl
end_effects triad bytes (Some w) = refl

-- the same effects, told of another row
pub by_row : (config config' : ModuleSettings) (s new : State) (bytes : List ℕ) (row : DataRow) (es : List Effect) (outs : List Output)
    → datum_effects bytes row ≡ es → HasDone config s config' new es outs → HasDone config s config' new (datum_effects bytes row) outs
by_row config config' s new bytes row es outs is done = subst (λ (l : List Effect). HasDone config s config' new l outs) (sym is) done
