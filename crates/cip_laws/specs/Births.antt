-- Which connection an event begins, and with which ids.
use Rattle.std.specs.Prelude.{◌≡◌, ℕ, List, [], ◌∷◌, ◌⊎◌, Option, Some, None, option_and_then}
use Rattle.cip_hops.specs.declared.opening.Opening.{Opening}
use Rattle.cip_hops.specs.declared.opening.OwnIds.{OwnIds}
use Rattle.cip_hops.specs.Sides.{own_ids}
use Rattle.cip_config.specs.declared.config.ModuleSettings.{ModuleSettings}
use Rattle.cip_event.specs.declared.event.Event.{Event}
use Rattle.cip_routing.specs.Effects.{Effect, Begins, Accepts}
use Rattle.cip_routing.specs.State.{State}
use Rattle.cip_routing.specs.Table.{decide}
use Rattle.cip_laws.specs.Histories.{Turn, state_after}

abbrev pub opened_by : Effect → Option Opening
opened_by (Begins sending opening) = Some opening
opened_by (Accepts opening o link) = Some opening
opened_by e = None

abbrev pub or_else : {X : Type 0} → Option X → Option X → Option X
or_else None y = y
or_else (Some x) y = Some x

abbrev pub first_opened : List Effect → Option Opening
first_opened [] = None
first_opened (e ∷ es) = or_else (opened_by e) (first_opened es)

-- what an event opens, whether it goes on by a link or ends here
abbrev pub born : ModuleSettings → State → Event → Option Opening
born config s event = option_and_then first_opened (decide config s event)

-- at a turn, with those before it
abbrev pub Past : (List Turn → Turn → Type 0) → List Turn → Type 0
Past P [] = ⊥
Past P (turn ∷ turns) = P turns turn ⊎ Past P turns

-- the turn opens this connection, and draws these ids for it
pub record IsBirth (config : ModuleSettings) (opening : Opening) (ids : OwnIds) (before : List Turn)
    (turn : Turn) : Type 0 where
  pub is : born config (state_after config before) turn.event ≡ Some opening
  pub ids_are : ids ≡ own_ids (state_after config before).hops.next opening

abbrev pub HasId : OwnIds → ℕ → Type 0
HasId ids id = (ids.up ≡ Some id) ⊎ (ids.down ≡ Some id)
