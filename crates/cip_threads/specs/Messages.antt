-- What a worker's message says.
use Rattle.std.specs.Prelude.{◌≡◌, List, map}
use Rattle.cip_config.specs.declared.config.ModuleSettings.{ModuleSettings}
use Rattle.cip_laws.specs.Histories.{Turn, IsHistory, state_after}
use Rattle.cip_routing.specs.State.{State}
use Rattle.cip_routing.specs.Views.{ShowsState}
use Rattle.cip_threads.specs.declared.views.TakenTurn.{TakenTurn}
use Rattle.cip_threads.specs.declared.views.MessageView.{MessageView}

abbrev pub turn_of : TakenTurn → Turn
turn_of done = record { event = done.event; outputs = done.outputs }

abbrev pub turns_of : List TakenTurn → List Turn
turns_of = map turn_of

-- the history leads from the first state of the config to this one
pub record Leads (config : ModuleSettings) (history : List TakenTurn) (s : State) : Type 0 where
  pub leads : IsHistory config (turns_of history)
  pub state : s ≡ state_after config (turns_of history)

-- the history leads from the first state of the config to the state that the tables show
pub record IsTold (told : MessageView) : Type 0 where
  pub history : IsHistory told.config (turns_of told.history)
  pub shows : ShowsState (state_after told.config (turns_of told.history)) told.tables
