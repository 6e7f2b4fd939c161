-- How far a journal and the workers' messages go together.
use Rattle.std.specs.Prelude.{◌≡◌, ◌≤◌, ℕ, List, Option, Some, None, get_or, length, reverse, take}
use Rattle.cip_config.specs.declared.config.ModuleSettings.{ModuleSettings}
use Rattle.cip_laws.specs.Histories.{Turn, IsHistory, state_after}
use Rattle.cip_routing.specs.declared.tables.Tables.{Tables}
use Rattle.cip_routing.specs.Views.{ShowsState}
use Rattle.cip_world.specs.Journals.{Journal, part}
use Rattle.cip_threads.specs.declared.views.TakenTurn.{TakenTurn}
use Rattle.cip_threads.specs.declared.message.Followed.{Followed}
use Rattle.cip_threads.specs.Messages.{turns_of}

-- the turns of a message from its first one on
abbrev pub told_by : Followed → List TakenTurn
told_by f = reverse f.message.history

-- those that were met, the newest first
abbrev pub met_of : Followed → List Turn
met_of f = turns_of (reverse (take f.met (told_by f)))

-- what module m did in the journal is what was met of its message
abbrev pub IsMet : Journal → ℕ → Option Followed → Type 0
IsMet j m None = Unit {0}
IsMet j m (Some f) = (f.met ≤ length (told_by f)) × (part m j ≡ met_of f)

-- so it is with each message that is left
abbrev pub AreMet : Journal → List (Option Followed) → Type 0
AreMet j slots = (m : ℕ) → IsMet j m (get_or slots m None)

-- what was met is a history of the config, and these are the tables after it
pub record IsEnded (config : ModuleSettings) (f : Followed) (tables : Tables) : Type 0 where
  pub whole : f.met ≡ length (told_by f)
  pub history : IsHistory config (met_of f)
  pub shows : ShowsState (state_after config (met_of f)) tables
