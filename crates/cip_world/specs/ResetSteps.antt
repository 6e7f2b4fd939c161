-- An entry of a run in which a module is reset (Volume 1, chapter 5, Identity object, service
-- Reset).
use Rattle.std.specs.Prelude.{◌≡◌, ℕ, ◌∷◌}
use Rattle.cip_config.specs.declared.config.ModuleSettings.{ModuleSettings}
use Rattle.cip_laws.specs.Histories.{Turn}
use Rattle.cip_laws.specs.Resets.{ResetIn}
use Rattle.cip_world.specs.declared.journal.Entry.{Entry}
use Rattle.cip_world.specs.Journals.{Journal, part}

-- the entry, behind these, is a turn of module m in which it is reset
pub record IsResetBy (config : ModuleSettings) (m : ℕ) (e : Entry) (before : Journal) : Type 0 where
  pub turn : Turn
  pub newest : part m (e ∷ before) ≡ turn ∷ part m before
  pub reset : ResetIn config (part m before) turn
