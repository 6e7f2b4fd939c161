-- The command that asks for an open: the row that it meets, whom it is answered to, and that it asks nothing else. What is proved of runs speaks of it through
-- these alone.
use Rattle.std.proofs.Common.{◌≡◌, ℕ, true, false, List, refl, sym, ap, subst, ◌∙◌, Some, None}
use Rattle.cip_base.specs.declared.timing.Timing.{Timing}
use Rattle.cip_open.specs.Open.{Open}
use Rattle.cip_pending.specs.declared.entry.UpSide.TheVariants.{Local}
use Rattle.cip_target.specs.declared.identity.IdentityFields.{IdentityFields}
use Rattle.cip_config.specs.declared.config.ModuleSettings.{ModuleSettings}
use Rattle.cip_event.specs.declared.event.Command.{Command}
use Rattle.cip_event.specs.declared.event.OpenParams.{OpenParams}
use Rattle.cip_event.specs.declared.event.LargeParams.{LargeParams}
use Rattle.cip_event.specs.Params.{widened}
use Rattle.cip_event.specs.declared.event.Command.TheVariants as commands
use Rattle.cip_event.specs.declared.event.Event.TheVariants as events
use Rattle.cip_routing.specs.CommandRows.{op_row}
use Rattle.cip_routing.specs.State.{State}
use Rattle.cip_routing.specs.Table.{open_of, asked_open, open_command_effects, command_effects}
use Rattle.cip_laws.specs.Tells.{command_asker, command_row}

module _ (i : IdentityFields) where
  one_of : (p q : ℕ × Open) → Some p ≡ Some q → p ≡ q
  one_of p q e = cc

  op_asked : (c : Command) (p q : ℕ × Open) → asked_open i c ≡ Some p → asked_open i c ≡ Some q → p ≡ q
  op_asked c p q a b = let both : Some p ≡ Some q = sym a ∙ b in cc

  -- a command asks for one open
  pub one_open : (c d : Command) (p q : ℕ × Open) → c ≡ d → asked_open i c ≡ Some p → asked_open i d ≡ Some q → p ≡ q
  one_open c d p q same a b = op_asked c p q a (ap (asked_open i) same ∙ b)

  -- a command that asks for no open is another
  pub no_open : (c d : Command) (p : ℕ × Open) → c ≡ d → asked_open i c ≡ Some p → asked_open i d ≡ None → ⊥
  no_open c d p same a b = let no : Some p ≡ None = sym a ∙ ap (asked_open i) same ∙ b in cc

  pub no_open_event : (c d : Command) (p : ℕ × Open) → events.Command c ≡ events.Command d → asked_open i c ≡ Some p → asked_open i d ≡ None → ⊥
  no_open_event c d p same = no_open c d p (let one : c ≡ d = cc in one)

  -- what holds of each command that asks for an open
  pub each_open : (P : Command → ℕ → Open → Type 0)
      → ((op : ℕ) (timing : Timing) (path : List ℕ) (params : OpenParams)
      → P (commands.Open op timing path params) op (open_of i false timing path (widened params)))
      → ((op : ℕ) (timing : Timing) (path : List ℕ) (params : LargeParams)
      → P (commands.LargeOpen op timing path params) op (open_of i true timing path params))
      → (c : Command) (op : ℕ) (o : Open) → asked_open i c ≡ Some (op, o) → P c op o
  each_open P small large (commands.Open n timing path params) op o e =
      subst (λ (x : ℕ × Open). P (commands.Open n timing path params) x.0 x.1) (one_of (n, open_of i false timing path (widened params)) (op, o) e)
      (small n timing path params)
  each_open P small large (commands.LargeOpen n timing path params) op o e =
      subst (λ (x : ℕ × Open). P (commands.LargeOpen n timing path params) x.0 x.1) (one_of (n, open_of i true timing path params) (op, o) e)
      (large n timing path params)
  each_open P small large (commands.Close n of timing) op o e = absurd (cc)
  each_open P small large (commands.Send n timing path asked) op o e = absurd (cc)
  each_open P small large (commands.Enter of bytes) op o e = absurd (cc)
  each_open P small large (commands.Set instance bytes) op o e = absurd (cc)
  each_open P small large (commands.Produce instance) op o e = absurd (cc)

  pub asks_asker : (c : Command) (op : ℕ) (o : Open) → asked_open i c ≡ Some (op, o) → command_asker c ≡ Some (Local op)
  asks_asker = each_open (λ c op o. command_asker c ≡ Some (Local op)) (λ op timing path params. refl) (λ op timing path params. refl)

  pub asks_row : (s : State) (c : Command) (op : ℕ) (o : Open) → asked_open i c ≡ Some (op, o) → command_row s c ≡ op_row s op
  asks_row s = each_open (λ c op o. command_row s c ≡ op_row s op) (λ op timing path params. refl) (λ op timing path params. refl)

pub asks_effects : (config : ModuleSettings) (s : State) (c : Command) (op : ℕ) (o : Open) → asked_open config.identity c ≡ Some (op, o)
    → command_effects config s c ≡ open_command_effects config s op o
asks_effects config s =
    each_open config.identity (λ c op o. command_effects config s c ≡ open_command_effects config s op o) (λ op timing path params. refl)
    (λ op timing path params. refl)

-- under another op of the same number
pub asks_as : (i : IdentityFields) (c : Command) (op n : ℕ) (o : Open) → op ≡ n → asked_open i c ≡ Some (op, o) → asked_open i c ≡ Some (n, o)
asks_as i c op n o same e = e ∙ ap (λ (k : ℕ). Some (k, o)) same
