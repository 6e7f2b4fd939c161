use Rattle.std.proofs.Common.{◌∙◌, refl, sym, subst}
use Rattle.cip_config.specs.declared.config.ModuleSettings.{ModuleSettings}
use Rattle.cip_routing.specs.Views.{HasFirstCounts}
use Rattle.cip_routing.proofs.AtFirst.{first_shown, shown_nothing}
use Rattle.cip_routing.proofs.first.look_first.Goals as goal

pub returns-then-not-hold_nothing : goal.returns-then-not-hold_nothing
returns-then-not-hold_nothing c = ((λ h. absurd (cc)), λ s. c.if-not-hold_nothing.ensures.1 (shown_nothing c.args.config.now c.args.tables.now s))

pub returns : goal.returns
returns c = (
  (λ h. first_shown c.args.config.now c.args.tables.now
      (subst (λ (x : ModuleSettings). HasFirstCounts x c.args.tables.now) c.settings.ensures.value (c.if-not-are_first_counts.ensures.0 refl))
      (c.if-not-hold_nothing.ensures.0 refl)
      (sym c.as_slice.ensures ∙ c.are_same_rows.ensures.0 h ∙ c.requires)),
  λ s. c.are_same_rows.ensures.1 (c.as_slice.ensures ∙ s.assemblies ∙ sym c.requires),
)
