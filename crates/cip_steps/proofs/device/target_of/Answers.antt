use Rattle.std.proofs.Common.{List, subst, sym}
use Rattle.std.specs.Prelude.{IsTrue}
use Rattle.std.specs.List.{list_all}
use Rattle.cip_target.specs.declared.config.AssemblyConfig.{AssemblyConfig}
use Rattle.cip_target.specs.Assemblies.{is_assembly}
use Rattle.cip_config.proofs.SettingsLemmas.{assemblies_fit}
use Rattle.cip_steps.proofs.device.target_of.Goals as goal

pub new-requires : goal.new-requires
new-requires c = subst (λ (z : List AssemblyConfig). IsTrue (list_all is_assembly z)) (sym c.as_slice.ensures)
    (assemblies_fit c.settings-settings.result.now c.settings-settings.ensures.legal)
