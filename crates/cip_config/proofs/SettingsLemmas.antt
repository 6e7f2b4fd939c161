-- What legal settings say of their parts.
use Rattle.std.proofs.Common.{◌&&◌, length}
use Rattle.std.specs.Prelude.{IsTrue, nat_le}
use Rattle.std.specs.List.{list_all}
use Rattle.std.proofs.lemmas.Bool.{and_parts}
use Rattle.cip_target.specs.Assemblies.{is_assembly}
use Rattle.cip_config.specs.declared.config.ModuleSettings.{ModuleSettings}
use Rattle.cip_config.specs.Config.{is_settings, is_name, are_counts, are_ports, are_assemblies, instances_differ}

-- each assembly is one
pub assemblies_fit : (s : ModuleSettings) → IsTrue (is_settings s) → IsTrue (list_all is_assembly s.assemblies)
assemblies_fit s h =
    let most = are_ports s.kind s.ports && are_assemblies s.assemblies in
    let counts = and_parts (is_name s.name) (are_counts s && most) h in
    let ports = and_parts (are_counts s) most counts.1 in
    let all = and_parts (are_ports s.kind s.ports) (are_assemblies s.assemblies) ports.1 in
    let room = and_parts (nat_le (length s.assemblies) 64) (list_all is_assembly s.assemblies && instances_differ s.assemblies) all.1 in
    (and_parts (list_all is_assembly s.assemblies) (instances_differ s.assemblies) room.1).0
