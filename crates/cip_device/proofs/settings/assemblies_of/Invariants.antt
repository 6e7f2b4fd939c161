use Rattle.std.proofs.Common.{◌≡◌, map, take}
use Rattle.cip_device.specs.Settings.{assembly_of}
use Rattle.cip_device.proofs.settings.assemblies_of.Given as goal

abbrev pub invariant-loop-assembly : goal.invariant-loop-assembly
invariant-loop-assembly l = l.made.items ≡ map assembly_of (take l.assembly-index l.assemblies)
