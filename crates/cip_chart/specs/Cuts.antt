-- Which part of a run a chart shows.
use Rattle.std.specs.Prelude.{ℕ, Bool, ◌==◌, ◌&&◌, ◌||◌, nat_le, List, [], ◌∷◌, false, length}
use Rattle.cip_base.specs.declared.numbers.ModuleId.{ModuleId}
use Rattle.cip_chart.specs.declared.cut.Cut.{Cut}

abbrev pub has_entry : Cut → ℕ → Bool
has_entry cut entry = nat_le cut.from entry && nat_le entry cut.to

-- one of the modules is this one
abbrev pub is_named : List ModuleId → ℕ → Bool
is_named [] place = false
is_named (m ∷ more) place = (m.0 == place) || is_named more place

-- where no module is named all are shown
abbrev pub has_module : Cut → ModuleId → Bool
has_module cut m = (length cut.modules.items == 0) || is_named cut.modules.items m.0
