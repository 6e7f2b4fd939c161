-- The time-out of a request that goes on (Volume 1, chapter 3, time-out ticks).
use Rattle.std.specs.Prelude.{◌-◌}
use Rattle.cip_base.specs.declared.timing.Timing.{Timing}

-- what goes on has one tick less
abbrev pub one_less : Timing → Timing
one_less timing = record { tick = timing.tick; ticks = timing.ticks - 1 }
