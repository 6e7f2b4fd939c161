-- What C gives of an event, as the routing table has it.
use Rattle.std.specs.Prelude.{◌≡◌, ◌<◌, ◌⊎◌, ℕ, length}
use Rattle.cip_base.specs.Words.{Octets}
use Rattle.cip_base.specs.declared.timing.Timing.{Timing}
use Rattle.cip_event.specs.declared.event.OpenParams.{OpenParams}
use Rattle.cip_event.specs.declared.event.LargeParams.{LargeParams}
use Rattle.cip_device.specs.declared.making.CipTiming.{CipTiming}
use Rattle.cip_device.specs.declared.making.CipOpenParams.{CipOpenParams}
use Rattle.cip_device.specs.declared.making.CipLargeParams.{CipLargeParams}

-- port 0, or an address of no bytes or of more than 16
abbrev pub IsBadLink : ℕ → Octets → Type 0
IsBadLink port from = (port ≡ 0) ⊎ ((length from ≡ 0) ⊎ (16 < length from))

abbrev pub timing_of : CipTiming → Timing
timing_of t = record { tick = t.tick; ticks = t.ticks }

abbrev pub params_of : CipOpenParams → OpenParams
params_of p = record {
  serial = p.serial;
  multiplier = p.multiplier;
  transport = p.transport;
  ot_rpi = p.ot_rpi;
  ot_params = p.ot_params;
  to_rpi = p.to_rpi;
  to_params = p.to_params;
}

abbrev pub large_params_of : CipLargeParams → LargeParams
large_params_of p = record {
  serial = p.serial;
  multiplier = p.multiplier;
  transport = p.transport;
  ot_rpi = p.ot_rpi;
  ot_params = p.ot_params;
  to_rpi = p.to_rpi;
  to_params = p.to_params;
}
