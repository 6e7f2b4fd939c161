-- The parameters of an open, with those of the network connection in 32 bits.
use Rattle.cip_event.specs.declared.event.OpenParams.{OpenParams}
use Rattle.cip_event.specs.declared.event.LargeParams.{LargeParams}

abbrev pub widened : OpenParams → LargeParams
widened p = record {
  serial = p.serial;
  multiplier = p.multiplier;
  transport = p.transport;
  ot_rpi = p.ot_rpi;
  ot_params = p.ot_params;
  to_rpi = p.to_rpi;
  to_params = p.to_params;
}
