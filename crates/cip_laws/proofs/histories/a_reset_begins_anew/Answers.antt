use Rattle.cip_laws.proofs.Again.{reset_makes_again, numbers_from_reset, ids_drawn_from_reset, none_waits, none_by_up, none_by_down}
use Rattle.cip_laws.proofs.histories.a_reset_begins_anew.Goals as goal

pub returns : goal.returns
returns c = record {
  state = reset_makes_again;
  numbers = numbers_from_reset;
  ids = ids_drawn_from_reset;
  waiting = none_waits;
  connections = λ config later before turn h r id port from low.
      (none_by_up config later before turn h r id port from low, none_by_down config later before turn h r id port from low);
}
