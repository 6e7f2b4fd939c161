use Rattle.cip_laws.proofs.DataMet.{goes_down, goes_up, goes_entered}
use Rattle.cip_laws.proofs.DataOnce.{frame_once, enter_once}
use Rattle.cip_laws.proofs.messages.data_go_on.Goals as goal

pub returns-clause-down : goal.returns-clause-down
returns-clause-down c config s own port id from bytes has hop = goes_down config s own port id from bytes has hop

pub returns-clause-up : goal.returns-clause-up
returns-clause-up c config s own port id from bytes has hop = goes_up config s own port id from bytes has hop

pub returns-clause-entered : goal.returns-clause-entered
returns-clause-entered c = goes_entered

pub returns-clause-came_once : goal.returns-clause-came_once
returns-clause-came_once c = frame_once

pub returns-clause-entered_once : goal.returns-clause-entered_once
returns-clause-entered_once c = enter_once
