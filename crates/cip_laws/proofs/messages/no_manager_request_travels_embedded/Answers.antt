use Rattle.cip_laws.proofs.GoesOn.{allowed, answered_allowed, send_service}
use Rattle.cip_laws.proofs.messages.no_manager_request_travels_embedded.Goals as goal

pub returns-clause-forwarded : goal.returns-clause-forwarded
returns-clause-forwarded c = allowed

pub returns-clause-answered : goal.returns-clause-answered
returns-clause-answered c = answered_allowed

pub returns-clause-sent : goal.returns-clause-sent
returns-clause-sent c = send_service
