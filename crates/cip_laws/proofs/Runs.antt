-- All that theorems over runs cite of one event, one turn and one history, in the order in which they need it.
-- What each effect of an event tells, and which tables still stand where it is applied.
pub use Rattle.cip_laws.proofs.Tells.{decide_tells}
pub use Rattle.cip_laws.proofs.Standing.{all_stand}
pub use Rattle.cip_laws.proofs.Quiet.{alone, reply_alone}
pub use Rattle.cip_laws.proofs.PassedBy.{frame_alone, enter_alone}
pub use Rattle.cip_laws.proofs.ProducedStand.{produced_made, produced_stood}
-- One thing for whom an event asks.
pub use Rattle.cip_laws.proofs.Light.{light_once}
pub use Rattle.cip_laws.proofs.TakenUp.{takes_once}
pub use Rattle.cip_laws.proofs.Births.{born_once_a_turn}
-- A turn is its effects; what each keeps, or conserves, a turn and a history do.
pub use Rattle.cip_laws.proofs.Turns.{Turned, turned, newest, by_turn, by_places}
pub use Rattle.cip_laws.proofs.Weighing.{conserved, history_conserved, weight_has, weight_gave, weight_at, one_place}
-- Counts never fall; where what waits and what is held comes from, and what never changes of it.
pub use Rattle.cip_laws.proofs.Rises.{numbers_rise, ids_rise}
pub use Rattle.cip_laws.proofs.Puts.{pending_cases, next_number, next_id, AreBelow, below_after}
pub use Rattle.cip_laws.proofs.Stands.{SameCore, Stood, HeldCase, held_cases}
pub use Rattle.cip_laws.proofs.Triads.{HasOwnTriads, own_triads}
-- Which effect an output comes from.
pub use Rattle.cip_laws.proofs.GaveBy.{GaveBy, gave_by, gave_then, RepliesBy, reply_by}
pub use Rattle.cip_laws.specs.Outputs.{EndedBy}
pub use Rattle.cip_laws.proofs.GivenBy.{answered_by, ended_by}
pub use Rattle.cip_laws.proofs.RequestBy.{BornBy, born_tells, RequestBy, request_by}
pub use Rattle.cip_laws.proofs.PassedBy.{PassedBy, passed_by, found_own}
-- Births: a number, a request that waits, an id, a reply, a Done.
pub use Rattle.cip_laws.proofs.Numbers.{request_number, numbers_conserved, sent_once}
pub use Rattle.cip_laws.proofs.Asking.{stems}
pub use Rattle.cip_laws.proofs.Births.{birth, held_born, birth_range, born_once}
pub use Rattle.cip_laws.proofs.OneReply.{claims, waits_counted}
pub use Rattle.cip_laws.proofs.Dones.{done_once}
pub use Rattle.cip_laws.proofs.AskedBy.{taken_waits, asked_there}
-- Trails: an open waits beside its opening, and its path shortens; what is written is read back.
pub use Rattle.cip_laws.proofs.Joined.{OpenSent, Opens, Joined, joined}
pub use Rattle.cip_laws.proofs.OpenedBelow.{HopOpened, hop_opened}
pub use Rattle.cip_segment.proofs.PathsShorten.{hop_shortens}
pub use Rattle.cip_message.proofs.ReadAgain.{reply_is}
pub use Rattle.cip_open.proofs.ReadAgain.{open_data_read, open_success_read, open_success_back, success_back, failure_back}
pub use Rattle.cip_close.proofs.ReadAgain.{close_data_read, close_success_read, close_success_back}
pub use Rattle.cip_unconnected.proofs.ReadAgain.{unconnected_data_read}
pub use Rattle.cip_laws.proofs.FailuresRead.{request_read, send_read, open_read, close_read}
pub use Rattle.cip_laws.proofs.NextRows.{open_meets, send_meets, close_meets, open_row_is, send_row_is, close_row_is}
pub use Rattle.cip_laws.proofs.GoesOn.{allowed, answered_allowed, send_service, message_no_open, close_no_open}
pub use Rattle.cip_target.specs.Ends.{HasPoints}
pub use Rattle.cip_target.proofs.EndPoints.{end_points}
pub use Rattle.cip_laws.proofs.Failures.{request_fails, unconnected_fails, open_fails, close_fails, link_fails, end_fails}
-- Chains: what a datum or a tick tells is of the connection that stands there, and a datum that is found goes on.
pub use Rattle.cip_laws.proofs.TellsStand.{own_stands, came_stands, produced_stands, renews_stands, hop_times_out_stands, passing, passes_stands, counting}
pub use Rattle.cip_laws.proofs.TellsStand.{counts_stands}
pub use Rattle.cip_laws.proofs.DataMet.{goes_down, goes_up, goes_entered}
pub use Rattle.cip_laws.proofs.DataOnce.{datum_of, frame_once, enter_once}
-- What the tables tell of a state, and the first state.
pub use Rattle.cip_laws.proofs.Shown.{Alike, alike, looks_alike, equal_bare, fresh}
