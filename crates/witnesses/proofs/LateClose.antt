-- It is a run.
use Rattle.std.proofs.Common.{[], ◌∷◌, refl}
use Rattle.cip_event.specs.declared.event.Command.TheVariants as commands
use Rattle.cip_event.specs.declared.event.Event.TheVariants as events
use Rattle.cip_event.specs.declared.event.Body.TheVariants as bodies
use Rattle.cip_event.specs.declared.event.Output.TheVariants as outputs
use Rattle.cip_event.specs.declared.event.Dropped.TheVariants.{Late}
use Rattle.cip_routing.specs.State.{initial_state}
use Rattle.cip_world.specs.Runs.{IsRun, state_in}
use Rattle.witnesses.specs.Plans.{scanner, adapter, cell, triad, params}
use Rattle.witnesses.proofs.Maps.{Gives, none_waits, none_held, held_first, held_none, held_get, held_entries, held_gone, held_twice, pendings_none, bytes_get}
use Rattle.witnesses.proofs.Maps.{entry_first, entry_get, entry_entries, entry_gone}
use Rattle.witnesses.proofs.Steps.{and_command, and_frame, and_tick}
use Rattle.cip_message.specs.Counted.{counted_at, counted_path_at}
use Rattle.cip_message.specs.Failure.{failure_at}
use Rattle.cip_message.specs.ReplyAt.{reply_at}
use Rattle.cip_message.specs.RequestAt.{request_at}
use Rattle.cip_close.specs.CloseAt.{close_at}
use Rattle.cip_close.specs.SuccessAt.{close_reply_at}
use Rattle.cip_routing.specs.CloseRows.{close_row}
use Rattle.cip_routing.specs.DataRows.{data_row}
use Rattle.cip_routing.specs.Links.{link_refusal}
use Rattle.cip_routing.specs.OpenRows.{open_row}
use Rattle.cip_routing.specs.ReplyRows.{reply_row}
use Rattle.cip_routing.specs.RequestRows.{request_row}
use Rattle.cip_open.specs.OpenAt.{open_at}
use Rattle.cip_open.specs.SuccessAt.{open_reply_at}
use Rattle.cip_segment.specs.Reading.{segments_within, path_at, segments_of, behind, hop_of}
use Rattle.cip_segment.specs.Scan.{bytes_at, padded_at, narrow_at, double_at, point_at, words_at, number_at, size_at, plain_port_at, port_at, other_at}
use Rattle.cip_segment.specs.Scan.{logical_at, segment_at}
use Rattle.cip_target.specs.Ends.{end_row}
use Rattle.witnesses.specs.LateClose.{first_request, first_success, close_request, given_up_reply, second_request, second_success, close_success, datum, path}
use Rattle.witnesses.specs.LateClose.{opens, accepted, stands, asked_to_close, lapsed, given_up, opens_again, accepted_again, stands_again, closed_late}
use Rattle.witnesses.specs.LateClose.{entered, answered}

-- ---- what the modules put out

by_opens : Gives scanner (initial_state scanner) (events.Command (commands.Open 1 (record { tick = 7; ticks = 250 }) path params))
    (outputs.Send 2 (7 ∷ []) (bodies.Request 1 first_request) ∷ [])
unfolding behind bytes_at close_at close_reply_at close_row counted_at counted_path_at data_row double_at end_row failure_at hop_of link_refusal logical_at
    narrow_at number_at open_at open_reply_at open_row other_at padded_at path_at plain_port_at point_at port_at reply_at reply_row request_at request_row
    segment_at segments_of segments_within size_at words_at
by_opens = simp (none_waits, none_held, held_first) (_, refl)

by_accepted : Gives (adapter 0 2) (state_in (adapter 0 2) 1 opens) (events.Frame 2 (1 ∷ []) (bodies.Request 1 first_request))
    (outputs.Send 2 (1 ∷ []) (bodies.Reply 1 first_success) ∷ [])
unfolding behind bytes_at close_at close_reply_at close_row counted_at counted_path_at data_row double_at end_row failure_at hop_of link_refusal logical_at
    narrow_at number_at open_at open_reply_at open_row other_at padded_at path_at plain_port_at point_at port_at reply_at reply_row request_at request_row
    segment_at segments_of segments_within size_at words_at
by_accepted = simp (none_held, held_first, held_none, held_get, held_twice, bytes_get) (_, refl)

by_stands : Gives scanner (state_in scanner 0 accepted) (events.Frame 2 (7 ∷ []) (bodies.Reply 1 first_success)) (outputs.Done 1 first_success ∷ [])
unfolding behind bytes_at close_at close_reply_at close_row counted_at counted_path_at data_row double_at end_row failure_at hop_of link_refusal logical_at
    narrow_at number_at open_at open_reply_at open_row other_at padded_at path_at plain_port_at point_at port_at reply_at reply_row request_at request_row
    segment_at segments_of segments_within size_at words_at
by_stands = simp (none_waits, none_held, held_first, held_get, held_twice, entry_get, entry_gone) (_, refl)

by_asked_to_close : Gives scanner (state_in scanner 0 stands) (events.Command (commands.Close 2 1 (record { tick = 7; ticks = 250 })))
    (outputs.Send 2 (7 ∷ []) (bodies.Request 2 close_request) ∷ [])
unfolding behind bytes_at close_at close_reply_at close_row counted_at counted_path_at data_row double_at end_row failure_at hop_of link_refusal logical_at
    narrow_at number_at open_at open_reply_at open_row other_at padded_at path_at plain_port_at point_at port_at reply_at reply_row request_at request_row
    segment_at segments_of segments_within size_at words_at
by_asked_to_close = simp (none_waits, none_held, held_first, held_none, held_get, held_entries, held_gone, held_twice, entry_get, entry_gone) (_, refl)

by_lapsed : Gives (adapter 0 2) (state_in (adapter 0 2) 1 asked_to_close) (events.Tick 41) (outputs.Expired triad ∷ [])
unfolding behind bytes_at close_at close_reply_at close_row counted_at counted_path_at data_row double_at end_row failure_at hop_of link_refusal logical_at
    narrow_at number_at open_at open_reply_at open_row other_at padded_at path_at plain_port_at point_at port_at reply_at reply_row request_at request_row
    segment_at segments_of segments_within size_at words_at
by_lapsed = simp (none_held, held_first, held_none, held_get, held_entries, held_gone, held_twice, pendings_none, bytes_get) (_, refl)

by_given_up : Gives scanner (state_in scanner 0 lapsed) (events.Tick 32001) (outputs.Done 2 given_up_reply ∷ [])
unfolding behind bytes_at close_at close_reply_at close_row counted_at counted_path_at data_row double_at end_row failure_at hop_of link_refusal logical_at
    narrow_at number_at open_at open_reply_at open_row other_at padded_at path_at plain_port_at point_at port_at reply_at reply_row request_at request_row
    segment_at segments_of segments_within size_at words_at
by_given_up = simp (
  none_waits,
  none_held,
  held_first,
  held_none,
  held_get,
  held_entries,
  held_gone,
  held_twice,
  pendings_none,
  entry_get,
  entry_entries,
  entry_gone,
) (_, refl)

by_opens_again : Gives scanner (state_in scanner 0 given_up) (events.Command (commands.Open 3 (record { tick = 7; ticks = 250 }) path params))
    (outputs.Send 2 (7 ∷ []) (bodies.Request 3 second_request) ∷ [])
unfolding behind bytes_at close_at close_reply_at close_row counted_at counted_path_at data_row double_at end_row failure_at hop_of link_refusal logical_at
    narrow_at number_at open_at open_reply_at open_row other_at padded_at path_at plain_port_at point_at port_at reply_at reply_row request_at request_row
    segment_at segments_of segments_within size_at words_at
by_opens_again = simp (
  none_waits,
  none_held,
  held_first,
  held_none,
  held_get,
  held_entries,
  held_gone,
  held_twice,
  pendings_none,
  entry_get,
  entry_entries,
  entry_gone,
) (_, refl)

by_accepted_again : Gives (adapter 0 2) (state_in (adapter 0 2) 1 opens_again) (events.Frame 2 (1 ∷ []) (bodies.Request 3 second_request))
    (outputs.Send 2 (1 ∷ []) (bodies.Reply 3 second_success) ∷ [])
unfolding behind bytes_at close_at close_reply_at close_row counted_at counted_path_at data_row double_at end_row failure_at hop_of link_refusal logical_at
    narrow_at number_at open_at open_reply_at open_row other_at padded_at path_at plain_port_at point_at port_at reply_at reply_row request_at request_row
    segment_at segments_of segments_within size_at words_at
by_accepted_again = simp (none_held, held_first, held_none, held_get, held_entries, held_gone, held_twice, pendings_none, bytes_get) (_, refl)

by_stands_again : Gives scanner (state_in scanner 0 accepted_again) (events.Frame 2 (7 ∷ []) (bodies.Reply 3 second_success))
    (outputs.Done 3 second_success ∷ [])
unfolding behind bytes_at close_at close_reply_at close_row counted_at counted_path_at data_row double_at end_row failure_at hop_of link_refusal logical_at
    narrow_at number_at open_at open_reply_at open_row other_at padded_at path_at plain_port_at point_at port_at reply_at reply_row request_at request_row
    segment_at segments_of segments_within size_at words_at
by_stands_again = simp (
  none_waits,
  none_held,
  held_first,
  held_none,
  held_get,
  held_entries,
  held_gone,
  held_twice,
  pendings_none,
  entry_get,
  entry_entries,
  entry_gone,
) (_, refl)

by_closed_late : Gives (adapter 0 2) (state_in (adapter 0 2) 1 stands_again) (events.Frame 2 (1 ∷ []) (bodies.Request 2 close_request))
    (outputs.Send 2 (1 ∷ []) (bodies.Reply 2 close_success) ∷ [])
unfolding behind bytes_at close_at close_reply_at close_row counted_at counted_path_at data_row double_at end_row failure_at hop_of link_refusal logical_at
    narrow_at number_at open_at open_reply_at open_row other_at padded_at path_at plain_port_at point_at port_at reply_at reply_row request_at request_row
    segment_at segments_of segments_within size_at words_at
by_closed_late = simp (none_held, held_first, held_none, held_get, held_entries, held_gone, held_twice, pendings_none, bytes_get) (_, refl)

by_entered : Gives scanner (state_in scanner 0 closed_late) (events.Command (commands.Enter 3 datum)) (outputs.Send 2 (7 ∷ []) (bodies.Data 66 datum) ∷ [])
unfolding behind bytes_at close_at close_reply_at close_row counted_at counted_path_at data_row double_at end_row failure_at hop_of link_refusal logical_at
    narrow_at number_at open_at open_reply_at open_row other_at padded_at path_at plain_port_at point_at port_at reply_at reply_row request_at request_row
    segment_at segments_of segments_within size_at words_at
by_entered = simp (
  none_waits,
  none_held,
  held_first,
  held_none,
  held_get,
  held_entries,
  held_gone,
  held_twice,
  pendings_none,
  entry_get,
  entry_entries,
  entry_gone,
) (_, refl)

by_answered : Gives scanner (state_in scanner 0 entered) (events.Frame 2 (7 ∷ []) (bodies.Reply 2 close_success)) (outputs.Dropped Late ∷ [])
unfolding behind bytes_at close_at close_reply_at close_row counted_at counted_path_at data_row double_at end_row failure_at hop_of link_refusal logical_at
    narrow_at number_at open_at open_reply_at open_row other_at padded_at path_at plain_port_at point_at port_at reply_at reply_row request_at request_row
    segment_at segments_of segments_within size_at words_at
by_answered = simp (
  none_waits,
  none_held,
  held_first,
  held_none,
  held_get,
  held_entries,
  held_gone,
  held_twice,
  pendings_none,
  entry_first,
  entry_get,
  entry_entries,
  entry_gone,
) (_, refl)

-- ---- entry by entry

run_opens : IsRun cell opens
run_opens = and_command cell [] 0 scanner (commands.Open 1 (record { tick = 7; ticks = 250 }) path params) _ tt refl by_opens

run_accepted : IsRun cell accepted
run_accepted = and_frame cell opens _ (record { at = 0; port = 2; address = 7 ∷ [] }) (record { at = 1; port = 2; address = 1 ∷ [] }) (adapter 0 2)
    (bodies.Request 1 first_request) _ run_opens refl refl refl refl by_accepted

run_stands : IsRun cell stands
run_stands = and_frame cell accepted _ (record { at = 1; port = 2; address = 1 ∷ [] }) (record { at = 0; port = 2; address = 7 ∷ [] }) scanner
    (bodies.Reply 1 first_success) _ run_accepted refl refl refl refl by_stands

run_asked_to_close : IsRun cell asked_to_close
run_asked_to_close = and_command cell stands 0 scanner (commands.Close 2 1 (record { tick = 7; ticks = 250 })) _ run_stands refl by_asked_to_close

run_lapsed : IsRun cell lapsed
run_lapsed = and_tick cell asked_to_close 1 (adapter 0 2) 41 _ run_asked_to_close refl by_lapsed

run_given_up : IsRun cell given_up
run_given_up = and_tick cell lapsed 0 scanner 32001 _ run_lapsed refl by_given_up

run_opens_again : IsRun cell opens_again
run_opens_again = and_command cell given_up 0 scanner (commands.Open 3 (record { tick = 7; ticks = 250 }) path params) _ run_given_up refl
    by_opens_again

run_accepted_again : IsRun cell accepted_again
run_accepted_again = and_frame cell opens_again _ (record { at = 0; port = 2; address = 7 ∷ [] }) (record { at = 1; port = 2; address = 1 ∷ [] })
    (adapter 0 2) (bodies.Request 3 second_request) _ run_opens_again refl refl refl refl by_accepted_again

run_stands_again : IsRun cell stands_again
run_stands_again = and_frame cell accepted_again _ (record { at = 1; port = 2; address = 1 ∷ [] }) (record { at = 0; port = 2; address = 7 ∷ [] })
    scanner (bodies.Reply 3 second_success) _ run_accepted_again refl refl refl refl by_stands_again

run_closed_late : IsRun cell closed_late
run_closed_late = and_frame cell stands_again _ (record { at = 0; port = 2; address = 7 ∷ [] }) (record { at = 1; port = 2; address = 1 ∷ [] })
    (adapter 0 2) (bodies.Request 2 close_request) _ run_stands_again refl refl refl refl by_closed_late

run_entered : IsRun cell entered
run_entered = and_command cell closed_late 0 scanner (commands.Enter 3 datum) _ run_closed_late refl by_entered

-- the whole run
pub late_close : IsRun cell answered
late_close = and_frame cell entered _ (record { at = 1; port = 2; address = 1 ∷ [] }) (record { at = 0; port = 2; address = 7 ∷ [] }) scanner
    (bodies.Reply 2 close_success) _ run_entered refl refl refl refl by_answered
