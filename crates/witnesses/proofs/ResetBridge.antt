-- It is a run; and in the end the bridge has nothing of the connection.
use Rattle.std.proofs.Common.{[], ◌∷◌, refl}
use Rattle.cip_event.specs.declared.event.Command.TheVariants as commands
use Rattle.cip_event.specs.declared.event.Event.TheVariants as events
use Rattle.cip_event.specs.declared.event.Body.TheVariants as bodies
use Rattle.cip_event.specs.declared.event.Output.TheVariants as outputs
use Rattle.cip_event.specs.declared.event.Dropped.TheVariants.{UnknownId}
use Rattle.witnesses.specs.Plans.{scanner, first_bridge, second_bridge, row}
use Rattle.witnesses.specs.ChainedRun.{stands, datum}
use Rattle.witnesses.specs.LateReply.{asked, sent_on, answer}
use Rattle.witnesses.proofs.ChainedRun.{run_stands as chained_stands}
use Rattle.cip_world.specs.Runs.{IsRun, state_in}
use Rattle.cip_message.specs.Counted.{counted_at, counted_path_at}
use Rattle.cip_message.specs.Failure.{failure_at}
use Rattle.cip_message.specs.ReplyAt.{reply_at}
use Rattle.cip_message.specs.RequestAt.{request_at}
use Rattle.cip_close.specs.CloseAt.{close_at}
use Rattle.cip_close.specs.SuccessAt.{close_reply_at}
use Rattle.cip_routing.specs.CloseRows.{close_row}
use Rattle.cip_routing.specs.CommandRows.{send_row}
use Rattle.cip_routing.specs.DataRows.{data_row}
use Rattle.cip_routing.specs.Links.{link_refusal}
use Rattle.cip_routing.specs.OpenRows.{open_row}
use Rattle.cip_routing.specs.ReplyRows.{reply_row}
use Rattle.cip_routing.specs.RequestRows.{request_row}
use Rattle.cip_routing.specs.UnconnectedRows.{unconnected_row}
use Rattle.cip_open.specs.OpenAt.{open_at}
use Rattle.cip_open.specs.SuccessAt.{open_reply_at}
use Rattle.cip_segment.specs.Reading.{behind, hop_of, path_at, segments_of, segments_within}
use Rattle.cip_segment.specs.Scan.{bytes_at, double_at, logical_at, narrow_at, number_at, other_at, padded_at, plain_port_at, point_at, port_at, segment_at}
use Rattle.cip_segment.specs.Scan.{size_at, words_at}
use Rattle.cip_target.specs.Ends.{end_row}
use Rattle.cip_target.specs.Rows.{target_row}
use Rattle.cip_unconnected.specs.UnconnectedAt.{unconnected_at}
use Rattle.witnesses.proofs.Maps.{Gives, none_waits, none_held, held_first, held_none, held_get, held_entries, held_twice, entry_get, entry_gone, pendings_none}
use Rattle.witnesses.proofs.Maps.{bytes_none}
use Rattle.witnesses.proofs.Steps.{and_command, and_frame}
use Rattle.witnesses.specs.ResetRun.{reset, done}
use Rattle.witnesses.specs.ResetBridge.{sends, resets, is_told, enters, is_unknown, asks, goes_on, answers, passes, is_answered}

by_sends : Gives scanner (state_in scanner 0 stands)
    (events.Command (commands.Send 2 (record { tick = 7; ticks = 250 }) (2 ∷ 5 ∷ []) reset))
    (outputs.Send 2 (5 ∷ []) (bodies.Request 2 reset) ∷ [])
unfolding behind bytes_at close_at close_reply_at close_row counted_at counted_path_at data_row double_at end_row failure_at hop_of link_refusal logical_at
    narrow_at number_at open_at open_reply_at open_row other_at padded_at path_at plain_port_at point_at port_at reply_at reply_row request_at request_row
    segment_at segments_of segments_within send_row size_at target_row unconnected_at unconnected_row words_at
by_sends = simp (none_waits, none_held, held_first, held_get, held_twice, entry_get, entry_gone) (_, refl)

by_resets : Gives first_bridge (state_in first_bridge 1 sends)
    (events.Frame 2 (1 ∷ []) (bodies.Request 2 reset))
    (outputs.Send 2 (1 ∷ []) (bodies.Reply 2 done) ∷ [])
unfolding behind bytes_at close_at close_reply_at close_row counted_at counted_path_at data_row double_at end_row failure_at hop_of link_refusal logical_at
    narrow_at number_at open_at open_reply_at open_row other_at padded_at path_at plain_port_at point_at port_at reply_at reply_row request_at request_row
    segment_at segments_of segments_within send_row size_at target_row unconnected_at unconnected_row words_at
by_resets = simp (none_waits, none_held, held_first, held_none, held_get, held_entries, held_twice, entry_get, entry_gone, pendings_none, bytes_none) (_, refl)

by_is_told : Gives scanner (state_in scanner 0 resets)
    (events.Frame 2 (5 ∷ []) (bodies.Reply 2 done))
    (outputs.Done 2 done ∷ [])
unfolding behind bytes_at close_at close_reply_at close_row counted_at counted_path_at data_row double_at end_row failure_at hop_of link_refusal logical_at
    narrow_at number_at open_at open_reply_at open_row other_at padded_at path_at plain_port_at point_at port_at reply_at reply_row request_at request_row
    segment_at segments_of segments_within send_row size_at target_row unconnected_at unconnected_row words_at
by_is_told = simp (none_waits, none_held, held_first, held_get, held_twice, entry_get, entry_gone) (_, refl)

by_enters : Gives scanner (state_in scanner 0 is_told)
    (events.Command (commands.Enter 1 datum))
    (outputs.Send 2 (5 ∷ []) (bodies.Data 34 datum) ∷ [])
unfolding behind bytes_at close_at close_reply_at close_row counted_at counted_path_at data_row double_at end_row failure_at hop_of link_refusal logical_at
    narrow_at number_at open_at open_reply_at open_row other_at padded_at path_at plain_port_at point_at port_at reply_at reply_row request_at request_row
    segment_at segments_of segments_within send_row size_at target_row unconnected_at unconnected_row words_at
by_enters = simp (none_waits, none_held, held_first, held_none, held_get, held_entries, held_twice, entry_get, entry_gone) (_, refl)

by_is_unknown : Gives first_bridge (state_in first_bridge 1 enters)
    (events.Frame 2 (1 ∷ []) (bodies.Data 34 datum))
    (outputs.Dropped UnknownId ∷ [])
unfolding behind bytes_at close_at close_reply_at close_row counted_at counted_path_at data_row double_at end_row failure_at hop_of link_refusal logical_at
    narrow_at number_at open_at open_reply_at open_row other_at padded_at path_at plain_port_at point_at port_at reply_at reply_row request_at request_row
    segment_at segments_of segments_within send_row size_at target_row unconnected_at unconnected_row words_at
by_is_unknown = simp (none_waits, none_held, held_first, held_none, held_get, entry_get, entry_gone, bytes_none) (_, refl)

by_asks : Gives scanner (state_in scanner 0 is_unknown)
    (events.Command (commands.Send 3 (record { tick = 0; ticks = 5 }) (2 ∷ 5 ∷ 1 ∷ 3 ∷ []) asked))
    (outputs.Send 2 (5 ∷ []) (bodies.Request 3 sent_on) ∷ [])
unfolding behind bytes_at close_at close_reply_at close_row counted_at counted_path_at data_row double_at end_row failure_at hop_of link_refusal logical_at
    narrow_at number_at open_at open_reply_at open_row other_at padded_at path_at plain_port_at point_at port_at reply_at reply_row request_at request_row
    segment_at segments_of segments_within send_row size_at target_row unconnected_at unconnected_row words_at
by_asks = simp (none_waits, none_held, held_first, held_none, held_get, held_entries, held_twice, entry_get, entry_gone) (_, refl)

by_goes_on : Gives first_bridge (state_in first_bridge 1 asks)
    (events.Frame 2 (1 ∷ []) (bodies.Request 3 sent_on))
    (outputs.Send 1 (3 ∷ []) (bodies.Request 65537 asked) ∷ [])
unfolding behind bytes_at close_at close_reply_at close_row counted_at counted_path_at data_row double_at end_row failure_at hop_of link_refusal logical_at
    narrow_at number_at open_at open_reply_at open_row other_at padded_at path_at plain_port_at point_at port_at reply_at reply_row request_at request_row
    segment_at segments_of segments_within send_row size_at target_row unconnected_at unconnected_row words_at
by_goes_on = simp (none_waits, none_held, held_first, held_none, held_get, entry_get, entry_gone, bytes_none) (_, refl)

by_answers : Gives second_bridge (state_in second_bridge 2 goes_on)
    (events.Frame 1 (0 ∷ []) (bodies.Request 65537 asked))
    (outputs.Send 1 (0 ∷ []) (bodies.Reply 65537 answer) ∷ [])
unfolding behind bytes_at close_at close_reply_at close_row counted_at counted_path_at data_row double_at end_row failure_at hop_of link_refusal logical_at
    narrow_at number_at open_at open_reply_at open_row other_at padded_at path_at plain_port_at point_at port_at reply_at reply_row request_at request_row
    segment_at segments_of segments_within send_row size_at target_row unconnected_at unconnected_row words_at
by_answers = simp (none_waits, none_held, held_first, held_get, held_twice, entry_get, entry_gone) (_, refl)

by_passes : Gives first_bridge (state_in first_bridge 1 answers)
    (events.Frame 1 (3 ∷ []) (bodies.Reply 65537 answer))
    (outputs.Send 2 (1 ∷ []) (bodies.Reply 3 answer) ∷ [])
unfolding behind bytes_at close_at close_reply_at close_row counted_at counted_path_at data_row double_at end_row failure_at hop_of link_refusal logical_at
    narrow_at number_at open_at open_reply_at open_row other_at padded_at path_at plain_port_at point_at port_at reply_at reply_row request_at request_row
    segment_at segments_of segments_within send_row size_at target_row unconnected_at unconnected_row words_at
by_passes = simp (none_waits, none_held, held_first, held_none, held_get, entry_get, entry_gone, bytes_none) (_, refl)

by_is_answered : Gives scanner (state_in scanner 0 passes)
    (events.Frame 2 (5 ∷ []) (bodies.Reply 3 answer))
    (outputs.Done 3 answer ∷ [])
unfolding behind bytes_at close_at close_reply_at close_row counted_at counted_path_at data_row double_at end_row failure_at hop_of link_refusal logical_at
    narrow_at number_at open_at open_reply_at open_row other_at padded_at path_at plain_port_at point_at port_at reply_at reply_row request_at request_row
    segment_at segments_of segments_within send_row size_at target_row unconnected_at unconnected_row words_at
by_is_answered = simp (none_waits, none_held, held_first, held_none, held_get, held_entries, held_twice, entry_get, entry_gone) (_, refl)

run_sends : IsRun row sends
run_sends = and_command row stands 0 scanner (commands.Send 2 (record { tick = 7; ticks = 250 }) (2 ∷ 5 ∷ []) reset) _ chained_stands refl by_sends

run_resets : IsRun row resets
run_resets = and_frame row sends _ (record { at = 0; port = 2; address = 5 ∷ [] }) (record { at = 1; port = 2; address = 1 ∷ [] }) first_bridge
    (bodies.Request 2 reset) _ run_sends refl refl refl refl by_resets

run_is_told : IsRun row is_told
run_is_told = and_frame row resets _ (record { at = 1; port = 2; address = 1 ∷ [] }) (record { at = 0; port = 2; address = 5 ∷ [] }) scanner
    (bodies.Reply 2 done) _ run_resets refl refl refl refl by_is_told

run_enters : IsRun row enters
run_enters = and_command row is_told 0 scanner (commands.Enter 1 datum) _ run_is_told refl by_enters

pub run_is_unknown : IsRun row is_unknown
run_is_unknown = and_frame row enters _ (record { at = 0; port = 2; address = 5 ∷ [] }) (record { at = 1; port = 2; address = 1 ∷ [] }) first_bridge
    (bodies.Data 34 datum) _ run_enters refl refl refl refl by_is_unknown

run_asks : IsRun row asks
run_asks = and_command row is_unknown 0 scanner (commands.Send 3 (record { tick = 0; ticks = 5 }) (2 ∷ 5 ∷ 1 ∷ 3 ∷ []) asked) _ run_is_unknown refl
    by_asks

run_goes_on : IsRun row goes_on
run_goes_on = and_frame row asks _ (record { at = 0; port = 2; address = 5 ∷ [] }) (record { at = 1; port = 2; address = 1 ∷ [] }) first_bridge
    (bodies.Request 3 sent_on) _ run_asks refl refl refl refl by_goes_on

run_answers : IsRun row answers
run_answers = and_frame row goes_on _ (record { at = 1; port = 1; address = 3 ∷ [] }) (record { at = 2; port = 1; address = 0 ∷ [] }) second_bridge
    (bodies.Request 65537 asked) _ run_goes_on refl refl refl refl by_answers

run_passes : IsRun row passes
run_passes = and_frame row answers _ (record { at = 2; port = 1; address = 0 ∷ [] }) (record { at = 1; port = 1; address = 3 ∷ [] }) first_bridge
    (bodies.Reply 65537 answer) _ run_answers refl refl refl refl by_passes

-- the whole run
pub reset_bridge : IsRun row is_answered
reset_bridge = and_frame row passes _ (record { at = 1; port = 2; address = 1 ∷ [] }) (record { at = 0; port = 2; address = 5 ∷ [] }) scanner
    (bodies.Reply 3 answer) _ run_passes refl refl refl refl by_is_answered
