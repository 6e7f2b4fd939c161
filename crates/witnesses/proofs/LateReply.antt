-- It is a run.
use Rattle.std.proofs.Common.{[], ◌∷◌, refl}
use Rattle.cip_event.specs.declared.event.Command.TheVariants as commands
use Rattle.cip_event.specs.declared.event.Event.TheVariants as events
use Rattle.cip_event.specs.declared.event.Body.TheVariants as bodies
use Rattle.cip_event.specs.declared.event.Output.TheVariants as outputs
use Rattle.cip_event.specs.declared.event.Dropped.TheVariants.{Late}
use Rattle.cip_routing.specs.State.{initial_state}
use Rattle.cip_world.specs.Runs.{IsRun, state_in}
use Rattle.witnesses.specs.Plans.{scanner, first_bridge, second_bridge, plant}
use Rattle.witnesses.proofs.Maps.{Gives, none_waits, held_none, pendings_none, entry_get, entry_remove, entry_entries}
use Rattle.witnesses.proofs.Steps.{and_command, and_frame, and_tick}
use Rattle.cip_message.specs.Counted.{counted_at, counted_path_at}
use Rattle.cip_message.specs.Failure.{failure_at}
use Rattle.cip_message.specs.ReplyAt.{reply_at}
use Rattle.cip_message.specs.RequestAt.{request_at}
use Rattle.cip_routing.specs.CommandRows.{send_row}
use Rattle.cip_routing.specs.Links.{link_refusal}
use Rattle.cip_routing.specs.OpenRows.{open_row}
use Rattle.cip_routing.specs.ReplyRows.{reply_row}
use Rattle.cip_routing.specs.RequestRows.{request_row}
use Rattle.cip_routing.specs.UnconnectedRows.{unconnected_row}
use Rattle.cip_open.specs.OpenAt.{open_at}
use Rattle.cip_open.specs.SuccessAt.{open_reply_at}
use Rattle.cip_segment.specs.Reading.{behind, hop_of, path_at, segments_of, segments_within}
use Rattle.cip_segment.specs.Scan.{bytes_at, double_at, logical_at, narrow_at, number_at, other_at, padded_at, plain_port_at, point_at, port_at, segment_at}
use Rattle.cip_segment.specs.Scan.{size_at, words_at}
use Rattle.cip_target.specs.Ends.{end_row}
use Rattle.cip_target.specs.Rows.{target_row}
use Rattle.cip_unconnected.specs.UnconnectedAt.{unconnected_at}
use Rattle.witnesses.specs.LateReply.{path, asked, sent_on, answer, failure, asks, goes_on, answers, times_out, comes_late}

by_asks : Gives scanner (initial_state scanner)
    (events.Command (commands.Send 1 (record { tick = 0; ticks = 5 }) path asked))
    (outputs.Send 2 (5 ∷ []) (bodies.Request 1 sent_on) ∷ [])
unfolding behind bytes_at counted_at counted_path_at double_at end_row failure_at hop_of link_refusal logical_at narrow_at number_at open_at
    open_reply_at open_row other_at padded_at path_at plain_port_at point_at port_at reply_at reply_row request_at request_row segment_at segments_of
    segments_within send_row size_at target_row unconnected_at unconnected_row words_at
by_asks = simp none_waits (_, refl)

by_goes_on : Gives first_bridge (initial_state first_bridge)
    (events.Frame 2 (1 ∷ []) (bodies.Request 1 sent_on))
    (outputs.Send 1 (3 ∷ []) (bodies.Request 1 asked) ∷ [])
unfolding behind bytes_at counted_at counted_path_at double_at end_row failure_at hop_of link_refusal logical_at narrow_at number_at open_at
    open_reply_at open_row other_at padded_at path_at plain_port_at point_at port_at reply_at reply_row request_at request_row segment_at segments_of
    segments_within send_row size_at target_row unconnected_at unconnected_row words_at
by_goes_on = simp none_waits (_, refl)

by_answers : Gives second_bridge (initial_state second_bridge)
    (events.Frame 1 (0 ∷ []) (bodies.Request 1 asked))
    (outputs.Send 1 (0 ∷ []) (bodies.Reply 1 answer) ∷ [])
unfolding behind bytes_at counted_at counted_path_at double_at end_row failure_at hop_of link_refusal logical_at narrow_at number_at open_at
    open_reply_at open_row other_at padded_at path_at plain_port_at point_at port_at reply_at reply_row request_at request_row segment_at segments_of
    segments_within send_row size_at target_row unconnected_at unconnected_row words_at
by_answers = (_, refl)

by_times_out : Gives first_bridge (state_in first_bridge 1 answers)
    (events.Tick 4)
    (outputs.Send 2 (1 ∷ []) (bodies.Reply 1 failure) ∷ [])
unfolding behind bytes_at counted_at counted_path_at double_at end_row failure_at hop_of link_refusal logical_at narrow_at number_at open_at
    open_reply_at open_row other_at padded_at path_at plain_port_at point_at port_at reply_at reply_row request_at request_row segment_at segments_of
    segments_within send_row size_at target_row unconnected_at unconnected_row words_at
by_times_out = simp (none_waits, entry_get, entry_entries, pendings_none, held_none) (_, refl)

by_comes_late : Gives first_bridge (state_in first_bridge 1 times_out)
    (events.Frame 1 (3 ∷ []) (bodies.Reply 1 answer))
    (outputs.Dropped Late ∷ [])
unfolding behind bytes_at counted_at counted_path_at double_at end_row failure_at hop_of link_refusal logical_at narrow_at number_at open_at
    open_reply_at open_row other_at padded_at path_at plain_port_at point_at port_at reply_at reply_row request_at request_row segment_at segments_of
    segments_within send_row size_at target_row unconnected_at unconnected_row words_at
by_comes_late = simp (none_waits, entry_get, entry_entries, pendings_none, held_none, entry_remove) (_, refl)

run_asks : IsRun plant asks
run_asks = and_command plant [] 0 scanner (commands.Send 1 (record { tick = 0; ticks = 5 }) path asked) _ tt refl by_asks

run_goes_on : IsRun plant goes_on
run_goes_on = and_frame plant asks _ (record { at = 0; port = 2; address = 5 ∷ [] }) (record { at = 1; port = 2; address = 1 ∷ [] }) first_bridge
    (bodies.Request 1 sent_on) _ run_asks refl refl refl refl by_goes_on

run_answers : IsRun plant answers
run_answers = and_frame plant goes_on _ (record { at = 1; port = 1; address = 3 ∷ [] }) (record { at = 2; port = 1; address = 0 ∷ [] }) second_bridge
    (bodies.Request 1 asked) _ run_goes_on refl refl refl refl by_answers

pub run_times_out : IsRun plant times_out
run_times_out = and_tick plant answers 1 first_bridge 4 _ run_answers refl by_times_out

-- the whole run
pub late_reply : IsRun plant comes_late
late_reply = and_frame plant times_out _ (record { at = 2; port = 1; address = 0 ∷ [] }) (record { at = 1; port = 1; address = 3 ∷ [] }) first_bridge
    (bodies.Reply 1 answer) _ run_times_out refl refl refl refl by_comes_late
