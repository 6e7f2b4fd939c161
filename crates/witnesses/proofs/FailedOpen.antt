-- It is a run.
use Rattle.std.proofs.Common.{[], ◌∷◌, refl}
use Rattle.cip_event.specs.declared.event.Command.TheVariants as commands
use Rattle.cip_event.specs.declared.event.Event.TheVariants as events
use Rattle.cip_event.specs.declared.event.Body.TheVariants as bodies
use Rattle.cip_event.specs.declared.event.Output.TheVariants as outputs
use Rattle.cip_routing.specs.State.{initial_state}
use Rattle.cip_world.specs.Runs.{IsRun, state_in}
use Rattle.witnesses.specs.Plans.{scanner, first_bridge, second_bridge, plant, params}
use Rattle.witnesses.proofs.Maps.{Gives, none_waits, none_held, held_first, held_get, entry_get}
use Rattle.witnesses.proofs.Steps.{and_command, and_frame}
use Rattle.cip_message.specs.Counted.{counted_at, counted_path_at}
use Rattle.cip_message.specs.Failure.{failure_at}
use Rattle.cip_message.specs.ReplyAt.{reply_at}
use Rattle.cip_message.specs.RequestAt.{request_at}
use Rattle.cip_routing.specs.CommandRows.{send_row}
use Rattle.cip_routing.specs.Links.{link_refusal}
use Rattle.cip_routing.specs.OpenRows.{open_row}
use Rattle.cip_routing.specs.ReplyRows.{reply_row}
use Rattle.cip_routing.specs.RequestRows.{request_row}
use Rattle.cip_routing.specs.UnconnectedRows.{unconnected_row}
use Rattle.cip_open.specs.OpenAt.{open_at}
use Rattle.cip_open.specs.SuccessAt.{open_reply_at}
use Rattle.cip_segment.specs.Reading.{behind, hop_of, path_at, segments_of, segments_within}
use Rattle.cip_segment.specs.Scan.{bytes_at, double_at, logical_at, narrow_at, number_at, other_at, padded_at, plain_port_at, point_at, port_at, segment_at}
use Rattle.cip_segment.specs.Scan.{size_at, words_at}
use Rattle.cip_target.specs.Ends.{end_row}
use Rattle.cip_target.specs.Rows.{target_row}
use Rattle.cip_unconnected.specs.UnconnectedAt.{unconnected_at}
use Rattle.witnesses.specs.FailedOpen.{path, first_request, second_request, failure, asks, goes_on, refuses, passes, ends}

by_asks : Gives scanner (initial_state scanner)
    (events.Command (commands.Open 1 (record { tick = 7; ticks = 250 }) path params))
    (outputs.Send 2 (5 ∷ []) (bodies.Request 1 first_request) ∷ [])
unfolding behind bytes_at counted_at counted_path_at double_at end_row failure_at hop_of link_refusal logical_at narrow_at number_at open_at
    open_reply_at open_row other_at padded_at path_at plain_port_at point_at port_at reply_at reply_row request_at request_row segment_at segments_of
    segments_within send_row size_at target_row unconnected_at unconnected_row words_at
by_asks = simp (none_waits, none_held, held_first) (_, refl)

by_goes_on : Gives first_bridge (initial_state first_bridge)
    (events.Frame 2 (1 ∷ []) (bodies.Request 1 first_request))
    (outputs.Send 1 (3 ∷ []) (bodies.Request 1 second_request) ∷ [])
unfolding behind bytes_at counted_at counted_path_at double_at end_row failure_at hop_of link_refusal logical_at narrow_at number_at open_at
    open_reply_at open_row other_at padded_at path_at plain_port_at point_at port_at reply_at reply_row request_at request_row segment_at segments_of
    segments_within send_row size_at target_row unconnected_at unconnected_row words_at
by_goes_on = simp (none_waits, none_held, held_first) (_, refl)

by_refuses : Gives second_bridge (initial_state second_bridge)
    (events.Frame 1 (0 ∷ []) (bodies.Request 1 second_request))
    (outputs.Send 1 (0 ∷ []) (bodies.Reply 1 failure) ∷ [])
unfolding behind bytes_at counted_at counted_path_at double_at end_row failure_at hop_of link_refusal logical_at narrow_at number_at open_at
    open_reply_at open_row other_at padded_at path_at plain_port_at point_at port_at reply_at reply_row request_at request_row segment_at segments_of
    segments_within send_row size_at target_row unconnected_at unconnected_row words_at
by_refuses = simp (none_waits, none_held, held_first) (_, refl)

by_passes : Gives first_bridge (state_in first_bridge 1 refuses)
    (events.Frame 1 (3 ∷ []) (bodies.Reply 1 failure))
    (outputs.Send 2 (1 ∷ []) (bodies.Reply 1 failure) ∷ [])
unfolding behind bytes_at counted_at counted_path_at double_at end_row failure_at hop_of link_refusal logical_at narrow_at number_at open_at
    open_reply_at open_row other_at padded_at path_at plain_port_at point_at port_at reply_at reply_row request_at request_row segment_at segments_of
    segments_within send_row size_at target_row unconnected_at unconnected_row words_at
by_passes = simp (none_waits, none_held, held_first, held_get, entry_get) (_, refl)

by_ends : Gives scanner (state_in scanner 0 passes)
    (events.Frame 2 (5 ∷ []) (bodies.Reply 1 failure))
    (outputs.Done 1 failure ∷ [])
unfolding behind bytes_at counted_at counted_path_at double_at end_row failure_at hop_of link_refusal logical_at narrow_at number_at open_at
    open_reply_at open_row other_at padded_at path_at plain_port_at point_at port_at reply_at reply_row request_at request_row segment_at segments_of
    segments_within send_row size_at target_row unconnected_at unconnected_row words_at
by_ends = simp (none_waits, none_held, held_first, held_get, entry_get) (_, refl)

run_asks : IsRun plant asks
run_asks = and_command plant [] 0 scanner (commands.Open 1 (record { tick = 7; ticks = 250 }) path params) _ tt refl by_asks

run_goes_on : IsRun plant goes_on
run_goes_on = and_frame plant asks _ (record { at = 0; port = 2; address = 5 ∷ [] }) (record { at = 1; port = 2; address = 1 ∷ [] }) first_bridge
    (bodies.Request 1 first_request) _ run_asks refl refl refl refl by_goes_on

run_refuses : IsRun plant refuses
run_refuses = and_frame plant goes_on _ (record { at = 1; port = 1; address = 3 ∷ [] }) (record { at = 2; port = 1; address = 0 ∷ [] }) second_bridge
    (bodies.Request 1 second_request) _ run_goes_on refl refl refl refl by_refuses

run_passes : IsRun plant passes
run_passes = and_frame plant refuses _ (record { at = 2; port = 1; address = 0 ∷ [] }) (record { at = 1; port = 1; address = 3 ∷ [] }) first_bridge
    (bodies.Reply 1 failure) _ run_refuses refl refl refl refl by_passes

-- the whole run
pub failed_open : IsRun plant ends
failed_open = and_frame plant passes _ (record { at = 1; port = 2; address = 1 ∷ [] }) (record { at = 0; port = 2; address = 5 ∷ [] }) scanner
    (bodies.Reply 1 failure) _ run_passes refl refl refl refl by_ends
