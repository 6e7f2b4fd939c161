-- It is a run.
use Rattle.std.proofs.Common.{◌≡◌, [], ◌∷◌, refl}
use Rattle.cip_event.specs.declared.event.Command.TheVariants as commands
use Rattle.cip_event.specs.declared.event.Event.TheVariants as events
use Rattle.cip_event.specs.declared.event.Body.TheVariants as bodies
use Rattle.cip_event.specs.declared.event.Output.TheVariants as outputs
use Rattle.std.proofs.Common.{subst, sym}
use Rattle.std.specs.FinMap.{empty}
use Rattle.cip_routing.specs.State.{State, initial_state}
use Rattle.cip_laws.specs.Histories.{next_state}
use Rattle.cip_world.specs.Runs.{IsRun, state_in}
use Rattle.cip_message.specs.Counted.{counted_at, counted_path_at}
use Rattle.cip_message.specs.Failure.{failure_at}
use Rattle.cip_message.specs.ReplyAt.{reply_at}
use Rattle.cip_message.specs.RequestAt.{request_at}
use Rattle.cip_close.specs.CloseAt.{close_at}
use Rattle.cip_close.specs.SuccessAt.{close_reply_at}
use Rattle.cip_routing.specs.CloseRows.{close_row}
use Rattle.cip_routing.specs.CommandRows.{send_row}
use Rattle.cip_routing.specs.DataRows.{data_row}
use Rattle.cip_routing.specs.Links.{link_refusal}
use Rattle.cip_routing.specs.OpenRows.{open_row}
use Rattle.cip_routing.specs.ReplyRows.{reply_row}
use Rattle.cip_routing.specs.RequestRows.{request_row}
use Rattle.cip_routing.specs.UnconnectedRows.{unconnected_row}
use Rattle.cip_open.specs.OpenAt.{open_at}
use Rattle.cip_open.specs.SuccessAt.{open_reply_at}
use Rattle.cip_segment.specs.Reading.{behind, hop_of, path_at, segments_of, segments_within}
use Rattle.cip_segment.specs.Scan.{bytes_at, double_at, logical_at, narrow_at, number_at, other_at, padded_at, plain_port_at, point_at, port_at, segment_at}
use Rattle.cip_segment.specs.Scan.{size_at, words_at}
use Rattle.cip_target.specs.Ends.{end_row}
use Rattle.cip_target.specs.Rows.{target_row}
use Rattle.cip_unconnected.specs.UnconnectedAt.{unconnected_at}
use Rattle.witnesses.specs.Plans.{scanner, first_bridge, second_bridge, adapter, row, triad, params}
use Rattle.witnesses.specs.ChainedRun.{first_request, third_request, first_success, datum, path}
use Rattle.witnesses.specs.ResetRun.{reset, done}
use Rattle.witnesses.specs.OpenedAgain.{second_request, second_success, third_success, sends, resets, is_told, opens, at_first, at_second, ends_there}
use Rattle.witnesses.specs.OpenedAgain.{back_at_second, back_at_first, stands, entered, down_at_first, down_at_second, taken, written, produced, up_at_second}
use Rattle.witnesses.specs.OpenedAgain.{up_at_first, arrived, ends}
use Rattle.witnesses.proofs.Maps.{Gives, none_waits, none_held, held_first, held_none, held_get, held_entries, held_twice, entry_get, entry_gone, bytes_get}
use Rattle.witnesses.proofs.Maps.{pendings_none, bytes_none}
use Rattle.witnesses.proofs.Steps.{and_command, and_frame}

by_sends : Gives scanner (initial_state scanner) (events.Command (commands.Send 1 (record { tick = 7; ticks = 250 }) (2 ∷ 5 ∷ []) reset))
    (outputs.Send 2 (5 ∷ []) (bodies.Request 1 reset) ∷ [])
unfolding behind bytes_at close_at close_reply_at close_row counted_at counted_path_at data_row double_at end_row failure_at hop_of link_refusal logical_at
    narrow_at number_at open_at open_reply_at open_row other_at padded_at path_at plain_port_at point_at port_at reply_at reply_row request_at request_row
    segment_at segments_of segments_within send_row size_at target_row unconnected_at unconnected_row words_at
by_sends = simp (none_waits) (_, refl)

by_resets : Gives first_bridge (state_in first_bridge 1 sends) (events.Frame 2 (1 ∷ []) (bodies.Request 1 reset))
    (outputs.Send 2 (1 ∷ []) (bodies.Reply 1 done) ∷ [])
unfolding behind bytes_at close_at close_reply_at close_row counted_at counted_path_at data_row double_at end_row failure_at hop_of link_refusal logical_at
    narrow_at number_at open_at open_reply_at open_row other_at padded_at path_at plain_port_at point_at port_at reply_at reply_row request_at request_row
    segment_at segments_of segments_within send_row size_at target_row unconnected_at unconnected_row words_at
by_resets = simp (held_none, pendings_none) (_, refl)

by_is_told : Gives scanner (state_in scanner 0 resets) (events.Frame 2 (5 ∷ []) (bodies.Reply 1 done))
    (outputs.Done 1 done ∷ [])
unfolding behind bytes_at close_at close_reply_at close_row counted_at counted_path_at data_row double_at end_row failure_at hop_of link_refusal logical_at
    narrow_at number_at open_at open_reply_at open_row other_at padded_at path_at plain_port_at point_at port_at reply_at reply_row request_at request_row
    segment_at segments_of segments_within send_row size_at target_row unconnected_at unconnected_row words_at
by_is_told = simp (none_waits, entry_get, entry_gone) (_, refl)

by_opens : Gives scanner (state_in scanner 0 is_told) (events.Command (commands.Open 2 (record { tick = 7; ticks = 250 }) path params))
    (outputs.Send 2 (5 ∷ []) (bodies.Request 2 first_request) ∷ [])
unfolding behind bytes_at close_at close_reply_at close_row counted_at counted_path_at data_row double_at end_row failure_at hop_of link_refusal logical_at
    narrow_at number_at open_at open_reply_at open_row other_at padded_at path_at plain_port_at point_at port_at reply_at reply_row request_at request_row
    segment_at segments_of segments_within send_row size_at target_row unconnected_at unconnected_row words_at
by_opens = simp (none_waits, none_held, held_first, entry_get, entry_gone) (_, refl)

by_at_first : Gives first_bridge (state_in first_bridge 1 opens) (events.Frame 2 (1 ∷ []) (bodies.Request 2 first_request))
    (outputs.Send 1 (3 ∷ []) (bodies.Request 65537 second_request) ∷ [])
unfolding behind bytes_at close_at close_reply_at close_row counted_at counted_path_at data_row double_at end_row failure_at hop_of link_refusal logical_at
    narrow_at number_at open_at open_reply_at open_row other_at padded_at path_at plain_port_at point_at port_at reply_at reply_row request_at request_row
    segment_at segments_of segments_within send_row size_at target_row unconnected_at unconnected_row words_at
by_at_first = simp (none_waits, none_held, held_first, bytes_none) (_, refl)

by_at_second : Gives second_bridge (state_in second_bridge 2 at_first) (events.Frame 1 (0 ∷ []) (bodies.Request 65537 second_request))
    (outputs.Send 2 (7 ∷ []) (bodies.Request 1 third_request) ∷ [])
unfolding behind bytes_at close_at close_reply_at close_row counted_at counted_path_at data_row double_at end_row failure_at hop_of link_refusal logical_at
    narrow_at number_at open_at open_reply_at open_row other_at padded_at path_at plain_port_at point_at port_at reply_at reply_row request_at request_row
    segment_at segments_of segments_within send_row size_at target_row unconnected_at unconnected_row words_at
by_at_second = simp (none_waits, none_held, held_first) (_, refl)

by_ends_there : Gives (adapter 2 4) (state_in (adapter 2 4) 3 at_second) (events.Frame 2 (1 ∷ []) (bodies.Request 1 third_request))
    (outputs.Send 2 (1 ∷ []) (bodies.Reply 1 first_success) ∷ [])
unfolding behind bytes_at close_at close_reply_at close_row counted_at counted_path_at data_row double_at end_row failure_at hop_of link_refusal logical_at
    narrow_at number_at open_at open_reply_at open_row other_at padded_at path_at plain_port_at point_at port_at reply_at reply_row request_at request_row
    segment_at segments_of segments_within send_row size_at target_row unconnected_at unconnected_row words_at
by_ends_there = simp (none_held, held_first, held_none, held_get, held_twice, bytes_get) (_, refl)

by_back_at_second : Gives second_bridge (state_in second_bridge 2 ends_there) (events.Frame 2 (7 ∷ []) (bodies.Reply 1 first_success))
    (outputs.Send 1 (0 ∷ []) (bodies.Reply 65537 second_success) ∷ [])
unfolding behind bytes_at close_at close_reply_at close_row counted_at counted_path_at data_row double_at end_row failure_at hop_of link_refusal logical_at
    narrow_at number_at open_at open_reply_at open_row other_at padded_at path_at plain_port_at point_at port_at reply_at reply_row request_at request_row
    segment_at segments_of segments_within send_row size_at target_row unconnected_at unconnected_row words_at
by_back_at_second = simp (none_waits, none_held, held_first, held_get, held_twice, entry_get, entry_gone) (_, refl)

by_back_at_first : Gives first_bridge (state_in first_bridge 1 back_at_second) (events.Frame 1 (3 ∷ []) (bodies.Reply 65537 second_success))
    (outputs.Send 2 (1 ∷ []) (bodies.Reply 2 third_success) ∷ [])
unfolding behind bytes_at close_at close_reply_at close_row counted_at counted_path_at data_row double_at end_row failure_at hop_of link_refusal logical_at
    narrow_at number_at open_at open_reply_at open_row other_at padded_at path_at plain_port_at point_at port_at reply_at reply_row request_at request_row
    segment_at segments_of segments_within send_row size_at target_row unconnected_at unconnected_row words_at
by_back_at_first = simp (none_waits, none_held, held_first, held_get, held_twice, entry_get, entry_gone, bytes_none) (_, refl)

by_stands : Gives scanner (state_in scanner 0 back_at_first) (events.Frame 2 (5 ∷ []) (bodies.Reply 2 third_success))
    (outputs.Done 2 third_success ∷ [])
unfolding behind bytes_at close_at close_reply_at close_row counted_at counted_path_at data_row double_at end_row failure_at hop_of link_refusal logical_at
    narrow_at number_at open_at open_reply_at open_row other_at padded_at path_at plain_port_at point_at port_at reply_at reply_row request_at request_row
    segment_at segments_of segments_within send_row size_at target_row unconnected_at unconnected_row words_at
by_stands = simp (none_waits, none_held, held_first, held_get, held_twice, entry_get, entry_gone) (_, refl)

by_entered : Gives scanner (state_in scanner 0 stands) (events.Command (commands.Enter 2 datum))
    (outputs.Send 2 (5 ∷ []) (bodies.Data 65538 datum) ∷ [])
unfolding behind bytes_at close_at close_reply_at close_row counted_at counted_path_at data_row double_at end_row failure_at hop_of link_refusal logical_at
    narrow_at number_at open_at open_reply_at open_row other_at padded_at path_at plain_port_at point_at port_at reply_at reply_row request_at request_row
    segment_at segments_of segments_within send_row size_at target_row unconnected_at unconnected_row words_at
by_entered = simp (none_waits, none_held, held_first, held_none, held_get, held_entries, held_twice, entry_get, entry_gone) (_, refl)

by_down_at_first : Gives first_bridge (state_in first_bridge 1 entered) (events.Frame 2 (1 ∷ []) (bodies.Data 65538 datum))
    (outputs.Send 1 (3 ∷ []) (bodies.Data 50 datum) ∷ [])
unfolding behind bytes_at close_at close_reply_at close_row counted_at counted_path_at data_row double_at end_row failure_at hop_of link_refusal logical_at
    narrow_at number_at open_at open_reply_at open_row other_at padded_at path_at plain_port_at point_at port_at reply_at reply_row request_at request_row
    segment_at segments_of segments_within send_row size_at target_row unconnected_at unconnected_row words_at
by_down_at_first = simp (none_waits, none_held, held_first, held_none, held_get, held_entries, held_twice, entry_get, entry_gone, bytes_none) (_, refl)

by_down_at_second : Gives second_bridge (state_in second_bridge 2 down_at_first) (events.Frame 1 (0 ∷ []) (bodies.Data 50 datum))
    (outputs.Send 2 (7 ∷ []) (bodies.Data 65 datum) ∷ [])
unfolding behind bytes_at close_at close_reply_at close_row counted_at counted_path_at data_row double_at end_row failure_at hop_of link_refusal logical_at
    narrow_at number_at open_at open_reply_at open_row other_at padded_at path_at plain_port_at point_at port_at reply_at reply_row request_at request_row
    segment_at segments_of segments_within send_row size_at target_row unconnected_at unconnected_row words_at
by_down_at_second = simp (none_waits, none_held, held_first, held_none, held_get, held_entries, held_twice, entry_get, entry_gone) (_, refl)

by_taken : Gives (adapter 2 4) (state_in (adapter 2 4) 3 down_at_second) (events.Frame 2 (1 ∷ []) (bodies.Data 65 datum))
    (outputs.Consumed triad 101 datum ∷ [])
unfolding behind bytes_at close_at close_reply_at close_row counted_at counted_path_at data_row double_at end_row failure_at hop_of link_refusal logical_at
    narrow_at number_at open_at open_reply_at open_row other_at padded_at path_at plain_port_at point_at port_at reply_at reply_row request_at request_row
    segment_at segments_of segments_within send_row size_at target_row unconnected_at unconnected_row words_at
by_taken = simp (none_held, held_first, held_none, held_get, held_entries, held_twice, bytes_get) (_, refl)

by_written : Gives (adapter 2 4) (state_in (adapter 2 4) 3 taken) (events.Command (commands.Set 102 (17 ∷ 34 ∷ [])))
    []
unfolding behind bytes_at close_at close_reply_at close_row counted_at counted_path_at data_row double_at end_row failure_at hop_of link_refusal logical_at
    narrow_at number_at open_at open_reply_at open_row other_at padded_at path_at plain_port_at point_at port_at reply_at reply_row request_at request_row
    segment_at segments_of segments_within send_row size_at target_row unconnected_at unconnected_row words_at
by_written = simp (none_held, held_first, held_none, held_get, held_entries, held_twice, bytes_get) (_, refl)

by_produced : Gives (adapter 2 4) (state_in (adapter 2 4) 3 written) (events.Command (commands.Produce 102))
    (outputs.Send 2 (1 ∷ []) (bodies.Data 49 (1 ∷ 0 ∷ 17 ∷ 34 ∷ [])) ∷ [])
unfolding behind bytes_at close_at close_reply_at close_row counted_at counted_path_at data_row double_at end_row failure_at hop_of link_refusal logical_at
    narrow_at number_at open_at open_reply_at open_row other_at padded_at path_at plain_port_at point_at port_at reply_at reply_row request_at request_row
    segment_at segments_of segments_within send_row size_at target_row unconnected_at unconnected_row words_at
by_produced = simp (none_held, held_first, held_none, held_get, held_entries, held_twice, bytes_get) (_, refl)

by_up_at_second : Gives second_bridge (state_in second_bridge 2 produced) (events.Frame 2 (7 ∷ []) (bodies.Data 49 (1 ∷ 0 ∷ 17 ∷ 34 ∷ [])))
    (outputs.Send 1 (0 ∷ []) (bodies.Data 65537 (1 ∷ 0 ∷ 17 ∷ 34 ∷ [])) ∷ [])
unfolding behind bytes_at close_at close_reply_at close_row counted_at counted_path_at data_row double_at end_row failure_at hop_of link_refusal logical_at
    narrow_at number_at open_at open_reply_at open_row other_at padded_at path_at plain_port_at point_at port_at reply_at reply_row request_at request_row
    segment_at segments_of segments_within send_row size_at target_row unconnected_at unconnected_row words_at
by_up_at_second = simp (none_waits, none_held, held_first, held_none, held_get, held_entries, held_twice, entry_get, entry_gone) (_, refl)

-- the bridge right after its reset
abbrev fresh : State
fresh = record {
  now = 0;
  pendings = record { room = 256; next = 65537; entries = empty };
  hops = record { room = 256; next = 65537; held = empty };
  assemblies = empty;
  ops = [];
}

is_fresh : state_in first_bridge 1 resets ≡ fresh
unfolding behind bytes_at close_at close_reply_at close_row counted_at counted_path_at data_row double_at end_row failure_at hop_of link_refusal logical_at
    narrow_at number_at open_at open_reply_at open_row other_at padded_at path_at plain_port_at point_at port_at reply_at reply_row request_at request_row
    segment_at segments_of segments_within send_row size_at target_row unconnected_at unconnected_row words_at
is_fresh = simp bytes_none refl

-- from then on, until the datum that comes up
abbrev onward : State → State
onward s =
    next_state first_bridge
    (next_state first_bridge (next_state first_bridge s (events.Frame 2 (1 ∷ []) (bodies.Request 2 first_request)))
    (events.Frame 1 (3 ∷ []) (bodies.Reply 65537 second_success)))
    (events.Frame 2 (1 ∷ []) (bodies.Data 65538 datum))

from_fresh : Gives first_bridge (onward fresh) (events.Frame 1 (3 ∷ []) (bodies.Data 65537 (1 ∷ 0 ∷ 17 ∷ 34 ∷ [])))
    (outputs.Send 2 (1 ∷ []) (bodies.Data 17 (1 ∷ 0 ∷ 17 ∷ 34 ∷ [])) ∷ [])
unfolding behind bytes_at close_at close_reply_at close_row counted_at counted_path_at data_row double_at end_row failure_at hop_of link_refusal logical_at
    narrow_at number_at open_at open_reply_at open_row other_at padded_at path_at plain_port_at point_at port_at reply_at reply_row request_at request_row
    segment_at segments_of segments_within send_row size_at target_row unconnected_at unconnected_row words_at
from_fresh = simp (none_waits, none_held, held_first, held_none, held_get, held_entries, held_twice, entry_get, entry_gone) (_, refl)

by_up_at_first : Gives first_bridge (state_in first_bridge 1 up_at_second) (events.Frame 1 (3 ∷ []) (bodies.Data 65537 (1 ∷ 0 ∷ 17 ∷ 34 ∷ [])))
    (outputs.Send 2 (1 ∷ []) (bodies.Data 17 (1 ∷ 0 ∷ 17 ∷ 34 ∷ [])) ∷ [])
by_up_at_first =
    subst (λ (s : State). Gives first_bridge (onward s) (events.Frame 1 (3 ∷ []) (bodies.Data 65537 (1 ∷ 0 ∷ 17 ∷ 34 ∷ [])))
    (outputs.Send 2 (1 ∷ []) (bodies.Data 17 (1 ∷ 0 ∷ 17 ∷ 34 ∷ [])) ∷ []))
    (sym is_fresh) from_fresh

by_arrived : Gives scanner (state_in scanner 0 up_at_first) (events.Frame 2 (5 ∷ []) (bodies.Data 17 (1 ∷ 0 ∷ 17 ∷ 34 ∷ [])))
    (outputs.Arrived 2 (1 ∷ 0 ∷ 17 ∷ 34 ∷ []) ∷ [])
unfolding behind bytes_at close_at close_reply_at close_row counted_at counted_path_at data_row double_at end_row failure_at hop_of link_refusal logical_at
    narrow_at number_at open_at open_reply_at open_row other_at padded_at path_at plain_port_at point_at port_at reply_at reply_row request_at request_row
    segment_at segments_of segments_within send_row size_at target_row unconnected_at unconnected_row words_at
by_arrived = simp (none_waits, none_held, held_first, held_none, held_get, held_entries, held_twice, entry_get, entry_gone) (_, refl)

by_ends : Gives scanner (state_in scanner 0 arrived) (events.Command (commands.Send 3 (record { tick = 7; ticks = 250 }) [] reset))
    (outputs.Done 3 done ∷ outputs.Ended 2 ∷ [])
unfolding behind bytes_at close_at close_reply_at close_row counted_at counted_path_at data_row double_at end_row failure_at hop_of link_refusal logical_at
    narrow_at number_at open_at open_reply_at open_row other_at padded_at path_at plain_port_at point_at port_at reply_at reply_row request_at request_row
    segment_at segments_of segments_within send_row size_at target_row unconnected_at unconnected_row words_at
by_ends = simp (none_waits, none_held, held_first, held_none, held_get, held_entries, held_twice, entry_get, entry_gone, pendings_none, bytes_none) (_, refl)

-- ---- entry by entry

pub run_sends : IsRun row sends
run_sends = and_command row [] 0 scanner (commands.Send 1 (record { tick = 7; ticks = 250 }) (2 ∷ 5 ∷ []) reset) _ tt refl by_sends

pub run_resets : IsRun row resets
run_resets = and_frame row sends _ (record { at = 0; port = 2; address = 5 ∷ [] }) (record { at = 1; port = 2; address = 1 ∷ [] })
    first_bridge (bodies.Request 1 reset) _ run_sends refl refl refl refl by_resets

pub run_is_told : IsRun row is_told
run_is_told = and_frame row resets _ (record { at = 1; port = 2; address = 1 ∷ [] }) (record { at = 0; port = 2; address = 5 ∷ [] })
    scanner (bodies.Reply 1 done) _ run_resets refl refl refl refl by_is_told

pub run_opens : IsRun row opens
run_opens = and_command row is_told 0 scanner (commands.Open 2 (record { tick = 7; ticks = 250 }) path params) _ run_is_told refl by_opens

pub run_at_first : IsRun row at_first
run_at_first = and_frame row opens _ (record { at = 0; port = 2; address = 5 ∷ [] }) (record { at = 1; port = 2; address = 1 ∷ [] })
    first_bridge (bodies.Request 2 first_request) _ run_opens refl refl refl refl by_at_first

pub run_at_second : IsRun row at_second
run_at_second = and_frame row at_first _ (record { at = 1; port = 1; address = 3 ∷ [] }) (record { at = 2; port = 1; address = 0 ∷ [] })
    second_bridge (bodies.Request 65537 second_request) _ run_at_first refl refl refl refl by_at_second

pub run_ends_there : IsRun row ends_there
run_ends_there = and_frame row at_second _ (record { at = 2; port = 2; address = 7 ∷ [] }) (record { at = 3; port = 2; address = 1 ∷ [] })
    (adapter 2 4) (bodies.Request 1 third_request) _ run_at_second refl refl refl refl by_ends_there

pub run_back_at_second : IsRun row back_at_second
run_back_at_second = and_frame row ends_there _ (record { at = 3; port = 2; address = 1 ∷ [] }) (record { at = 2; port = 2; address = 7 ∷ [] })
    second_bridge (bodies.Reply 1 first_success) _ run_ends_there refl refl refl refl by_back_at_second

pub run_back_at_first : IsRun row back_at_first
run_back_at_first = and_frame row back_at_second _ (record { at = 2; port = 1; address = 0 ∷ [] }) (record { at = 1; port = 1; address = 3 ∷ [] })
    first_bridge (bodies.Reply 65537 second_success) _ run_back_at_second refl refl refl refl by_back_at_first

pub run_stands : IsRun row stands
run_stands = and_frame row back_at_first _ (record { at = 1; port = 2; address = 1 ∷ [] }) (record { at = 0; port = 2; address = 5 ∷ [] })
    scanner (bodies.Reply 2 third_success) _ run_back_at_first refl refl refl refl by_stands

pub run_entered : IsRun row entered
run_entered = and_command row stands 0 scanner (commands.Enter 2 datum) _ run_stands refl by_entered

pub run_down_at_first : IsRun row down_at_first
run_down_at_first = and_frame row entered _ (record { at = 0; port = 2; address = 5 ∷ [] }) (record { at = 1; port = 2; address = 1 ∷ [] })
    first_bridge (bodies.Data 65538 datum) _ run_entered refl refl refl refl by_down_at_first

pub run_down_at_second : IsRun row down_at_second
run_down_at_second = and_frame row down_at_first _ (record { at = 1; port = 1; address = 3 ∷ [] }) (record { at = 2; port = 1; address = 0 ∷ [] })
    second_bridge (bodies.Data 50 datum) _ run_down_at_first refl refl refl refl by_down_at_second

pub run_taken : IsRun row taken
run_taken = and_frame row down_at_second _ (record { at = 2; port = 2; address = 7 ∷ [] }) (record { at = 3; port = 2; address = 1 ∷ [] })
    (adapter 2 4) (bodies.Data 65 datum) _ run_down_at_second refl refl refl refl by_taken

pub run_written : IsRun row written
run_written = and_command row taken 3 (adapter 2 4) (commands.Set 102 (17 ∷ 34 ∷ [])) _ run_taken refl by_written

pub run_produced : IsRun row produced
run_produced = and_command row written 3 (adapter 2 4) (commands.Produce 102) _ run_written refl by_produced

pub run_up_at_second : IsRun row up_at_second
run_up_at_second = and_frame row produced _ (record { at = 3; port = 2; address = 1 ∷ [] }) (record { at = 2; port = 2; address = 7 ∷ [] })
    second_bridge (bodies.Data 49 (1 ∷ 0 ∷ 17 ∷ 34 ∷ [])) _ run_produced refl refl refl refl by_up_at_second

pub run_up_at_first : IsRun row up_at_first
run_up_at_first = and_frame row up_at_second _ (record { at = 2; port = 1; address = 0 ∷ [] }) (record { at = 1; port = 1; address = 3 ∷ [] })
    first_bridge (bodies.Data 65537 (1 ∷ 0 ∷ 17 ∷ 34 ∷ [])) _ run_up_at_second refl refl refl refl by_up_at_first

pub run_arrived : IsRun row arrived
run_arrived = and_frame row up_at_first _ (record { at = 1; port = 2; address = 1 ∷ [] }) (record { at = 0; port = 2; address = 5 ∷ [] })
    scanner (bodies.Data 17 (1 ∷ 0 ∷ 17 ∷ 34 ∷ [])) _ run_up_at_first refl refl refl refl by_arrived

pub run_ends : IsRun row ends
run_ends = and_command row arrived 0 scanner (commands.Send 3 (record { tick = 7; ticks = 250 }) [] reset) _ run_arrived refl by_ends
