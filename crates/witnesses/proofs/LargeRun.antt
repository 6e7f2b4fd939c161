-- It is a run, and its chain stands.
use Rattle.std.proofs.Common.{◌≡◌, [], ◌∷◌, Some, None, refl, true}
use Rattle.std.specs.FinMap as map
use Rattle.cip_hops.specs.Hops.{hop_by_op}
use Rattle.cip_hops.specs.declared.hop.Held.TheVariants.{Open}
use Rattle.cip_event.specs.declared.event.Command.TheVariants as commands
use Rattle.cip_event.specs.declared.event.Event.TheVariants as events
use Rattle.cip_event.specs.declared.event.Body.TheVariants as bodies
use Rattle.cip_event.specs.declared.event.Output.TheVariants as outputs
use Rattle.cip_routing.specs.State.{initial_state}
use Rattle.cip_world.specs.Chains.{IsChain}
use Rattle.cip_world.specs.Runs.{IsRun, state_in}
use Rattle.cip_message.specs.Counted.{counted_at, counted_path_at}
use Rattle.cip_message.specs.ReplyAt.{reply_at}
use Rattle.cip_message.specs.RequestAt.{request_at}
use Rattle.cip_routing.specs.Links.{link_refusal}
use Rattle.cip_routing.specs.OpenRows.{open_row}
use Rattle.cip_routing.specs.ReplyRows.{reply_row}
use Rattle.cip_routing.specs.RequestRows.{request_row}
use Rattle.cip_open.specs.OpenAt.{open_at}
use Rattle.cip_open.specs.SuccessAt.{open_reply_at}
use Rattle.cip_segment.specs.Reading.{segments_within, path_at, segments_of, behind, hop_of}
use Rattle.cip_segment.specs.Scan.{bytes_at, padded_at, narrow_at, double_at, point_at, words_at, number_at, size_at, plain_port_at, port_at, other_at}
use Rattle.cip_segment.specs.Scan.{logical_at, segment_at}
use Rattle.cip_target.specs.Ends.{end_row}
use Rattle.witnesses.specs.Plans.{scanner, first_bridge, second_bridge, adapter, row, triad}
use Rattle.witnesses.specs.ChainedRun.{path}
use Rattle.witnesses.specs.LargeRun.{large_params, first_request, second_request, third_request, first_success, second_success, third_success, opens, at_first}
use Rattle.witnesses.specs.LargeRun.{at_second, ends_there, back_at_second, back_at_first, stands, of_scanner, of_first, of_second, of_adapter, first_member}
use Rattle.witnesses.specs.LargeRun.{members}
use Rattle.witnesses.proofs.Maps.{Gives, none_waits, none_held, held_first, held_none, held_get, held_entries, entry_get, bytes_get, held_twice, entry_gone}
use Rattle.witnesses.proofs.ChainOfRow.{chain_of_row}
use Rattle.witnesses.proofs.Steps.{and_command, and_frame}

-- ---- what the modules put out

by_opens : Gives scanner (initial_state scanner) (events.Command (commands.LargeOpen 1 (record { tick = 7; ticks = 250 }) path large_params))
    (outputs.Send 2 (5 ∷ []) (bodies.Request 1 first_request) ∷ [])
unfolding behind bytes_at counted_at counted_path_at double_at end_row hop_of link_refusal logical_at narrow_at number_at open_at open_reply_at open_row
    other_at padded_at path_at plain_port_at point_at port_at reply_at reply_row request_at request_row segment_at segments_of segments_within size_at
    words_at
by_opens = simp (none_waits, none_held, held_first) (_, refl)

by_at_first : Gives first_bridge (state_in first_bridge 1 opens) (events.Frame 2 (1 ∷ []) (bodies.Request 1 first_request))
    (outputs.Send 1 (3 ∷ []) (bodies.Request 1 second_request) ∷ [])
unfolding behind bytes_at counted_at counted_path_at double_at end_row hop_of link_refusal logical_at narrow_at number_at open_at open_reply_at open_row
    other_at padded_at path_at plain_port_at point_at port_at reply_at reply_row request_at request_row segment_at segments_of segments_within size_at
    words_at
by_at_first = simp (none_waits, none_held, held_first) (_, refl)

by_at_second : Gives second_bridge (state_in second_bridge 2 at_first) (events.Frame 1 (0 ∷ []) (bodies.Request 1 second_request))
    (outputs.Send 2 (7 ∷ []) (bodies.Request 1 third_request) ∷ [])
unfolding behind bytes_at counted_at counted_path_at double_at end_row hop_of link_refusal logical_at narrow_at number_at open_at open_reply_at open_row
    other_at padded_at path_at plain_port_at point_at port_at reply_at reply_row request_at request_row segment_at segments_of segments_within size_at
    words_at
by_at_second = simp (none_waits, none_held, held_first) (_, refl)

by_ends_there : Gives (adapter 2 4) (state_in (adapter 2 4) 3 at_second) (events.Frame 2 (1 ∷ []) (bodies.Request 1 third_request))
    (outputs.Send 2 (1 ∷ []) (bodies.Reply 1 first_success) ∷ [])
unfolding behind bytes_at counted_at counted_path_at double_at end_row hop_of link_refusal logical_at narrow_at number_at open_at open_reply_at open_row
    other_at padded_at path_at plain_port_at point_at port_at reply_at reply_row request_at request_row segment_at segments_of segments_within size_at
    words_at
by_ends_there = simp (none_held, held_first, held_none, held_get, held_twice, bytes_get) (_, refl)

by_back_at_second : Gives second_bridge (state_in second_bridge 2 ends_there) (events.Frame 2 (7 ∷ []) (bodies.Reply 1 first_success))
    (outputs.Send 1 (0 ∷ []) (bodies.Reply 1 second_success) ∷ [])
unfolding behind bytes_at counted_at counted_path_at double_at end_row hop_of link_refusal logical_at narrow_at number_at open_at open_reply_at open_row
    other_at padded_at path_at plain_port_at point_at port_at reply_at reply_row request_at request_row segment_at segments_of segments_within size_at
    words_at
by_back_at_second = simp (none_waits, none_held, held_first, held_get, held_twice, entry_get, entry_gone) (_, refl)

by_back_at_first : Gives first_bridge (state_in first_bridge 1 back_at_second) (events.Frame 1 (3 ∷ []) (bodies.Reply 1 second_success))
    (outputs.Send 2 (1 ∷ []) (bodies.Reply 1 third_success) ∷ [])
unfolding behind bytes_at counted_at counted_path_at double_at end_row hop_of link_refusal logical_at narrow_at number_at open_at open_reply_at open_row
    other_at padded_at path_at plain_port_at point_at port_at reply_at reply_row request_at request_row segment_at segments_of segments_within size_at
    words_at
by_back_at_first = simp (none_waits, none_held, held_first, held_get, held_twice, entry_get, entry_gone) (_, refl)

by_stands : Gives scanner (state_in scanner 0 back_at_first) (events.Frame 2 (5 ∷ []) (bodies.Reply 1 third_success)) (outputs.Done 1 third_success ∷ [])
unfolding behind bytes_at counted_at counted_path_at double_at end_row hop_of link_refusal logical_at narrow_at number_at open_at open_reply_at open_row
    other_at padded_at path_at plain_port_at point_at port_at reply_at reply_row request_at request_row segment_at segments_of segments_within size_at
    words_at
by_stands = simp (none_waits, none_held, held_first, held_get, held_twice, entry_get, entry_gone) (_, refl)

-- ---- entry by entry

run_opens : IsRun row opens
run_opens = and_command row [] 0 scanner (commands.LargeOpen 1 (record { tick = 7; ticks = 250 }) path large_params) _ tt refl by_opens

run_at_first : IsRun row at_first
run_at_first = and_frame row opens _ (record { at = 0; port = 2; address = 5 ∷ [] }) (record { at = 1; port = 2; address = 1 ∷ [] }) first_bridge
    (bodies.Request 1 first_request) _ run_opens refl refl refl refl by_at_first

run_at_second : IsRun row at_second
run_at_second = and_frame row at_first _ (record { at = 1; port = 1; address = 3 ∷ [] }) (record { at = 2; port = 1; address = 0 ∷ [] }) second_bridge
    (bodies.Request 1 second_request) _ run_at_first refl refl refl refl by_at_second

run_ends_there : IsRun row ends_there
run_ends_there = and_frame row at_second _ (record { at = 2; port = 2; address = 7 ∷ [] }) (record { at = 3; port = 2; address = 1 ∷ [] })
    (adapter 2 4) (bodies.Request 1 third_request) _ run_at_second refl refl refl refl by_ends_there

run_back_at_second : IsRun row back_at_second
run_back_at_second = and_frame row ends_there _ (record { at = 3; port = 2; address = 1 ∷ [] }) (record { at = 2; port = 2; address = 7 ∷ [] })
    second_bridge (bodies.Reply 1 first_success) _ run_ends_there refl refl refl refl by_back_at_second

run_back_at_first : IsRun row back_at_first
run_back_at_first = and_frame row back_at_second _ (record { at = 2; port = 1; address = 0 ∷ [] }) (record { at = 1; port = 1; address = 3 ∷ [] })
    first_bridge (bodies.Reply 1 second_success) _ run_back_at_second refl refl refl refl by_back_at_first

pub large_run : IsRun row stands
large_run = and_frame row back_at_first _ (record { at = 1; port = 2; address = 1 ∷ [] }) (record { at = 0; port = 2; address = 5 ∷ [] }) scanner
    (bodies.Reply 1 third_success) _ run_back_at_first refl refl refl refl by_stands

scanner_has : map.get (state_in scanner 0 stands).hops.held triad ≡ Some (Open of_scanner)
unfolding behind bytes_at counted_at counted_path_at double_at end_row hop_of link_refusal logical_at narrow_at number_at open_at open_reply_at open_row
    other_at padded_at path_at plain_port_at point_at port_at reply_at reply_row request_at request_row segment_at segments_of segments_within size_at
    words_at
scanner_has = simp (none_waits, none_held, held_first, held_get, held_twice, entry_get) refl

first_has : map.get (state_in first_bridge 1 stands).hops.held triad ≡ Some (Open of_first)
unfolding behind bytes_at counted_at counted_path_at double_at end_row hop_of link_refusal logical_at narrow_at number_at open_at open_reply_at open_row
    other_at padded_at path_at plain_port_at point_at port_at reply_at reply_row request_at request_row segment_at segments_of segments_within size_at
    words_at
first_has = simp (none_waits, none_held, held_first, held_get, held_twice, entry_get) refl

second_has : map.get (state_in second_bridge 2 stands).hops.held triad ≡ Some (Open of_second)
unfolding behind bytes_at counted_at counted_path_at double_at end_row hop_of link_refusal logical_at narrow_at number_at open_at open_reply_at open_row
    other_at padded_at path_at plain_port_at point_at port_at reply_at reply_row request_at request_row segment_at segments_of segments_within size_at
    words_at
second_has = simp (none_waits, none_held, held_first, held_get, held_twice, entry_get) refl

adapter_has : map.get (state_in (adapter 2 4) 3 stands).hops.held triad ≡ Some (Open of_adapter)
unfolding behind bytes_at counted_at counted_path_at double_at end_row hop_of link_refusal logical_at narrow_at number_at open_at open_reply_at open_row
    other_at padded_at path_at plain_port_at point_at port_at reply_at reply_row request_at request_row segment_at segments_of segments_within size_at
    words_at
adapter_has = simp (none_held, held_first, held_none, held_get, held_twice, bytes_get) refl

opened_by_op : hop_by_op (state_in scanner 0 stands).hops 1 ≡ Some of_scanner
unfolding behind bytes_at counted_at counted_path_at double_at end_row hop_of link_refusal logical_at narrow_at number_at open_at open_reply_at open_row
    other_at padded_at path_at plain_port_at point_at port_at reply_at reply_row request_at request_row segment_at segments_of segments_within size_at
    words_at
opened_by_op = simp (none_waits, none_held, held_first, held_none, held_get, held_entries, held_twice, entry_get) refl

-- three links, and an end
pub chain_stands : IsChain row stands 1 first_member members
chain_stands = chain_of_row stands true None None scanner_has first_has second_has adapter_has opened_by_op
