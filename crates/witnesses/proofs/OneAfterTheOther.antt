-- It is a run.
use Rattle.std.proofs.Common.{◌≡◌, false, [], ◌∷◌, Some, None, refl, sym, subst}
use Rattle.std.specs.FinMap as map
use Rattle.cip_hops.specs.declared.hop.Held.TheVariants.{Open}
use Rattle.cip_hops.specs.declared.opening.HopUp.TheVariants.{Link as UpLink}
use Rattle.cip_hops.specs.declared.opening.HopDown.TheVariants.{End}
use Rattle.cip_target.specs.Assemblies.{AssemblyMap}
use Rattle.cip_event.specs.declared.event.Command.TheVariants as commands
use Rattle.cip_event.specs.declared.event.Event.TheVariants as events
use Rattle.cip_event.specs.declared.event.Body.TheVariants as bodies
use Rattle.cip_event.specs.declared.event.Output.TheVariants as outputs
use Rattle.cip_event.specs.declared.event.Dropped.TheVariants.{UnknownId}
use Rattle.cip_routing.specs.State.{State, initial_state}
use Rattle.cip_world.specs.Runs.{IsRun, state_in}
use Rattle.witnesses.specs.Plans.{scanner, adapter, cell, triad, params}
use Rattle.witnesses.proofs.Maps.{Gives, none_waits, none_held, held_first, held_none, held_get, held_entries, held_gone, held_twice, bytes_get, entry_get}
use Rattle.witnesses.proofs.Maps.{entry_gone}
use Rattle.witnesses.proofs.Steps.{and_command, and_frame}
use Rattle.cip_message.specs.Counted.{counted_at, counted_path_at}
use Rattle.cip_message.specs.Failure.{failure_at}
use Rattle.cip_message.specs.ReplyAt.{reply_at}
use Rattle.cip_message.specs.RequestAt.{request_at}
use Rattle.cip_close.specs.CloseAt.{close_at}
use Rattle.cip_close.specs.SuccessAt.{close_reply_at}
use Rattle.cip_routing.specs.CloseRows.{close_row}
use Rattle.cip_routing.specs.DataRows.{data_row}
use Rattle.cip_routing.specs.Links.{link_refusal}
use Rattle.cip_routing.specs.OpenRows.{open_row}
use Rattle.cip_routing.specs.ReplyRows.{reply_row}
use Rattle.cip_routing.specs.RequestRows.{request_row}
use Rattle.cip_open.specs.OpenAt.{open_at}
use Rattle.cip_open.specs.SuccessAt.{open_reply_at}
use Rattle.cip_segment.specs.Reading.{segments_within, path_at, segments_of, behind, hop_of}
use Rattle.cip_segment.specs.Scan.{bytes_at, padded_at, narrow_at, double_at, point_at, words_at, number_at, size_at, plain_port_at, port_at, other_at}
use Rattle.cip_segment.specs.Scan.{logical_at, segment_at}
use Rattle.cip_target.specs.Ends.{end_row}
use Rattle.witnesses.specs.OneAfterTheOther.{first_request, first_success, first_datum, close_request, close_success, second_request, second_success}
use Rattle.witnesses.specs.OneAfterTheOther.{second_datum, path, opens, accepted, stands, entered, asked_to_close, closed, closed_here, opens_again}
use Rattle.witnesses.specs.OneAfterTheOther.{accepted_again, stands_again, dropped, entered_again, taken}

-- ---- what the modules put out

by_opens : Gives scanner (initial_state scanner) (events.Command (commands.Open 1 (record { tick = 7; ticks = 250 }) path params))
    (outputs.Send 2 (7 ∷ []) (bodies.Request 1 first_request) ∷ [])
unfolding behind bytes_at close_at close_reply_at close_row counted_at counted_path_at data_row double_at end_row failure_at hop_of link_refusal logical_at
    narrow_at number_at open_at open_reply_at open_row other_at padded_at path_at plain_port_at point_at port_at reply_at reply_row request_at request_row
    segment_at segments_of segments_within size_at words_at
by_opens = simp (none_waits, none_held, held_first) (_, refl)

by_accepted : Gives (adapter 0 2) (state_in (adapter 0 2) 1 opens) (events.Frame 2 (1 ∷ []) (bodies.Request 1 first_request))
    (outputs.Send 2 (1 ∷ []) (bodies.Reply 1 first_success) ∷ [])
unfolding behind bytes_at close_at close_reply_at close_row counted_at counted_path_at data_row double_at end_row failure_at hop_of link_refusal logical_at
    narrow_at number_at open_at open_reply_at open_row other_at padded_at path_at plain_port_at point_at port_at reply_at reply_row request_at request_row
    segment_at segments_of segments_within size_at words_at
by_accepted = simp (none_held, held_first, held_none, held_get, held_twice, bytes_get) (_, refl)

by_stands : Gives scanner (state_in scanner 0 accepted) (events.Frame 2 (7 ∷ []) (bodies.Reply 1 first_success)) (outputs.Done 1 first_success ∷ [])
unfolding behind bytes_at close_at close_reply_at close_row counted_at counted_path_at data_row double_at end_row failure_at hop_of link_refusal logical_at
    narrow_at number_at open_at open_reply_at open_row other_at padded_at path_at plain_port_at point_at port_at reply_at reply_row request_at request_row
    segment_at segments_of segments_within size_at words_at
by_stands = simp (none_waits, none_held, held_first, held_get, held_twice, entry_get, entry_gone) (_, refl)

by_entered : Gives scanner (state_in scanner 0 stands) (events.Command (commands.Enter 1 first_datum))
    (outputs.Send 2 (7 ∷ []) (bodies.Data 65 first_datum) ∷ [])
unfolding behind bytes_at close_at close_reply_at close_row counted_at counted_path_at data_row double_at end_row failure_at hop_of link_refusal logical_at
    narrow_at number_at open_at open_reply_at open_row other_at padded_at path_at plain_port_at point_at port_at reply_at reply_row request_at request_row
    segment_at segments_of segments_within size_at words_at
by_entered = simp (none_waits, none_held, held_first, held_none, held_get, held_entries, held_twice, entry_get, entry_gone) (_, refl)

by_asked_to_close : Gives scanner (state_in scanner 0 entered) (events.Command (commands.Close 2 1 (record { tick = 7; ticks = 250 })))
    (outputs.Send 2 (7 ∷ []) (bodies.Request 2 close_request) ∷ [])
unfolding behind bytes_at close_at close_reply_at close_row counted_at counted_path_at data_row double_at end_row failure_at hop_of link_refusal logical_at
    narrow_at number_at open_at open_reply_at open_row other_at padded_at path_at plain_port_at point_at port_at reply_at reply_row request_at request_row
    segment_at segments_of segments_within size_at words_at
by_asked_to_close = simp (none_waits, none_held, held_first, held_none, held_get, held_entries, held_gone, held_twice, entry_get, entry_gone) (_, refl)

by_closed : Gives (adapter 0 2) (state_in (adapter 0 2) 1 asked_to_close) (events.Frame 2 (1 ∷ []) (bodies.Request 2 close_request))
    (outputs.Send 2 (1 ∷ []) (bodies.Reply 2 close_success) ∷ [])
unfolding behind bytes_at close_at close_reply_at close_row counted_at counted_path_at data_row double_at end_row failure_at hop_of link_refusal logical_at
    narrow_at number_at open_at open_reply_at open_row other_at padded_at path_at plain_port_at point_at port_at reply_at reply_row request_at request_row
    segment_at segments_of segments_within size_at words_at
by_closed = simp (none_held, held_first, held_none, held_get, held_gone, held_twice, bytes_get) (_, refl)

by_closed_here : Gives scanner (state_in scanner 0 closed) (events.Frame 2 (7 ∷ []) (bodies.Reply 2 close_success)) (outputs.Done 2 close_success ∷ [])
unfolding behind bytes_at close_at close_reply_at close_row counted_at counted_path_at data_row double_at end_row failure_at hop_of link_refusal logical_at
    narrow_at number_at open_at open_reply_at open_row other_at padded_at path_at plain_port_at point_at port_at reply_at reply_row request_at request_row
    segment_at segments_of segments_within size_at words_at
by_closed_here = simp (none_waits, none_held, held_first, held_none, held_get, held_entries, held_gone, held_twice, entry_get, entry_gone) (_, refl)

by_opens_again : Gives scanner (state_in scanner 0 closed_here) (events.Command (commands.Open 3 (record { tick = 7; ticks = 250 }) path params))
    (outputs.Send 2 (7 ∷ []) (bodies.Request 3 second_request) ∷ [])
unfolding behind bytes_at close_at close_reply_at close_row counted_at counted_path_at data_row double_at end_row failure_at hop_of link_refusal logical_at
    narrow_at number_at open_at open_reply_at open_row other_at padded_at path_at plain_port_at point_at port_at reply_at reply_row request_at request_row
    segment_at segments_of segments_within size_at words_at
by_opens_again = simp (none_waits, none_held, held_first, held_none, held_get, held_entries, held_gone, held_twice, entry_get, entry_gone) (_, refl)

by_accepted_again : Gives (adapter 0 2) (state_in (adapter 0 2) 1 opens_again) (events.Frame 2 (1 ∷ []) (bodies.Request 3 second_request))
    (outputs.Send 2 (1 ∷ []) (bodies.Reply 3 second_success) ∷ [])
unfolding behind bytes_at close_at close_reply_at close_row counted_at counted_path_at data_row double_at end_row failure_at hop_of link_refusal logical_at
    narrow_at number_at open_at open_reply_at open_row other_at padded_at path_at plain_port_at point_at port_at reply_at reply_row request_at request_row
    segment_at segments_of segments_within size_at words_at
by_accepted_again = simp (none_held, held_first, held_none, held_get, held_gone, held_twice, bytes_get) (_, refl)

by_stands_again : Gives scanner (state_in scanner 0 accepted_again) (events.Frame 2 (7 ∷ []) (bodies.Reply 3 second_success))
    (outputs.Done 3 second_success ∷ [])
unfolding behind bytes_at close_at close_reply_at close_row counted_at counted_path_at data_row double_at end_row failure_at hop_of link_refusal logical_at
    narrow_at number_at open_at open_reply_at open_row other_at padded_at path_at plain_port_at point_at port_at reply_at reply_row request_at request_row
    segment_at segments_of segments_within size_at words_at
by_stands_again = simp (none_waits, none_held, held_first, held_none, held_get, held_entries, held_gone, held_twice, entry_get, entry_gone) (_, refl)

by_dropped : Gives (adapter 0 2) (state_in (adapter 0 2) 1 stands_again) (events.Frame 2 (1 ∷ []) (bodies.Data 65 first_datum))
    (outputs.Dropped UnknownId ∷ [])
unfolding behind bytes_at close_at close_reply_at close_row counted_at counted_path_at data_row double_at end_row failure_at hop_of link_refusal logical_at
    narrow_at number_at open_at open_reply_at open_row other_at padded_at path_at plain_port_at point_at port_at reply_at reply_row request_at request_row
    segment_at segments_of segments_within size_at words_at
by_dropped = simp (none_held, held_first, held_none, held_get, held_entries, held_gone, held_twice, bytes_get) (_, refl)

by_entered_again : Gives scanner (state_in scanner 0 dropped) (events.Command (commands.Enter 3 second_datum))
    (outputs.Send 2 (7 ∷ []) (bodies.Data 66 second_datum) ∷ [])
unfolding behind bytes_at close_at close_reply_at close_row counted_at counted_path_at data_row double_at end_row failure_at hop_of link_refusal logical_at
    narrow_at number_at open_at open_reply_at open_row other_at padded_at path_at plain_port_at point_at port_at reply_at reply_row request_at request_row
    segment_at segments_of segments_within size_at words_at
by_entered_again = simp (none_waits, none_held, held_first, held_none, held_get, held_entries, held_gone, held_twice, entry_get, entry_gone) (_, refl)

-- what the adapter has when the second datum comes: the second connection alone
abbrev second_only : AssemblyMap → State
second_only assemblies = record {
  now = 0;
  pendings = record { room = 256; next = 1; entries = map.empty };
  hops = record {
    room = 256;
    next = 67;
    held = map.insert map.empty triad (Open (record {
      opening = record {
        triad = triad;
        up = UpLink 2 (1 ∷ []) 18;
        down = End 100 101 102;
        path = 32 ∷ 4 ∷ 36 ∷ 100 ∷ 44 ∷ 101 ∷ 44 ∷ 102 ∷ [];
        ot_size = 6;
        to_size = 4;
        ot_rpi = 10000;
        to_rpi = 10000;
        multiplier = 0;
        class = 1;
        large = false;
      };
      ids = record { up = Some 66; down = None };
      their_id = None;
      up_deadline = Some 40000;
      down_deadline = None;
      consumed = None;
      produced = None;
    }));
  };
  assemblies = assemblies;
  ops = [];
}

is_second_only : (assemblies : AssemblyMap) × (state_in (adapter 0 2) 1 entered_again ≡ second_only assemblies)
unfolding behind bytes_at close_at close_reply_at close_row counted_at counted_path_at data_row double_at end_row failure_at hop_of link_refusal logical_at
    narrow_at number_at open_at open_reply_at open_row other_at padded_at path_at plain_port_at point_at port_at reply_at reply_row request_at request_row
    segment_at segments_of segments_within size_at words_at
is_second_only = simp (none_held, held_first, held_none, held_get, held_entries, held_gone, held_twice, bytes_get) (_, refl)

takes_second : (assemblies : AssemblyMap) → Gives (adapter 0 2) (second_only assemblies) (events.Frame 2 (1 ∷ []) (bodies.Data 66 second_datum))
    (outputs.Consumed triad 101 second_datum ∷ [])
unfolding behind bytes_at close_at close_reply_at close_row counted_at counted_path_at data_row double_at end_row failure_at hop_of link_refusal logical_at
    narrow_at number_at open_at open_reply_at open_row other_at padded_at path_at plain_port_at point_at port_at reply_at reply_row request_at request_row
    segment_at segments_of segments_within size_at words_at
takes_second assemblies = simp (held_first, held_none, held_get, held_entries) (_, refl)

by_taken : Gives (adapter 0 2) (state_in (adapter 0 2) 1 entered_again) (events.Frame 2 (1 ∷ []) (bodies.Data 66 second_datum))
    (outputs.Consumed triad 101 second_datum ∷ [])
by_taken = subst (λ s. Gives (adapter 0 2) s (events.Frame 2 (1 ∷ []) (bodies.Data 66 second_datum)) (outputs.Consumed triad 101 second_datum ∷ []))
    (sym is_second_only.1) (takes_second is_second_only.0)

-- ---- entry by entry

run_opens : IsRun cell opens
run_opens = and_command cell [] 0 scanner (commands.Open 1 (record { tick = 7; ticks = 250 }) path params) _ tt refl by_opens

run_accepted : IsRun cell accepted
run_accepted = and_frame cell opens _ (record { at = 0; port = 2; address = 7 ∷ [] }) (record { at = 1; port = 2; address = 1 ∷ [] }) (adapter 0 2)
    (bodies.Request 1 first_request) _ run_opens refl refl refl refl by_accepted

pub run_stands : IsRun cell stands
run_stands = and_frame cell accepted _ (record { at = 1; port = 2; address = 1 ∷ [] }) (record { at = 0; port = 2; address = 7 ∷ [] }) scanner
    (bodies.Reply 1 first_success) _ run_accepted refl refl refl refl by_stands

run_entered : IsRun cell entered
run_entered = and_command cell stands 0 scanner (commands.Enter 1 first_datum) _ run_stands refl by_entered

run_asked_to_close : IsRun cell asked_to_close
run_asked_to_close = and_command cell entered 0 scanner (commands.Close 2 1 (record { tick = 7; ticks = 250 })) _ run_entered refl by_asked_to_close

run_closed : IsRun cell closed
run_closed = and_frame cell asked_to_close _ (record { at = 0; port = 2; address = 7 ∷ [] }) (record { at = 1; port = 2; address = 1 ∷ [] })
    (adapter 0 2) (bodies.Request 2 close_request) _ run_asked_to_close refl refl refl refl by_closed

run_closed_here : IsRun cell closed_here
run_closed_here = and_frame cell closed _ (record { at = 1; port = 2; address = 1 ∷ [] }) (record { at = 0; port = 2; address = 7 ∷ [] }) scanner
    (bodies.Reply 2 close_success) _ run_closed refl refl refl refl by_closed_here

run_opens_again : IsRun cell opens_again
run_opens_again = and_command cell closed_here 0 scanner (commands.Open 3 (record { tick = 7; ticks = 250 }) path params) _ run_closed_here refl
    by_opens_again

run_accepted_again : IsRun cell accepted_again
run_accepted_again = and_frame cell opens_again _ (record { at = 0; port = 2; address = 7 ∷ [] }) (record { at = 1; port = 2; address = 1 ∷ [] })
    (adapter 0 2) (bodies.Request 3 second_request) _ run_opens_again refl refl refl refl by_accepted_again

run_stands_again : IsRun cell stands_again
run_stands_again = and_frame cell accepted_again _ (record { at = 1; port = 2; address = 1 ∷ [] }) (record { at = 0; port = 2; address = 7 ∷ [] })
    scanner (bodies.Reply 3 second_success) _ run_accepted_again refl refl refl refl by_stands_again

run_dropped : IsRun cell dropped
run_dropped = and_frame cell stands_again _ (record { at = 0; port = 2; address = 7 ∷ [] }) (record { at = 1; port = 2; address = 1 ∷ [] })
    (adapter 0 2) (bodies.Data 65 first_datum) _ run_stands_again refl refl refl refl by_dropped

run_entered_again : IsRun cell entered_again
run_entered_again = and_command cell dropped 0 scanner (commands.Enter 3 second_datum) _ run_dropped refl by_entered_again

-- the whole run
pub one_after_the_other : IsRun cell taken
one_after_the_other = and_frame cell entered_again _ (record { at = 0; port = 2; address = 7 ∷ [] }) (record { at = 1; port = 2; address = 1 ∷ [] })
    (adapter 0 2) (bodies.Data 66 second_datum) _ run_entered_again refl refl refl refl by_taken
