-- It is a run.
use Rattle.std.proofs.Common.{[], ◌∷◌, refl}
use Rattle.cip_event.specs.declared.event.Command.TheVariants as commands
use Rattle.cip_event.specs.declared.event.Event.TheVariants as events
use Rattle.cip_event.specs.declared.event.Body.TheVariants as bodies
use Rattle.cip_event.specs.declared.event.Output.TheVariants as outputs
use Rattle.cip_routing.specs.State.{initial_state}
use Rattle.cip_event.specs.declared.event.Command.{Command}
use Rattle.witnesses.specs.Plans.{scanner, adapter, cell, triad, params}
use Rattle.witnesses.proofs.Maps.{none_waits, none_held, held_get, held_first, held_entries, held_none, pendings_none, bytes_get, entry_get, Gives}
use Rattle.witnesses.proofs.Steps.{and_command, and_frame, and_tick}
use Rattle.cip_world.specs.Runs.{IsRun, state_in}
use Rattle.cip_message.specs.Counted.{counted_at, counted_path_at}
use Rattle.cip_message.specs.ReplyAt.{reply_at}
use Rattle.cip_message.specs.RequestAt.{request_at}
use Rattle.cip_routing.specs.DataRows.{data_row}
use Rattle.cip_routing.specs.Links.{link_refusal}
use Rattle.cip_routing.specs.OpenRows.{open_row}
use Rattle.cip_routing.specs.ReplyRows.{reply_row}
use Rattle.cip_routing.specs.RequestRows.{request_row}
use Rattle.cip_open.specs.OpenAt.{open_at}
use Rattle.cip_open.specs.SuccessAt.{open_reply_at}
use Rattle.cip_segment.specs.Reading.{segments_within, path_at, segments_of, behind, hop_of}
use Rattle.cip_segment.specs.Scan.{bytes_at, padded_at, narrow_at, double_at, point_at, words_at, number_at, size_at, plain_port_at, port_at, other_at}
use Rattle.cip_segment.specs.Scan.{logical_at, segment_at}
use Rattle.cip_target.specs.Ends.{end_row}
use Rattle.witnesses.specs.ConnectedRun.{open_sent, success, ticked, begins, ends_there, stands, first_datum, second_datum, entered, lost, entered_again, taken}

abbrev opening : Command
opening = commands.Open 1 (record { tick = 7; ticks = 250 }) (2 ∷ 7 ∷ 32 ∷ 4 ∷ 36 ∷ 100 ∷ 44 ∷ 101 ∷ 44 ∷ 102 ∷ []) params

opens : Gives scanner (initial_state scanner) (events.Command opening) (outputs.Send 2 (7 ∷ []) (bodies.Request 1 open_sent) ∷ [])
unfolding behind bytes_at counted_at counted_path_at data_row double_at end_row hop_of link_refusal logical_at narrow_at number_at open_at
    open_reply_at open_row other_at padded_at path_at plain_port_at point_at port_at reply_at reply_row request_at request_row segment_at segments_of
    segments_within size_at words_at
opens = simp (none_waits, none_held, held_first) (_, refl)

ticks : Gives (adapter 0 2) (initial_state (adapter 0 2)) (events.Tick 1) []
unfolding behind bytes_at counted_at counted_path_at data_row double_at end_row hop_of link_refusal logical_at narrow_at number_at open_at
    open_reply_at open_row other_at padded_at path_at plain_port_at point_at port_at reply_at reply_row request_at request_row segment_at segments_of
    segments_within size_at words_at
ticks = simp (held_none, pendings_none) (_, refl)

accepts : Gives (adapter 0 2) (state_in (adapter 0 2) 1 begins) (events.Frame 2 (1 ∷ []) (bodies.Request 1 open_sent))
    (outputs.Send 2 (1 ∷ []) (bodies.Reply 1 success) ∷ [])
unfolding behind bytes_at counted_at counted_path_at data_row double_at end_row hop_of link_refusal logical_at narrow_at number_at open_at
    open_reply_at open_row other_at padded_at path_at plain_port_at point_at port_at reply_at reply_row request_at request_row segment_at segments_of
    segments_within size_at words_at
accepts = simp (none_held, held_first, held_get, held_none, bytes_get, pendings_none) (_, refl)

finishes : Gives scanner (state_in scanner 0 ends_there) (events.Frame 2 (7 ∷ []) (bodies.Reply 1 success)) (outputs.Done 1 success ∷ [])
unfolding behind bytes_at counted_at counted_path_at data_row double_at end_row hop_of link_refusal logical_at narrow_at number_at open_at
    open_reply_at open_row other_at padded_at path_at plain_port_at point_at port_at reply_at reply_row request_at request_row segment_at segments_of
    segments_within size_at words_at
finishes = simp (none_waits, none_held, held_first, held_get, entry_get) (_, refl)

enters : Gives scanner (state_in scanner 0 stands) (events.Command (commands.Enter 1 first_datum)) (outputs.Send 2 (7 ∷ []) (bodies.Data 65 first_datum) ∷ [])
unfolding behind bytes_at counted_at counted_path_at data_row double_at end_row hop_of link_refusal logical_at narrow_at number_at open_at
    open_reply_at open_row other_at padded_at path_at plain_port_at point_at port_at reply_at reply_row request_at request_row segment_at segments_of
    segments_within size_at words_at
enters = simp (none_waits, none_held, held_first, held_get, held_entries, held_none, entry_get) (_, refl)

enters_again : Gives scanner (state_in scanner 0 lost) (events.Command (commands.Enter 1 second_datum))
    (outputs.Send 2 (7 ∷ []) (bodies.Data 65 second_datum) ∷ [])
unfolding behind bytes_at counted_at counted_path_at data_row double_at end_row hop_of link_refusal logical_at narrow_at number_at open_at
    open_reply_at open_row other_at padded_at path_at plain_port_at point_at port_at reply_at reply_row request_at request_row segment_at segments_of
    segments_within size_at words_at
enters_again = simp (none_waits, none_held, held_first, held_get, held_entries, held_none, entry_get) (_, refl)

takes : Gives (adapter 0 2) (state_in (adapter 0 2) 1 entered_again) (events.Frame 2 (1 ∷ []) (bodies.Data 65 second_datum))
    (outputs.Consumed triad 101 second_datum ∷ [])
unfolding behind bytes_at counted_at counted_path_at data_row double_at end_row hop_of link_refusal logical_at narrow_at number_at open_at
    open_reply_at open_row other_at padded_at path_at plain_port_at point_at port_at reply_at reply_row request_at request_row segment_at segments_of
    segments_within size_at words_at
takes = simp (none_held, held_first, held_get, held_entries, held_none, bytes_get, pendings_none) (_, refl)

-- ---- entry by entry

run_ticked : IsRun cell ticked
run_ticked = and_tick cell [] 1 (adapter 0 2) 1 _ tt refl ticks

run_begins : IsRun cell begins
run_begins = and_command cell ticked 0 scanner opening _ run_ticked refl opens

run_ends_there : IsRun cell ends_there
run_ends_there = and_frame cell begins _ (record { at = 0; port = 2; address = 7 ∷ [] }) (record { at = 1; port = 2; address = 1 ∷ [] }) (adapter 0 2)
    (bodies.Request 1 open_sent) _ run_begins refl refl refl refl accepts

run_stands : IsRun cell stands
run_stands = and_frame cell ends_there _ (record { at = 1; port = 2; address = 1 ∷ [] }) (record { at = 0; port = 2; address = 7 ∷ [] }) scanner
    (bodies.Reply 1 success) _ run_ends_there refl refl refl refl finishes

run_entered : IsRun cell entered
run_entered = and_command cell stands 0 scanner (commands.Enter 1 first_datum) _ run_stands refl enters

run_lost : IsRun cell lost
run_lost = (
  run_entered,
  record {
    flight = record { way = record { at = 0; port = 2; address = 7 ∷ [] }; body = bodies.Data 65 first_datum };
    there = record { at = 1; port = 2; address = 1 ∷ [] };
    sent = refl;
    leads = refl;
    fresh = refl;
  },
)

run_entered_again : IsRun cell entered_again
run_entered_again = and_command cell lost 0 scanner (commands.Enter 1 second_datum) _ run_lost refl enters_again

-- the whole run
pub connected_run : IsRun cell taken
connected_run = and_frame cell entered_again _ (record { at = 0; port = 2; address = 7 ∷ [] }) (record { at = 1; port = 2; address = 1 ∷ [] })
    (adapter 0 2) (bodies.Data 65 second_datum) _ run_entered_again refl refl refl refl takes
