-- What a reset does, at the bridge that is reset and used again, and at the scanner that resets itself.
use Rattle.std.proofs.Common.{Some, ◌≡◌, ◌≤◌, ◌<◌, [], ◌∷◌, ◌++◌, None, refl, inl, inr, arith}
use Rattle.std.specs.FinMap as map
use Rattle.cip_base.specs.Counts.{reborn}
use Rattle.cip_pending.specs.declared.entry.UpSide.TheVariants.{Link, Local}
use Rattle.cip_event.specs.declared.event.Body.TheVariants as bodies
use Rattle.cip_event.specs.declared.event.Output.TheVariants as outputs
use Rattle.cip_hops.specs.Hops.{hop_by_up, hop_by_down}
use Rattle.cip_hops.specs.declared.hop.Held.TheVariants.{Open}
use Rattle.cip_routing.specs.State.{initial_state}
use Rattle.cip_laws.specs.Births.{IsBirth}
use Rattle.cip_laws.specs.Histories.{IsHistory}
use Rattle.cip_laws.specs.Resets.{ResetIn, made_again}
use Rattle.cip_laws.specs.Turns.{Has}
use Rattle.cip_laws.specs.Weights.{is_reply, is_ended, weight}
use Rattle.cip_laws.proofs.Again.{reset_makes_again, numbers_from_reset, ids_drawn_from_reset, none_waits, none_by_up, none_by_down, number_range}
use Rattle.cip_laws.proofs.Births.{birth_range}
use Rattle.cip_world.specs.Journals.{part}
use Rattle.cip_world.specs.Mirrors.{IsOlder}
use Rattle.cip_world.specs.ResetSteps.{IsResetBy}
use Rattle.cip_world.specs.Runs.{state_in}
use Rattle.cip_world.proofs.Chassis.{chassis}
use Rattle.cip_world.proofs.Moments.{run_older, itself}
use Rattle.cip_world.proofs.Parts.{run_history}
use Rattle.cip_world.proofs.RepliesTell.{replies_tell}
use Rattle.cip_world.proofs.ResetMirrors.{none_mirrors}
use Rattle.cip_message.specs.Counted.{counted_at, counted_path_at}
use Rattle.cip_message.specs.Failure.{failure_at}
use Rattle.cip_message.specs.ReplyAt.{reply_at}
use Rattle.cip_message.specs.RequestAt.{request_at}
use Rattle.cip_close.specs.CloseAt.{close_at}
use Rattle.cip_close.specs.SuccessAt.{close_reply_at}
use Rattle.cip_routing.specs.CloseRows.{close_row}
use Rattle.cip_routing.specs.CommandRows.{send_row}
use Rattle.cip_routing.specs.DataRows.{data_row}
use Rattle.cip_routing.specs.Links.{link_refusal}
use Rattle.cip_routing.specs.OpenRows.{open_row}
use Rattle.cip_routing.specs.ReplyRows.{reply_row}
use Rattle.cip_routing.specs.RequestRows.{request_row}
use Rattle.cip_routing.specs.UnconnectedRows.{unconnected_row}
use Rattle.cip_open.specs.OpenAt.{open_at}
use Rattle.cip_open.specs.SuccessAt.{open_reply_at}
use Rattle.cip_segment.specs.Reading.{behind, hop_of, path_at, segments_of, segments_within}
use Rattle.cip_segment.specs.Scan.{bytes_at, double_at, logical_at, narrow_at, number_at, other_at, padded_at, plain_port_at, point_at, port_at, segment_at}
use Rattle.cip_segment.specs.Scan.{size_at, words_at}
use Rattle.cip_target.specs.Ends.{end_row}
use Rattle.cip_target.specs.Rows.{target_row}
use Rattle.cip_unconnected.specs.UnconnectedAt.{unconnected_at}
use Rattle.witnesses.specs.Plans.{scanner, first_bridge, plant, row, triad}
use Rattle.witnesses.specs.OpenedAgain as again
use Rattle.witnesses.specs.ResetRun as resetting
use Rattle.witnesses.specs.ResetBridge as under
use Rattle.witnesses.specs.ChainedRun.{of_scanner, of_first}
use Rattle.witnesses.specs.ResetTold.{is_reset, goes_on, after_it, begins, own, resets_under_it, finds_none, resets_itself, behind_it, ends_itself}
use Rattle.witnesses.proofs.Maps.{none_waits as none_wait, none_held, held_first, held_none, held_get, held_entries, held_twice, entry_get, entry_gone}
use Rattle.witnesses.proofs.Maps.{bytes_none}
use Rattle.witnesses.proofs.OpenedAgain.{run_resets, run_at_first, run_up_at_first, run_ends}
use Rattle.witnesses.proofs.ResetRun.{reset_under_way, run_resets as run_resetting}
use Rattle.witnesses.proofs.ResetBridge.{run_is_unknown}
use Rattle.witnesses.proofs.Topologies.{plant_is, row_is}

-- ---- the bridge

pub turns_are : part 1 again.up_at_first ≡ after_it ++ (is_reset ∷ [])
turns_are = refl

pub resets_there : ResetIn first_bridge [] is_reset
unfolding behind bytes_at close_at close_reply_at close_row counted_at counted_path_at data_row double_at end_row failure_at hop_of link_refusal logical_at
    narrow_at number_at open_at open_reply_at open_row other_at padded_at path_at plain_port_at point_at port_at reply_at reply_row request_at request_row
    segment_at segments_of segments_within send_row size_at target_row unconnected_at unconnected_row words_at
resets_there = record {
  up = Link 2 (1 ∷ []) 1;
  request = record { service = 5; path = 32 ∷ 1 ∷ 36 ∷ 1 ∷ []; data_ = [] };
  decided = refl;
  read = refl;
}

abbrev at_first : IsHistory first_bridge (is_reset ∷ [])
at_first = run_history row again.resets 1 first_bridge run_resets refl

abbrev in_the_end : IsHistory first_bridge (after_it ++ (is_reset ∷ []))
in_the_end = run_history row again.up_at_first 1 first_bridge run_up_at_first refl

pub is_made_again : state_in first_bridge 1 again.resets ≡ made_again first_bridge (Link 2 (1 ∷ []) 1) (initial_state first_bridge)
unfolding resets_there
is_made_again = reset_makes_again first_bridge is_reset [] at_first resets_there

pub numbers_are_later : reborn first_bridge.first_number ≤ (state_in first_bridge 1 again.up_at_first).pendings.next
numbers_are_later = numbers_from_reset first_bridge after_it [] is_reset in_the_end resets_there

pub ids_are_later : reborn first_bridge.first_id ≤ (state_in first_bridge 1 again.up_at_first).hops.next
ids_are_later = ids_drawn_from_reset first_bridge after_it [] is_reset in_the_end resets_there

-- no request under the number that the first one had
pub none_waits_there : map.get (state_in first_bridge 1 again.up_at_first).pendings.entries 1 ≡ None
none_waits_there = none_waits first_bridge after_it [] is_reset in_the_end resets_there 1 (omega arith)

-- no connection by the ids that the first one would have had
pub none_goes_there : (hop_by_up (state_in first_bridge 1 again.up_at_first).hops 34 2 (1 ∷ []) ≡ None)
    × (hop_by_down (state_in first_bridge 1 again.up_at_first).hops 33 1 (3 ∷ []) ≡ None)
none_goes_there = (
  none_by_up first_bridge after_it [] is_reset in_the_end resets_there 34 2 (1 ∷ []) (omega arith),
  none_by_down first_bridge after_it [] is_reset in_the_end resets_there 33 1 (3 ∷ []) (omega arith),
)

-- ---- the open through it

abbrev opened : IsHistory first_bridge (goes_on ∷ is_reset ∷ [])
opened = run_history row again.at_first 1 first_bridge run_at_first refl

pub number_is_sent : Has goes_on.outputs (outputs.Send 1 (3 ∷ []) (bodies.Request 65537 again.second_request))
number_is_sent = inl refl

pub number_is_drawn : ((state_in first_bridge 1 again.opens).pendings.next ≤ 65537)
    × (65537 < (state_in first_bridge 1 again.at_first).pendings.next)
number_is_drawn = number_range first_bridge goes_on (is_reset ∷ []) 1 65537 (3 ∷ []) again.second_request opened number_is_sent

pub is_born : IsBirth first_bridge begins own (is_reset ∷ []) goes_on
unfolding behind bytes_at close_at close_reply_at close_row counted_at counted_path_at data_row double_at end_row failure_at hop_of link_refusal logical_at
    narrow_at number_at open_at open_reply_at open_row other_at padded_at path_at plain_port_at point_at port_at reply_at reply_row request_at request_row
    segment_at segments_of segments_within send_row size_at target_row unconnected_at unconnected_row words_at
is_born = record {
  is = simp (none_wait, none_held, held_first, bytes_none) refl;
  ids_are = refl;
}

pub ids_are_drawn : ((state_in first_bridge 1 again.opens).hops.next ≤ 65538) × (65538 < (state_in first_bridge 1 again.at_first).hops.next)
ids_are_drawn = birth_range first_bridge begins own (is_reset ∷ []) goes_on 65538 opened is_born (inl refl)

-- ---- the bridge that is reset under a connection

pub under_it : ResetIn first_bridge (part 1 under.sends) resets_under_it
unfolding behind bytes_at close_at close_reply_at close_row counted_at counted_path_at data_row double_at end_row failure_at hop_of link_refusal logical_at
    narrow_at number_at open_at open_reply_at open_row other_at padded_at path_at plain_port_at point_at port_at reply_at reply_row request_at request_row
    segment_at segments_of segments_within send_row size_at target_row unconnected_at unconnected_row words_at
under_it = record {
  up = Link 2 (1 ∷ []) 2;
  request = record { service = 5; path = 32 ∷ 1 ∷ 36 ∷ 1 ∷ []; data_ = [] };
  decided = refl;
  read = simp (none_wait, none_held, held_first, held_get, held_twice, entry_get, entry_gone) refl;
}

-- it had the connection, under the id that a datum names
pub stood_there : hop_by_up (state_in first_bridge 1 under.sends).hops 34 2 (1 ∷ []) ≡ Some of_first
unfolding behind bytes_at close_at close_reply_at close_row counted_at counted_path_at data_row double_at end_row failure_at hop_of link_refusal logical_at
    narrow_at number_at open_at open_reply_at open_row other_at padded_at path_at plain_port_at point_at port_at reply_at reply_row request_at request_row
    segment_at segments_of segments_within send_row size_at target_row unconnected_at unconnected_row words_at
stood_there = simp (none_wait, none_held, held_first, held_none, held_get, held_entries, held_twice, entry_get, entry_gone) refl

next_there : (state_in first_bridge 1 under.sends).hops.next ≡ 35
unfolding behind bytes_at close_at close_reply_at close_row counted_at counted_path_at data_row double_at end_row failure_at hop_of link_refusal logical_at
    narrow_at number_at open_at open_reply_at open_row other_at padded_at path_at plain_port_at point_at port_at reply_at reply_row request_at request_row
    segment_at segments_of segments_within send_row size_at target_row unconnected_at unconnected_row words_at
next_there = simp (none_wait, none_held, held_first, held_get, held_twice, entry_get, entry_gone) refl

abbrev behind_the_datum : IsHistory first_bridge ((finds_none ∷ []) ++ (resets_under_it ∷ part 1 under.sends))
behind_the_datum = run_history row under.is_unknown 1 first_bridge run_is_unknown refl

-- and has none then
pub none_is_left : hop_by_up (state_in first_bridge 1 under.is_unknown).hops 34 2 (1 ∷ []) ≡ None
none_is_left = none_by_up first_bridge (finds_none ∷ []) (part 1 under.sends) resets_under_it behind_the_datum under_it 34 2 (1 ∷ [])
    (let next = next_there in omega (arith, next))

under_resets : IsOlder (under.resetting ∷ under.sends) under.is_unknown
under_resets = inr (inr (inr (inl refl)))

number_there : (state_in first_bridge 1 under.sends).pendings.next ≡ 2
unfolding behind bytes_at close_at close_reply_at close_row counted_at counted_path_at data_row double_at end_row failure_at hop_of link_refusal logical_at
    narrow_at number_at open_at open_reply_at open_row other_at padded_at path_at plain_port_at point_at port_at reply_at reply_row request_at request_row
    segment_at segments_of segments_within send_row size_at target_row unconnected_at unconnected_row words_at
number_there = simp (none_wait, none_held, held_first, held_get, held_twice, entry_get, entry_gone) refl

-- what it had drawn before, clause by clause
pub counts_there : ((state_in first_bridge 1 under.sends).pendings.next ≡ 2) × ((state_in first_bridge 1 under.sends).hops.next ≡ 35)
counts_there = (number_there, next_there)

pub made_under_it : state_in first_bridge 1 under.resets ≡ made_again first_bridge (Link 2 (1 ∷ []) 2) (state_in first_bridge 1 under.sends)
unfolding under_it
made_under_it = reset_makes_again first_bridge resets_under_it (part 1 under.sends)
    (run_history row under.resets 1 first_bridge (run_older row under.resets under.is_unknown under_resets run_is_unknown) refl) under_it

pub none_waits_under_it : map.get (state_in first_bridge 1 under.is_unknown).pendings.entries 1 ≡ None
none_waits_under_it = none_waits first_bridge (finds_none ∷ []) (part 1 under.sends) resets_under_it behind_the_datum under_it 1
    (let next = number_there in omega (arith, next))

pub none_goes_down : hop_by_down (state_in first_bridge 1 under.is_unknown).hops 33 1 (3 ∷ []) ≡ None
none_goes_down = none_by_down first_bridge (finds_none ∷ []) (part 1 under.sends) resets_under_it behind_the_datum under_it 33 1 (3 ∷ [])
    (let next = next_there in omega (arith, next))

-- ---- what the scanner's connection is mirrored by then

pub scanner_had : map.get (state_in scanner 0 under.sends).hops.held triad ≡ Some (Open of_scanner)
unfolding behind bytes_at close_at close_reply_at close_row counted_at counted_path_at data_row double_at end_row failure_at hop_of link_refusal logical_at
    narrow_at number_at open_at open_reply_at open_row other_at padded_at path_at plain_port_at point_at port_at reply_at reply_row request_at request_row
    segment_at segments_of segments_within send_row size_at target_row unconnected_at unconnected_row words_at
scanner_had = simp (none_wait, none_held, held_first, held_none, held_get, held_entries, held_twice, entry_get, entry_gone) refl

pub resets_in_run : IsResetBy first_bridge 1 under.resetting under.sends
resets_in_run = record { turn = resets_under_it; newest = refl; reset = under_it }

pub mirrored_no_more : hop_by_up (state_in first_bridge 1 under.is_unknown).hops 34 2 (1 ∷ []) ≡ None
mirrored_no_more =
    none_mirrors (chassis row row_is) under.is_unknown under.sends under.sends under.resetting run_is_unknown under_resets (itself under.sends)
    0 scanner refl triad of_scanner 2 (5 ∷ []) scanner_had refl (record { at = 1; port = 2; address = 1 ∷ [] }) refl first_bridge refl resets_in_run
    34 2 (1 ∷ []) refl

-- ---- the scanner that resets itself

pub by_its_command : ResetIn scanner (part 0 resetting.opens) resets_itself
unfolding behind bytes_at close_at close_reply_at close_row counted_at counted_path_at data_row double_at end_row failure_at hop_of link_refusal logical_at
    narrow_at number_at open_at open_reply_at open_row other_at padded_at path_at plain_port_at point_at port_at reply_at reply_row request_at request_row
    segment_at segments_of segments_within send_row size_at target_row unconnected_at unconnected_row words_at
by_its_command = record {
  up = Local 2;
  request = record { service = 5; path = 32 ∷ 1 ∷ 36 ∷ 1 ∷ []; data_ = [] };
  decided = simp (none_wait, none_held, held_first) refl;
  read = simp (none_wait, none_held, held_first) refl;
}

-- its used ops are kept, and that of the command is one more
pub made_by_command : state_in scanner 0 resetting.resets ≡ made_again scanner (Local 2) (state_in scanner 0 resetting.opens)
unfolding by_its_command
made_by_command = reset_makes_again scanner resets_itself (part 0 resetting.opens)
    (run_history plant resetting.resets 0 scanner run_resetting refl) by_its_command

pub turns_behind : part 0 resetting.comes_late ≡ behind_it ++ (resets_itself ∷ part 0 resetting.opens)
turns_behind = refl

pub one_ended : weight (is_ended 1) (part 0 resetting.comes_late) ≡ 1
one_ended = refl

pub at_most_one : weight (is_ended 1) (part 0 resetting.comes_late) ≤ 1
at_most_one = (replies_tell (chassis plant plant_is) resetting.comes_late reset_under_way).ended 0 scanner refl 1

pub nothing_behind : (weight (is_reply (Local 1)) (behind_it ++ (resets_itself ∷ [])) ≡ 0) × (weight (is_ended 1) behind_it ≡ 0)
nothing_behind =
    (replies_tell (chassis plant plant_is) resetting.comes_late reset_under_way).last 0 scanner refl behind_it (part 0 resetting.opens) resets_itself refl 1
    (inr (inl refl))

-- ---- the scanner that resets itself with its connection open

pub ends_turns : part 0 again.ends ≡ [] ++ (ends_itself ∷ part 0 again.arrived)
ends_turns = refl

pub op_is_done : weight (is_reply (Local 2)) (part 0 again.ends) ≡ 1
op_is_done = refl

pub op_is_ended : weight (is_ended 2) (part 0 again.ends) ≡ 1
op_is_ended = refl

pub done_at_most_once : weight (is_reply (Local 2)) (part 0 again.ends) ≤ 1
done_at_most_once = (replies_tell (chassis row row_is) again.ends run_ends).done 0 scanner refl 2

pub ended_at_most_once : weight (is_ended 2) (part 0 again.ends) ≤ 1
ended_at_most_once = (replies_tell (chassis row row_is) again.ends run_ends).ended 0 scanner refl 2

pub none_behind_the_end : (weight (is_reply (Local 2)) ([] ++ (ends_itself ∷ [])) ≡ 0) × (weight (is_ended 2) [] ≡ 0)
none_behind_the_end =
    (replies_tell (chassis row row_is) again.ends run_ends).last 0 scanner refl [] (part 0 again.arrived) ends_itself refl 2 (inr (inl refl))
