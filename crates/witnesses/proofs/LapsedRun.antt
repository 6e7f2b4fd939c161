-- It is a run, and the connection that is gone is mirrored by the one that still stands.
use Rattle.std.proofs.Common.{◌≡◌, [], ◌∷◌, Some, None, refl, sym, subst, ap, ◌∙◌, inr}
use Rattle.std.specs.FinMap as map
use Rattle.std.specs.Prelude.{slice_get}
use Rattle.cip_base.proofs.MapCases.{some_same}
use Rattle.cip_hops.specs.declared.hop.Held.TheVariants.{Open}
use Rattle.cip_config.specs.declared.config.ModuleSettings.{ModuleSettings}
use Rattle.cip_event.specs.declared.event.Event.TheVariants as events
use Rattle.cip_event.specs.declared.event.Output.TheVariants as outputs
use Rattle.cip_chassis.specs.Nodes.{Way, across}
use Rattle.cip_world.specs.Chains.{HasHop}
use Rattle.cip_world.specs.Mirrors.{IsOlder, Mirrors, IsMirrored}
use Rattle.cip_world.specs.Runs.{IsRun, state_in}
use Rattle.cip_world.proofs.Chassis.{chassis}
use Rattle.cip_world.proofs.Mirrored.{mirrored}
use Rattle.cip_world.proofs.Moments.{itself}
use Rattle.cip_message.specs.Counted.{counted_at, counted_path_at}
use Rattle.cip_message.specs.Failure.{failure_at}
use Rattle.cip_message.specs.ReplyAt.{reply_at}
use Rattle.cip_message.specs.RequestAt.{request_at}
use Rattle.cip_close.specs.CloseAt.{close_at}
use Rattle.cip_close.specs.SuccessAt.{close_reply_at}
use Rattle.cip_routing.specs.CloseRows.{close_row}
use Rattle.cip_routing.specs.DataRows.{data_row}
use Rattle.cip_routing.specs.Links.{link_refusal}
use Rattle.cip_routing.specs.OpenRows.{open_row}
use Rattle.cip_routing.specs.ReplyRows.{reply_row}
use Rattle.cip_routing.specs.RequestRows.{request_row}
use Rattle.cip_open.specs.OpenAt.{open_at}
use Rattle.cip_open.specs.SuccessAt.{open_reply_at}
use Rattle.cip_segment.specs.Reading.{segments_within, path_at, segments_of, behind, hop_of}
use Rattle.cip_segment.specs.Scan.{bytes_at, padded_at, narrow_at, double_at, point_at, words_at, number_at, size_at, plain_port_at, port_at, other_at}
use Rattle.cip_segment.specs.Scan.{logical_at, segment_at}
use Rattle.cip_target.specs.Ends.{end_row}
use Rattle.witnesses.specs.Plans.{scanner, adapter, cell, triad}
use Rattle.witnesses.specs.OneAfterTheOther.{stands}
use Rattle.witnesses.specs.LapsedRun.{lapses, of_scanner, of_adapter, upper, lower, out, there}
use Rattle.witnesses.proofs.Maps.{Gives, none_waits, none_held, held_first, held_none, held_get, held_entries, held_gone, held_twice, pendings_none, bytes_get}
use Rattle.witnesses.proofs.Maps.{entry_get, entry_gone}
use Rattle.witnesses.proofs.OneAfterTheOther.{run_stands}
use Rattle.witnesses.proofs.Topologies.{cell_is}
use Rattle.witnesses.proofs.Steps.{and_tick}

by_lapses : Gives scanner (state_in scanner 0 stands) (events.Tick 41) (outputs.Expired triad ∷ [])
unfolding behind bytes_at close_at close_reply_at close_row counted_at counted_path_at data_row double_at end_row failure_at hop_of link_refusal logical_at
    narrow_at number_at open_at open_reply_at open_row other_at padded_at path_at plain_port_at point_at port_at reply_at reply_row request_at request_row
    segment_at segments_of segments_within size_at words_at
by_lapses = simp (none_waits, none_held, held_first, held_none, held_get, held_entries, held_gone, held_twice, pendings_none, entry_get, entry_gone) (_, refl)

pub lapsed_run : IsRun cell lapses
lapsed_run = and_tick cell stands 0 scanner 41 _ run_stands refl by_lapses

pub older : IsOlder stands lapses
older = inr (itself stands)

scanner_had : map.get (state_in scanner 0 stands).hops.held triad ≡ Some (Open of_scanner)
unfolding behind bytes_at close_at close_reply_at close_row counted_at counted_path_at data_row double_at end_row failure_at hop_of link_refusal logical_at
    narrow_at number_at open_at open_reply_at open_row other_at padded_at path_at plain_port_at point_at port_at reply_at reply_row request_at request_row
    segment_at segments_of segments_within size_at words_at
scanner_had = simp (none_waits, none_held, held_first, held_none, held_get, held_entries, held_gone, held_twice, pendings_none, entry_get, entry_gone) refl

pub scanner_lacks : map.get (state_in scanner 0 lapses).hops.held triad ≡ None
unfolding behind bytes_at close_at close_reply_at close_row counted_at counted_path_at data_row double_at end_row failure_at hop_of link_refusal logical_at
    narrow_at number_at open_at open_reply_at open_row other_at padded_at path_at plain_port_at point_at port_at reply_at reply_row request_at request_row
    segment_at segments_of segments_within size_at words_at
scanner_lacks = simp (none_waits, none_held, held_first, held_none, held_get, held_entries, held_gone, held_twice, pendings_none, entry_get, entry_gone) refl

adapter_has : map.get (state_in (adapter 0 2) 1 lapses).hops.held triad ≡ Some (Open of_adapter)
unfolding behind bytes_at close_at close_reply_at close_row counted_at counted_path_at data_row double_at end_row failure_at hop_of link_refusal logical_at
    narrow_at number_at open_at open_reply_at open_row other_at padded_at path_at plain_port_at point_at port_at reply_at reply_row request_at request_row
    segment_at segments_of segments_within size_at words_at
adapter_has = simp (none_held, held_first, held_none, held_get, held_entries, held_gone, held_twice, pendings_none, bytes_get) refl

pub stood : HasHop cell stands upper
stood = record { config = scanner; is_module = refl; stands = scanner_had }

pub still : HasHop cell lapses lower
still = record { config = adapter 0 2; is_module = refl; stands = adapter_has }

pub is_mirrored : IsMirrored cell lapses out of_scanner
is_mirrored = mirrored (chassis cell cell_is) lapses stands 0 scanner lapsed_run refl older triad of_scanner 2 (7 ∷ []) scanner_had refl

-- what the law says of the adapter's connection
pub mirrors : Mirrors there of_scanner of_adapter
mirrors =
    let m = is_mirrored in
    let goes : across cell out ≡ Some there = refl in
    let way : m.there ≡ there = some_same m.there there (sym m.across ∙ goes) in
    let config : m.config ≡ adapter 0 2 =
    some_same m.config (adapter 0 2) (sym m.is_module ∙ ap (λ (w : Way). slice_get cell.modules w.at) way) in
    let held : map.get (state_in m.config m.there.at lapses).hops.held triad ≡ Some (Open of_adapter) =
    subst (λ (c : ModuleSettings). map.get (state_in c m.there.at lapses).hops.held triad ≡ Some (Open of_adapter)) (sym config)
    (subst (λ (w : Way). map.get (state_in (adapter 0 2) w.at lapses).hops.held triad ≡ Some (Open of_adapter)) (sym way) adapter_has) in
    subst (λ (w : Way). Mirrors w of_scanner of_adapter) way (m.only lapses (itself lapses) triad of_adapter held m.their_is)
