-- What a tick tells, read backwards.
use Rattle.std.proofs.Common.{◌≡◌, ◌<◌, ℕ, ◌+◌, ◌*◌, ◌^◌, true, List, [], ◌∷◌, refl, ap, Some}
use Rattle.std.specs.Prelude.{map, option_and_then}
use Rattle.std.specs.List.{All, filter, filter_map}
use Rattle.std.specs.Ordering.{nat_cmp}
use Rattle.std.specs.Cmp.{nat_cmp_total}
use Rattle.std.specs.FinMap as finite
use Rattle.std.specs.FinMap.{nat_cmp-IsAntisymmetric}
use Rattle.std.proofs.lemmas.Bool.{leb-true}
use Rattle.std.proofs.lemmas.List.Elements.{All-head, All-tail, All-filter, filter_passes}
use Rattle.cip_base.specs.declared.triad.Triad.{Triad}
use Rattle.cip_pending.specs.declared.entry.Entry.{Entry}
use Rattle.cip_pending.specs.Pendings.{Pendings, is_due}
use Rattle.cip_hops.specs.declared.hop.Held.{Held}
use Rattle.cip_hops.specs.declared.hop.Held.TheVariants.{Opening as IsOpening, Open as IsOpen}
use Rattle.cip_hops.specs.Hops.{as_hop, is_hop_due}
use Rattle.cip_base.proofs.Views.{get-at}
use Rattle.cip_config.specs.declared.config.ModuleSettings.{ModuleSettings}
use Rattle.cip_event.specs.declared.event.Event.TheVariants.{Tick}
use Rattle.cip_routing.specs.State.{State}
use Rattle.cip_routing.specs.Table.{pending_times_out, pending_time_outs, hop_times_out, hop_time_outs, tick_effects}
use Rattle.cip_laws.specs.Tells.{PendingTimesOutAs, AllTell}
use Rattle.cip_laws.proofs.TellsEach.{all_append}
use Rattle.cip_laws.proofs.TellsCommands.{each_stands}

each_waits : (p : Pendings) → All (λ e. finite.get p.entries e.0 ≡ Some e.1) (finite.entries p.entries)
each_waits p = λ k d lt. get-at nat_cmp nat_cmp_total nat_cmp-IsAntisymmetric p.entries k d lt

module _ (config : ModuleSettings) (s : State) (ms : ℕ) where
  abbrev Waits : ℕ × Entry → Type 0
  Waits e = finite.get s.pendings.entries e.0 ≡ Some e.1

  abbrev IsDue : ℕ × Entry → Type 0
  IsDue e = is_due (s.now + 1000 * ms) e ≡ true

  each_pending_times_out : (es : List (ℕ × Entry)) → All Waits es → All IsDue es → AllTell config s (Tick ms) (map pending_times_out es)
  each_pending_times_out [] waits due = tt
  each_pending_times_out (e ∷ es) waits due =
      let one : PendingTimesOutAs s (Tick ms) e.0 =
      record {
        ms = ms;
        entry = e.1;
        event_is = refl;
        waits = All-head Waits e es waits;
        due =
            leb-true e.1.deadline (s.now + 1000 * ms) (All-head IsDue e es due);
      } in
      (one, each_pending_times_out es (All-tail Waits e es waits) (All-tail IsDue e es due))

  abbrev Stands : Triad × Held → Type 0
  Stands e = finite.get s.hops.held e.0 ≡ Some e.1

  abbrev IsLate : Triad × Held → Type 0
  IsLate e = is_hop_due (s.now + 1000 * ms) e.1 ≡ true

  hop_time_out_tells : (key : Triad) (x : Held) (es : List (Triad × Held)) → finite.get s.hops.held key ≡ Some x → is_hop_due (s.now + 1000 * ms) x ≡ true
      → AllTell config s (Tick ms) (map hop_times_out (filter_map (λ e. as_hop e.1) es))
      → AllTell config s (Tick ms) (map hop_times_out (filter_map (λ e. as_hop e.1) ((key, x) ∷ es)))
  hop_time_out_tells key (IsOpening o ids) es stands late others = others
  hop_time_out_tells key (IsOpen hop) es stands late others =
      (record { ms = ms; key = key; hop = hop; event_is = refl; stands = ap (option_and_then as_hop) stands; triad_is = refl; late = late }, others)

  each_hop_times_out : (es : List (Triad × Held)) → All Stands es → All IsLate es
      → AllTell config s (Tick ms) (map hop_times_out (filter_map (λ e. as_hop e.1) es))
  each_hop_times_out [] stands late = tt
  each_hop_times_out (e ∷ es) stands late =
      hop_time_out_tells e.0 e.1 es (All-head Stands e es stands) (All-head IsLate e es late)
      (each_hop_times_out es (All-tail Stands e es stands) (All-tail IsLate e es late))

  pub ticks_tell : s.now + 1000 * ms < 2 ^ 63 → AllTell config s (Tick ms) (tick_effects s (1000 * ms))
  ticks_tell time =
      let now = s.now + 1000 * ms in
      let waiting = finite.entries s.pendings.entries in
      let open_ = finite.entries s.hops.held in (
        record { ms = ms; event_is = refl; by_is = refl; time = time },
        all_append config s (Tick ms) (pending_time_outs now s.pendings) (hop_time_outs now s.hops)
            (each_pending_times_out (filter (is_due now) waiting) (All-filter (is_due now) Waits waiting (each_waits s.pendings))
            (filter_passes (is_due now) waiting))
            (each_hop_times_out (filter (λ e. is_hop_due now e.1) open_) (All-filter (λ e. is_hop_due now e.1) Stands open_ (each_stands s.hops))
            (filter_passes (λ e. is_hop_due now e.1) open_)),
      )
