-- A step of a script only adds to the journal.
use Rattle.std.proofs.Common.{◌≡◌, ℕ, zero, suc, true, false, Bool, List, [], ◌∷◌, Option, Some, None, Result, Ok, Err, refl, subst}
use Rattle.std.specs.Prelude.{option_map, option_and_then, slice_get}
use Rattle.cip_base.specs.declared.numbers.ModuleId.{ModuleId}
use Rattle.cip_config.specs.declared.config.ModuleSettings.{ModuleSettings}
use Rattle.cip_event.specs.declared.event.Event.{Event}
use Rattle.cip_routing.specs.Table.{Stepped, table_step}
use Rattle.cip_chassis.specs.Nodes.{Way, across}
use Rattle.cip_chassis.specs.Plan.{Plan}
use Rattle.cip_world.specs.declared.journal.Entry.TheVariants.{Step, Lost}
use Rattle.cip_event.specs.declared.frame.FrameName.{FrameName}
use Rattle.cip_world.specs.declared.journal.Input.{Input}
use Rattle.cip_world.specs.declared.journal.Input.TheVariants.{Command, Tick, Frame}
use Rattle.cip_world.specs.Journals.{Journal, Flight, event_of, frame_at}
use Rattle.cip_world.specs.Mirrors.{IsOlder}
use Rattle.cip_world.specs.Nexts.{with_step, next, comes, delivered}
use Rattle.cip_world.specs.Runs.{state_in}
use Rattle.cip_world.specs.Waiting.{waiting}
use Rattle.cip_world.proofs.Moments.{itself, before_newest, older_trans}
use Rattle.cip_script.specs.declared.steps.ScriptFault.{ScriptFault}
use Rattle.cip_script.specs.declared.steps.Step as one
use Rattle.cip_script.specs.declared.steps.Step.TheVariants as steps
use Rattle.cip_transcript.specs.Show.{names_of}
use Rattle.cip_console.specs.Transcript.{Part, printed, continued, shown, first_delivered, deliveries, ended, if_waits, waits, ran, played}

same_after : (j k : Journal) → ◌≡◌ {A = Result Journal ScriptFault} (Ok j) (Ok k) → IsOlder j k
same_after j k e = let same : j ≡ k = cc in subst (λ (x : Journal). IsOlder j x) same (itself j)

-- ---- one entry more

module _ (t : Plan) (j : Journal) where
  module _ (m : ModuleId) (input : Input) (x : Journal) where
    by_step : (s : Option Stepped) → option_map (with_step m input j) s ≡ Some x → IsOlder j x
    by_step None e = absurd (cc)
    by_step (Some s) e = let same : with_step m input j s ≡ x = cc in subst (λ (y : Journal). IsOlder j y) same (before_newest (Step m input s.outputs) j)

    by_config : (event : Event) (c : Option ModuleSettings)
        → option_and_then (λ config. option_map (with_step m input j) (table_step config (state_in config m.0 j) event)) c ≡ Some x → IsOlder j x
    by_config event None e = absurd (cc)
    by_config event (Some config) e = by_step (table_step config (state_in config m.0 j) event) e

    by_event : (o : Option Event)
        → option_and_then (λ event. option_and_then (λ config. option_map (with_step m input j) (table_step config (state_in config m.0 j) event))
        (slice_get t.modules m.0)) o ≡ Some x → IsOlder j x
    by_event None e = absurd (cc)
    by_event (Some event) e = by_config event (slice_get t.modules m.0) e

    next_grows : next t j m input ≡ Some x → IsOlder j x
    next_grows e = by_event (event_of j input) e

  module _ (f : FrameName) (x : Journal) where
    by_way : (o : Option Way) → option_and_then (comes t j f) o ≡ Some x → IsOlder j x
    by_way None e = absurd (cc)
    by_way (Some there) e = next_grows (record { 0 = there.at }) (Frame there.port there.address f) x e

    by_flight : (o : Option Flight) → option_and_then (λ (y : Flight). option_and_then (comes t j f) (across t y.way)) o ≡ Some x → IsOlder j x
    by_flight None e = absurd (cc)
    by_flight (Some flight) e = by_way (across t flight.way) e

    delivered_grows : delivered t j f ≡ Some x → IsOlder j x
    delivered_grows e = by_flight (frame_at j f) e

  shown_grows : (names : List (List ℕ)) (o : Option Journal) (k : Journal) → ((x : Journal) → o ≡ Some x → IsOlder j x) → (shown names o).after ≡ Ok k
      → IsOlder j k
  shown_grows names None k grows e = absurd (cc)
  shown_grows names (Some x) k grows e = let same : x ≡ k = cc in subst (λ (y : Journal). IsOlder j y) same (grows x refl)

  waits_grows : (b : Bool) (part : Part) (k : Journal) → (part.after ≡ Ok k → IsOlder j k) → (if_waits b part).after ≡ Ok k → IsOlder j k
  waits_grows true part k grows e = grows e
  waits_grows false part k grows e = absurd (cc)

-- ---- several

then_grows : (text : List ℕ) (after : Result Journal ScriptFault) (rest : Journal → Part) (j k : Journal) → ((i : Journal) → after ≡ Ok i → IsOlder j i)
    → ((i : Journal) → (rest i).after ≡ Ok k → IsOlder i k) → (continued text after rest).after ≡ Ok k → IsOlder j k
then_grows text (Err fault) rest j k first more e = absurd (cc)
then_grows text (Ok i) rest j k first more e = older_trans j i k (first i refl) (more i e)

by_waiting : (t : Plan) (n : ℕ) (j k : Journal) (frames : List FrameName) → ((i : Journal) → (deliveries t n i).after ≡ Ok k → IsOlder i k)
    → (first_delivered t j frames (deliveries t n)).after ≡ Ok k → IsOlder j k
by_waiting t n j k [] more e = same_after j k e
by_waiting t n j k (first ∷ others) more e =
    then_grows (shown (names_of t) (delivered t j first)).text (shown (names_of t) (delivered t j first)).after (deliveries t n) j k
    (λ i h. shown_grows t j (names_of t) (delivered t j first) i (delivered_grows t j first) h) more e

deliveries_grow : (t : Plan) (n : ℕ) (j k : Journal) → (deliveries t n j).after ≡ Ok k → IsOlder j k
unfolding deliveries
deliveries_grow t zero j k e = same_after j k e
deliveries_grow t (suc n) j k e = by_waiting t n j k (waiting t j) (λ i h. deliveries_grow t n i k h) e

-- the journal after a step of a script
pub played_grows : (t : Plan) (j k : Journal) (step : one.Step) → (played t j step).after ≡ Ok k → IsOlder j k
played_grows t j k (steps.Feed m command) e =
    shown_grows t j (names_of t) (next t j m (Command command)) k (next_grows t j m (Command command)) e
played_grows t j k (steps.Tick m by) e = shown_grows t j (names_of t) (next t j m (Tick by)) k (next_grows t j m (Tick by)) e
played_grows t j k (steps.Deliver frame) e =
    waits_grows t j (waits t j frame) (shown (names_of t) (delivered t j frame)) k
    (shown_grows t j (names_of t) (delivered t j frame) k (delivered_grows t j frame)) e
played_grows t j k (steps.Lose frame) e =
    waits_grows t j (waits t j frame) (shown (names_of t) (Some (Lost frame ∷ j))) k
    (shown_grows t j (names_of t) (Some (Lost frame ∷ j)) k
    (λ x h. let same : Lost frame ∷ j ≡ x = cc in subst (λ (y : Journal). IsOlder j y) same (before_newest (Lost frame) j))) e
played_grows t j k (steps.Run limit) e =
    then_grows (deliveries t limit j).text (deliveries t limit j).after (ended t) j k (λ i h. deliveries_grow t limit j i h) (λ i h. same_after i k h) e
played_grows t j k (steps.Tables m) e = same_after j k e
played_grows t j k (steps.Trail m op) e = same_after j k e
played_grows t j k (steps.Chain m op) e = same_after j k e
