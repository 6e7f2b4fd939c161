-- A connection whose neighbour was reset is mirrored by none there any more.
use Rattle.std.proofs.Common.{◌≡◌, ℕ, ◌<◌, List, [], ◌∷◌, ◌++◌, Some, None, refl, sym, ap, subst, ◌∙◌, inl, inr, arith}
use Rattle.std.specs.FinMap as map
use Rattle.cip_base.specs.Counts.{reborn}
use Rattle.cip_base.specs.declared.triad.Triad.{Triad}
use Rattle.cip_base.proofs.MapCases.{some_same}
use Rattle.cip_hops.specs.declared.opening.HopDown.TheVariants.{Link as DownLink}
use Rattle.cip_hops.specs.declared.hop.Hop.{Hop}
use Rattle.cip_hops.specs.declared.hop.Held.TheVariants.{Open}
use Rattle.cip_hops.specs.Hops.{hop_by_up}
use Rattle.cip_config.specs.declared.config.ModuleSettings.{ModuleSettings}
use Rattle.cip_event.specs.declared.event.Event.{Event}
use Rattle.cip_laws.specs.Births.{Past, IsBirth}
use Rattle.cip_laws.specs.Histories.{Turn, state_after, IsHistory}
use Rattle.cip_laws.proofs.Again.{none_by_up}
use Rattle.cip_laws.proofs.Births.{past_range}
use Rattle.cip_laws.proofs.Puts.{reborn_above}
use Rattle.cip_chassis.specs.Nodes.{Way, across as goes}
use Rattle.cip_world.specs.declared.journal.Entry.{Entry}
use Rattle.cip_world.specs.declared.journal.Entry.TheVariants.{Step, Lost}
use Rattle.cip_world.specs.Journals.{Journal, part}
use Rattle.cip_world.specs.Mirrors.{IsOlder}
use Rattle.cip_world.specs.ResetSteps.{IsResetBy}
use Rattle.cip_world.specs.Runs.{IsModule, state_in, IsRun}
use Rattle.cip_world.proofs.Arrivals.{way_in}
use Rattle.cip_world.proofs.Chassis.{Chassis}
use Rattle.cip_world.proofs.Mirrored.{Lower, lower}
use Rattle.cip_world.proofs.Moments.{run_older, before_that}
use Rattle.cip_world.proofs.Parts.{turn_of, part_any, run_history, same_module}

-- ---- the turns since a moment

-- these turns stand behind those of the moment
record Since (m : ℕ) (k : Journal) (turns : List Turn) : Type 0 where
  later : List Turn
  is : turns ≡ later ++ part m k

one_more : (m : ℕ) (k : Journal) (turn : Turn) (turns : List Turn) → Since m k turns → Since m k (turn ∷ turns)
one_more m k turn turns x = record { later = turn ∷ x.later; is = λ i. turn ∷ x.is i }

newer : (m : ℕ) (k : Journal) (e : Entry) (j : Journal) → Since m k (part m j) → Since m k (part m (e ∷ j))
newer m k (Step n input outs) j x =
    part_any (Since m k) m n input outs j (λ event. one_more m k (turn_of event outs) (part m j) x) x
newer m k (Lost frame) j x = x

since : (m : ℕ) (k j : Journal) → IsOlder k j → Since m k (part m j)
since m k [] is = record { later = []; is = ap (part m) (sym is) }
since m k (e ∷ j) (inl is) = record { later = []; is = ap (part m) (sym is) }
since m k (e ∷ j) (inr older) = newer m k e j (since m k j older)

-- ---- after the reset

module _ (t : Chassis) (j before k : Journal) (e : Entry) (run : IsRun t.plan j) (older : IsOlder (e ∷ before) j) (earlier : IsOlder k before)
    (m : ℕ) (config : ModuleSettings) (is : IsModule t.plan m config) (q : Triad) (h : Hop) (port : ℕ) (address : List ℕ)
    (at : map.get (state_in config m k).hops.held q ≡ Some (Open h)) (down : h.opening.down ≡ DownLink port address)
    (there : Way) (leads : goes t.plan (way_in m port address) ≡ Some there)
    (neighbour : ModuleSettings) (is_there : IsModule t.plan there.at neighbour) (reset : IsResetBy neighbour there.at e before) where
  run_before : IsRun t.plan before
  run_before = run_older t.plan before j (before_that e before j older) run

  -- its counterpart was born there before
  below : Lower t before (way_in m port address) h
  below = lower t before k m config run_before is earlier q h port address at down

  way : below.there ≡ there
  way = some_same below.there there (sym below.across ∙ leads)

  settings : below.config ≡ neighbour
  settings = same_module t.plan there.at below.there.at below.config neighbour (ap (λ (w : Way). w.at) way) below.is_module is_there

  born : Past (IsBirth neighbour below.opening below.ids) (part there.at before)
  born =
      subst (λ (w : Way). Past (IsBirth neighbour below.opening below.ids) (part w.at before)) way
      (subst (λ (c : ModuleSettings). Past (IsBirth c below.opening below.ids) (part below.there.at before)) settings below.birth)

  low : below.id < reborn (state_in neighbour there.at before).hops.next
  low =
      let drawn = past_range neighbour below.opening below.ids (part there.at before) below.id
      (run_history t.plan before there.at neighbour run_before is_there) born (inl below.id_is) in
      let above = reborn_above (state_in neighbour there.at before).hops.next in
      omega (arith, drawn, above)

  turns : Since there.at (e ∷ before) (part there.at j)
  turns = since there.at (e ∷ before) j older

  turns_are : part there.at j ≡ turns.later ++ (reset.turn ∷ part there.at before)
  turns_are = turns.is ∙ ap (λ (x : List Turn). turns.later ++ x) reset.newest

  history : IsHistory neighbour (turns.later ++ (reset.turn ∷ part there.at before))
  history = subst (IsHistory neighbour) turns_are (run_history t.plan j there.at neighbour run is_there)

  pub none_mirrors : (id up_port : ℕ) (from : List ℕ) → h.their_id ≡ Some id → hop_by_up (state_in neighbour there.at j).hops id up_port from ≡ None
  none_mirrors id up_port from their =
      let same : id ≡ below.id = some_same id below.id (sym their ∙ below.their_is) in
      ap (λ (x : List Turn). hop_by_up (state_after neighbour x).hops id up_port from) turns_are
      ∙ ap (λ (n : ℕ). hop_by_up (state_after neighbour (turns.later ++ (reset.turn ∷ part there.at before))).hops n up_port from) same
      ∙ none_by_up neighbour turns.later (part there.at before) reset.turn history reset.reset below.id up_port from low
