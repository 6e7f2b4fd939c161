-- What still stands where each effect of an event is applied.
use Rattle.std.proofs.Common.{◌≡◌, ℕ, ◌≤◌, List, [], ◌∷◌, ◌++◌, Option, Some, None, refl, sym, ap, subst, ◌∙◌, arith}
use Rattle.cip_base.specs.declared.triad.Triad.{Triad}
use Rattle.cip_pending.specs.declared.entry.UpSide.{UpSide}
use Rattle.cip_hops.specs.declared.hop.Side.TheVariants.{Up, Down}
use Rattle.cip_config.specs.declared.config.ModuleSettings.{ModuleSettings}
use Rattle.cip_event.specs.declared.event.Event.{Event}
use Rattle.cip_laws.specs.EffectLists.{gain, IsLight, IsBounded, HasStood, Stands, AllStand}
use Rattle.cip_routing.specs.Effects.{Effect, Spends, Replies, Answers, Forwards, Begins, Accepts, Finishes, Takes, PendingTimesOut, Removes, HopTimesOut}
use Rattle.cip_routing.specs.Effects.{Renews, Passes, Counts, Writes, RefusesCommand, Drops, Advances, apply, applied}
use Rattle.cip_routing.specs.State.{State}
use Rattle.cip_routing.specs.Table.{decide}
use Rattle.cip_laws.specs.Tells.{asker, Tells, AllTell, PassesAs, PassedOn, Entered, Made}
use Rattle.cip_laws.proofs.Births.{gain-append}
use Rattle.cip_laws.proofs.Light.{light_once}
use Rattle.cip_laws.proofs.PassedBy.{frame_alone, enter_alone}
use Rattle.cip_laws.proofs.ProducedStand.{produced_stood}
use Rattle.cip_laws.proofs.Quiet.{alone, reply_alone}
use Rattle.cip_laws.proofs.Stands.{same_self}
use Rattle.cip_laws.proofs.Tells.{decide_tells}
use Rattle.cip_laws.proofs.TellsAskers.{answers_asker, forwards_asker, begins_asker, open_asker}

-- 0 of an effect that leaves the requests that wait as they are
abbrev waits_anew : Effect → ℕ
waits_anew (Answers up asked) = 1
waits_anew (Forwards sending kind) = 1
waits_anew (Begins sending opening) = 1
waits_anew (Finishes number triad bytes success) = 1
waits_anew (Takes number bytes) = 1
waits_anew (PendingTimesOut number) = 1
waits_anew e = 0

waits_light : IsLight waits_anew (λ v. 1)
waits_light = record {
  replies = λ v bytes. omega arith;
  answers = λ v asked. omega arith;
  forwards = λ sending kind. omega arith;
  begins = λ sending opening. omega arith;
  accepts = λ opening o link v bytes. omega arith;
  spends = λ op. refl;
  closes_on = λ triad sending kind. omega arith;
  closes = λ triad v bytes. omega arith;
  refuses = λ fault. refl;
  drops = λ reason. refl;
}

same_waits : (config : ModuleSettings) (s : State) (e : Effect) → waits_anew e ≡ 0 → (apply config s e).pendings ≡ s.pendings
same_waits config s (Answers up asked) h = absurd (omega (arith, h))
same_waits config s (Forwards sending kind) h = absurd (omega (arith, h))
same_waits config s (Begins sending opening) h = absurd (omega (arith, h))
same_waits config s (Finishes number triad bytes success) h = absurd (omega (arith, h))
same_waits config s (Takes number bytes) h = absurd (omega (arith, h))
same_waits config s (PendingTimesOut number) h = absurd (omega (arith, h))
same_waits config s e h = refl

same_list : (config : ModuleSettings) (s : State) (es : List Effect) → gain waits_anew es ≡ 0 → (applied config s es).pendings ≡ s.pendings
same_list config s [] h = refl
same_list config s (e ∷ es) h =
    same_list config (apply config s e) es (omega (arith, h)) ∙ same_waits config s e (omega (arith, h))

-- 0 of an effect that leaves the assemblies as they are
abbrev writes_anew : Effect → ℕ
writes_anew (Answers up asked) = 1
writes_anew (Accepts opening o link) = 1
writes_anew (Writes instance bytes) = 1
writes_anew e = 0

writes_light : IsLight writes_anew (λ v. 1)
writes_light = record {
  replies = λ v bytes. omega arith;
  answers = λ v asked. omega arith;
  forwards = λ sending kind. omega arith;
  begins = λ sending opening. omega arith;
  accepts = λ opening o link v bytes. omega arith;
  spends = λ op. refl;
  closes_on = λ triad sending kind. omega arith;
  closes = λ triad v bytes. omega arith;
  refuses = λ fault. refl;
  drops = λ reason. refl;
}

same_written : (config : ModuleSettings) (s : State) (e : Effect) → writes_anew e ≡ 0 → (apply config s e).assemblies ≡ s.assemblies
same_written config s (Answers up asked) h = absurd (omega (arith, h))
same_written config s (Accepts opening o link) h = absurd (omega (arith, h))
same_written config s (Writes instance bytes) h = absurd (omega (arith, h))
same_written config s e h = refl

same_bytes : (config : ModuleSettings) (s : State) (es : List Effect) → gain writes_anew es ≡ 0 → (applied config s es).assemblies ≡ s.assemblies
same_bytes config s [] h = refl
same_bytes config s (e ∷ es) h = same_bytes config (apply config s e) es (omega (arith, h)) ∙ same_written config s e (omega (arith, h))

bounded : (v : Option UpSide) (up : UpSide) (n : ℕ) → v ≡ Some up → IsBounded (λ v. 1) v n → n ≤ 1
bounded None up n e h = absurd (cc)
bounded (Some v) up n e h = h

told_at : (config : ModuleSettings) (s : State) (event : Event) (before after : List Effect) (e : Effect) → AllTell config s event (before ++ (e ∷ after))
    → Tells config s event e
told_at config s event [] after e h = h.0
told_at config s event (x ∷ before) after e h = told_at config s event before after e h.1

module _ (config : ModuleSettings) (s : State) (event : Event) (es : List Effect) (d : decide config s event ≡ Some es) (before after : List Effect) where
  -- nothing was done before
  first : before ≡ [] → applied config s before ≡ s
  first e = ap (applied config s) e

  passed_first : (triad : Triad) (bytes : List ℕ) → before ++ (Passes triad Down bytes ∷ after) ≡ es → PassesAs s event triad Down bytes → before ≡ []
  passed_first triad bytes is (PassedOn hop triad_is came) =
      frame_alone config s event es before after triad Down bytes bytes came.from came.port came.id came.event_is d is
  passed_first triad bytes is (Entered of hop triad_is side_is event_is found sized) =
      enter_alone config s event es before after triad Down bytes bytes of event_is d is
  passed_first triad bytes is (Made held hop triad_is side_is bytes_are made) = absurd (cc)

  stood : before ≡ [] → HasStood s (applied config s before)
  stood e = subst (λ (es : List Effect). HasStood s (applied config s es)) (sym e)
      (record { pendings = refl; held = λ q x at. record { old = x; at = at; core = same_self x } })

  passed_up : (triad : Triad) (bytes : List ℕ) → before ++ (Passes triad Up bytes ∷ after) ≡ es → PassesAs s event triad Up bytes
      → HasStood s (applied config s before)
  passed_up triad bytes is (PassedOn hop triad_is came) =
      stood (frame_alone config s event es before after triad Up bytes bytes came.from came.port came.id came.event_is d is)
  passed_up triad bytes is (Entered of hop triad_is side_is event_is found sized) = absurd (cc)
  passed_up triad bytes is (Made held hop triad_is side_is bytes_are made) =
      produced_stood config s made.instance es before after (Passes triad Up bytes) (sym (ap (decide config s) made.event_is) ∙ d) is

  stands_at : (e : Effect) → before ++ (e ∷ after) ≡ es → Tells config s event e → Stands s (applied config s before) e
  stands_at (Begins sending opening) is tells =
      alone config s event es before after (Begins sending opening) sending.up (begins_asker config s event sending opening tells) d is refl
  stands_at (Accepts opening o link) is tells =
      alone config s event es before after (Accepts opening o link) tells.up (open_asker config s event tells.up o tells.asks) d is refl
  stands_at (Finishes number triad bytes success) is tells =
      first (reply_alone config s event es before after (Finishes number triad bytes success) tells.came.port number tells.came.from bytes
      tells.came.event_is d is)
  stands_at (Takes number bytes) is tells =
      first (reply_alone config s event es before after (Takes number bytes) tells.came.port number tells.came.from bytes tells.came.event_is d is)
  stands_at (Forwards sending kind) is tells =
      let asks = forwards_asker config s event sending kind tells in
      let most = bounded (asker event) sending.up (gain waits_anew es) asks (light_once waits_anew (λ v. 1) waits_light config s event es d) in
      let whole = ap (gain waits_anew) is in
      let sum = gain-append waits_anew before (Forwards sending kind ∷ after) in
      same_list config s before (omega (arith, most, whole, sum))
  stands_at (Passes triad Down bytes) is tells = first (passed_first triad bytes is tells)
  stands_at (Passes triad Up bytes) is tells = passed_up triad bytes is tells
  stands_at (Spends op) is tells = tt
  stands_at (Replies up bytes) is tells = tt
  stands_at (Answers up asked) is tells =
      let asks = answers_asker config s event up asked tells in
      let most = bounded (asker event) up (gain writes_anew es) asks (light_once writes_anew (λ v. 1) writes_light config s event es d) in
      let whole = ap (gain writes_anew) is in
      let sum = gain-append writes_anew before (Answers up asked ∷ after) in
      (same_bytes config s before (omega (arith, most, whole, sum)), alone config s event es before after (Answers up asked) up asks d is refl)
  stands_at (PendingTimesOut number) is tells = tt
  stands_at (Removes triad) is tells = tt
  stands_at (HopTimesOut triad) is tells = tt
  stands_at (Renews triad side) is tells = tt
  stands_at (Counts triad side count) is tells = tt
  stands_at (Writes instance bytes) is tells = tt
  stands_at (RefusesCommand fault) is tells = tt
  stands_at (Drops reason) is tells = tt
  stands_at (Advances by) is tells = tt

pub all_stand : (config : ModuleSettings) (s : State) (event : Event) (es : List Effect) → decide config s event ≡ Some es → AllStand config s es
all_stand config s event es d before after e is =
    stands_at config s event es d before after e is
    (told_at config s event before after e (subst (AllTell config s event) (sym is) (decide_tells config s event es d)))
