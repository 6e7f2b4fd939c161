-- Each open connection that goes on by a link was opened by the reply to the request that was sent for it.
use Rattle.std.proofs.Common.{◌≡◌, ℕ, true, false, List, [], ◌∷◌, ◌++◌, Option, Some, None, refl, sym, ap, subst, ◌∙◌, ◌⊎◌, inl, inr}
use Rattle.std.specs.FinMap as map
use Rattle.std.specs.Prelude.{if◌then◌else◌}
use Rattle.cip_base.specs.declared.triad.Triad.{Triad}
use Rattle.cip_base.specs.Triads.{triad_cmp}
use Rattle.cip_hops.specs.declared.opening.Opening.{Opening}
use Rattle.cip_hops.specs.declared.opening.OwnIds.{OwnIds}
use Rattle.cip_hops.specs.declared.hop.Hop.{Hop}
use Rattle.cip_hops.specs.declared.hop.Held.{Held}
use Rattle.cip_hops.specs.declared.hop.Held.TheVariants.{Opening as IsOpening, Open}
use Rattle.cip_hops.specs.Sides.{down_is_link, own_ids}
use Rattle.cip_hops.specs.Hops.{opened}
use Rattle.cip_open.specs.Open.{Open as OpenRequest}
use Rattle.cip_target.specs.declared.link.EndLink.{EndLink}
use Rattle.cip_config.specs.declared.config.ModuleSettings.{ModuleSettings}
use Rattle.cip_event.specs.declared.event.Body.TheVariants as bodies
use Rattle.cip_event.specs.declared.event.Event.{Event}
use Rattle.cip_event.specs.declared.event.Event.TheVariants as events
use Rattle.cip_routing.specs.Effects.{Effect, Accepts, apply, applied}
use Rattle.cip_routing.specs.State.{State}
use Rattle.cip_laws.specs.Tells.{Tells, FinishesAs}
use Rattle.cip_routing.proofs.Waiting.{waits_at}
use Rattle.cip_laws.specs.Births.{Past}
use Rattle.cip_laws.specs.Histories.{Turn, state_after, IsHistory}
use Rattle.cip_laws.proofs.AskedBy.{asked_there}
use Rattle.cip_laws.proofs.Joined.{Opens, SentIn, joined}
use Rattle.cip_laws.proofs.Quiet.{reply_alone}
use Rattle.cip_laws.proofs.Stands.{SameCore, OpenedBy, HeldCase, Stands, Begun, Ended, Finished, held_cases}
use Rattle.cip_laws.proofs.Turns.{Turned, newest, by_places}
pub use Rattle.cip_laws.specs.Openings.{HopOpened}

same_open : (g h : Hop) → Open g ≡ Open h → g ≡ h
same_open g h e = cc

same_held : (o p : Opening) (ids own : OwnIds) → Some (IsOpening o ids) ≡ Some (IsOpening p own) → (o ≡ p) × (ids ≡ own)
same_held o p ids own e = (cc, cc)

module _ (config : ModuleSettings) (turns : List Turn) (turn : Turn) (h : IsHistory config turns)
    (now : Turned config (state_after config turns) turn.event (state_after config (turn ∷ turns)) turn.outputs) where
  abbrev s0 : State
  s0 = state_after config turns

  abbrev WasOpened : Opening → OwnIds → Option ℕ → Type 0
  WasOpened o ids their_id = HopOpened config o ids their_id turns turn ⊎ Past (HopOpened config o ids their_id) turns

  abbrev AllOpened : State → Type 0
  AllOpened s = (q : Triad) (hop : Hop) → map.get s.hops.held q ≡ Some (Open hop) → down_is_link hop.opening.down ≡ true
      → WasOpened hop.opening hop.ids hop.their_id

  moved : (g hop : Hop) → SameCore (Open g) (Open hop) → WasOpened g.opening g.ids g.their_id → WasOpened hop.opening hop.ids hop.their_id
  moved g hop core w =
      subst (λ (x : Option ℕ). WasOpened hop.opening hop.ids x) core.2
      (subst (λ (x : OwnIds). WasOpened hop.opening x g.their_id) core.1
      (subst (λ (x : Opening). WasOpened x g.ids g.their_id) core.0 w))

  stood_opened : (s : State) (q : Triad) (hop : Hop) (old : Held) → AllOpened s → map.get s.hops.held q ≡ Some old → SameCore old (Open hop)
      → down_is_link hop.opening.down ≡ true → WasOpened hop.opening hop.ids hop.their_id
  stood_opened s q hop (IsOpening o ids) all at core link = absurd core
  stood_opened s q hop (Open g) all at core link = moved g hop core (all q g at (ap (λ (x : Opening). down_is_link x.down) core.0 ∙ link))

  -- what ends here goes on by no link
  ended_link : (s : State) (event : Event) (e : Effect) (o : Opening) (request : OpenRequest) (link : EndLink) → e ≡ Accepts o request link
      → Tells config s event e → down_is_link o.down ≡ true → ⊥
  ended_link s event e o request link is tells down =
      let told = subst (Tells config s event) is tells in
      let end : down_is_link o.down ≡ false = ap (λ (x : Opening). down_is_link x.down) told.opening_is in
      cc

  finished_now : (before after : List Effect) (e : Effect) (q : Triad) (hop : Hop) → before ++ (e ∷ after) ≡ now.effects → Tells config s0 turn.event e
      → (by : OpenedBy (applied config s0 before) e q (Open hop))
      → WasOpened hop.opening hop.ids hop.their_id
  finished_now before after e q hop is tells by =
      let told : FinishesAs s0 turn.event by.number q by.bytes by.success = subst (Tells config s0 turn.event) by.effect_is tells in
      let first : before ≡ [] = reply_alone config s0 turn.event now.effects before after e told.came.port by.number told.came.from by.bytes
      told.came.event_is
      now.decided is in
      let same : applied config s0 before ≡ s0 = ap (applied config s0) first in
      let waits = waits_at s0.pendings by.number told.came.port told.came.from told.entry told.came.waits in
      let there = asked_there s0.pendings by.number told.came.port told.came.from told.entry told.came.waits in
      let was : Opens (SentIn config turns) s0 by.number told.entry q = (joined config turns h).each by.number told.entry q waits told.kind in
      let held = same_held was.opening by.opening was.ids by.ids (sym was.at ∙ ap (λ (s : State). map.get s.hops.held q) (sym same) ∙ by.was) in
      let is_hop = same_open hop (opened by.opening by.ids by.success.ot_id (applied config s0 before).now) by.is in
      let sent : SentIn config turns by.number told.entry by.opening by.ids =
      subst (λ (i : OwnIds). SentIn config turns by.number told.entry by.opening i) held.1
      (subst (λ (o : Opening). SentIn config turns by.number told.entry o was.ids) held.0 was.of) in
      let made : HopOpened config by.opening by.ids (if down_is_link by.opening.down then Some by.success.ot_id else None) turns turn = record {
        number = by.number;
        entry = told.entry;
        bytes = by.bytes;
        reply = told.reply;
        success = by.success;
        sent = sent;
        event_is = told.came.event_is ∙ (λ i. events.Frame (sym there.0 i) (sym there.1 i) (bodies.Reply by.number by.bytes));
        read = told.came.read;
        general = told.general;
        success_is = told.read;
        their_is = refl;
      } in
      subst (λ (g : Hop). WasOpened g.opening g.ids g.their_id) (sym is_hop) (inl made)

  opened_each : (before after : List Effect) (e : Effect) → before ++ (e ∷ after) ≡ now.effects → Tells config s0 turn.event e
      → AllOpened (applied config s0 before) → AllOpened (apply config (applied config s0 before) e)
  opened_each before after e is tells all q hop at link = by_case (held_cases config (applied config s0 before) e q (Open hop) at)
    where
      by_case : HeldCase (applied config s0 before) e q (Open hop) → WasOpened hop.opening hop.ids hop.their_id
      by_case (Stands stood) = stood_opened (applied config s0 before) q hop stood.old all stood.at stood.core link
      by_case (Begun sending o effect_is triad_is held_is) = absurd (cc)
      by_case (Ended o request end effect_is triad_is held_is) =
          let same = same_open hop (opened o (own_ids (applied config s0 before).hops.next o) 0 (applied config s0 before).now) held_is in
          absurd (ended_link s0 turn.event e o request end effect_is tells (ap (λ (x : Hop). down_is_link x.opening.down) (sym same) ∙ link))
      by_case (Finished by) = finished_now before after e q hop is tells by

pub hop_opened : (config : ModuleSettings) (turns : List Turn) → IsHistory config turns → (q : Triad) (hop : Hop)
    → map.get (state_after config turns).hops.held q ≡ Some (Open hop)
    → down_is_link hop.opening.down ≡ true → Past (HopOpened config hop.opening hop.ids hop.their_id) turns
hop_opened config [] h q hop at link = let none : None ≡ Some (Open hop) = sym (map.get-empty {X = Held} triad_cmp q) ∙ at in absurd (cc)
hop_opened config (turn ∷ turns) h q hop at link =
    let now = newest config turn turns h in
    by_places config (state_after config turns) turn.event (state_after config (turn ∷ turns)) turn.outputs now
    (λ s outs. AllOpened config turns turn h.0 now s)
    (λ before after e is tells old. opened_each config turns turn h.0 now before after e is tells old)
    (λ q hop at link. inr (hop_opened config turns h.0 q hop at link)) q hop at link
