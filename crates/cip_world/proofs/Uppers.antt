-- Each connection that came by a link was asked for by a connection above, under that one's down id.
use Rattle.std.proofs.Common.{◌≡◌, ℕ, true, cond, List, [], ◌∷◌, ◌++◌, Ok, Some, None, refl, sym, ap, subst, ◌∙◌, inl, inr, Bool}
use Rattle.std.specs.FinMap as map
use Rattle.cip_base.specs.declared.triad.Triad.{Triad}
use Rattle.cip_segment.specs.Reading.{HopAt, hop_of}
use Rattle.cip_open.specs.Open.{Open as OpenRequest, open_data, open_bytes}
use Rattle.cip_open.specs.GoesOn.{lowered}
use Rattle.cip_open.specs.OpenAt.{open_at}
use Rattle.cip_pending.specs.declared.entry.UpSide.{UpSide}
use Rattle.cip_pending.specs.declared.entry.Kind.{Kind}
use Rattle.cip_hops.specs.declared.opening.HopDown.TheVariants.{Link as DownLink}
use Rattle.cip_hops.specs.declared.opening.HopUp.TheVariants.{Link as UpLink, Local as UpLocal}
use Rattle.cip_hops.specs.declared.opening.Opening.{Opening}
use Rattle.cip_hops.specs.declared.opening.OwnIds.{OwnIds}
use Rattle.cip_hops.specs.declared.hop.Held.{Held}
use Rattle.cip_hops.specs.Sides.{down_is_link, own_ids}
use Rattle.cip_hops.specs.Hops.{opening_of, ids_of}
use Rattle.cip_config.specs.declared.config.ModuleSettings.{ModuleSettings}
use Rattle.cip_event.specs.declared.event.Body.{Body}
use Rattle.cip_event.specs.declared.event.Body.TheVariants as bodies
use Rattle.cip_event.specs.declared.event.Event.{Event}
use Rattle.cip_event.specs.declared.event.Event.TheVariants as events
use Rattle.cip_event.specs.declared.event.Output.{Output}
use Rattle.cip_event.specs.declared.event.Output.TheVariants as outputs
use Rattle.cip_routing.specs.Effects.{Sending, Effect, Begins, applied}
use Rattle.cip_routing.specs.RequestRows.{UnknownPortOrTooLong, ForwardOpen, request_row}
use Rattle.cip_routing.specs.State.{State}
use Rattle.cip_routing.specs.Table.{up_side_of}
use Rattle.cip_laws.specs.Tells.{AsksOpen, ForwardsAs, BeginsAs, SentOn, ClosedOn}
use Rattle.cip_laws.specs.Births.{opened_by, Past, IsBirth}
use Rattle.cip_laws.specs.Histories.{Turn, state_after, IsHistory}
use Rattle.cip_world.specs.Mirrors.{IsOlder}
use Rattle.cip_chassis.specs.Nodes.{Way, across as goes}
use Rattle.cip_world.specs.Journals.{Journal, part}
use Rattle.cip_world.specs.Runs.{IsModule, state_in, IsRun}
use Rattle.cip_laws.specs.Turns.{Has, SomeTurn, Gave}
use Rattle.cip_world.proofs.Arrivals.{way_in, Brought, came_brought}
use Rattle.cip_laws.proofs.GaveBy.{gave_by}
use Rattle.cip_laws.proofs.Births.{birth, held_born}
use Rattle.cip_open.proofs.ReadAgain.{open_data_read}
use Rattle.cip_laws.proofs.NextRows.{open_row_is}
use Rattle.cip_laws.proofs.RequestBy.{BornBy, born_tells, RequestBy, ByForward, ByBegin, request_by}
use Rattle.cip_world.proofs.Chassis.{Chassis}
use Rattle.cip_world.proofs.Frames.{frame_gave, sender}
use Rattle.cip_laws.proofs.GoesOn.{close_no_open, message_no_open}
use Rattle.cip_world.proofs.Moments.{past_older, run_older}
use Rattle.cip_world.proofs.Parts.{run_history}
use Rattle.cip_laws.proofs.Turns.{Turned, newest}

-- ---- past turns of a history

pub past_at : (config : ModuleSettings) (P : List Turn → Turn → Type 0) (F : Type 0) (turns : List Turn) → IsHistory config turns → Past P turns
    → ((earlier : List Turn) (turn : Turn) → IsHistory config (turn ∷ earlier) → P earlier turn → ((Q : Turn → Type 0) → Q turn → SomeTurn Q turns)
    → ((R : List Turn → Turn → Type 0) → R earlier turn → Past R turns) → F) → F
past_at config P F [] h past f = absurd past
past_at config P F (turn ∷ turns) h (inl now) f = f turns turn h now (λ Q q. inl q) (λ R r. inl r)
past_at config P F (turn ∷ turns) h (inr old) f = past_at config P F turns h.0 old
    (λ earlier t k p one all. f earlier t k p (λ Q q. inr (one Q q)) (λ R r. inr (all R r)))

gave_past : (turns : List Turn) (x : Output) → Gave turns x → Past (λ before turn. Has turn.outputs x) turns
gave_past [] x h = absurd h
gave_past (turn ∷ turns) x (inl h) = inl h
gave_past (turn ∷ turns) x (inr h) = inr (gave_past turns x h)

-- ---- the theorem

-- the connection above: it goes down by the way that leads here, and its down id is the id under which data go up from here
pub record HasUpper (t : Chassis) (j : Journal) (here : Way) (o : Opening) (their_id : ℕ) : Type 0 where
  pub above : Way
  pub across : goes t.plan here ≡ Some above
  pub config : ModuleSettings
  pub is_module : IsModule t.plan above.at config
  pub opening : Opening
  pub ids : OwnIds
  pub birth : Past (IsBirth config opening ids) (part above.at j)
  pub own_is : ids.down ≡ Some their_id
  pub down_is : opening.down ≡ DownLink above.port above.address
  pub triad_is : opening.triad ≡ o.triad
  pub first : HopAt
  pub first_is : hop_of opening.path ≡ Some first
  pub path_is : o.path ≡ first.rest

no_forward : (config there : ModuleSettings) (s : State) (event : Event) (sending : Sending) (p : ℕ) (large : Bool) (asked : List ℕ) (kind : Kind)
    → ForwardsAs config s event sending kind
    → request_row there p sending.bytes ≡ ForwardOpen large asked → ⊥
no_forward config there s event sending p large asked kind (SentOn is h) e =
    message_no_open config there s.pendings h.u h.embedded sending.port p sending.address h.rest asked large h.read h.meets
    (ap (request_row there p) (sym h.bytes_are) ∙ e)
no_forward config there s event sending p large asked kind (ClosedOn triad is h) e =
    close_no_open there p _ asked large (ap (request_row there p) (sym h.bytes_are) ∙ e)

up_parts : (p q : ℕ) (a b : List ℕ) (c d : ℕ) → UpLink p a c ≡ UpLink q b d → (p ≡ q) × (a ≡ b) × (c ≡ d)
up_parts p q a b c d e = (cc, cc, cc)

module _ (t : Chassis) (j : Journal) (g : ℕ) (config : ModuleSettings) (run : IsRun t.plan j) (is : IsModule t.plan g config) (port their_id : ℕ)
    (from : List ℕ) (o : Opening) (up_is : o.up ≡ UpLink port from their_id) where
  abbrev Upper : Type 0
  Upper = HasUpper t j (way_in g port from) o their_id

  -- the request n with these bytes came by that link, and is read as this open
  module _ (n : ℕ) (bytes asked : List ℕ) (request : OpenRequest) (row : request_row config port bytes ≡ ForwardOpen request.fields.large asked)
      (read : open_at request.fields.large asked ≡ Ok request)
      (to_id_is : request.fields.to_id ≡ their_id) (triad_is : o.triad ≡ request.fields.triad) (path_is : o.path ≡ request.path)
      (brought : Brought t j g port from (bodies.Request n bytes)) where
    abbrev above : Way
    above = brought.flight.way

    asker_is : (c : ModuleSettings) × IsModule t.plan above.at c
    asker_is = sender t.plan j brought.name brought.flight run brought.sent

    gave : Gave (part above.at j) (outputs.Send above.port above.address (bodies.Request n bytes))
    gave = subst (λ (b : Body). Gave (part above.at j) (outputs.Send above.port above.address b)) brought.body_is
        (frame_gave t.plan j brought.name brought.flight run brought.sent)

    history : IsHistory asker_is.0 (part above.at j)
    history = run_history t.plan j above.at asker_is.0 run asker_is.1

    module _ (earlier : List Turn) (turn : Turn) (h : IsHistory asker_is.0 (turn ∷ earlier))
        (all : (R : List Turn → Turn → Type 0) → R earlier turn → Past R (part above.at j)) where
      abbrev s0 : State
      s0 = state_after asker_is.0 earlier

      now : Turned asker_is.0 s0 turn.event (state_after asker_is.0 (turn ∷ earlier)) turn.outputs
      now = newest asker_is.0 turn earlier h

      begun : (before after : List Effect) (e : Effect) (sending : Sending) (opening : Opening) → before ++ (e ∷ after) ≡ now.effects
          → e ≡ Begins sending opening
          → BeginsAs asker_is.0 s0 turn.event sending opening → sending.port ≡ above.port → sending.address ≡ above.address → sending.bytes ≡ bytes → Upper
      begun before after e sending opening place effect_is tells q_is a_is b_is =
          let oo : OpenRequest = lowered tells.o s0.hops.next tells.rest in
          let large = request.fields.large in
          let whole : request_row config port (open_bytes oo) ≡ ForwardOpen large asked = ap (request_row config port) (sym tells.bytes_are ∙ b_is) ∙ row in
          let came : (large ≡ oo.fields.large) × (asked ≡ open_data oo) =
          elim (open_row_is config port oo) as (λ _. (large ≡ oo.fields.large) × (asked ≡ open_data oo)) [
            | inl u ↦ let no : UnknownPortOrTooLong ≡ ForwardOpen large asked = sym u ∙ whole in absurd (cc)
            | inr f ↦ let same : ForwardOpen large asked ≡ ForwardOpen oo.fields.large (open_data oo) = sym whole ∙ f in (cc, cc)
          ] in
          let same : request ≡ oo = open_data_read oo request ((λ i. open_at (sym came.0 i) (sym came.1 i)) ∙ read) in
          let birth_is = birth asker_is.0 earlier turn now before after e opening place (ap opened_by effect_is) in
          let link : down_is_link opening.down ≡ true = ap (λ (x : Opening). down_is_link x.down) tells.opening_is in
          record {
            above = above;
            across = t.back above (way_in g port from) brought.leads;
            config = asker_is.0;
            is_module = asker_is.1;
            opening = opening;
            ids = own_ids s0.hops.next opening;
            birth = all (IsBirth asker_is.0 opening (own_ids s0.hops.next opening)) (record { is = birth_is.is; ids_are = refl });
            own_is = ap (λ b. cond b (Some s0.hops.next) None) link ∙ ap (λ (x : OpenRequest). Some x.fields.to_id) (sym same)
                ∙ ap (λ (i : ℕ). Some i) to_id_is;
            down_is = ap (λ (x : Opening). x.down) tells.opening_is ∙ (λ i. DownLink (q_is i) (a_is i));
            triad_is = ap (λ (x : Opening). x.triad) tells.opening_is ∙ ap (λ (x : OpenRequest). x.fields.triad) (sym same) ∙ sym triad_is;
            first = tells.leads.hop;
            first_is = ap (λ (x : Opening). hop_of x.path) tells.opening_is ∙ tells.leads.first;
            path_is = path_is ∙ ap (λ (x : OpenRequest). x.path) same ∙ tells.leads.rest_is;
          }

      by_sending : (e : Effect) (before after : List Effect) → before ++ (e ∷ after) ≡ now.effects
          → RequestBy asker_is.0 s0 turn.event e above.port above.address bytes → Upper
      by_sending e before after place (ByForward sending kind effect_is tells q_is a_is b_is) =
          absurd (no_forward asker_is.0 config s0 turn.event sending port request.fields.large asked kind tells (ap (request_row config port) b_is ∙ row))
      by_sending e before after place
          (ByBegin sending opening effect_is tells q_is a_is b_is) = begun before after e sending opening place effect_is tells q_is a_is b_is

      sent_so : Has turn.outputs (outputs.Send above.port above.address (bodies.Request n bytes)) → Upper
      sent_so has =
          let by = gave_by asker_is.0 s0 turn.event (state_after asker_is.0 (turn ∷ earlier)) turn.outputs
          (outputs.Send above.port above.address (bodies.Request n bytes)) now has in
          by_sending by.effect by.before by.after by.is
          (request_by above.port n above.address bytes asker_is.0 s0 turn.event (applied asker_is.0 s0 by.before) by.effect by.tells by.gives)

    asked_above : Upper
    asked_above = past_at asker_is.0 (λ before turn. Has turn.outputs (outputs.Send above.port above.address (bodies.Request n bytes))) Upper
        (part above.at j) history (gave_past (part above.at j) _ gave)
        (λ earlier turn h has one all. sent_so earlier turn h all has)

  by_birth : (earlier : List Turn) (turn : Turn) → ((Q : Turn → Type 0) → Q turn → SomeTurn Q (part g j))
      → BornBy config (state_after config earlier) turn.event o → Upper
  by_birth earlier turn one by = by_asking by.asks
    where
      by_asking : AsksOpen config (state_after config earlier) turn.event by.up by.request → Upper
      by_asking (inl c) =
          let v = c.came in
          let ups : UpLink v.port v.from by.request.fields.to_id ≡ UpLink port from their_id =
          ap (λ (u : UpSide). up_side_of u by.request.fields.to_id) (sym v.up_is) ∙ ap (λ (x : Opening). x.up) (sym by.opening_is) ∙ up_is in
          let parts = up_parts v.port port v.from from by.request.fields.to_id their_id ups in
          let event_is : turn.event ≡ events.Frame port from (bodies.Request v.number v.bytes) = v.event_is
          ∙ (λ i. events.Frame (parts.0 i) (parts.1 i) (bodies.Request v.number v.bytes)) in
          asked_above v.number v.bytes c.asked by.request (ap (λ (p : ℕ). request_row config p v.bytes) (sym parts.0) ∙ v.meets) c.read parts.2
          (ap (λ (x : Opening). x.triad) by.opening_is) (ap (λ (x : Opening). x.path) by.opening_is)
          (came_brought t j g port from (bodies.Request v.number v.bytes) run
          (one (λ x. x.event ≡ events.Frame port from (bodies.Request v.number v.bytes)) event_is))
      by_asking (inr c) =
          let no : UpLocal c.op ≡ UpLink port from their_id =
          ap (λ (u : UpSide). up_side_of u by.request.fields.to_id) (sym c.up_is) ∙ ap (λ (x : Opening). x.up) (sym by.opening_is) ∙ up_is in
          absurd (cc)

-- whatever is held at any moment, opening or open, with an up side that is a link
pub upper : (t : Chassis) (j k : Journal) (g : ℕ) (config : ModuleSettings) → IsRun t.plan j → IsModule t.plan g config → IsOlder k j
    → (q : Triad) (x : Held) (port their_id : ℕ) (from : List ℕ)
    → map.get (state_in config g k).hops.held q ≡ Some x → (opening_of x).up ≡ UpLink port from their_id
    → HasUpper t j (way_in g port from) (opening_of x) their_id
upper t j k g config run is older q x port their_id from at up_is =
    let past = past_older (IsBirth config (opening_of x) (ids_of x)) g k j older
    (held_born config (part g k) (run_history t.plan k g config (run_older t.plan k j older run) is) q x at) in
    past_at config (IsBirth config (opening_of x) (ids_of x)) (HasUpper t j (way_in g port from) (opening_of x) their_id) (part g j)
    (run_history t.plan j g config run is) past
    (λ earlier turn h b one all. by_birth t j g config run is port their_id from (opening_of x) up_is earlier turn one
    (born_tells config (opening_of x) (ids_of x) earlier turn h b))
