-- The way of a reply: how it came about, step by step, down to the step that made it.
use Rattle.std.proofs.Common.{◌≡◌, ℕ, zero, suc, ◌<◌, false, List, [], ◌∷◌, ◌++◌, Ok, Option, Some, None, refl, sym, ap, subst, ◌∙◌, inl, inr, arith, Bool}
use Rattle.std.specs.FinMap as map
use Rattle.std.specs.Prelude.{slice_get}
use Rattle.cip_base.specs.declared.triad.Triad.{Triad}
use Rattle.cip_base.proofs.MapCases.{some_same}
use Rattle.cip_message.specs.Reply.{Reply, reply_bytes}
use Rattle.cip_message.specs.ReplyAt.{reply_at}
use Rattle.cip_message.specs.Request.{Request}
use Rattle.cip_open.specs.Success.{OpenSuccess}
use Rattle.cip_pending.specs.Kinds.{opened_triad, is_large_kind}
use Rattle.cip_pending.specs.declared.entry.Entry as entries
use Rattle.cip_pending.specs.declared.entry.UpSide.{UpSide}
use Rattle.cip_pending.specs.declared.entry.UpSide.TheVariants.{Link, Local}
use Rattle.cip_hops.specs.declared.hop.Held.{Held}
use Rattle.cip_config.specs.declared.config.ModuleSettings.{ModuleSettings}
use Rattle.cip_event.specs.declared.event.Body.{Body}
use Rattle.cip_event.specs.declared.event.Body.TheVariants as bodies
use Rattle.cip_event.specs.declared.event.Command.{Command}
use Rattle.cip_event.specs.declared.event.Command.TheVariants as commands
use Rattle.cip_event.specs.declared.event.Event.{Event}
use Rattle.cip_event.specs.declared.event.Event.TheVariants as events
use Rattle.cip_event.specs.declared.event.Output.{Output}
use Rattle.cip_event.specs.declared.event.Output.TheVariants as outputs
use Rattle.cip_laws.specs.EffectLists.{Stands}
use Rattle.cip_routing.specs.Effects.{Sending, Effect, Answers, Finishes, Takes, here_answer, timed_out_bytes, succeeded, reply_up, apply, applied, Forwards}
use Rattle.cip_routing.specs.Effects.{Begins}
use Rattle.cip_laws.specs.Histories.{state_after}
use Rattle.cip_laws.specs.Outputs.{GaveBy, RepliesBy, AtOnce, Here, Opened, Taken, Late}
use Rattle.cip_routing.specs.State.{State}
use Rattle.cip_laws.specs.Tells.{asker, Tells, AllTell, RepliesAs, AnswersAs, FinishesAs, TakesAs, PendingTimesOutAs}
use Rattle.cip_laws.specs.Turns.{Has}
use Rattle.cip_laws.proofs.GaveBy.{gave_by}
use Rattle.cip_laws.proofs.GivenBy.{answered_by}
use Rattle.cip_laws.proofs.Puts.{puts, pending_cases}
use Rattle.cip_laws.proofs.Standing.{all_stand}
use Rattle.cip_laws.proofs.TellsAskers.{replies_asker, answers_asker, forwards_asker, begins_asker}
use Rattle.cip_laws.proofs.Turns.{Turned}
use Rattle.cip_routing.proofs.Waiting.{waits_at}
use Rattle.cip_chassis.specs.Plan.{Plan}
use Rattle.cip_chassis.specs.Nodes.{Way, across as goes}
use Rattle.cip_world.specs.declared.journal.Entry.{Entry}
use Rattle.cip_world.specs.declared.journal.Entry.TheVariants.{Step}
use Rattle.cip_event.specs.declared.frame.FrameName.{FrameName}
use Rattle.cip_world.specs.declared.journal.Input.TheVariants as inputs
use Rattle.cip_world.specs.Journals.{Journal, Flight, flight_of, sent_by as frame_of, entry_at, frame_at, is_named, part}
use Rattle.cip_world.specs.Mirrors.{IsOlder}
use Rattle.cip_world.specs.Runs.{IsRun}
use Rattle.cip_world.specs.StepsIn.{StepIn, state_before}
use Rattle.cip_world.specs.Trails.{is_refusal, named}
use Rattle.cip_world.proofs.Arrivals.{way_in, FrameGiven, frame_given, one_request}
use Rattle.cip_world.proofs.Chassis.{Chassis}
use Rattle.cip_world.proofs.Entries.{older_one, TurnIn, turn_in, SentBy, sent_by, step_older, turned_in, run_before, history_before}
use Rattle.cip_world.proofs.Frames.{out_of, frame_older, has_at}
use Rattle.cip_world.proofs.Moments.{older_length, number_at, before_that}
use Rattle.cip_world.proofs.Parts.{turn_of, same_module}
use Rattle.cip_world.proofs.PutIn.{PutIn, put_in, sent_asker}

-- ---- words

abbrev pub event_in : {t : Plan} {j : Journal} {k : ℕ} → StepIn t j k → Event
event_in s = s.taken.event

-- the step put the request n, which waits as p
abbrev pub PutAt : {t : Plan} {j : Journal} {k : ℕ} → StepIn t j k → ℕ → entries.Entry → Type 0
PutAt s n p = PutIn s.taken.config n p (part s.at.0 s.before) (turn_of s.taken.event s.outputs)

-- entry b is the arrival of the request n that entry a sent
pub record Arrives (t : Plan) (j : Journal) (a b : ℕ) (s : StepIn t j a) (r : StepIn t j b) (n : ℕ) (sending : Sending) : Type 0 where
  pub output : ℕ
  pub out : slice_get s.outputs output ≡ Some (outputs.Send sending.port sending.address (bodies.Request n sending.bytes))
  pub there : Way
  pub leads : goes t (way_in s.at.0 sending.port sending.address) ≡ Some there
  pub here : r.at.0 ≡ there.at
  pub input_is : r.input ≡ inputs.Frame there.port there.address (named a output)
  pub event_is : r.taken.event ≡ events.Frame there.port there.address (bodies.Request n sending.bytes)
  pub fresh : is_named r.before (named a output) ≡ false
  pub later : IsOlder (Step s.at s.input s.outputs ∷ s.before) r.before

-- How the step at entry k came to its reply: at once, by its target, by a tick that ended the wait for the reply from
-- below, or by that reply, as it came or as a success with own ids.
pub data Replied (t : Plan) (j : Journal) : (k : ℕ) → StepIn t j k → List ℕ → Type 0 where
  ByRow : (k : ℕ) (s : StepIn t j k) (up : UpSide) (bytes : List ℕ) → RepliesAs s.taken.config (state_before s) s.taken.event up bytes → Replied t j k s bytes
  ByTarget : (k : ℕ) (s : StepIn t j k) (up : UpSide) (asked : Request) (bytes : List ℕ) → AnswersAs s.taken.config (state_before s) s.taken.event up asked
      → bytes ≡ reply_bytes (here_answer s.taken.config (state_before s) asked) → Replied t j k s bytes
  ByTick : (k : ℕ) (s : StepIn t j k) (n : ℕ) (p : entries.Entry) → PutAt s n p → (l : ℕ) (r : StepIn t j l) → r.at.0 ≡ s.at.0
      → PendingTimesOutAs (state_before r) r.taken.event n → map.get (state_before r).pendings.entries n ≡ Some p → k < l
      → (bytes : List ℕ) → bytes ≡ timed_out_bytes p.kind p.words → Replied t j k s bytes
  AsItCame : (k : ℕ) (s : StepIn t j k) (n : ℕ) (p : entries.Entry) (put : PutAt s n p) (l : ℕ) (r : StepIn t j l) → Arrives t j k l s r n put.sending
      → (bytes : List ℕ) → Replied t j l r bytes → Replied t j k s bytes
  AsSuccess : (k : ℕ) (s : StepIn t j k) (n : ℕ) (p : entries.Entry) (put : PutAt s n p) (l : ℕ) (r : StepIn t j l) → Arrives t j k l s r n put.sending
      → (triad : Triad) → opened_triad p.kind ≡ Some triad → (came : List ℕ) (reply : Reply) → reply_at came ≡ Ok reply → reply.general ≡ 0
      → (held : Option Held) (success : OpenSuccess) (bytes : List ℕ) → bytes ≡ succeeded (is_large_kind p.kind) held came success → Replied t j l r came
      → Replied t j k s bytes

-- ---- frames of an entry

pub older_frame : (k j : Journal) (f : FrameName) (x : Flight) → IsOlder k j → frame_at k f ≡ Some x → frame_at j f ≡ Some x
older_frame k [] f x older h = ap (λ (y : Journal). frame_at y f) (sym older) ∙ h
older_frame k (e ∷ j) f x (inl same) h = ap (λ (y : Journal). frame_at y f) (sym same) ∙ h
older_frame k (e ∷ j) f x (inr older) h = frame_older e j f x (older_frame k j f x older h)

pub step_frame : (t : Plan) (j : Journal) (k i port : ℕ) (to : List ℕ) (body : Body) (s : StepIn t j k)
    → slice_get s.outputs i ≡ Some (outputs.Send port to body)
    → frame_at j (named k i) ≡ Some (record { way = way_in s.at.0 port to; body = body })
step_frame t j k i port to body s at =
    ap (λ (o : Option Entry). frame_of o i) (ap (entry_at j) (sym s.number) ∙ number_at (Step s.at s.input s.outputs) s.before j s.is)
    ∙ ap (flight_of s.at.0) at

pub place_of : (os : List Output) (o : Output) → Has os o → (i : ℕ) × (slice_get os i ≡ Some o)
place_of [] o h = absurd h
place_of (x ∷ os) o (inl e) = (0, ap (λ (y : Output). Some y) e)
place_of (x ∷ os) o (inr h) = let there = place_of os o h in (suc there.0, there.1)

-- ---- who asked by a link

-- an event that asks for a link is a request that came by it
pub record CameBy (event : Event) (port n : ℕ) (from : List ℕ) : Type 0 where
  pub bytes : List ℕ
  pub event_is : event ≡ events.Frame port from (bodies.Request n bytes)

command_local : (c : Command) (port n : ℕ) (from : List ℕ) → asker (events.Command c) ≡ Some (Link port from n) → ⊥
command_local (commands.Produce instance) port n from e = cc
command_local c port n from e = cc

pub came_by : (event : Event) (port n : ℕ) (from : List ℕ) → asker event ≡ Some (Link port from n) → CameBy event port n from
came_by (events.Command c) port n from e = absurd (command_local c port n from e)
came_by (events.Tick ms) port n from e = absurd (cc)
came_by (events.Frame p a (bodies.Request k b)) port n from e =
    let ports : p ≡ port = cc in let froms : a ≡ from = cc in let numbers : k ≡ n = cc in
    record { bytes = b; event_is = λ i. events.Frame (ports i) (froms i) (bodies.Request (numbers i) b) }
came_by (events.Frame p a (bodies.Reply k b)) port n from e = absurd (cc)
came_by (events.Frame p a (bodies.Data k b)) port n from e = absurd (cc)

-- ---- what waits while a tick passes

none_put : (config : ModuleSettings) (s0 mid : State) (event : Event) (e : Effect) (p : entries.Entry) → asker event ≡ None → Tells config s0 event e
    → puts mid e ≡ Some p → ⊥
none_put config s0 mid event e p none tells put = by_effect e tells put
  where
    by_effect : (e : Effect) → Tells config s0 event e → puts mid e ≡ Some p → ⊥
    by_effect (Forwards sending kind) tells put = let no : None ≡ Some sending.up = sym none ∙ forwards_asker config s0 event sending kind tells in cc
    by_effect (Begins sending o) tells put = let no : None ≡ Some sending.up = sym none ∙ begins_asker config s0 event sending o tells in cc
    by_effect e tells put = cc

-- where nothing is asked, what waits after some effects waited before
waits_before : (config : ModuleSettings) (s0 mid : State) (event : Event) (es after : List Effect) (n : ℕ) (p : entries.Entry) → asker event ≡ None
    → AllTell config s0 event (es ++ after) → map.get (applied config mid es).pendings.entries n ≡ Some p → map.get mid.pendings.entries n ≡ Some p
waits_before config s0 mid event [] after n p none tells at = at
waits_before config s0 mid event (e ∷ es) after n p none tells at =
    elim (pending_cases config mid e n p (waits_before config s0 (apply config mid e) event es after n p none tells.1 at)) [
      | inl old ↦ old
      | inr new ↦ absurd (none_put config s0 mid event e p none tells.0 new.1)
    ]

-- ---- the theorem

-- what asked for this reply, and how it came about
pub record ReplyOf (t : Plan) (j : Journal) (m : ℕ) (up : UpSide) (bytes : List ℕ) : Type 0 where
  pub number : ℕ
  pub step : StepIn t j number
  pub here : step.at.0 ≡ m
  pub asks : asker step.taken.event ≡ Some up
  -- it did something else than to refuse it
  pub given : Output
  pub gives : Has step.outputs given
  pub taken : is_refusal given ≡ false
  pub replied : Replied t j number step bytes

not_refused : (up : UpSide) (bytes : List ℕ) → is_refusal (reply_up up bytes) ≡ false
not_refused (Link port address n) bytes = refl
not_refused (Local op) bytes = refl

request_taken : (sending : Sending) (n : ℕ) → is_refusal (outputs.Send sending.port sending.address (bodies.Request n sending.bytes)) ≡ false
request_taken sending n = refl

-- the request that waited for a reply that came, where it arrived, and how the reply came about there
record FromBelow (t : Plan) (j : Journal) (m n : ℕ) (p : entries.Entry) (came : List ℕ) : Type 0 where
  number : ℕ
  step : StepIn t j number
  here : step.at.0 ≡ m
  put : PutAt step n p
  below : ℕ
  arrival : StepIn t j below
  arrives : Arrives t j number below step arrival n put.sending
  replied : Replied t j below arrival came

way_eq : (v w : Way) → v.at ≡ w.at → v.port ≡ w.port → v.address ≡ w.address → v ≡ w
way_eq v w a p d = λ i. record { at = a i; port = p i; address = d i }

module _ (t : Chassis) (j : Journal) (run : IsRun t.plan j) (l : ℕ) (s : StepIn t.plan j l) where
  abbrev config : ModuleSettings
  config = s.taken.config

  older : IsOlder s.before j
  older = before_that (Step s.at s.input s.outputs) s.before j s.is

  -- who put a request that waits
  module _ (n : ℕ) (p : entries.Entry) (at : map.get (state_before s).pendings.entries n ≡ Some p) where
    abbrev put : TurnIn (PutIn config n p) t.plan s.before s.at.0
    put =
        turn_in (PutIn config n p) t.plan s.before s.at.0 (run_before t.plan j l run s)
        (put_in config (part s.at.0 s.before) (history_before t.plan j l run s) n p at)

    abbrev asking : StepIn t.plan j put.number
    asking = step_older t.plan s.before j put.number older put.step

    own : put.step.taken.config ≡ config
    own = same_module t.plan s.at.0 put.step.at.0 put.step.taken.config config put.here put.step.taken.is_module s.taken.is_module

    put_at : PutAt asking n p
    put_at =
        subst (λ (c : ModuleSettings). PutIn c n p (part put.step.at.0 put.step.before) (turn_of put.step.taken.event put.step.outputs)) (sym own)
        (subst (λ (i : ℕ). PutIn config n p (part i put.step.before) (turn_of put.step.taken.event put.step.outputs)) (sym put.here) put.has)

    put_first : put.number < l
    put_first =
        let less = older_length (Step put.step.at put.step.input put.step.outputs ∷ put.step.before) s.before put.step.is in
        let is = put.step.number in let at_ = s.number in omega (arith, less, is, at_)

    put_asks : asker asking.taken.event ≡ Some p.up
    put_asks =
        sent_asker asking.taken.config (state_before asking) asking.taken.event put_at.sending p.kind put_at.why
        ∙ ap (λ (u : UpSide). Some u) (sym put_at.up_is)

    -- and how the reply came about that came for it
    module _
        (ih : (k : ℕ) (r : StepIn t.plan j k) → k < l → (up : UpSide) (bytes : List ℕ) → Has r.outputs (reply_up up bytes) → ReplyOf t.plan j r.at.0 up bytes)
        (port : ℕ) (from came : List ℕ) (event_is : s.taken.event ≡ events.Frame port from (bodies.Reply n came)) where
      given : FrameGiven t s.before s.at.0 port from (bodies.Reply n came) s.input
      given = frame_given t s.before s.at.0 s.input s.taken.event port from (bodies.Reply n came) s.taken.given event_is

      abbrev sender : SentBy t.plan s.before given.name given.flight
      sender = sent_by t.plan s.before given.name given.flight (run_before t.plan j l run s) given.sent

      abbrev replier : StepIn t.plan j given.name.entry
      replier = step_older t.plan s.before j given.name.entry older sender.step

      before_it : given.name.entry < l
      before_it =
          let less = older_length (Step sender.step.at sender.step.input sender.step.outputs ∷ sender.step.before) s.before sender.step.is in
          let is = sender.step.number in let at_ = s.number in omega (arith, less, is, at_)

      abbrev up : UpSide
      up = Link given.flight.way.port given.flight.way.address n

      has : Has replier.outputs (reply_up up came)
      has =
          subst (λ (b : Body). Has sender.step.outputs (outputs.Send given.flight.way.port given.flight.way.address b)) given.body_is
          (has_at sender.step.outputs given.name.output (out_of given.flight) sender.place)

      deeper : ReplyOf t.plan j replier.at.0 up came
      deeper = ih given.name.entry replier before_it up came has

      came_is : CameBy deeper.step.taken.event given.flight.way.port n given.flight.way.address
      came_is = came_by deeper.step.taken.event given.flight.way.port n given.flight.way.address deeper.asks

      asked : FrameGiven t deeper.step.before deeper.step.at.0 given.flight.way.port given.flight.way.address (bodies.Request n came_is.bytes) deeper.step.input
      asked = frame_given t deeper.step.before deeper.step.at.0 deeper.step.input deeper.step.taken.event given.flight.way.port given.flight.way.address
          (bodies.Request n came_is.bytes) deeper.step.taken.given came_is.event_is

      there_is : way_in deeper.step.at.0 given.flight.way.port given.flight.way.address ≡ given.flight.way
      there_is = way_eq (way_in deeper.step.at.0 given.flight.way.port given.flight.way.address) given.flight.way (deeper.here ∙ sender.here) refl refl

      from_here : asked.flight.way ≡ way_in s.at.0 port from
      from_here =
          some_same asked.flight.way (way_in s.at.0 port from)
          (sym (t.back asked.flight.way (way_in deeper.step.at.0 given.flight.way.port given.flight.way.address) asked.leads) ∙ ap (goes t.plan) there_is
          ∙ given.leads)

      place : (i : ℕ) × (slice_get asking.outputs i ≡ Some (outputs.Send put_at.sending.port put_at.sending.address (bodies.Request n put_at.sending.bytes)))
      place = place_of asking.outputs (outputs.Send put_at.sending.port put_at.sending.address (bodies.Request n put_at.sending.bytes)) put_at.sent

      abbrev sent : Flight
      sent = record { way = way_in asking.at.0 put_at.sending.port put_at.sending.address; body = bodies.Request n put_at.sending.bytes }

      sent_there : frame_at j (named put.number place.0) ≡ Some sent
      sent_there = step_frame t.plan j put.number place.0 put_at.sending.port put_at.sending.address (bodies.Request n put_at.sending.bytes) asking place.1

      arrived_there : frame_at j asked.name ≡ Some asked.flight
      arrived_there = older_frame deeper.step.before j asked.name asked.flight
          (before_that (Step deeper.step.at deeper.step.input deeper.step.outputs) deeper.step.before j deeper.step.is) asked.sent

      names : asked.name ≡ named put.number place.0
      names = one_request t j asked.name (named put.number place.0) asked.flight sent n came_is.bytes put_at.sending.bytes run
          (ap (λ (w : Way). w.at) from_here ∙ sym put.here) arrived_there sent_there asked.body_is refl

      flights : asked.flight ≡ sent
      flights = some_same asked.flight sent (sym arrived_there ∙ ap (frame_at j) names ∙ sent_there)

      same_bytes : came_is.bytes ≡ put_at.sending.bytes
      same_bytes =
          let both : bodies.Request n came_is.bytes ≡ bodies.Request n put_at.sending.bytes = sym asked.body_is ∙ ap (λ (x : Flight). x.body) flights in cc

      asked_later : IsOlder (Step asking.at asking.input asking.outputs ∷ asking.before) deeper.step.before
      asked_later =
          let by = sent_by t.plan deeper.step.before asked.name asked.flight (run_before t.plan j deeper.number run deeper.step) asked.sent in
          let less = older_length (Step by.step.at by.step.input by.step.outputs ∷ by.step.before) deeper.step.before by.step.is in
          let is = by.step.number in
          let same = ap (λ (f : FrameName). f.entry) names in
          let is_put = put.step.number in
          older_one (Step asking.at asking.input asking.outputs ∷ asking.before) deeper.step.before j asking.is
          (before_that (Step deeper.step.at deeper.step.input deeper.step.outputs) deeper.step.before j deeper.step.is) (omega (arith, less, is, same, is_put))

      from_below : FromBelow t.plan j s.at.0 n p came
      from_below = record {
        number = put.number;
        step = asking;
        here = put.here;
        put = put_at;
        below = deeper.number;
        arrival = deeper.step;
        arrives = record {
          output = place.0;
          out = place.1;
          there = way_in deeper.step.at.0 given.flight.way.port given.flight.way.address;
          leads = ap (goes t.plan) (ap (λ (x : Flight). x.way) (sym flights)) ∙ asked.leads;
          here = refl;
          input_is = asked.input_is ∙ (λ i. inputs.Frame given.flight.way.port given.flight.way.address (names i));
          event_is = came_is.event_is ∙ (λ i. events.Frame given.flight.way.port given.flight.way.address (bodies.Request n (same_bytes i)));
          fresh = ap (is_named deeper.step.before) (sym names) ∙ asked.fresh;
          later = asked_later;
        };
        replied = deeper.replied;
      }

  -- the ways to a reply of this step
  module _
      (ih : (k : ℕ) (r : StepIn t.plan j k) → k < l → (up : UpSide) (bytes : List ℕ) → Has r.outputs (reply_up up bytes) → ReplyOf t.plan j r.at.0 up bytes)
      (up : UpSide) (bytes : List ℕ) where
    turn : Turned config (state_before s) s.taken.event (state_after config (turn_of s.taken.event s.outputs ∷ part s.at.0 s.before)) s.outputs
    turn = turned_in t.plan j l run s

    by_reply : (n port : ℕ) (from came : List ℕ) (p : entries.Entry) → s.taken.event ≡ events.Frame port from (bodies.Reply n came)
        → map.get (state_before s).pendings.entries n ≡ Some p → FromBelow t.plan j s.at.0 n p came
    by_reply n port from came p event_is at = from_below n p at ih port from came event_is

    asks_by : (n : ℕ) (p : entries.Entry) (came : List ℕ) (b : FromBelow t.plan j s.at.0 n p came) → p.up ≡ up → asker b.step.taken.event ≡ Some up
    asks_by n p came b ups =
        sent_asker b.step.taken.config (state_before b.step) b.step.taken.event b.put.sending p.kind b.put.why
        ∙ ap (λ (u : UpSide). Some u) (sym b.put.up_is ∙ ups)

    by_way : (g : GaveBy config (state_before s) s.taken.event turn.effects (reply_up up bytes))
        → RepliesBy config (state_before s) s.taken.event (applied config (state_before s) g.before) g.effect up bytes → Has s.outputs (reply_up up bytes)
        → ReplyOf t.plan j s.at.0 up bytes
    by_way g (AtOnce k) h = record {
      number = l;
      step = s;
      here = refl;
      asks = replies_asker config (state_before s) s.taken.event up bytes k;
      given = reply_up up bytes;
      gives = h;
      taken = not_refused up bytes;
      replied = ByRow l s up bytes k;
    }
    by_way g (Here asked_ effect_is k bytes_are) h =
        let stands : Stands (state_before s) (applied config (state_before s) g.before) (Answers up asked_) =
        subst (Stands (state_before s) (applied config (state_before s) g.before)) effect_is
        (all_stand config (state_before s) s.taken.event turn.effects turn.decided g.before g.after g.effect g.is) in
        let mid = applied config (state_before s) g.before in
        let same : reply_bytes (here_answer config mid asked_) ≡ reply_bytes (here_answer config (state_before s) asked_) =
        λ i. reply_bytes (here_answer config (record mid { pendings = stands.1.1 i; hops = stands.1.0 i; assemblies = stands.0 i }) asked_) in
        record {
          number = l;
          step = s;
          here = refl;
          asks = answers_asker config (state_before s) s.taken.event up asked_ k;
          given = reply_up up bytes;
          gives = h;
          taken = not_refused up bytes;
          replied = ByTarget l s up asked_ bytes k (bytes_are ∙ same);
        }
    by_way g (Taken n p effect_is at ups) h =
        let told : TakesAs (state_before s) s.taken.event n bytes = subst (Tells config (state_before s) s.taken.event) effect_is g.tells in
        let stands : Stands (state_before s) (applied config (state_before s) g.before) (Takes n bytes) =
        subst (Stands (state_before s) (applied config (state_before s) g.before)) effect_is
        (all_stand config (state_before s) s.taken.event turn.effects turn.decided g.before g.after g.effect g.is) in
        let b = by_reply n told.came.port told.came.from bytes p told.came.event_is (ap (λ (x : State). map.get x.pendings.entries n) (sym stands) ∙ at) in
        record {
          number = b.number;
          step = b.step;
          here = b.here;
          asks = asks_by n p bytes b ups;
          given = outputs.Send b.put.sending.port b.put.sending.address (bodies.Request n b.put.sending.bytes);
          gives = b.put.sent;
          taken = request_taken b.put.sending n;
          replied = AsItCame b.number b.step n p b.put b.below b.arrival b.arrives bytes b.replied;
        }
    by_way g (Opened n triad came success p effect_is at ups bytes_are) h =
        let told : FinishesAs (state_before s) s.taken.event n triad came success = subst (Tells config (state_before s) s.taken.event) effect_is g.tells in
        let stands : Stands (state_before s) (applied config (state_before s) g.before) (Finishes n triad came success) =
        subst (Stands (state_before s) (applied config (state_before s) g.before)) effect_is
        (all_stand config (state_before s) s.taken.event turn.effects turn.decided g.before g.after g.effect g.is) in
        let now_at : map.get (state_before s).pendings.entries n ≡ Some p = ap (λ (x : State). map.get x.pendings.entries n) (sym stands) ∙ at in
        let waits = waits_at (state_before s).pendings n told.came.port told.came.from told.entry told.came.waits in
        let same : p ≡ told.entry = some_same p told.entry (sym now_at ∙ waits) in
        let b = by_reply n told.came.port told.came.from came p told.came.event_is now_at in
        record {
          number = b.number;
          step = b.step;
          here = b.here;
          asks = asks_by n p came b ups;
          given = outputs.Send b.put.sending.port b.put.sending.address (bodies.Request n b.put.sending.bytes);
          gives = b.put.sent;
          taken = request_taken b.put.sending n;
          replied =
              AsSuccess b.number b.step n p b.put b.below b.arrival b.arrives triad
              (ap (λ (x : entries.Entry). opened_triad x.kind) same ∙ told.kind) came told.reply told.came.read told.general
              (map.get (applied config (state_before s) g.before).hops.held triad) success bytes bytes_are b.replied;
        }
    by_way g (Late n p effect_is at ups bytes_are) h =
        let told : PendingTimesOutAs (state_before s) s.taken.event n = subst (Tells config (state_before s) s.taken.event) effect_is g.tells in
        let now_at : map.get (state_before s).pendings.entries n ≡ Some p =
        waits_before config (state_before s) (state_before s) s.taken.event g.before (g.effect ∷ g.after) n p (ap asker told.event_is)
        (subst (AllTell config (state_before s) s.taken.event) (sym g.is) turn.tells) at in
        record {
          number = (put n p now_at).number;
          step = asking n p now_at;
          here = (put n p now_at).here;
          asks = put_asks n p now_at ∙ ap (λ (u : UpSide). Some u) ups;
          given = outputs.Send (put_at n p now_at).sending.port (put_at n p now_at).sending.address (bodies.Request n (put_at n p now_at).sending.bytes);
          gives = (put_at n p now_at).sent;
          taken = request_taken (put_at n p now_at).sending n;
          replied =
              ByTick (put n p now_at).number (asking n p now_at) n p (put_at n p now_at) l s (sym (put n p now_at).here) told now_at
              (put_first n p now_at) bytes bytes_are;
        }

    reply_now : Has s.outputs (reply_up up bytes) → ReplyOf t.plan j s.at.0 up bytes
    reply_now h =
        let g =
        gave_by config (state_before s) s.taken.event (state_after config (turn_of s.taken.event s.outputs ∷ part s.at.0 s.before)) s.outputs
        (reply_up up bytes) turn h in
        by_way g (answered_by up bytes config (state_before s) s.taken.event (applied config (state_before s) g.before) g.effect g.tells g.gives) h

replies_within : (t : Chassis) (j : Journal) → IsRun t.plan j → (n l : ℕ) → l < n → (s : StepIn t.plan j l) (up : UpSide) (bytes : List ℕ)
    → Has s.outputs (reply_up up bytes)
    → ReplyOf t.plan j s.at.0 up bytes
replies_within t j run zero l less s up bytes h = absurd (omega (arith, less))
replies_within t j run (suc n) l less s up bytes h =
    reply_now t j run l s (λ k r below v b has. replies_within t j run n k (omega (arith, less, below)) r v b has) up bytes h

-- Every reply of a run, by a link or to a command, was asked for by the event of an earlier step of the same module, or
-- of this one, and came about in one of the five ways.
pub reply_of : (t : Chassis) (j : Journal) (l : ℕ) → IsRun t.plan j → (s : StepIn t.plan j l) (up : UpSide) (bytes : List ℕ) → Has s.outputs (reply_up up bytes)
    → ReplyOf t.plan j s.at.0 up bytes
reply_of t j l run s up bytes h = replies_within t j run (suc l) l (omega arith) s up bytes h
