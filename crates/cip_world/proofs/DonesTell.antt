-- What the Dones of an op tell of the trail of its command.
use Rattle.std.proofs.Common.{◌≡◌, ℕ, false, List, [], ◌∷◌, Some, None, refl, sym, ap, subst, ◌∙◌, inl, inr}
use Rattle.std.specs.List.{list_any}
use Rattle.std.specs.Prelude.{slice_index, option_and_then, ◌≢◌}
use Rattle.std.proofs.lemmas.Bool.{eq-eqb}
use Rattle.cip_base.proofs.MapCases.{some_same}
use Rattle.cip_message.specs.Failure.{failure_at}
use Rattle.cip_message.specs.Reply.{Reply}
use Rattle.cip_message.proofs.Failures.{failure_back}
use Rattle.cip_open.specs.Open.{Open}
use Rattle.cip_pending.specs.declared.entry.UpSide.TheVariants.{Local}
use Rattle.cip_config.specs.declared.config.ModuleSettings.{ModuleSettings}
use Rattle.cip_event.specs.declared.event.Body.TheVariants as bodies
use Rattle.cip_event.specs.declared.event.Command.{Command}
use Rattle.cip_event.specs.declared.event.Command.TheVariants as commands
use Rattle.cip_event.specs.declared.event.Event.{Event}
use Rattle.cip_event.specs.declared.event.Event.TheVariants as events
use Rattle.cip_event.specs.declared.event.Output.TheVariants as outputs
use Rattle.cip_laws.specs.Births.{Past}
use Rattle.cip_laws.specs.Histories.{Turn}
use Rattle.cip_routing.specs.Table.{asked_open, sent, words_of}
use Rattle.cip_laws.specs.Tells.{asker, command_asker}
use Rattle.cip_laws.specs.Turns.{Has, SomeTurn, Gave}
use Rattle.cip_laws.proofs.AskedOpens.{asks_asker}
use Rattle.cip_chassis.specs.Plan.{Plan}
use Rattle.cip_chassis.proofs.Walks.{walk_ends}
use Rattle.cip_world.specs.Journals.{Journal, entry_at, part}
use Rattle.cip_world.specs.Runs.{IsRun}
use Rattle.cip_world.specs.StepsIn.{StepIn, state_before}
use Rattle.cip_world.specs.Trails.{is_refusal, trail_of}
use Rattle.cip_world.specs.TrailTells.{event_in, WordsFall, OpenedIn, OpenDone, SentIn, TellsWhere, EndsThere, AnsweredThere, TrailTells}
use Rattle.cip_world.proofs.Parts.{same_module}
use Rattle.cip_world.proofs.AskedOpens.{begins_asked}
use Rattle.cip_world.proofs.Chassis.{Chassis}
use Rattle.cip_world.proofs.Entries.{TurnIn, turn_in}
use Rattle.cip_world.proofs.OpensGo.{AsksThat, Spelled, open_goes}
use Rattle.cip_world.proofs.OpenTrails.{event_there, words_there, ReadAs, OpenReply, Outcome, Failed, Ended, open_outcome}
use Rattle.cip_world.proofs.OpsOnce.{CommandIn, one_command, unrefused_in}
use Rattle.cip_world.proofs.SendsGo.{Spelled as SendSpelled}
use Rattle.cip_world.proofs.SendTrails.{none_sent, SendOutcome, Failed as SendFailed, Answered, send_outcome}
use Rattle.cip_world.proofs.TrailSteps.{BeginsAt, trail_begins, is_on, is_last}
use Rattle.cip_world.proofs.WaysBack.{ReplyOf, reply_of}
use Rattle.cip_world.proofs.WordsFall.{trail_falls, only_one}

-- ---- who asked for a Done

some_past : (P : Turn → Type 0) (turns : List Turn) → SomeTurn P turns → Past (λ before turn. P turn) turns
some_past P [] h = absurd h
some_past P (turn ∷ turns) (inl h) = inl h
some_past P (turn ∷ turns) (inr h) = inr (some_past P turns h)

record LocalAsked (event : Event) (op : ℕ) : Type 0 where
  command : Command
  event_is : event ≡ events.Command command
  asks : command_asker command ≡ Some (Local op)

local_asked : (event : Event) (op : ℕ) → asker event ≡ Some (Local op) → LocalAsked event op
local_asked (events.Command c) op e = record { command = c; event_is = refl; asks = e }
local_asked (events.Tick ms) op e = absurd (cc)
local_asked (events.Frame port from (bodies.Request n bytes)) op e = absurd (cc)
local_asked (events.Frame port from (bodies.Reply n bytes)) op e = absurd (cc)
local_asked (events.Frame port from (bodies.Data n bytes)) op e = absurd (cc)

-- two steps of one number have one event
pub same_event : (t : Plan) (j : Journal) (k l : ℕ) → k ≡ l → (s : StepIn t j k) (r : StepIn t j l) → s.taken.event ≡ r.taken.event
same_event t j k l same s r =
    some_same s.taken.event r.taken.event (sym (event_there t j k s) ∙ ap (λ (n : ℕ). option_and_then (event_in j) (entry_at j n)) same ∙ event_there t j l r)

module _ (t : Chassis) (j : Journal) (run : IsRun t.plan j) (m op : ℕ) where
  -- the step that asked for a Done, which is not refused
  done_by : (bytes : List ℕ) → Gave (part m j) (outputs.Done op bytes) → ReplyOf t.plan j m (Local op) bytes
  done_by bytes gave =
      let turn : TurnIn (λ before x. Has x.outputs (outputs.Done op bytes)) t.plan j m =
      turn_in (λ before x. Has x.outputs (outputs.Done op bytes)) t.plan j m run (some_past (λ x. Has x.outputs (outputs.Done op bytes)) (part m j) gave) in
      let r = reply_of t j turn.number run turn.step (Local op) bytes turn.has in
      record {
        number = r.number;
        step = r.step;
        here = r.here
            ∙ turn.here;
        asks = r.asks;
        given = r.given;
        gives = r.gives;
        taken = r.taken;
        replied = r.replied;
      }

  asked : (bytes : List ℕ) (r : ReplyOf t.plan j m (Local op) bytes) → LocalAsked r.step.taken.event op
  asked bytes r = local_asked r.step.taken.event op r.asks

  unrefused : (bytes : List ℕ) (r : ReplyOf t.plan j m (Local op) bytes) → list_any is_refusal r.step.outputs ≡ false
  unrefused bytes r =
      let own = asked bytes r in unrefused_in t.plan j op r.number run r.step own.command own.event_is own.asks r.given r.gives r.taken

  asked_in : (bytes : List ℕ) (r : ReplyOf t.plan j m (Local op) bytes) → CommandIn t.plan j m op r.number
  asked_in bytes r =
      let own = asked bytes r in
      record { step = r.step; here = r.here; command = own.command; event_is = own.event_is; asks = own.asks; unrefused = unrefused bytes r }

  -- ---- an open

  abbrev opened_command : (k : ℕ) (path : List ℕ) → OpenedIn t.plan j m op k path → CommandIn t.plan j m op k
  opened_command k path c = record {
    step = c.step;
    here = c.here;
    command = c.command;
    event_is = c.event_is;
    asks = asks_asker c.step.taken.config.identity c.command op c.request c.asks;
    unrefused = c.unrefused;
  }

  opened_begins : (k : ℕ) (path : List ℕ) (c : OpenedIn t.plan j m op k path) → BeginsAt t.plan j m op k c.step
  opened_begins k path c = trail_begins t.plan j m op k run (opened_command k path c)
      (begins_asked c.step.taken.config.identity op c.request c.command c.asks)

  opened_asks : (k : ℕ) (path : List ℕ) (c : OpenedIn t.plan j m op k path) → AsksThat c.step.taken.config c.step.taken.event c.request
  opened_asks k path c = Spelled c.command op c.event_is c.asks

  pub falls : (k : ℕ) (path : List ℕ) → OpenedIn t.plan j m op k path → WordsFall j (trail_of j m op)
  falls k path c =
      let begins = opened_begins k path c in
      trail_falls t.plan j m op k run c.step c.request (opened_asks k path c) begins.to begins.first

  -- the Open is what asked for the Done
  abbrev again : (k : ℕ) (path bytes : List ℕ) → OpenedIn t.plan j m op k path → (r : ReplyOf t.plan j m (Local op) bytes)
      → OpenedIn t.plan j m op r.number path
  again k path bytes c r = record {
    step = r.step;
    here = r.here;
    command = c.command;
    request = c.request;
    event_is =
        sym (same_event t.plan j k r.number (one_command t.plan j m op k r.number run (opened_command k path c) (asked_in bytes r)) c.step r.step) ∙ c.event_is;
    asks = ap (λ (config : ModuleSettings). asked_open config.identity c.command)
        (same_module t.plan c.step.at.0 r.step.at.0 r.step.taken.config c.step.taken.config (r.here ∙ sym c.here) r.step.taken.is_module c.step.taken.is_module)
        ∙ c.asks;
    path_is = c.path_is;
    unrefused = unrefused bytes r;
  }

  outcome : (k : ℕ) (path bytes : List ℕ) → (c : OpenedIn t.plan j m op k path) → Gave (part m j) (outputs.Done op bytes)
      → ReadAs (OpenReply t.plan j m op m path c.request.fields.large) bytes
  outcome k path bytes c gave =
      let r = done_by bytes gave in
      let own = again k path bytes c r in
      let large = c.request.fields.large in
      subst (λ (n : ℕ). ReadAs (OpenReply t.plan j m op n path large) bytes) r.here
      (subst (λ (p : List ℕ). ReadAs (OpenReply t.plan j m op r.step.at.0 p large) bytes) own.path_is
      (open_outcome t.plan j run m op r.number r.step bytes r.replied own.request (opened_asks r.number path own) (opened_begins r.number path own).to))

  fails : (k : ℕ) (path : List ℕ) → OpenedIn t.plan j m op k path → (reply : Reply) → Outcome t.plan j m op m path reply
      → reply.general ≢ 0 → TellsWhere t.plan j (trail_of j m op) reply
  fails k path c reply (Failed place step o trail asks large status failure r_is words_is triad_there failed why) other = record {
    status = status;
    general_is = ap (λ (x : Reply). x.general) r_is;
    extra_is = ap (λ (x : Reply). x.extra) r_is;
    failure = failure;
    read = ap (λ (x : Reply). failure_at x.data_) r_is ∙ failure_back failure triad_there;
    words = words_of o.path;
    words_is = words_is;
    place = place;
    on = is_on t.plan j m op place step trail;
    received = words_there t.plan j place step o asks;
    only = λ l on words. only_one j (trail_of j m op) l place (words_of o.path) (falls k path c) on (is_on t.plan j m op place step trail) words
        (words_there t.plan j place step o asks);
    step = step;
    why = why;
  }
  fails k path c reply (Ended place step o came trail asks accepted general there) other = absurd (other general)

  succeeds : (k : ℕ) (path : List ℕ) → OpenedIn t.plan j m op k path → (reply : Reply) → Outcome t.plan j m op m path reply
      → reply.general ≡ 0 → EndsThere t.plan j (trail_of j m op) m path
  succeeds k path c reply (Failed place step o trail asks large status failure r_is words_is triad_there failed why) general =
      absurd (failed (ap (λ (x : Reply). x.general) (sym r_is) ∙ general))
  succeeds k path c reply (Ended place step o came trail asks accepted was there) general = record {
    place = place;
    last = is_last t.plan j m op place step trail
        (none_sent t.plan j place run step (λ sending kind why.
        let g = open_goes step.taken.config (state_before step) step.taken.event o asks sending kind why in
        let no : Some g.leads.hop ≡ None = sym g.leads.first ∙ accepted.ends in cc));
    step = step;
    up = accepted.up;
    o = o;
    link = accepted.link;
    asks = accepted.asks;
    meets = accepted.meets;
    walks = there ∙ walk_ends t.plan step.at.0 o.path accepted.ends;
  }

  pub opens : (k : ℕ) (path : List ℕ) → (c : OpenedIn t.plan j m op k path) → (bytes : List ℕ) → Gave (part m j) (outputs.Done op bytes)
      → OpenDone t.plan j (trail_of j m op) m path c.request.fields.large bytes
  opens k path c bytes gave =
      let x = outcome k path bytes c gave in
      record {
        reply = x.reply;
        read = x.read;
        service_is = x.has.service_is;
        fails = fails k path c x.reply x.has.ended;
        succeeds = succeeds k path c x.reply x.has.ended;
      }

  -- ---- a Send

  abbrev sent_command : (k : ℕ) (path request : List ℕ) → SentIn t.plan j m op k path request → CommandIn t.plan j m op k
  sent_command k path request c = record {
    step = c.step;
    here = c.here;
    command = commands.Send op c.timing path request;
    event_is = c.event_is;
    asks = refl;
    unrefused = c.unrefused;
  }

  -- the Send is what asked for the Done
  abbrev again_sent : (k : ℕ) (path request bytes : List ℕ) → SentIn t.plan j m op k path request → (r : ReplyOf t.plan j m (Local op) bytes)
      → SentIn t.plan j m op r.number path request
  again_sent k path request bytes c r = record {
    step = r.step;
    here = r.here;
    timing = c.timing;
    event_is =
        sym (same_event t.plan j k r.number (one_command t.plan j m op k r.number run (sent_command k path request c) (asked_in bytes r)) c.step r.step)
        ∙ c.event_is;
    unrefused = unrefused bytes r;
  }

  sent_begins : (k : ℕ) (path request : List ℕ) (c : SentIn t.plan j m op k path request) → BeginsAt t.plan j m op k c.step
  sent_begins k path request c = trail_begins t.plan j m op k run (sent_command k path request c) (eq-eqb op op refl)

  sent_outcome : (k : ℕ) (path request bytes : List ℕ) → SentIn t.plan j m op k path request → Gave (part m j) (outputs.Done op bytes)
      → SendOutcome t.plan j m op m path request bytes
  sent_outcome k path request bytes c gave =
      let r = done_by bytes gave in
      let own = again_sent k path request bytes c r in
      subst (λ (n : ℕ). SendOutcome t.plan j m op n path request bytes) r.here
      (send_outcome t.plan j run m op r.number r.step bytes r.replied (sent c.timing path request)
      (SendSpelled op c.timing path request own.event_is refl) (sent_begins r.number path request own).to)

  pub answers : (k : ℕ) (path request : List ℕ) → SentIn t.plan j m op k path request → (bytes : List ℕ) → Gave (part m j) (outputs.Done op bytes)
      → slice_index bytes 0 ≢ 0xD2
      → AnsweredThere t.plan j (trail_of j m op) m path request bytes
  answers k path request c bytes gave other = by_outcome (sent_outcome k path request bytes c gave)
    where
      by_outcome : SendOutcome t.plan j m op m path request bytes → AnsweredThere t.plan j (trail_of j m op) m path request bytes
      by_outcome (SendFailed e) = absurd (other e)
      by_outcome (Answered place step asked_ trail none read walks answer) = record {
        place = place;
        last = is_last t.plan j m op place step trail none;
        step = step;
        asked = asked_;
        read = read;
        walks = walks;
        answer = answer;
      }

  -- ---- all of it

  pub tells : TrailTells t.plan j m op (trail_of j m op)
  tells = record { falls = falls; opens = opens; answers = answers }
