-- What holds of the replies of a run, entry by entry.
use Rattle.std.proofs.Common.{◌≡◌, ℕ, List, [], ◌∷◌, Option, Some, None, refl, sym, ap, subst, ◌∙◌, ◌++◌, inl, inr, arith}
use Rattle.std.specs.FinMap as map
use Rattle.cip_base.proofs.MapCases.{some_same}
use Rattle.cip_pending.specs.declared.entry.Entry as entries
use Rattle.cip_pending.specs.declared.entry.UpSide.{UpSide}
use Rattle.cip_pending.specs.declared.entry.UpSide.TheVariants.{Link, Local}
use Rattle.cip_config.specs.declared.config.ModuleSettings.{ModuleSettings}
use Rattle.cip_event.specs.declared.event.Body.TheVariants as bodies
use Rattle.cip_event.specs.declared.event.Dropped.TheVariants as dropped
use Rattle.cip_event.specs.declared.event.Event.{Event}
use Rattle.cip_event.specs.declared.event.Event.TheVariants as events
use Rattle.cip_event.specs.declared.event.Output.{Output}
use Rattle.cip_event.specs.declared.event.Output.TheVariants as outputs
use Rattle.cip_routing.specs.Effects.{applied, outputs_of, replied, reply_up, succeeded_at}
use Rattle.cip_routing.specs.ReplyRows.{ReplyRow, reply_row}
use Rattle.cip_routing.specs.ReplyRows as reply
use Rattle.cip_routing.specs.State.{State}
use Rattle.cip_routing.specs.Table.{Stepped, reply_effects, table_step}
use Rattle.cip_laws.specs.Turns.{Has}
use Rattle.cip_laws.specs.Histories.{Turn, IsHistory}
use Rattle.cip_laws.proofs.Dones.{done_once}
use Rattle.cip_laws.proofs.EndsOnce.{ended_once, last_of}
use Rattle.cip_chassis.specs.Plan.{Plan}
use Rattle.cip_event.specs.declared.frame.FrameName.{FrameName}
use Rattle.cip_world.specs.declared.journal.Input.{Input}
use Rattle.cip_world.specs.declared.journal.Input.TheVariants as inputs
use Rattle.cip_world.specs.Journals.{Journal, part}
use Rattle.cip_world.specs.RepliesTell.{RepliesTell}
use Rattle.cip_world.specs.Runs.{IsGiven, IsArrival, IsRun}
use Rattle.cip_world.specs.StepsIn.{state_before}
use Rattle.cip_world.proofs.Answered.{answers}
use Rattle.cip_world.proofs.Chassis.{Chassis}
use Rattle.cip_world.proofs.Entries.{run_before}
use Rattle.cip_world.proofs.Parts.{run_history}
use Rattle.cip_world.proofs.Replies.{replied_once, replied_after}

-- ---- a late reply

up_not_dropped : (up : UpSide) (bytes : List ℕ) → Has (reply_up up bytes ∷ []) (outputs.Dropped dropped.Late) → ⊥
up_not_dropped (Link port address n) bytes (inl e) = cc
up_not_dropped (Link port address n) bytes (inr h) = h
up_not_dropped (Local op) bytes (inl e) = cc
up_not_dropped (Local op) bytes (inr h) = h

not_dropped : (x : Option entries.Entry) (bytes : List ℕ) → Has (replied x bytes) (outputs.Dropped dropped.Late) → ⊥
not_dropped None bytes h = h
not_dropped (Some p) bytes h = up_not_dropped p.up bytes h

has_first : (xs : List Output) (o : Output) → Has (xs ++ []) o → Has xs o
has_first [] o h = h
has_first (x ∷ xs) o (inl e) = inl e
has_first (x ∷ xs) o (inr h) = inr (has_first xs o h)

row_late : (config : ModuleSettings) (s : State) (n : ℕ) (bytes : List ℕ) (row : ReplyRow)
    → Has (outputs_of config s (reply_effects n bytes row)) (outputs.Dropped dropped.Late)
    → applied config s (reply_effects n bytes row) ≡ s
row_late config s n bytes reply.UnknownPortOrTooLong h = refl
row_late config s n bytes reply.Late h = refl
row_late config s n bytes reply.MalformedForItsKind h = refl
row_late config s n bytes (reply.OpenSucceeded triad success) h =
    let out = succeeded_at s n triad bytes success in
    absurd (not_dropped (map.get s.pendings.entries n) out (has_first (replied (map.get s.pendings.entries n) out) (outputs.Dropped dropped.Late) h))
row_late config s n bytes reply.PassedUp h =
    absurd (not_dropped (map.get s.pendings.entries n) bytes (has_first (replied (map.get s.pendings.entries n) bytes) (outputs.Dropped dropped.Late) h))

step_late : (config : ModuleSettings) (s new : State) (port n : ℕ) (from bytes : List ℕ) (outs : List Output)
    → table_step config s (events.Frame port from (bodies.Reply n bytes)) ≡ Some (record { state = new; outputs = outs })
    → Has outs (outputs.Dropped dropped.Late) → new ≡ s
step_late config s new port n from bytes outs e h =
    let es = reply_effects n bytes (reply_row config s port from n bytes) in
    let same = some_same (record { state = applied config s es; outputs = outputs_of config s es }) (record { state = new; outputs = outs }) e in
    sym (ap (λ (x : Stepped). x.state) same)
    ∙ row_late config s n bytes (reply_row config s port from n bytes)
    (subst (λ (os : List Output). Has os (outputs.Dropped dropped.Late)) (sym (ap (λ (x : Stepped). x.outputs) same)) h)

-- ---- each entry

given_arrival : (t : Plan) (j : Journal) (m : ℕ) (input : Input) (event : Event) (f : FrameName) (port : ℕ) (from : List ℕ) → IsGiven t j m input event
    → input ≡ inputs.Frame port from f
    → IsArrival t j f m port from event
given_arrival t j m input event f port from given is = subst (λ (i : Input). IsGiven t j m i event) is given

pub replies_tell : (t : Chassis) (j : Journal) → IsRun t.plan j → RepliesTell t.plan j
replies_tell t j run = record {
  once = λ m config is port n from. replied_once t j m config run is port n from;
  after = λ m config is port n from h. replied_after t j m config run is port n from h;
  done = λ m config is op. let all = done_once op config (part m j) (run_history t.plan j m config run is) in omega (arith, all);
  ended = λ m config is op. ended_once op config (part m j) (run_history t.plan j m config run is);
  last = λ m config is later before turn parted op has.
      last_of op config later before turn (subst (λ (turns : List Turn). IsHistory config turns) parted (run_history t.plan j m config run is)) has;
  answers = λ k s f port n from bytes input event.
      answers t s.before f s.at.0 port n from bytes s.taken.event (run_before t.plan j k run s) event
      (given_arrival t.plan s.before s.at.0 s.input s.taken.event f port from s.taken.given input);
  late = λ k s port n from bytes event h.
      step_late s.taken.config (state_before s) s.taken.new port n from bytes s.outputs
      (subst (λ (e : Event). table_step s.taken.config (state_before s) e ≡ Some (record { state = s.taken.new; outputs = s.outputs })) event s.taken.step) h;
}
