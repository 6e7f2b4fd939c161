-- A reply that is taken was waited for, there where it came from.
use Rattle.std.proofs.Common.{◌≡◌, ℕ, List, Some, refl, sym, ap, subst, ◌∙◌, inl}
use Rattle.cip_pending.specs.declared.entry.Entry as entries
use Rattle.cip_pending.specs.Pendings.{waiting_at}
use Rattle.cip_config.specs.declared.config.ModuleSettings.{ModuleSettings}
use Rattle.cip_event.specs.declared.event.Body.TheVariants as bodies
use Rattle.cip_event.specs.declared.event.Dropped.{Dropped}
use Rattle.cip_event.specs.declared.event.Event.TheVariants as events
use Rattle.cip_event.specs.declared.event.Output.{Output}
use Rattle.cip_event.specs.declared.event.Output.TheVariants as outputs
use Rattle.cip_routing.specs.Effects.{outputs_of}
use Rattle.cip_routing.specs.ReplyRows.{ReplyRow, reply_row}
use Rattle.cip_routing.specs.ReplyRows as reply
use Rattle.cip_routing.specs.State.{State}
use Rattle.cip_routing.specs.Table.{reply_effects}
use Rattle.cip_laws.specs.Tells.{AllTell, ReplyCame}
use Rattle.cip_laws.specs.Weights.{came}
use Rattle.cip_laws.specs.Turns.{Has}
use Rattle.cip_laws.proofs.Turns.{Turned}
pub use Rattle.cip_pending.proofs.Asked.{asked_there}

-- ---- what a module takes waited

-- the request that waits for a reply by this port from this address
pub record Waits (s : State) (n port : ℕ) (from : List ℕ) : Type 0 where
  pub entry : entries.Entry
  pub waits : waiting_at s.pendings n port from ≡ Some entry

reply_waits : (s : State) (port n : ℕ) (from bytes : List ℕ) (number : ℕ) (b : List ℕ) (entry : entries.Entry) (r : _)
    → (came : ReplyCame s (events.Frame port from (bodies.Reply n bytes)) number b entry r) → Waits s n port from
reply_waits s port n from bytes number b entry r came =
    let e : events.Frame port from (bodies.Reply n bytes) ≡ events.Frame came.port came.from (bodies.Reply number b) = came.event_is in
    let ports : came.port ≡ port = cc in
    let froms : came.from ≡ from = cc in
    let numbers : number ≡ n = cc in
    record {
      entry = entry;
      waits = subst (λ (k : ℕ). waiting_at s.pendings k port from ≡ Some entry) numbers
          (subst (λ (a : List ℕ). waiting_at s.pendings number port a ≡ Some entry) froms
          (subst (λ (q : ℕ). waiting_at s.pendings number q came.from ≡ Some entry) ports came.waits));
    }

row_waits : (config : ModuleSettings) (s : State) (port n : ℕ) (from bytes : List ℕ) (row : ReplyRow)
    → AllTell config s (events.Frame port from (bodies.Reply n bytes)) (reply_effects n bytes row)
    → ((reason : Dropped) → Has (outputs_of config s (reply_effects n bytes row)) (outputs.Dropped reason) → ⊥) → Waits s n port from
row_waits config s port n from bytes reply.UnknownPortOrTooLong tells kept = absurd (kept _ (inl refl))
row_waits config s port n from bytes reply.Late tells kept = absurd (kept _ (inl refl))
row_waits config s port n from bytes reply.MalformedForItsKind tells kept = absurd (kept _ (inl refl))
row_waits config s port n from bytes (reply.OpenSucceeded triad success) tells kept =
    reply_waits s port n from bytes n bytes tells.0.entry tells.0.reply tells.0.came
row_waits config s port n from bytes reply.PassedUp tells kept = reply_waits s port n from bytes n bytes tells.0.entry tells.0.reply tells.0.came

-- a reply that is not dropped is waited for
pub taken_waits : (config : ModuleSettings) (s new : State) (port n : ℕ) (from bytes : List ℕ) (outs : List Output)
    → Turned config s (events.Frame port from (bodies.Reply n bytes)) new outs → ((reason : Dropped) → Has outs (outputs.Dropped reason) → ⊥)
    → Waits s n port from
taken_waits config s new port n from bytes outs turn kept =
    let row = reply_row config s port from n bytes in
    let whole : Some (reply_effects n bytes row) ≡ Some turn.effects = turn.decided in
    let same : turn.effects ≡ reply_effects n bytes row = cc in
    let gave : outputs_of config s (reply_effects n bytes row) ≡ outs = ap (outputs_of config s) (sym same) ∙ turn.out in
    row_waits config s port n from bytes row (subst (AllTell config s (events.Frame port from (bodies.Reply n bytes))) same turn.tells)
    (λ reason h. kept reason (subst (λ (os : List Output). Has os (outputs.Dropped reason)) gave h))
