-- Before the effect that opens a connection, or that a reply has, nothing else touches the tables.
use Rattle.std.proofs.Common.{◌≡◌, ℕ, ◌≤◌, List, [], ◌∷◌, ◌++◌, length, Option, Some, None, refl, sym, ap, ◌∙◌, arith, length-append}
use Rattle.cip_pending.specs.declared.entry.UpSide.{UpSide}
use Rattle.cip_laws.specs.EffectLists.{gain, table_changes, IsStill, IsLight, IsBounded}
use Rattle.cip_config.specs.declared.config.ModuleSettings.{ModuleSettings}
use Rattle.cip_event.specs.declared.event.Body.TheVariants as bodies
use Rattle.cip_event.specs.declared.event.Event.{Event}
use Rattle.cip_event.specs.declared.event.Event.TheVariants as events
use Rattle.cip_routing.specs.Effects.{Effect, Spends, Replies, Answers, Passes, Writes, RefusesCommand, Drops, apply, applied}
use Rattle.cip_routing.specs.ReplyRows.{ReplyRow, reply_row}
use Rattle.cip_routing.specs.ReplyRows as reply
use Rattle.cip_routing.specs.State.{State}
use Rattle.cip_routing.specs.Table.{decide, reply_effects}
use Rattle.cip_laws.specs.Tells.{asker}
use Rattle.cip_laws.proofs.Births.{gain-append}
use Rattle.cip_laws.proofs.Light.{light_once}

stirs_light : IsLight table_changes (λ v. 2)
stirs_light = record {
  replies = λ v bytes. omega arith;
  answers = λ v asked. omega arith;
  forwards = λ sending kind. omega arith;
  begins = λ sending opening. omega arith;
  accepts = λ opening o link v bytes. omega arith;
  spends = λ op. refl;
  closes_on = λ triad sending kind. omega arith;
  closes = λ triad v bytes. omega arith;
  refuses = λ fault. refl;
  drops = λ reason. refl;
}

still : (config : ModuleSettings) (s : State) (e : Effect) → table_changes e ≡ 0 → IsStill s (apply config s e)
still config s (Spends op) h = (refl, refl)
still config s (Replies up bytes) h = (refl, refl)
still config s (Answers up asked) h = absurd (omega (arith, h))
still config s (Passes triad side bytes) h = (refl, refl)
still config s (Writes instance bytes) h = (refl, refl)
still config s (RefusesCommand fault) h = (refl, refl)
still config s (Drops reason) h = (refl, refl)
still config s e h = absurd (omega (arith, h))

still_list : (config : ModuleSettings) (s : State) (es : List Effect) → gain table_changes es ≡ 0 → IsStill s (applied config s es)
still_list config s [] h = (refl, refl)
still_list config s (e ∷ es) h =
    let here = still config s e (omega (arith, h)) in
    let there = still_list config (apply config s e) es (omega (arith, h)) in
    (there.0 ∙ here.0, there.1 ∙ here.1)

bounded : (v : Option UpSide) (up : UpSide) (n : ℕ) → v ≡ Some up → IsBounded (λ v. 2) v n → n ≤ 2
bounded None up n e h = absurd (cc)
bounded (Some v) up n e h = h

-- an effect that opens a connection for whom an event asks finds the tables as the event found them
pub alone : (config : ModuleSettings) (s : State) (event : Event) (es before after : List Effect) (e : Effect) (up : UpSide) → asker event ≡ Some up
    → decide config s event ≡ Some es
    → before ++ (e ∷ after) ≡ es → table_changes e ≡ 2 → IsStill s (applied config s before)
alone config s event es before after e up asks decided is two =
    let most = bounded (asker event) up (gain table_changes es) asks (light_once table_changes (λ v. 2) stirs_light config s event es decided) in
    let whole = ap (gain table_changes) is in
    let sum = gain-append table_changes before (e ∷ after) in
    still_list config s before (omega (arith, most, whole, sum, two))

-- ---- a reply has one effect

one_effect : (n : ℕ) (bytes : List ℕ) (row : ReplyRow) → length (reply_effects n bytes row) ≡ 1
one_effect n bytes reply.UnknownPortOrTooLong = refl
one_effect n bytes reply.Late = refl
one_effect n bytes reply.MalformedForItsKind = refl
one_effect n bytes (reply.OpenSucceeded triad success) = refl
one_effect n bytes reply.PassedUp = refl

none_before : (before after : List Effect) (e : Effect) → length (before ++ (e ∷ after)) ≡ 1 → before ≡ []
none_before [] after e h = refl
none_before (x ∷ before) after e h = let sum = length-append before (e ∷ after) in absurd (omega (arith, h, sum))

pub reply_alone : (config : ModuleSettings) (s : State) (event : Event) (es before after : List Effect) (e : Effect) (port n : ℕ) (from bytes : List ℕ)
    → event ≡ events.Frame port from (bodies.Reply n bytes) → decide config s event ≡ Some es → before ++ (e ∷ after) ≡ es → before ≡ []
reply_alone config s event es before after e port n from bytes event_is decided is =
    let row = reply_row config s port from n bytes in
    let whole : Some (reply_effects n bytes row) ≡ Some es = sym (ap (decide config s) event_is) ∙ decided in
    let same : reply_effects n bytes row ≡ es = cc in
    none_before before after e (ap length (is ∙ sym same) ∙ one_effect n bytes row)
