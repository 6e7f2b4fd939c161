-- What a birth tells, and which effect sent a request.
use Rattle.std.proofs.Common.{◌≡◌, ℕ, List, [], ◌∷◌, Option, Some, None, refl, sym, ap, ◌∙◌, inl, inr, arith}
use Rattle.std.specs.FinMap as map
use Rattle.std.specs.Prelude.{option_and_then}
use Rattle.std.proofs.lemmas.Bool.{eq-eqb}
use Rattle.cip_message.specs.Reply.{reply_bytes}
use Rattle.cip_pending.specs.declared.entry.UpSide.{UpSide}
use Rattle.cip_hops.specs.declared.opening.HopDown.TheVariants.{Link as DownLink}
use Rattle.cip_hops.specs.declared.opening.Opening.{Opening}
use Rattle.cip_hops.specs.declared.opening.OwnIds.{OwnIds}
use Rattle.cip_hops.specs.Hops.{hop_at}
use Rattle.cip_config.specs.declared.config.ModuleSettings.{ModuleSettings}
use Rattle.cip_event.specs.declared.event.Body.TheVariants as bodies
use Rattle.cip_event.specs.declared.event.Event.{Event}
use Rattle.cip_event.specs.declared.event.Output.{Output}
use Rattle.cip_event.specs.declared.event.Output.TheVariants as outputs
use Rattle.cip_routing.specs.Effects.{Effect, Replies, Answers, Forwards, Begins, Accepts, Finishes, Takes, PendingTimesOut, HopTimesOut, Passes}
use Rattle.cip_routing.specs.Effects.{RefusesCommand}
use Rattle.cip_routing.specs.Effects.{Drops, here_answer, reply_up, output_of, succeeded_at}
use Rattle.cip_routing.specs.OpenRows.{end_down}
use Rattle.cip_routing.specs.State.{State}
use Rattle.cip_laws.specs.Tells.{Tells, AllTell}
use Rattle.cip_laws.specs.Births.{opened_by, or_else, first_opened, IsBirth}
use Rattle.cip_laws.specs.Histories.{Turn, state_after, IsHistory}
use Rattle.cip_laws.specs.Weights.{mark, is_request, weight_in}
use Rattle.cip_laws.specs.Turns.{Has}
use Rattle.cip_laws.proofs.Numbers.{no_request_up, no_request_passed, no_request_taken, no_request_late}
use Rattle.cip_laws.proofs.Turns.{newest}
use Rattle.cip_laws.proofs.Weighing.{weight_has, answered_alone}
pub use Rattle.cip_laws.specs.Outputs.{BornBy, RequestBy, ByForward, ByBegin}

-- ---- what a birth tells

opened_tells : (config : ModuleSettings) (s : State) (event : Event) (e : Effect) (o : Opening) → opened_by e ≡ Some o → Tells config s event e
    → BornBy config s event o
opened_tells config s event (Begins sending opening) o h tells =
    let same : opening ≡ o = cc in
    record { up = sending.up; request = tells.o; down = DownLink sending.port sending.address; asks = tells.asks; opening_is = sym same ∙ tells.opening_is }
opened_tells config s event (Accepts opening request link) o h tells =
    let same : opening ≡ o = cc in
    record { up = tells.up; request = request; down = end_down link; asks = tells.asks; opening_is = sym same ∙ tells.opening_is }
opened_tells config s event e o h tells = absurd (cc)

first_tells : (config : ModuleSettings) (s : State) (event : Event) (es : List Effect) (o : Opening) → first_opened es ≡ Some o → AllTell config s event es
    → BornBy config s event o
first_tells config s event [] o h tells = absurd (cc)
first_tells config s event (e ∷ es) o h tells =
    elim (opened_by e) as (λ (x : Option Opening). opened_by e ≡ x → or_else x (first_opened es) ≡ Some o → BornBy config s event o) [
      | None ↦ λ t r. first_tells config s event es o r tells.1
      | Some p ↦ λ t r. opened_tells config s event e o (t ∙ r) tells.0
    ] refl h

pub born_tells : (config : ModuleSettings) (o : Opening) (ids : OwnIds) (before : List Turn) (turn : Turn) → IsHistory config (turn ∷ before)
    → IsBirth config o ids before turn → BornBy config (state_after config before) turn.event o
born_tells config o ids before turn h b =
    let now = newest config turn before h in
    first_tells config (state_after config before) turn.event now.effects o (sym (ap (option_and_then first_opened) now.decided) ∙ b.is) now.tells

-- ---- what sent a request

module _ (port n : ℕ) (to bytes : List ℕ) where
  abbrev it : Output
  it = outputs.Send port to (bodies.Request n bytes)

  none_given : (os : List Output) → weight_in (is_request n) os ≡ 0 → Has os it → ⊥
  none_given os none h =
      let some = weight_has (is_request n) os it h in
      let one = ap mark (eq-eqb n n refl) in
      omega (arith, none, some, one)

  up_none : (v : UpSide) (b : List ℕ) → Has (reply_up v b ∷ []) it → ⊥
  up_none v b h = let none = no_request_up n v b in none_given (reply_up v b ∷ []) (omega (arith, none)) h

  pub request_by : (config : ModuleSettings) (s : State) (event : Event) (mid : State) (e : Effect) → Tells config s event e → Has (output_of config mid e) it
      → RequestBy config s event e port to bytes
  request_by config s event mid (Forwards sending kind) tells (inl e) = ByForward sending kind refl tells (cc) (cc) (cc)
  request_by config s event mid (Forwards sending kind) tells (inr h) = absurd h
  request_by config s event mid (Begins sending o) tells (inl e) = ByBegin sending o refl tells (cc) (cc) (cc)
  request_by config s event mid (Begins sending o) tells (inr h) = absurd h
  request_by config s event mid (Replies v b) tells h = absurd (up_none v b h)
  request_by config s event mid (Answers v asked) tells h =
      let none = no_request_up n v (reply_bytes (here_answer config mid asked)) in
      let alone = answered_alone (is_request n) (λ op. refl) config mid v asked in
      absurd (none_given (output_of config mid (Answers v asked)) (omega (arith, none, alone)) h)
  request_by config s event mid (Finishes number triad came success) tells h =
      absurd (none_given _ (no_request_taken n (map.get mid.pendings.entries number) (succeeded_at mid number triad came success)) h)
  request_by config s event mid (Takes number b) tells h = absurd (none_given _ (no_request_taken n (map.get mid.pendings.entries number) b) h)
  request_by config s event mid (PendingTimesOut number) tells h = absurd (none_given _ (no_request_late n (map.get mid.pendings.entries number)) h)
  request_by config s event mid (Passes triad side b) tells h = absurd (none_given _ (no_request_passed n side (hop_at mid.hops triad) b) h)
  request_by config s event mid (HopTimesOut triad) tells (inl e) = absurd (cc)
  request_by config s event mid (HopTimesOut triad) tells (inr h) = absurd h
  request_by config s event mid (RefusesCommand fault) tells (inl e) = absurd (cc)
  request_by config s event mid (RefusesCommand fault) tells (inr h) = absurd h
  request_by config s event mid (Drops reason) tells (inl e) = absurd (cc)
  request_by config s event mid (Drops reason) tells (inr h) = absurd h
  request_by config s event mid e tells h = absurd h
