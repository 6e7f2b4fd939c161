-- An event sends one request at most, and the first request of its outputs is that one.
use Rattle.std.proofs.Common.{◌≡◌, ℕ, zero, suc, ◌+◌, ◌≤◌, Bool, true, false, cond, List, [], ◌∷◌, Option, Some, None, refl, sym, ap, ◌∙◌, inl, inr, arith}
use Rattle.std.specs.FinMap as map
use Rattle.std.specs.Prelude.{slice_get}
use Rattle.cip_message.specs.Reply.{reply_bytes}
use Rattle.cip_pending.specs.declared.entry.Entry.{Entry}
use Rattle.cip_pending.specs.declared.entry.UpSide.{UpSide}
use Rattle.cip_pending.specs.declared.entry.UpSide.TheVariants.{Link, Local}
use Rattle.cip_hops.specs.declared.hop.Hop.{Hop}
use Rattle.cip_hops.specs.declared.hop.Side.{Side}
use Rattle.cip_hops.specs.declared.hop.Side.TheVariants.{Up, Down}
use Rattle.cip_hops.specs.declared.opening.HopUp.{HopUp}
use Rattle.cip_hops.specs.declared.opening.HopUp.TheVariants.{Link as UpLink, Local as UpLocal}
use Rattle.cip_hops.specs.declared.opening.HopDown.{HopDown}
use Rattle.cip_hops.specs.declared.opening.HopDown.TheVariants.{Link as DownLink, End}
use Rattle.cip_hops.specs.Hops.{hop_at}
use Rattle.cip_config.specs.declared.config.ModuleSettings.{ModuleSettings}
use Rattle.cip_event.specs.declared.event.Event.{Event}
use Rattle.cip_event.specs.declared.event.Output.{Output}
use Rattle.cip_laws.specs.EffectLists.{gain, IsLight, IsBounded}
use Rattle.cip_routing.specs.Effects.{Effect, Replies, Answers, Forwards, Begins, Finishes, Takes, PendingTimesOut, Passes, here_answer, reply_up, replied}
use Rattle.cip_routing.specs.Effects.{timed_out_reply, timed_out_bytes, datum_up, datum_down, passed, apply, output_of, outputs_of, succeeded_at}
use Rattle.cip_routing.specs.State.{State}
use Rattle.cip_routing.specs.Table.{decide}
use Rattle.cip_laws.specs.Tells.{asker, Tells, AllTell}
use Rattle.cip_laws.specs.Weights.{mark, weight_in}
use Rattle.cip_laws.specs.Turns.{Has}
use Rattle.cip_laws.proofs.Light.{light_once}
use Rattle.cip_laws.proofs.Tells.{decide_tells}
use Rattle.cip_laws.proofs.TellsAskers.{forwards_asker, begins_asker}
use Rattle.cip_laws.proofs.Turns.{Turned}
use Rattle.cip_laws.proofs.Weighing.{weight_in-append, weight_has, answered_alone}
use Rattle.cip_world.specs.Trails.{is_request_sent, request_from}

abbrev any_request : Output → ℕ
any_request o = mark (is_request_sent o)

-- the effects that send a request
abbrev sends : Effect → ℕ
sends (Forwards sending kind) = 1
sends (Begins sending opening) = 1
sends e = 0

sends_light : IsLight sends (λ v. 1)
sends_light = record {
  replies = λ v bytes. omega arith;
  answers = λ v asked. omega arith;
  forwards = λ sending kind. omega arith;
  begins = λ sending opening. omega arith;
  accepts = λ opening o link v bytes. omega arith;
  spends = λ op. refl;
  closes_on = λ triad sending kind. omega arith;
  closes = λ triad v bytes. omega arith;
  refuses = λ fault. refl;
  drops = λ reason. refl;
}

none_sent : (config : ModuleSettings) (s : State) (event : Event) (e : Effect) → asker event ≡ None → Tells config s event e → sends e ≡ 0
none_sent config s event (Forwards sending kind) none tells =
    let no : None ≡ Some sending.up = sym none ∙ forwards_asker config s event sending kind tells in absurd (cc)
none_sent config s event (Begins sending opening) none tells =
    let no : None ≡ Some sending.up = sym none ∙ begins_asker config s event sending opening tells in absurd (cc)
none_sent config s event e none tells = refl

none_sends : (config : ModuleSettings) (s : State) (event : Event) (es : List Effect) → asker event ≡ None → AllTell config s event es → gain sends es ≡ 0
none_sends config s event [] none tells = refl
none_sends config s event (e ∷ es) none tells =
    let here = none_sent config s event e none tells.0 in let there = none_sends config s event es none tells.1 in omega (arith, here, there)

at_most_one : (v : Option UpSide) (n : ℕ) → IsBounded (λ v. 1) v n → (v ≡ None → n ≡ 0) → n ≤ 1
at_most_one None n h none = let nothing = none refl in omega (arith, nothing)
at_most_one (Some v) n h none = h

sends_once : (config : ModuleSettings) (s : State) (event : Event) (es : List Effect) → decide config s event ≡ Some es → gain sends es ≤ 1
sends_once config s event es e =
    at_most_one (asker event) (gain sends es) (light_once sends (λ v. 1) sends_light config s event es e)
    (λ none. none_sends config s event es none (decide_tells config s event es e))

-- ---- what each effect puts out

up_none : (v : UpSide) (b : List ℕ) → weight_in any_request (reply_up v b ∷ []) ≡ 0
up_none (Link port address number) b = refl
up_none (Local op) b = refl

replied_none : (x : Option Entry) (b : List ℕ) → weight_in any_request (replied x b) ≡ 0
replied_none None b = refl
replied_none (Some p) b = up_none p.up b

late_none : (x : Option Entry) → weight_in any_request (timed_out_reply x) ≡ 0
late_none None = refl
late_none (Some p) = up_none p.up (timed_out_bytes p.kind p.words)

datum_up_none : (up : HopUp) (b : List ℕ) → weight_in any_request (datum_up up b ∷ []) ≡ 0
datum_up_none (UpLink port address id) b = refl
datum_up_none (UpLocal op) b = refl

datum_down_none : (hop : Hop) (down : HopDown) (b : List ℕ) → weight_in any_request (datum_down hop down b ∷ []) ≡ 0
datum_down_none hop (DownLink port address) b = refl
datum_down_none hop (End config consume produce) b = refl

passed_none : (side : Side) (x : Option Hop) (b : List ℕ) → weight_in any_request (passed side x b) ≡ 0
passed_none side None b = refl
passed_none Up (Some hop) b = datum_up_none hop.opening.up b
passed_none Down (Some hop) b = datum_down_none hop hop.opening.down b

given : (config : ModuleSettings) (s : State) (e : Effect) → weight_in any_request (output_of config s e) ≤ sends e
given config s (Replies up bytes) = let none = up_none up bytes in omega (arith, none)
given config s (Answers up asked) =
    let none = up_none up (reply_bytes (here_answer config s asked)) in
    let alone = answered_alone any_request (λ op. refl) config s up asked in
    omega (arith, none, alone)
given config s (Finishes number triad bytes success) =
    let none = replied_none (map.get s.pendings.entries number) (succeeded_at s number triad bytes success) in omega (arith, none)
given config s (Takes number bytes) = let none = replied_none (map.get s.pendings.entries number) bytes in omega (arith, none)
given config s (PendingTimesOut number) = let none = late_none (map.get s.pendings.entries number) in omega (arith, none)
given config s (Passes triad side bytes) = let none = passed_none side (hop_at s.hops triad) bytes in omega (arith, none)
given config s e = omega arith

given_all : (config : ModuleSettings) (s : State) (es : List Effect) → weight_in any_request (outputs_of config s es) ≤ gain sends es
given_all config s [] = omega arith
given_all config s (e ∷ es) =
    let here = given config s e in let there = given_all config (apply config s e) es in
    let sum = weight_in-append any_request (output_of config s e) (outputs_of config (apply config s e) es) in
    omega (arith, here, there, sum)

-- ---- the first request

first_by : (os : List Output) (k i : ℕ) (o : Output) → weight_in any_request os ≤ 1 → slice_get os i ≡ Some o → is_request_sent o ≡ true
    → request_from k os ≡ Some (k + i)
first_by [] k i o most at is = absurd (cc)
first_by (x ∷ os) k zero o most at is =
    let same : x ≡ o = cc in
    let this : is_request_sent x ≡ true = ap is_request_sent same ∙ is in
    let here : k ≡ k + 0 = omega arith in
    ap (λ b. cond b (Some k) (request_from (k + 1) os)) this ∙ ap (λ (n : ℕ). Some n) here
first_by (x ∷ os) k (suc i) o most at is =
    let some = weight_has any_request os o (has os i o at) in
    let one = ap mark is in
    let none = no_mark (is_request_sent x) (omega (arith, most, some, one)) in
    let there : (k + 1) + i ≡ k + suc i = omega arith in
    ap (λ b. cond b (Some k) (request_from (k + 1) os)) none ∙ first_by os (k + 1) i o (omega (arith, most)) at is ∙ ap (λ (n : ℕ). Some n) there
  where
    has : (os : List Output) (i : ℕ) (o : Output) → slice_get os i ≡ Some o → Has os o
    has [] i o e = absurd (cc)
    has (x ∷ os) zero o e = inl (cc)
    has (x ∷ os) (suc i) o e = inr (has os i o e)

    no_mark : (b : Bool) → mark b ≤ 0 → b ≡ false
    no_mark true h = absurd (omega (arith, h))
    no_mark false h = refl

-- the first of the requests that a turn sent, of which there is one
pub first_sent : (config : ModuleSettings) (s new : State) (event : Event) (outs : List Output) (i : ℕ) (o : Output) → Turned config s event new outs
    → slice_get outs i ≡ Some o
    → is_request_sent o ≡ true → request_from 0 outs ≡ Some i
first_sent config s new event outs i o turn at is =
    let most = sends_once config s event turn.effects turn.decided in
    let all = given_all config s turn.effects in
    let same = ap (weight_in any_request) turn.out in
    let zero_on : 0 + i ≡ i = omega arith in
    first_by outs 0 i o (omega (arith, most, all, same)) at is ∙ ap (λ (n : ℕ). Some n) zero_on

-- what the first request is
pub record FirstSent (outs : List Output) (k i : ℕ) : Type 0 where
  pub place : ℕ
  pub place_is : i ≡ k + place
  pub output : Output
  pub at : slice_get outs place ≡ Some output
  pub is : is_request_sent output ≡ true

pub first_is : (os : List Output) (k i : ℕ) → request_from k os ≡ Some i → FirstSent os k i
first_is [] k i e = absurd (cc)
first_is (o ∷ os) k i e =
    elim (is_request_sent o) as (λ b. is_request_sent o ≡ b → cond b (Some k) (request_from (k + 1) os) ≡ Some i → FirstSent (o ∷ os) k i) [
      | true ↦ λ t s. let same : k ≡ i = cc in record { place = 0; place_is = omega (arith, same); output = o; at = refl; is = t }
      | false ↦ λ t s.
          let later = first_is os (k + 1) i s in
          let sum = later.place_is in
          record { place = suc later.place; place_is = omega (arith, sum); output = later.output; at = later.at; is = later.is }
    ] refl e

-- where no request is sent there is no first
pub none_first : (os : List Output) (k : ℕ) → ((o : Output) → Has os o → is_request_sent o ≡ true → ⊥) → request_from k os ≡ None
none_first [] k none = refl
none_first (o ∷ os) k none =
    elim (is_request_sent o) as (λ b. is_request_sent o ≡ b → cond b (Some k) (request_from (k + 1) os) ≡ None) [
      | true ↦ λ t. absurd (none o (inl refl) t)
      | false ↦ λ t. none_first os (k + 1) (λ x h is. none x (inr h) is)
    ] refl
