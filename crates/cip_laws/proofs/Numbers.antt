-- A module sends one request at most under each of its numbers.
use Rattle.std.proofs.Common.{◌≡◌, ℕ, ◌+◌, ◌≤◌, Bool, true, false, List, [], ◌∷◌, Option, Some, None, refl, ap, inl, inr, arith, eqb, leb}
use Rattle.std.proofs.lemmas.Bool.{cases_order, eq-eqb, ne_eqb, le-leb, lt-leb, leb-true, leb-false}
use Rattle.cip_message.specs.Reply.{reply_bytes}
use Rattle.cip_message.specs.Request.{Request}
use Rattle.cip_base.specs.Counts.{reborn}
use Rattle.cip_laws.specs.EffectLists.{gain}
use Rattle.cip_config.specs.declared.config.ModuleSettings.{ModuleSettings}
use Rattle.cip_routing.specs.Effects.{Effect, Replies, Answers, Forwards, Begins, Finishes, Takes, PendingTimesOut, Passes, resets, here_answer, answered_state}
use Rattle.cip_routing.specs.Effects.{apply, output_of, reply_up, replied, timed_out_reply, timed_out_bytes, datum_up, datum_down, datum_by, passed}
use Rattle.cip_routing.specs.Effects.{succeeded_at}
use Rattle.cip_pending.specs.declared.entry.Entry.{Entry}
use Rattle.cip_pending.specs.declared.entry.UpSide.{UpSide}
use Rattle.cip_pending.specs.declared.entry.UpSide.TheVariants.{Link, Local}
use Rattle.cip_hops.specs.declared.opening.HopUp.{HopUp}
use Rattle.cip_hops.specs.declared.opening.HopUp.TheVariants.{Link as UpLink, Local as UpLocal}
use Rattle.cip_hops.specs.declared.opening.HopDown.{HopDown}
use Rattle.cip_hops.specs.declared.opening.HopDown.TheVariants.{Link as DownLink, End}
use Rattle.cip_hops.specs.declared.hop.Hop.{Hop}
use Rattle.cip_hops.specs.declared.hop.Side.{Side}
use Rattle.cip_hops.specs.declared.hop.Side.TheVariants.{Up, Down}
use Rattle.cip_hops.specs.Hops.{hop_at}
use Rattle.std.specs.FinMap as map
use Rattle.cip_event.specs.declared.event.Body.TheVariants as bodies
use Rattle.cip_event.specs.declared.event.Output.TheVariants as outputs
use Rattle.cip_laws.specs.Changes.{numbers_drawn}
use Rattle.cip_routing.specs.State.{State, initial_state}
use Rattle.cip_laws.specs.Histories.{Turn, state_after, IsHistory}
use Rattle.cip_laws.specs.Weights.{mark, is_request, weight_in, weight, came}
use Rattle.cip_laws.specs.Turns.{Has}
use Rattle.cip_laws.proofs.Puts.{next_number, reborn_above}
use Rattle.cip_laws.proofs.Weighing.{weight_has, answered_alone, history_conserved}

-- whether a number is still to be drawn
abbrev pub undrawn : ℕ → State → ℕ
undrawn n s = mark (leb s.pendings.next n)

drawn_now : (next n : ℕ) → mark (eqb next n) + mark (leb (next + 1) n) ≡ mark (leb next n)
drawn_now next n =
    elim (cases_order next n) as (λ _. mark (eqb next n) + mark (leb (next + 1) n) ≡ mark (leb next n)) [
      | inl same ↦
          let a = ap mark (eq-eqb next n same) in let b = ap mark (lt-leb (next + 1) n (omega (arith, same))) in let c =
          ap mark (le-leb next n (omega (arith, same))) in
          omega (arith, a, b, c)
      | inr other ↦ elim other as (λ _. mark (eqb next n) + mark (leb (next + 1) n) ≡ mark (leb next n)) [
        | inl below ↦
            let a = ap mark (ne_eqb next n (λ e. omega (arith, below, e))) in let b = ap mark (le-leb (next + 1) n (omega (arith, below))) in let c =
            ap mark (le-leb next n (omega (arith, below))) in
            omega (arith, a, b, c)
        | inr above ↦
            let a = ap mark (ne_eqb next n (λ e. omega (arith, above, e))) in let b = ap mark (lt-leb (next + 1) n (omega (arith, above))) in let c =
            ap mark (lt-leb next n (omega (arith, above))) in
            omega (arith, a, b, c)
      ]
    ]

-- ---- what is no request

pub no_request_up : (n : ℕ) (v : UpSide) (bytes : List ℕ) → is_request n (reply_up v bytes) ≡ 0
no_request_up n (Link port address number) bytes = refl
no_request_up n (Local op) bytes = refl

no_request_to : (n : ℕ) (to : HopUp) (bytes : List ℕ) → is_request n (datum_up to bytes) ≡ 0
no_request_to n (UpLink port address their_id) bytes = refl
no_request_to n (UpLocal op) bytes = refl

no_request_down : (n : ℕ) (hop : Hop) (to : HopDown) (bytes : List ℕ) → is_request n (datum_down hop to bytes) ≡ 0
no_request_down n hop (DownLink port address) bytes = refl
no_request_down n hop (End config consume produce) bytes = refl

no_request_by : (n : ℕ) (side : Side) (hop : Hop) (bytes : List ℕ) → is_request n (datum_by side hop bytes) ≡ 0
no_request_by n Up hop bytes = no_request_to n hop.opening.up bytes
no_request_by n Down hop bytes = no_request_down n hop hop.opening.down bytes

pub no_request_passed : (n : ℕ) (side : Side) (hop : Option Hop) (bytes : List ℕ) → weight_in (is_request n) (passed side hop bytes) ≡ 0
no_request_passed n side None bytes = refl
no_request_passed n side (Some hop) bytes = let none = no_request_by n side hop bytes in omega (arith, none)

pub no_request_taken : (n : ℕ) (p : Option Entry) (bytes : List ℕ) → weight_in (is_request n) (replied p bytes) ≡ 0
no_request_taken n None bytes = refl
no_request_taken n (Some p) bytes = let none = no_request_up n p.up bytes in omega (arith, none)

pub no_request_late : (n : ℕ) (p : Option Entry) → weight_in (is_request n) (timed_out_reply p) ≡ 0
no_request_late n None = refl
no_request_late n (Some p) = let none = no_request_up n p.up (timed_out_bytes p.kind p.words) in omega (arith, none)

-- ---- each effect

-- what can still be sent from a later next could be sent from an earlier
later_fewer : (m k n : ℕ) → m ≤ k → mark (leb k n) ≤ mark (leb m n)
later_fewer m k n h = by_order (leb k n) refl
  where
    by_order : (b : Bool) → leb k n ≡ b → mark b ≤ mark (leb m n)
    by_order true e = let above = leb-true k n e in let here = ap mark (le-leb m n (omega (arith, above, h))) in omega (arith, here)
    by_order false e = omega arith

fewer_left : (config : ModuleSettings) (n : ℕ) (s : State) (asked : Request) (b : Bool) → undrawn n (answered_state b config s asked) ≤ undrawn n s
fewer_left config n s asked true = later_fewer s.pendings.next (reborn s.pendings.next) n (reborn_above s.pendings.next)
fewer_left config n s asked false = omega arith

pub numbers_each : (config : ModuleSettings) (n : ℕ) (s : State) (e : Effect)
    → weight_in (is_request n) (output_of config s e) + undrawn n (apply config s e) ≤ undrawn n s + 0
numbers_each config n s (Replies v bytes) = let none = no_request_up n v bytes in omega (arith, none)
numbers_each config n s (Answers v request) =
    let none = no_request_up n v (reply_bytes (here_answer config s request)) in
    let alone = answered_alone (is_request n) (λ op. refl) config s v request in
    let fewer = fewer_left config n s request (resets config s request) in
    omega (arith, none, alone, fewer)
numbers_each config n s (Forwards sending kind) = let now = drawn_now s.pendings.next n in omega (arith, now)
numbers_each config n s (Begins sending opened) = let now = drawn_now s.pendings.next n in omega (arith, now)
numbers_each config n s (Finishes number triad bytes success) =
    let none = no_request_taken n (map.get s.pendings.entries number) (succeeded_at s number triad bytes success) in omega (arith, none)
numbers_each config n s (Takes number bytes) = let none = no_request_taken n (map.get s.pendings.entries number) bytes in omega (arith, none)
numbers_each config n s (PendingTimesOut number) = let none = no_request_late n (map.get s.pendings.entries number) in omega (arith, none)
numbers_each config n s (Passes triad side bytes) = let none = no_request_passed n side (hop_at s.hops triad) bytes in omega (arith, none)
numbers_each config n s e = omega arith

-- ---- the number of a request

pub mark_small : (b : Bool) → mark b ≤ 1
mark_small true = omega arith
mark_small false = omega arith

pub mark_one : (b : Bool) → 1 ≤ mark b → b ≡ true
mark_one true h = refl
mark_one false h = absurd (omega (arith, h))

pub mark_none : (b : Bool) → mark b ≡ 0 → b ≡ false
mark_none true h = absurd (omega (arith, h))
mark_none false h = refl

-- what sends a request draws one number
drawn_once : (config : ModuleSettings) (n : ℕ) (s : State) (e : Effect) → 1 ≤ weight_in (is_request n) (output_of config s e) → numbers_drawn config s e ≤ 1
drawn_once config n s (Answers v request) h =
    let none = no_request_up n v (reply_bytes (here_answer config s request)) in
    let alone = answered_alone (is_request n) (λ op. refl) config s v request in
    absurd (omega (arith, none, alone, h))
drawn_once config n s (Forwards sending kind) h = omega arith
drawn_once config n s (Begins sending opened) h = omega arith
drawn_once config n s e h = omega arith

-- it is the one that was next
pub request_number : (config : ModuleSettings) (mid : State) (e : Effect) (port n : ℕ) (to bytes : List ℕ)
    → Has (output_of config mid e) (outputs.Send port to (bodies.Request n bytes)) → n ≡ mid.pendings.next
request_number config mid e port n to bytes h =
    let some = weight_has (is_request n) (output_of config mid e) (outputs.Send port to (bodies.Request n bytes)) h in
    let one = ap mark (eq-eqb n n refl) in
    let sum = numbers_each config n mid e in
    let small = mark_small (leb mid.pendings.next n) in
    let from = leb-true mid.pendings.next n (mark_one (leb mid.pendings.next n) (omega (arith, some, one, sum))) in
    let to_ = leb-false (apply config mid e).pendings.next n (mark_none (leb (apply config mid e).pendings.next n) (omega (arith, some, one, sum, small))) in
    let drawn = next_number config mid e in
    let most = drawn_once config n mid e (omega (arith, some, one)) in
    omega (arith, from, to_, drawn, most)

-- ---- a history

none_gained : (es : List Effect) → gain (λ e. 0) es ≡ 0
none_gained [] = refl
none_gained (e ∷ es) = let h = none_gained es in omega (arith, h)

none_came : (turns : List Turn) → came (λ event. 0) turns ≡ 0
none_came [] = refl
none_came (turn ∷ turns) = let h = none_came turns in omega (arith, h)

-- what was sent under a number, and what is still to be sent under it, is one
pub numbers_conserved : (config : ModuleSettings) (n : ℕ) (turns : List Turn) → IsHistory config turns
    → weight (is_request n) turns + undrawn n (state_after config turns) ≤ undrawn n (initial_state config)
numbers_conserved config n turns h =
    let all = history_conserved config (is_request n) (undrawn n) (λ e. 0) (λ s. Unit {0}) (λ s e g. tt) (λ s e g. numbers_each config n s e)
    (λ event. 0) (λ s event es d. let none = none_gained es in omega (arith, none)) tt turns h in
    let none = none_came turns in let total = all.1 in omega (arith, none, total)

pub sent_once : (config : ModuleSettings) (n : ℕ) (turns : List Turn) → IsHistory config turns → weight (is_request n) turns ≤ 1
sent_once config n turns h = let all = numbers_conserved config n turns h in let small =
    mark_small (leb (initial_state config).pendings.next n) in omega (arith, all, small)
