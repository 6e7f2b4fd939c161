-- Replies given and requests that wait, together: one at most for each request that was taken up.
use Rattle.std.proofs.Common.{◌≡◌, ℕ, ◌+◌, ◌≤◌, Bool, true, false, List, [], ◌∷◌, Option, Some, None, refl, sym, ap, ◌∙◌, inl, inr, arith}
use Rattle.std.specs.FinMap as map
use Rattle.std.specs.FinMap.{FinMap, same_map}
use Rattle.std.specs.Cmp.{nat_cmp_total}
use Rattle.std.specs.Ordering.{nat_cmp}
use Rattle.cip_pending.specs.declared.entry.Entry.{Entry}
use Rattle.cip_pending.specs.declared.entry.UpSide.{UpSide}
use Rattle.cip_pending.specs.declared.entry.UpSide.TheVariants.{Link, Local}
use Rattle.cip_hops.specs.declared.opening.HopUp.{HopUp}
use Rattle.cip_hops.specs.declared.opening.HopUp.TheVariants.{Link as UpLink, Local as UpLocal}
use Rattle.cip_hops.specs.declared.opening.HopDown.{HopDown}
use Rattle.cip_hops.specs.declared.opening.HopDown.TheVariants.{Link as DownLink, End}
use Rattle.cip_hops.specs.declared.hop.Hop.{Hop}
use Rattle.cip_hops.specs.declared.hop.Side.{Side}
use Rattle.cip_hops.specs.declared.hop.Side.TheVariants.{Up, Down}
use Rattle.cip_hops.specs.Hops.{hop_at}
use Rattle.cip_base.proofs.Lengths.{one_if}
use Rattle.cip_hops.proofs.Counts.{tally, tally-insert, tally-remove, tally-le}
use Rattle.cip_message.specs.Reply.{reply_bytes}
use Rattle.cip_message.specs.Request.{Request}
use Rattle.cip_laws.specs.EffectLists.{takes_up}
use Rattle.cip_config.specs.declared.config.ModuleSettings.{ModuleSettings}
use Rattle.cip_event.specs.declared.event.Output.{Output}
use Rattle.cip_routing.specs.Effects.{Effect, Replies, Answers, Forwards, Begins, Finishes, Takes, PendingTimesOut, Passes, resets, here_answer, answered_state}
use Rattle.cip_routing.specs.Effects.{entry_for, apply, output_of, reply_up, replied, timed_out_reply, timed_out_bytes, datum_up, datum_down, datum_by, passed}
use Rattle.cip_routing.specs.Effects.{kind_for, succeeded_at}
use Rattle.cip_routing.specs.State.{State}
use Rattle.cip_routing.proofs.Fits.{numbers_apart}
use Rattle.cip_base.proofs.Points.{one_or_apart, gone_here, gone_apart}
use Rattle.cip_laws.specs.Weights.{mark, same_up, replies_to, is_to, is_reply, weight_in}
use Rattle.cip_routing.specs.Resets.{reset_state}
use Rattle.cip_laws.proofs.Puts.{AreBelow, no_number}
use Rattle.cip_laws.proofs.Weighing.{answered_alone}

-- how many requests wait for this up side
abbrev pub waits_for : UpSide → State → ℕ
waits_for up s = tally nat_cmp (λ (p : Entry). same_up p.up up) s.pendings.entries

pub reply_up_to : (v : UpSide) (bytes : List ℕ) → replies_to (reply_up v bytes) ≡ Some v
reply_up_to (Link port address number) bytes = refl
reply_up_to (Local op) bytes = refl

given : (up v : UpSide) (bytes : List ℕ) → is_reply up (reply_up v bytes) ≡ mark (same_up v up)
given up v bytes = ap (is_to up) (reply_up_to v bytes)

marked : (b : Bool) → one_if b ≡ mark b
marked true = refl
marked false = refl

no_reply_up : (up : UpSide) (to : HopUp) (bytes : List ℕ) → is_reply up (datum_up to bytes) ≡ 0
no_reply_up up (UpLink port address their_id) bytes = refl
no_reply_up up (UpLocal op) bytes = refl

no_reply_down : (up : UpSide) (hop : Hop) (to : HopDown) (bytes : List ℕ) → is_reply up (datum_down hop to bytes) ≡ 0
no_reply_down up hop (DownLink port address) bytes = refl
no_reply_down up hop (End config consume produce) bytes = refl

no_reply_by : (up : UpSide) (side : Side) (hop : Hop) (bytes : List ℕ) → is_reply up (datum_by side hop bytes) ≡ 0
no_reply_by up Up hop bytes = no_reply_up up hop.opening.up bytes
no_reply_by up Down hop bytes = no_reply_down up hop hop.opening.down bytes

pub no_reply_passed : (up : UpSide) (side : Side) (hop : Option Hop) (bytes : List ℕ) → weight_in (is_reply up) (passed side hop bytes) ≡ 0
no_reply_passed up side None bytes = refl
no_reply_passed up side (Some hop) bytes = let none = no_reply_by up side hop bytes in omega (arith, none)

-- a map without a key that it lacks
remove_none : {X : Type 0} (m : FinMap nat_cmp X) (k : ℕ) → map.get m k ≡ None → map.remove m k ≡ m
remove_none m k none = same_map nat_cmp_total numbers_apart (map.remove m k) m (λ q.
    elim (one_or_apart nat_cmp_total numbers_apart q k) as (λ _. map.get (map.remove m k) q ≡ map.get m q) [
      | inl one ↦ ap (map.get (map.remove m k)) one ∙ gone_here nat_cmp_total numbers_apart m k ∙ sym none ∙ ap (map.get m) (sym one)
      | inr apart ↦ gone_apart nat_cmp_total numbers_apart m k q apart
    ])

-- one waits no more, and gets a reply if it waited
module _ (up : UpSide) (m : FinMap nat_cmp Entry) (number : ℕ) where
  abbrev left : ℕ
  left = tally nat_cmp (λ (p : Entry). same_up p.up up) (map.remove m number)

  abbrev all : ℕ
  all = tally nat_cmp (λ (p : Entry). same_up p.up up) m

  waited : (x : Option Entry) → map.get m number ≡ x → (outs : Entry → List Output)
      → ((p : Entry) → weight_in (is_reply up) (outs p) ≡ mark (same_up p.up up))
      → (all_outs : List Output) → ((p : Entry) → x ≡ Some p → all_outs ≡ outs p) → (x ≡ None → all_outs ≡ []) → weight_in (is_reply up) all_outs + left ≡ all
  waited None at outs gives all_outs some none =
      let same : left ≡ all = ap (tally nat_cmp (λ (p : Entry). same_up p.up up)) (remove_none m number at) in
      let nothing : weight_in (is_reply up) all_outs ≡ 0 = ap (weight_in (is_reply up)) (none refl) in
      omega (arith, same, nothing)
  waited (Some p) at outs gives all_outs some none =
      let fewer : one_if (same_up p.up up) + left ≡ all = tally-remove nat_cmp (λ (p : Entry). same_up p.up up) nat_cmp_total numbers_apart m number p at in
      let one = marked (same_up p.up up) in
      let is : weight_in (is_reply up) all_outs ≡ mark (same_up p.up up) = ap (weight_in (is_reply up)) (some p refl) ∙ gives p in
      omega (arith, fewer, one, is)

  pub taken : (bytes : List ℕ) → weight_in (is_reply up) (replied (map.get m number) bytes) + left ≡ all
  taken bytes = waited (map.get m number) refl (λ p. reply_up p.up bytes ∷ []) (λ p. let is = given up p.up bytes in omega (arith, is))
      (replied (map.get m number) bytes) (λ p e. ap (λ x. replied x bytes) e) (λ e. ap (λ x. replied x bytes) e)

  pub late : weight_in (is_reply up) (timed_out_reply (map.get m number)) + left ≡ all
  late = waited (map.get m number) refl (λ p. reply_up p.up (timed_out_bytes p.kind p.words) ∷ [])
      (λ p. let is = given up p.up (timed_out_bytes p.kind p.words) in omega (arith, is))
      (timed_out_reply (map.get m number)) (λ p e. ap timed_out_reply e) (λ e. ap timed_out_reply e)

-- one more waits
asked : (up : UpSide) (s : State) (p : Entry) → AreBelow s
    → tally nat_cmp (λ (p : Entry). same_up p.up up) (map.insert s.pendings.entries s.pendings.next p) ≡ mark (same_up p.up up) + waits_for up s
asked up s p h =
    let more = tally-insert nat_cmp (λ (p : Entry). same_up p.up up) nat_cmp_total numbers_apart s.pendings.entries s.pendings.next p (no_number s h) in
    let one = marked (same_up p.up up) in
    omega (arith, more, one)

-- after an answer here what waits waited before, and after a reset nothing waits
waits_left : (config : ModuleSettings) (up : UpSide) (s : State) (asked : Request) (b : Bool)
    → waits_for up (answered_state b config s asked) ≤ waits_for up s
waits_left config up s asked true =
    let small = tally-le nat_cmp (λ (p : Entry). same_up p.up up) (reset_state s).pendings.entries in let none = map.len-empty nat_cmp Entry in
    omega (arith, small, none)
waits_left config up s asked false = omega arith

-- what an effect replies to an up side, and what waits for it, grow by what it takes up at most
pub claims_each : (config : ModuleSettings) (up : UpSide) (s : State) (e : Effect) → AreBelow s
    → weight_in (is_reply up) (output_of config s e) + waits_for up (apply config s e) ≤ waits_for up s + takes_up up e
claims_each config up s (Replies v bytes) h = let is = given up v bytes in omega (arith, is)
claims_each config up s (Answers v request) h =
    let is = given up v (reply_bytes (here_answer config s request)) in
    let alone = answered_alone (is_reply up) (λ op. refl) config s v request in
    let left = waits_left config up s request (resets config s request) in
    omega (arith, is, alone, left)
claims_each config up s (Forwards sending kind) h = let more = asked up s (entry_for s sending kind) h in omega (arith, more)
claims_each config up s (Begins sending opening) h = let more = asked up s (entry_for s sending (kind_for opening)) h in omega (arith, more)
claims_each config up s (Finishes number triad bytes success) h =
    let all = taken up s.pendings.entries number (succeeded_at s number triad bytes success) in omega (arith, all)
claims_each config up s (Takes number bytes) h = let all = taken up s.pendings.entries number bytes in omega (arith, all)
claims_each config up s (PendingTimesOut number) h = let all = late up s.pendings.entries number in omega (arith, all)
claims_each config up s (Passes triad side bytes) h = let none = no_reply_passed up side (hop_at s.hops triad) bytes in omega (arith, none)
claims_each config up s e h = omega arith
