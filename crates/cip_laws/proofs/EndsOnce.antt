-- An op gets one Ended at most, and neither a Done nor another Ended in the turn of its Ended or after it.
use Rattle.std.proofs.Common.{◌≡◌, ℕ, ◌+◌, ◌≤◌, ◌<◌, Bool, true, false, cond, List, [], ◌∷◌, ◌++◌, length, get_or, Option, Some, None, refl, sym, ap, subst}
use Rattle.std.proofs.Common.{◌∙◌, ◌⊎◌, inl, inr, arith, eqb, ltb, ◌||◌, zero, suc}
use Rattle.std.specs.FinMap as map
use Rattle.std.specs.List.{filter_map, cons_option}
use Rattle.std.specs.declared.cmp.Ordering.{Ordering}
use Rattle.std.specs.Cmp.{nat_cmp_total}
use Rattle.std.specs.Ordering.{nat_cmp}
use Rattle.std.proofs.lemmas.Bool.{eq-eqb, eqb-true}
use Rattle.cip_base.proofs.Triads.{triads_total}
use Rattle.cip_hops.proofs.Steps.{triads_apart}
use Rattle.cip_base.proofs.Views.{get-at}
use Rattle.cip_base.specs.Triads.{triad_cmp}
use Rattle.cip_base.specs.declared.triad.Triad.{Triad}
use Rattle.cip_message.specs.Request.{Request}
use Rattle.cip_message.specs.Reply.{reply_bytes}
use Rattle.cip_pending.specs.declared.entry.Entry.{Entry}
use Rattle.cip_pending.specs.declared.entry.UpSide.{UpSide}
use Rattle.cip_pending.specs.declared.entry.UpSide.TheVariants.{Link, Local}
use Rattle.cip_hops.specs.declared.opening.Opening.{Opening}
use Rattle.cip_hops.specs.declared.opening.OwnIds.{OwnIds}
use Rattle.cip_hops.specs.declared.opening.HopUp.{HopUp}
use Rattle.cip_hops.specs.declared.opening.HopUp.TheVariants.{Link as UpLink, Local as UpLocal}
use Rattle.cip_hops.specs.declared.hop.Hop.{Hop}
use Rattle.cip_hops.specs.declared.hop.Held.{Held}
use Rattle.cip_hops.specs.declared.hop.Held.TheVariants.{Opening as IsOpening, Open}
use Rattle.cip_hops.specs.Sides.{op_of, up_is_link}
use Rattle.cip_hops.specs.Hops.{as_hop, opening_of}
use Rattle.cip_config.specs.declared.config.ModuleSettings.{ModuleSettings}
use Rattle.cip_event.specs.declared.event.Output.{Output}
use Rattle.cip_event.specs.declared.event.Output.TheVariants as outputs
use Rattle.cip_routing.specs.Effects.{Effect, Spends, Replies, Answers, Forwards, Accepts, Removes, RefusesCommand, Drops, resets, here_answer, answered_state}
use Rattle.cip_routing.specs.Effects.{ended_by as told_ended, reply_up, apply, applied, output_of, outputs_of}
use Rattle.cip_routing.specs.Resets.{asking_op, opening_op, noted, all_noted, held_ops, waiting_ops, open_ops, all_ended}
use Rattle.cip_routing.specs.State.{State, is_spent, spent_with}
use Rattle.cip_routing.specs.Table.{up_side_of}
use Rattle.cip_routing.proofs.Fits.{numbers_apart}
use Rattle.cip_routing.proofs.Waiting.{waits_at}
use Rattle.cip_laws.specs.Births.{Past}
use Rattle.cip_laws.specs.Changes.{HeldCase, Stands, Begun, Ended, Finished, SameCore, OpenedBy}
use Rattle.cip_laws.specs.EffectLists.{gain, takes_up, IsLight, IsBounded, IsStill}
use Rattle.cip_laws.specs.Histories.{Turn, state_after, IsHistory}
use Rattle.cip_laws.specs.Openings.{OpenSent}
use Rattle.cip_laws.specs.Outputs.{GaveBy, EndedBy, ByTimeOut, ByReset, ByRefusal, ByDrop}
use Rattle.cip_laws.specs.Tells.{asker, Tells, AcceptsAs, FinishesAs, AnswersAs}
use Rattle.cip_laws.specs.Turns.{Has}
use Rattle.cip_laws.specs.Weights.{mark, same_up, is_reply, is_ended, weight_in, weight}
use Rattle.cip_laws.proofs.Births.{gain-append}
use Rattle.cip_laws.proofs.Claims.{waits_for, reply_up_to}
use Rattle.cip_laws.proofs.Dones.{unspent, uses, stays_list, turn_once, done_once}
use Rattle.cip_laws.proofs.GaveBy.{gave_by}
use Rattle.cip_laws.proofs.GivenBy.{ended_by}
use Rattle.cip_laws.proofs.Joined.{joined}
use Rattle.cip_laws.proofs.Light.{light_once}
use Rattle.cip_laws.proofs.OneReply.{none_wait, waits_counted}
use Rattle.cip_laws.proofs.Quiet.{reply_alone}
use Rattle.cip_laws.proofs.Stands.{held_cases}
use Rattle.cip_laws.proofs.TellsAskers.{answers_asker}
use Rattle.cip_laws.proofs.Turns.{Turned, newest, by_places, applied-append, outputs-append}
use Rattle.cip_laws.proofs.Weighing.{weight_in-append, weight_has, answered_alone}

-- ---- a list of ops that ended

module _ (op : ℕ) where
  abbrev ended : List Output → ℕ
  ended os = weight_in (is_ended op) os

  new_none : (ops : List ℕ) → is_spent op ops ≡ false → ended (all_ended ops) ≡ 0
  new_none [] e = refl
  new_none (x ∷ ops) e = by_head (eqb x op) refl e (λ s. new_none ops s)
    where
      by_head : (b : Bool) → eqb x op ≡ b → (b || is_spent op ops) ≡ false → (is_spent op ops ≡ false → ended (all_ended ops) ≡ 0)
          → ended (all_ended (x ∷ ops)) ≡ 0
      by_head true t s rest = absurd (cc)
      by_head false t s rest = let here = ap mark t in let none = rest s in omega (arith, here, none)

  one_more : (x : ℕ) (ops : List ℕ) → ended (all_ended (spent_with x ops)) ≡ mark (eqb x op) + ended (all_ended ops)
  one_more x [] = refl
  one_more x (y ∷ ops) =
      elim (ltb x y) as (λ b. ended (all_ended (cond b (x ∷ y ∷ ops) (y ∷ spent_with x ops))) ≡ mark (eqb x op) + ended (all_ended (y ∷ ops))) [
        | true ↦ refl
        | false ↦ let rest = one_more x ops in omega (arith, rest)
      ]

  once : (x : ℕ) (ops : List ℕ) → ended (all_ended ops) ≤ 1 → ended (all_ended (noted x ops)) ≤ 1
  once x ops h = by_spent (is_spent x ops) refl
    where
      by_same : (c : Bool) → eqb x op ≡ c → is_spent x ops ≡ false → ended (all_ended (spent_with x ops)) ≤ 1
      by_same true s t =
          let same : x ≡ op = eqb-true x op s in
          let none = new_none ops (ap (λ (k : ℕ). is_spent k ops) (sym same) ∙ t) in
          let more = one_more x ops in
          let here = ap mark s in
          omega (arith, none, more, here)
      by_same false s t = let more = one_more x ops in let here = ap mark s in omega (arith, h, more, here)

      by_spent : (b : Bool) → is_spent x ops ≡ b → ended (all_ended (cond b ops (spent_with x ops))) ≤ 1
      by_spent true t = h
      by_spent false t = by_same (eqb x op) refl t

  once_all : (xs ops : List ℕ) → ended (all_ended ops) ≤ 1 → ended (all_ended (all_noted ops xs)) ≤ 1
  once_all [] ops h = h
  once_all (x ∷ xs) ops h = once_all xs (noted x ops) (once x ops h)

  held_once : (s : State) → ended (all_ended (held_ops s)) ≤ 1
  held_once s = once_all (open_ops s.hops) (all_noted [] (waiting_ops s.pendings)) (once_all (waiting_ops s.pendings) [] (omega arith))

  told_once : (b : Bool) (s : State) → ended (told_ended b s) ≤ 1
  told_once true s = held_once s
  told_once false s = omega arith

  has_ended : (os : List Output) → 1 ≤ ended os → Has os (outputs.Ended op)
  has_ended [] h = absurd (omega (arith, h))
  has_ended (outputs.Ended x ∷ os) h = by_same (eqb x op) refl (λ k. has_ended os k)
    where
      by_same : (b : Bool) → eqb x op ≡ b → (1 ≤ ended os → Has os (outputs.Ended op)) → Has (outputs.Ended x ∷ os) (outputs.Ended op)
      by_same true t rest = inl (ap outputs.Ended (eqb-true x op t))
      by_same false t rest = let here = ap mark t in inr (rest (omega (arith, h, here)))
  has_ended (o ∷ os) h = inr (has_ended os (omega (arith, h)))

  -- ---- whose ops these are

  abbrev In : List ℕ → Type 0
  In ops = Has (all_ended ops) (outputs.Ended op)

  in_with : (x : ℕ) (ops : List ℕ) → In (spent_with x ops) → (x ≡ op) ⊎ In ops
  in_with x [] (inl e) = inl (cc)
  in_with x [] (inr h) = absurd h
  in_with x (y ∷ ops) h = by_place (ltb x y) h (λ k. in_with x ops k)
    where
      by_place : (b : Bool) → In (cond b (x ∷ y ∷ ops) (y ∷ spent_with x ops)) → (In (spent_with x ops) → (x ≡ op) ⊎ In ops) → (x ≡ op) ⊎ In (y ∷ ops)
      by_place true (inl e) rest = inl (cc)
      by_place true (inr h) rest = inr h
      by_place false (inl e) rest = inr (inl e)
      by_place false (inr h) rest = elim (rest h) [ inl e ↦ inl e | inr k ↦ inr (inr k) ]

  in_noted : (x : ℕ) (ops : List ℕ) → In (noted x ops) → (x ≡ op) ⊎ In ops
  in_noted x ops h = by_spent (is_spent x ops) h
    where
      by_spent : (b : Bool) → In (cond b ops (spent_with x ops)) → (x ≡ op) ⊎ In ops
      by_spent true h = inr h
      by_spent false h = in_with x ops h

  in_all : (xs ops : List ℕ) → In (all_noted ops xs) → In xs ⊎ In ops
  in_all [] ops h = inr h
  in_all (x ∷ xs) ops h = elim (in_all xs (noted x ops) h) [
    | inl k ↦ inl (inr k)
    | inr k ↦ elim (in_noted x ops k) [ inl e ↦ inl (inl (ap outputs.Ended e)) | inr m ↦ inr m ]
  ]

abbrev AllAt : {K X : Type 0} {R : K → K → Ordering} → map.FinMap R X → List (K × X) → Type 0
AllAt m [] = Unit {0}
AllAt m (e ∷ es) = (map.get m e.0 ≡ Some e.1) × AllAt m es

all_at : {K X : Type 0} {R : K → K → Ordering} (m : map.FinMap R X) (es : List (K × X))
    → ((i : ℕ) (d : K × X) → i < length es → map.get m (get_or es i d).0 ≡ Some (get_or es i d).1) → AllAt m es
all_at m [] h = tt
all_at m (e ∷ es) h = (h 0 e (omega arith), all_at m es (λ i d lt. h (suc i) d (omega arith)))

-- a connection that is open was opened by this op
record OpenBy (op : ℕ) (s : State) : Type 0 where
  triad : Triad
  hop : Hop
  at : map.get s.hops.held triad ≡ Some (Open hop)
  named : op_of hop.opening.up ≡ Some op

-- something waits for the op, or it opened what is open
abbrev IsHeldBy : ℕ → State → Type 0
IsHeldBy op s = (1 ≤ waits_for (Local op) s) ⊎ OpenBy op s

module _ (op : ℕ) where
  same_local : (up : UpSide) → asking_op up ≡ Some op → same_up up (Local op) ≡ true
  same_local (Link port address number) e = absurd (cc)
  same_local (Local o) e = eq-eqb o op (cc)

  found_waiting : (m : map.FinMap nat_cmp Entry) (es : List (ℕ × Entry)) → AllAt m es → In op (filter_map (λ (e : ℕ × Entry). asking_op e.1.up) es)
      → (n : ℕ) × (p : Entry) × (map.get m n ≡ Some p) × (asking_op p.up ≡ Some op)
  found_waiting m [] all h = absurd h
  found_waiting m (e ∷ es) all h = by_op (asking_op e.1.up) refl h (λ k. found_waiting m es all.1 k)
    where
      Found : Type 0
      Found = (n : ℕ) × (p : Entry) × (map.get m n ≡ Some p) × (asking_op p.up ≡ Some op)

      rest : List ℕ
      rest = filter_map (λ (x : ℕ × Entry). asking_op x.1.up) es

      by_op : (o : Option ℕ) → asking_op e.1.up ≡ o → In op (cons_option o rest) → (In op rest → Found) → Found
      by_op None t h later = later h
      by_op (Some x) t (inl same) later = let is : x ≡ op = cc in (e.0, e.1, all.0, t ∙ ap (λ (k : ℕ). Some k) is)
      by_op (Some x) t (inr h) later = later h

  found_open : (m : map.FinMap triad_cmp Held) (es : List (Triad × Held)) → AllAt m es
      → In op (filter_map opening_op (filter_map (λ (e : Triad × Held). as_hop e.1) es))
      → (q : Triad) × (hop : Hop) × (map.get m q ≡ Some (Open hop)) × (op_of hop.opening.up ≡ Some op)
  found_open m [] all h = absurd h
  found_open m (e ∷ es) all h = by_held e.1 refl h (λ k. found_open m es all.1 k)
    where
      Found : Type 0
      Found = (q : Triad) × (hop : Hop) × (map.get m q ≡ Some (Open hop)) × (op_of hop.opening.up ≡ Some op)

      rest : List Hop
      rest = filter_map (λ (x : Triad × Held). as_hop x.1) es

      by_op : (hop : Hop) → e.1 ≡ Open hop → (o : Option ℕ) → opening_op hop ≡ o → In op (cons_option o (filter_map opening_op rest))
          → (In op (filter_map opening_op rest) → Found) → Found
      by_op hop t None named h later = later h
      by_op hop t (Some x) named (inl same) later =
          let is : x ≡ op = cc in (e.0, hop, all.0 ∙ ap (λ (y : Held). Some y) t, named ∙ ap (λ (k : ℕ). Some k) is)
      by_op hop t (Some x) named (inr h) later = later h

      by_held : (x : Held) → e.1 ≡ x → In op (filter_map opening_op (cons_option (as_hop x) rest)) → (In op (filter_map opening_op rest) → Found) → Found
      by_held (IsOpening o ids) t h later = later h
      by_held (Open hop) t h later = by_op hop t (opening_op hop) refl h later

  held_by : (s : State) → In op (held_ops s) → IsHeldBy op s
  held_by s h = elim (in_all op (open_ops s.hops) (all_noted [] (waiting_ops s.pendings)) h) [
    | inl k ↦
        let m = s.hops.held in
        let f = found_open m (map.entries m) (all_at m (map.entries m) (λ i d lt. get-at triad_cmp triads_total triads_apart m i d lt)) k in
        inr (record { triad = f.0; hop = f.1; at = f.2; named = f.3 })
    | inr k ↦ elim (in_all op (waiting_ops s.pendings) [] k) [
      | inl w ↦
          let m = s.pendings.entries in
          let f = found_waiting m (map.entries m) (all_at m (map.entries m) (λ i d lt. get-at nat_cmp nat_cmp_total numbers_apart m i d lt)) w in
          inl (waits_counted (Local op) s f.0 f.1 f.2 (same_local f.1.up f.3))
      | inr none ↦ absurd none
    ]
  ]

-- ---- what is open was open, or its opening waited for the op

up_asks : (up : UpSide) (id : ℕ) → op_of (up_side_of up id) ≡ asking_op up
up_asks (Link port address number) id = refl
up_asks (Local op) id = refl

past_up : (config : ModuleSettings) (n : ℕ) (p : Entry) (o : Opening) (ids : OwnIds) (turns : List Turn) → Past (OpenSent config n p o ids) turns
    → op_of o.up ≡ asking_op p.up
past_up config n p o ids [] past = absurd past
past_up config n p o ids (turn ∷ turns) (inl sent) =
    ap (λ (x : Opening). op_of x.up) sent.tells.opening_is ∙ up_asks sent.sending.up sent.tells.o.fields.to_id ∙ ap asking_op (sym sent.up_is)
past_up config n p o ids (turn ∷ turns) (inr old) = past_up config n p o ids turns old

no_local : (op : ℕ) (up : HopUp) → up_is_link up ≡ true → op_of up ≡ Some op → ⊥
no_local op (UpLink port address id) link e = cc
no_local op (UpLocal o) link e = cc

module _ (op : ℕ) (config : ModuleSettings) (turn : Turn) (turns : List Turn) (h : IsHistory config (turn ∷ turns)) where
  abbrev s0 : State
  s0 = state_after config turns

  abbrev s1 : State
  s1 = state_after config (turn ∷ turns)

  now : Turned config s0 turn.event s1 turn.outputs
  now = newest config turn turns h

  abbrev AllBefore : State → List Output → Type 0
  AllBefore s outs = (q : Triad) (hop : Hop) → map.get s.hops.held q ≡ Some (Open hop) → op_of hop.opening.up ≡ Some op → IsHeldBy op s0

  before_each : (before after : List Effect) (e : Effect) → before ++ (e ∷ after) ≡ now.effects → Tells config s0 turn.event e
      → AllBefore (applied config s0 before) [] → AllBefore (apply config (applied config s0 before) e) []
  before_each before after e is tells old q hop at named = by_case (held_cases config mid e q (Open hop) at)
    where
      mid : State
      mid = applied config s0 before

      by_old : (x : Held) → map.get mid.hops.held q ≡ Some x → SameCore x (Open hop) → IsHeldBy op s0
      by_old (IsOpening o ids) there core = absurd core
      by_old (Open g) there core = old q g there (ap (λ (o : Opening). op_of o.up) core.0 ∙ named)

      finished : OpenedBy mid e q (Open hop) → IsHeldBy op s0
      finished o =
          let told : FinishesAs s0 turn.event o.number q o.bytes o.success = subst (Tells config s0 turn.event) o.effect_is tells in
          let first : before ≡ [] = reply_alone config s0 turn.event now.effects before after e told.came.port o.number told.came.from o.bytes
          told.came.event_is now.decided is in
          let same : mid ≡ s0 = ap (applied config s0) first in
          let waits = waits_at s0.pendings o.number told.came.port told.came.from told.entry told.came.waits in
          let opens = (joined config turns h.0).each o.number told.entry q waits told.kind in
          let was : map.get s0.hops.held q ≡ Some (IsOpening o.opening o.ids) = ap (λ (x : State). map.get x.hops.held q) (sym same) ∙ o.was in
          let two : Some (IsOpening opens.opening opens.ids) ≡ Some (IsOpening o.opening o.ids) = sym opens.at ∙ was in
          let one : opens.opening ≡ o.opening = cc in
          let asks : asking_op told.entry.up ≡ Some op =
          sym (past_up config o.number told.entry opens.opening opens.ids turns opens.of)
          ∙ ap (λ (x : Opening). op_of x.up) (one ∙ sym (ap opening_of o.is)) ∙ named in
          inl (waits_counted (Local op) s0 o.number told.entry waits (same_local op told.entry.up asks))

      by_case : HeldCase mid e q (Open hop) → IsHeldBy op s0
      by_case (Stands stood) = by_old stood.old stood.at stood.core
      by_case (Begun sending opening effect_is triad_is held_is) = absurd (cc)
      by_case (Ended opening o link effect_is triad_is held_is) =
          let told : AcceptsAs config s0 turn.event opening o link = subst (Tells config s0 turn.event) effect_is tells in
          absurd (no_local op (up_side_of told.up o.fields.to_id) told.came
          (sym (ap (λ (x : Opening). op_of x.up) (ap opening_of held_is ∙ told.opening_is)) ∙ named))
      by_case (Finished o) = finished o

  open_before : OpenBy op s1 → IsHeldBy op s0
  open_before o = by_places config s0 turn.event s1 turn.outputs now AllBefore (λ before after e is tells old. before_each before after e is tells old)
      (λ q hop at named. inr (record { triad = q; hop = hop; at = at; named = named })) o.triad o.hop o.at o.named

  still_unspent : unspent op s1 ≤ unspent op s0
  still_unspent = let less = stays_list op config s0 now.effects in let same = ap (unspent op) now.state in omega (arith, less, same)

-- what is held has used its op up
held_spent : (op : ℕ) (config : ModuleSettings) (turns : List Turn) → IsHistory config turns → IsHeldBy op (state_after config turns)
    → unspent op (state_after config turns) ≡ 0
held_spent op config turns h (inl waits) = let all = done_once op config turns h in omega (arith, waits, all)
held_spent op config [] h (inr o) = let none : None ≡ Some (Open o.hop) = sym (map.get-empty {X = Held} triad_cmp o.triad) ∙ o.at in absurd (cc)
held_spent op config (turn ∷ turns) h (inr o) =
    let was = held_spent op config turns h.0 (open_before op config turn turns h o) in
    let less = still_unspent op config turn turns h in
    omega (arith, was, less)

-- ---- a turn in which an op ends

-- 2 of an answer here, and none of what may stand beside one
abbrev alone : Effect → ℕ
alone (Spends op) = 0
alone (RefusesCommand fault) = 0
alone (Drops reason) = 0
alone (Replies v bytes) = 1
alone (Forwards sending kind) = 1
alone (Removes triad) = 1
alone (Accepts opening o link) = 1
alone e = 2

alone_light : IsLight alone (λ v. 2)
alone_light = record {
  replies = λ v bytes. omega arith;
  answers = λ v asked. omega arith;
  forwards = λ sending kind. omega arith;
  begins = λ sending opening. omega arith;
  accepts = λ opening o link v bytes. omega arith;
  spends = λ op. refl;
  closes_on = λ triad sending kind. omega arith;
  closes = λ triad v bytes. omega arith;
  refuses = λ fault. refl;
  drops = λ reason. refl;
}

record IsQuiet (op : ℕ) (config : ModuleSettings) (s : State) (es : List Effect) : Type 0 where
  still : IsStill s (applied config s es)
  replies : weight_in (is_reply (Local op)) (outputs_of config s es) ≡ 0
  ends : ended op (outputs_of config s es) ≡ 0

quiet_one : (op : ℕ) (config : ModuleSettings) (s : State) (e : Effect) → alone e ≡ 0
    → IsStill s (apply config s e) × (weight_in (is_reply (Local op)) (output_of config s e) ≡ 0) × (ended op (output_of config s e) ≡ 0)
quiet_one op config s (Spends o) h = ((refl, refl), refl, refl)
quiet_one op config s (RefusesCommand fault) h = ((refl, refl), refl, refl)
quiet_one op config s (Drops reason) h = ((refl, refl), refl, refl)
quiet_one op config s (Replies v bytes) h = absurd (omega (arith, h))
quiet_one op config s (Forwards sending kind) h = absurd (omega (arith, h))
quiet_one op config s (Removes triad) h = absurd (omega (arith, h))
quiet_one op config s (Accepts opening o link) h = absurd (omega (arith, h))
quiet_one op config s e h = absurd (omega (arith, h))

quiet : (op : ℕ) (config : ModuleSettings) (s : State) (es : List Effect) → gain alone es ≡ 0 → IsQuiet op config s es
quiet op config s [] h = record { still = (refl, refl); replies = refl; ends = refl }
quiet op config s (e ∷ es) h =
    let here = quiet_one op config s e (omega (arith, h)) in
    let rest = quiet op config (apply config s e) es (omega (arith, h)) in
    let one = here.1 in
    let two = here.2 in
    let one_rest = rest.replies in
    let two_rest = rest.ends in
    let one_sum = weight_in-append (is_reply (Local op)) (output_of config s e) (outputs_of config (apply config s e) es) in
    let two_sum = weight_in-append (is_ended op) (output_of config s e) (outputs_of config (apply config s e) es) in record {
      still = (rest.still.0 ∙ here.0.0, rest.still.1 ∙ here.0.1);
      replies = omega (arith, one, one_rest, one_sum);
      ends = omega (arith, two, two_rest, two_sum);
    }

bounded : (v : Option UpSide) (up : UpSide) (n : ℕ) → v ≡ Some up → IsBounded (λ v. 2) v n → n ≤ 2
bounded None up n e h = absurd (cc)
bounded (Some v) up n e h = h

no_end_up : (op : ℕ) (v : UpSide) (bytes : List ℕ) → is_ended op (reply_up v bytes) ≡ 0
no_end_up op (Link port address number) bytes = refl
no_end_up op (Local o) bytes = refl

-- nothing waits for the op, it is used up, and it opened nothing that is open
record IsOver (op : ℕ) (s : State) : Type 0 where
  waits : waits_for (Local op) s ≡ 0
  spent : unspent op s ≡ 0
  closed : OpenBy op s → ⊥

record Ends (op : ℕ) (s0 s1 : State) (outs : List Output) : Type 0 where
  done : weight_in (is_reply (Local op)) outs ≡ 0
  once : ended op outs ≤ 1
  held : IsHeldBy op s0
  over : IsOver op s1

module _ (op : ℕ) (config : ModuleSettings) (turn : Turn) (turns : List Turn) (h : IsHistory config (turn ∷ turns)) where
  abbrev then0 : State
  then0 = state_after config turns

  abbrev then1 : State
  then1 = state_after config (turn ∷ turns)

  by_reset : (g : GaveBy config then0 turn.event (now op config turn turns h).effects (outputs.Ended op)) (v : UpSide) (asked : Request)
      → g.effect ≡ Answers v asked → resets config (applied config then0 g.before) asked ≡ true → In op (held_ops (applied config then0 g.before))
      → AnswersAs config then0 turn.event v asked → Ends op then0 then1 turn.outputs
  by_reset g v asked effect_is did has told =
      let n = now op config turn turns h in
      let is : g.before ++ (Answers v asked ∷ g.after) ≡ n.effects = ap (λ (e : Effect). g.before ++ (e ∷ g.after)) (sym effect_is) ∙ g.is in
      let most = bounded (asker turn.event) v (gain alone n.effects) (answers_asker config then0 turn.event v asked told)
      (light_once alone (λ v. 2) alone_light config then0 turn.event n.effects n.decided) in
      let whole = ap (gain alone) is in
      let sum = gain-append alone g.before (Answers v asked ∷ g.after) in
      let first = quiet op config then0 g.before (omega (arith, most, whole, sum)) in
      let mid = applied config then0 g.before in
      let reset = apply config mid (Answers v asked) in
      let last = quiet op config reset g.after (omega (arith, most, whole, sum)) in
      let same_held : held_ops mid ≡ held_ops then0 =
      λ i. all_noted (all_noted [] (waiting_ops (first.still.1 i))) (open_ops (first.still.0 i)) in
      let held : IsHeldBy op then0 = held_by op then0 (subst (In op) same_held has) in
      let spent = held_spent op config turns h.0 held in
      let used = uses op config then0 turn.event then1 turn.outputs n in
      let taken = ap (gain (takes_up (Local op))) is in
      let taken_sum = gain-append (takes_up (Local op)) g.before (Answers v asked ∷ g.after) in
      let bytes = reply_bytes (here_answer config mid asked) in
      let outs : outputs_of config then0 (g.before ++ (Answers v asked ∷ g.after)) ≡ turn.outputs = ap (outputs_of config then0) is ∙ n.out in
      let parts = outputs-append config then0 g.before (Answers v asked ∷ g.after) in
      let to = ap (Rattle.cip_laws.specs.Weights.is_to (Local op)) (reply_up_to v bytes) in
      let done_all = ap (weight_in (is_reply (Local op))) (sym outs ∙ parts) in
      let done_first = weight_in-append (is_reply (Local op)) (outputs_of config then0 g.before)
      (output_of config mid (Answers v asked) ++ outputs_of config reset g.after) in
      let done_last = weight_in-append (is_reply (Local op)) (output_of config mid (Answers v asked)) (outputs_of config reset g.after) in
      let done_here = answered_alone (is_reply (Local op)) (λ o. refl) config mid v asked in
      let none_first = first.replies in
      let none_last = last.replies in
      let end_all = ap (weight_in (is_ended op)) (sym outs ∙ parts) in
      let end_first = weight_in-append (is_ended op) (outputs_of config then0 g.before)
      (output_of config mid (Answers v asked) ++ outputs_of config reset g.after) in
      let end_last = weight_in-append (is_ended op) (output_of config mid (Answers v asked)) (outputs_of config reset g.after) in
      let end_up = no_end_up op v bytes in
      let end_here = told_once op (resets config mid asked) mid in
      let no_first = first.ends in
      let no_last = last.ends in
      let state : applied config reset g.after ≡ then1 =
      sym (applied-append config then0 g.before (Answers v asked ∷ g.after)) ∙ ap (applied config then0) is ∙ n.state in
      let pendings : then1.pendings ≡ (answered_state true config mid asked).pendings =
      ap (λ (s : State). s.pendings) (sym state) ∙ last.still.1 ∙ ap (λ b. (answered_state b config mid asked).pendings) did in
      let hops : then1.hops ≡ (answered_state true config mid asked).hops =
      ap (λ (s : State). s.hops) (sym state) ∙ last.still.0 ∙ ap (λ b. (answered_state b config mid asked).hops) did in
      let waits : waits_for (Local op) then1 ≡ waits_for (Local op) (answered_state true config mid asked) =
      λ i. waits_for (Local op) (record then1 { pendings = pendings i }) in
      let none = none_after config mid asked in
      let less = still_unspent op config turn turns h in record {
        done = omega (arith, done_all, done_first, done_last, done_here, none_first, none_last, to, used, spent, taken, taken_sum);
        once = omega (arith, end_all, end_first, end_last, end_up, end_here, no_first, no_last);
        held = held;
        over = record {
          waits = omega (arith, waits, none);
          spent = omega (arith, spent, less);
          closed = λ o. let no : None ≡ Some (Open o.hop) =
              sym (map.get-empty {X = Held} triad_cmp o.triad) ∙ sym (ap (λ (x : Rattle.cip_hops.specs.Hops.Hops). map.get x.held o.triad) hops) ∙ o.at in cc;
        };
      }
    where
      none_after : (config : ModuleSettings) (s : State) (asked : Request) → waits_for (Local op) (answered_state true config s asked) ≡ 0
      none_after config s asked = none_wait config (Local op)

  ends : 1 ≤ ended op turn.outputs → Ends op then0 then1 turn.outputs
  ends some =
      let n = now op config turn turns h in
      let has : Has turn.outputs (outputs.Ended op) = has_ended op turn.outputs some in
      let g = gave_by config then0 turn.event then1 turn.outputs (outputs.Ended op) n has in
      by_way g (ended_by (outputs.Ended op) refl config then0 turn.event (applied config then0 g.before) g.effect g.tells g.gives)
    where
      by_way : (g : GaveBy config then0 turn.event (now op config turn turns h).effects (outputs.Ended op))
          → EndedBy config then0 turn.event (applied config then0 g.before) g.effect (outputs.Ended op) → Ends op then0 then1 turn.outputs
      by_way g (ByTimeOut triad effect_is x_is told) = absurd (cc)
      by_way g (ByRefusal fault effect_is x_is told) = absurd (cc)
      by_way g (ByDrop reason effect_is x_is told) = absurd (cc)
      by_way g (ByReset v asked o effect_is x_is did has told) = by_reset g v asked effect_is did has told

  -- what is over stays so
  over_stays : IsOver op then0 → IsOver op then1 × (weight_in (is_reply (Local op)) turn.outputs ≡ 0)
  over_stays over =
      let all = turn_once op config turn turns h in
      let waits = over.waits in
      let spent = over.spent in (
        record {
          waits = omega (arith, all, waits, spent);
          spent = omega (arith, all, waits, spent);
          closed = λ o. by_before (open_before op config turn turns h o);
        },
        omega (arith, all, waits, spent),
      )
    where
      by_before : IsHeldBy op then0 → ⊥
      by_before (inl some) = let none = over.waits in omega (arith, some, none)
      by_before (inr o) = over.closed o

-- ---- a history

once_over : (op : ℕ) (config : ModuleSettings) (turns : List Turn) → IsHistory config turns
    → (weight (is_ended op) turns ≤ 1) × (1 ≤ weight (is_ended op) turns → IsOver op (state_after config turns))
once_over op config [] h = (omega arith, λ some. absurd (omega (arith, some)))
once_over op config (turn ∷ turns) h = by_now (once_over op config turns h.0) (ended op turn.outputs) refl
  where
    Before : Type 0
    Before = (weight (is_ended op) turns ≤ 1) × (1 ≤ weight (is_ended op) turns → IsOver op (state_after config turns))

    never : IsOver op (state_after config turns) → IsHeldBy op (state_after config turns) → ⊥
    never over (inl some) = let none = over.waits in omega (arith, some, none)
    never over (inr o) = over.closed o

    none_before : Before → Ends op (state_after config turns) (state_after config (turn ∷ turns)) turn.outputs → (n : ℕ) → weight (is_ended op) turns ≡ n
        → weight (is_ended op) turns ≡ 0
    none_before before e zero is = is
    none_before before e (suc n) is = absurd (never (before.1 (omega (arith, is))) e.held)

    by_now : Before → (n : ℕ) → ended op turn.outputs ≡ n
        → (weight (is_ended op) (turn ∷ turns) ≤ 1) × (1 ≤ weight (is_ended op) (turn ∷ turns) → IsOver op (state_after config (turn ∷ turns)))
    by_now before zero is =
        let most = before.0 in (omega (arith, is, most), λ some. (over_stays op config turn turns h (before.1 (omega (arith, is, some)))).0)
    by_now before (suc n) is =
        let e = ends op config turn turns h (omega (arith, is)) in
        let none = none_before before e (weight (is_ended op) turns) refl in
        let once = e.once in
        (omega (arith, none, once), λ some. e.over)

pub ended_once : (op : ℕ) (config : ModuleSettings) (turns : List Turn) → IsHistory config turns → weight (is_ended op) turns ≤ 1
ended_once op config turns h = (once_over op config turns h).0

weight-append : (w : Output → ℕ) (xs ys : List Turn) → weight w (xs ++ ys) ≡ weight w xs + weight w ys
weight-append w [] ys = omega arith
weight-append w (x ∷ xs) ys = let rest = weight-append w xs ys in omega (arith, rest)

pub last_of : (op : ℕ) (config : ModuleSettings) (later before : List Turn) (turn : Turn) → IsHistory config (later ++ (turn ∷ before))
    → Has turn.outputs (outputs.Ended op) → (weight (is_reply (Local op)) (later ++ (turn ∷ [])) ≡ 0) × (weight (is_ended op) later ≡ 0)
last_of op config [] before turn h has =
    let some = weight_has (is_ended op) turn.outputs (outputs.Ended op) has in
    let one = ap mark (eq-eqb op op refl) in
    let e = ends op config turn before h (omega (arith, some, one)) in
    let none = e.done in
    (omega (arith, none), refl)
last_of op config (t ∷ later) before turn h has =
    let rest = last_of op config later before turn h.0 has in
    let some = weight_has (is_ended op) turn.outputs (outputs.Ended op) has in
    let one = ap mark (eq-eqb op op refl) in
    let sum = weight-append (is_ended op) later (turn ∷ before) in
    let over = (once_over op config (later ++ (turn ∷ before)) h.0).1 (omega (arith, some, one, sum)) in
    let still = (over_stays op config t (later ++ (turn ∷ before)) h over).1 in
    let once = ended_once op config (t ∷ (later ++ (turn ∷ before))) h in
    let done_rest = rest.0 in
    let end_rest = rest.1 in
    (omega (arith, still, done_rest), omega (arith, once, some, one, sum, end_rest))
