-- Each connection id is drawn once, and what has it keeps what was opened with it.
use Rattle.std.proofs.Common.{◌≡◌, ℕ, ◌+◌, ◌≤◌, ◌<◌, Bool, true, false, cond, List, [], ◌∷◌, ◌++◌, Option, Some, None, refl, sym, ap, subst, ◌∙◌, ◌⊎◌, inl, inr}
use Rattle.std.proofs.Common.{arith}
use Rattle.std.specs.FinMap as map
use Rattle.std.specs.Prelude.{option_and_then}
use Rattle.cip_base.specs.declared.triad.Triad.{Triad}
use Rattle.cip_base.specs.Triads.{triad_cmp}
use Rattle.cip_pending.specs.declared.entry.UpSide.{UpSide}
use Rattle.cip_hops.specs.declared.opening.Opening.{Opening}
use Rattle.cip_hops.specs.declared.opening.OwnIds.{OwnIds}
use Rattle.cip_hops.specs.declared.hop.Held.{Held}
use Rattle.cip_hops.specs.declared.hop.Held.TheVariants.{Opening as IsOpening}
use Rattle.cip_hops.specs.Sides.{up_is_link, down_is_link, own_ids, ids_drawn}
use Rattle.cip_hops.specs.Hops.{opening_of, ids_of}
use Rattle.cip_laws.specs.EffectLists.{gain, births, IsLight, IsBounded}
use Rattle.cip_config.specs.declared.config.ModuleSettings.{ModuleSettings}
use Rattle.cip_event.specs.declared.event.Event.{Event}
use Rattle.cip_event.specs.declared.event.Output.{Output}
use Rattle.cip_routing.specs.Effects.{Effect, Answers, Begins, Accepts, apply, applied}
use Rattle.cip_routing.specs.State.{State}
use Rattle.cip_routing.specs.Table.{decide}
use Rattle.cip_laws.specs.Tells.{asker, Tells, AllTell}
use Rattle.cip_laws.proofs.Tells.{decide_tells}
use Rattle.cip_laws.proofs.TellsAskers.{begins_asker, open_asker, answers_asker}
use Rattle.cip_laws.specs.Births.{opened_by, or_else, first_opened, Past, IsBirth, HasId}
use Rattle.cip_laws.specs.Histories.{Turn, state_after, IsHistory}
use Rattle.cip_laws.proofs.Light.{light_once}
use Rattle.cip_laws.proofs.Puts.{drawn_ids}
use Rattle.cip_laws.proofs.Rises.{drawn_from, ids_after, ids_rise}
use Rattle.cip_laws.proofs.Stands.{same_opening, same_ids, HeldCase, Stands, Begun, Ended, Finished, held_cases}
use Rattle.cip_laws.proofs.Turns.{Turned, newest, by_places}

pub births_light : IsLight births (λ v. 1)
births_light = record {
  replies = λ v bytes. omega arith;
  answers = λ v asked. omega arith;
  forwards = λ sending kind. omega arith;
  begins = λ sending opening. omega arith;
  accepts = λ opening o link v bytes. omega arith;
  spends = λ op. refl;
  closes_on = λ triad sending kind. omega arith;
  closes = λ triad v bytes. omega arith;
  refuses = λ fault. refl;
  drops = λ reason. refl;
}

none_born : (config : ModuleSettings) (s : State) (event : Event) (e : Effect) → asker event ≡ None → Tells config s event e → births e ≡ 0
none_born config s event (Begins sending opening) none tells =
    let no : None ≡ Some sending.up = sym none ∙ begins_asker config s event sending opening tells in absurd (cc)
none_born config s event (Accepts opening o link) none tells =
    let no : None ≡ Some tells.up = sym none ∙ open_asker config s event tells.up o tells.asks in absurd (cc)
none_born config s event (Answers up asked) none tells =
    let no : None ≡ Some up = sym none ∙ answers_asker config s event up asked tells in absurd (cc)
none_born config s event e none tells = refl

pub none_births : (config : ModuleSettings) (s : State) (event : Event) (es : List Effect) → asker event ≡ None → AllTell config s event es
    → gain births es ≡ 0
none_births config s event [] none tells = refl
none_births config s event (e ∷ es) none tells =
    let here = none_born config s event e none tells.0 in let there = none_births config s event es none tells.1 in omega (arith, here, there)

at_most_one : (v : Option UpSide) (n : ℕ) → IsBounded (λ v. 1) v n → (v ≡ None → n ≡ 0) → n ≤ 1
at_most_one None n h none = let nothing = none refl in omega (arith, nothing)
at_most_one (Some v) n h none = h

pub born_once_a_turn : (config : ModuleSettings) (s : State) (event : Event) (es : List Effect) → decide config s event ≡ Some es → gain births es ≤ 1
born_once_a_turn config s event es e =
    at_most_one (asker event) (gain births es) (light_once births (λ v. 1) births_light config s event es e)
    (λ none. none_births config s event es none (decide_tells config s event es e))

pub gain-append : (d : Effect → ℕ) (es fs : List Effect) → gain d (es ++ fs) ≡ gain d es + gain d fs
gain-append d [] fs = omega arith
gain-append d (e ∷ es) fs = let h = gain-append d es fs in omega (arith, h)

-- ---- the one effect that opens

opened_births : (e : Effect) (o : Opening) → opened_by e ≡ Some o → births e ≡ 1
opened_births (Begins sending opening) o h = refl
opened_births (Accepts opening open_ link) o h = refl
opened_births e o h = absurd (cc)

unborn_opens : (e : Effect) → births e ≡ 0 → opened_by e ≡ None
unborn_opens (Begins sending opening) h = absurd (omega (arith, h))
unborn_opens (Accepts opening open_ link) h = absurd (omega (arith, h))
unborn_opens (Answers up asked) h = refl
unborn_opens e h = refl

unborn_draws : (config : ModuleSettings) (s : State) (e : Effect) → births e ≡ 0 → drawn_ids config s e ≡ 0
unborn_draws config s (Begins sending opening) h = absurd (omega (arith, h))
unborn_draws config s (Accepts opening open_ link) h = absurd (omega (arith, h))
unborn_draws config s (Answers up asked) h = absurd (omega (arith, h))
unborn_draws config s e h = refl

none_drawn : (config : ModuleSettings) (s : State) (es : List Effect) → gain births es ≡ 0 → drawn_from config drawn_ids s es ≡ 0
none_drawn config s [] h = refl
none_drawn config s (e ∷ es) h =
    let here = unborn_draws config s e (omega (arith, h)) in
    let there = none_drawn config (apply config s e) es (omega (arith, h)) in
    omega (arith, here, there)

first_is : (before after : List Effect) (e : Effect) (o : Opening) → opened_by e ≡ Some o → gain births (before ++ (e ∷ after)) ≤ 1
    → first_opened (before ++ (e ∷ after)) ≡ Some o
first_is [] after e o h most = ap (λ x. or_else x (first_opened after)) h
first_is (x ∷ before) after e o h most =
    let one = opened_births e o h in
    let sum = gain-append births before (e ∷ after) in
    let none = unborn_opens x (omega (arith, one, sum, most)) in
    ap (λ y. or_else y (first_opened (before ++ (e ∷ after)))) none ∙ first_is before after e o h (omega (arith, most))

-- ---- what is held was born

module _ (config : ModuleSettings) (turns : List Turn) (turn : Turn)
    (now : Turned config (state_after config turns) turn.event (state_after config (turn ∷ turns)) turn.outputs) where
  abbrev s0 : State
  s0 = state_after config turns

  abbrev Born : Opening → OwnIds → Type 0
  Born o ids = IsBirth config o ids turns turn ⊎ Past (IsBirth config o ids) turns

  abbrev AllBorn : State → List Output → Type 0
  AllBorn s outs = (q : Triad) (x : Held) → map.get s.hops.held q ≡ Some x → Born (opening_of x) (ids_of x)

  pub birth : (before after : List Effect) (e : Effect) (o : Opening) → before ++ (e ∷ after) ≡ now.effects → opened_by e ≡ Some o
      → IsBirth config o (own_ids (applied config s0 before).hops.next o) turns turn
  birth before after e o is h =
      let once : gain births (before ++ (e ∷ after)) ≤ 1 = subst (λ (es : List Effect). gain births es ≤ 1) (sym is)
      (born_once_a_turn config s0 turn.event now.effects now.decided) in
      let one = opened_births e o h in
      let sum = gain-append births before (e ∷ after) in
      let none = none_drawn config s0 before (omega (arith, once, one, sum)) in
      let next = ids_after config s0 before in
      let same : (applied config s0 before).hops.next ≡ s0.hops.next = omega (arith, none, next) in
      record {
        is = ap (option_and_then first_opened) (now.decided ∙ ap (λ (es : List Effect). Some es) (sym is)) ∙ first_is before after e o h once;
        ids_are = ap (λ (n : ℕ). own_ids n o) same;
      }

  as_opening : (x : Held) (o : Opening) (ids : OwnIds) → opening_of x ≡ o → ids_of x ≡ ids → Born o ids → Born (opening_of x) (ids_of x)
  as_opening x o ids e f h = subst (λ (i : OwnIds). Born (opening_of x) i) (sym f) (subst (λ (p : Opening). Born p ids) (sym e) h)

  born_each : (before after : List Effect) (e : Effect) → before ++ (e ∷ after) ≡ now.effects → AllBorn (applied config s0 before) []
      → AllBorn (apply config (applied config s0 before) e) []
  born_each before after e is h q x at = by_case (held_cases config (applied config s0 before) e q x at)
    where
      by_case : HeldCase (applied config s0 before) e q x → Born (opening_of x) (ids_of x)
      by_case (Stands stood) = as_opening x (opening_of stood.old) (ids_of stood.old) (sym (same_opening stood.old x stood.core))
          (sym (same_ids stood.old x stood.core)) (h q stood.old stood.at)
      by_case (Begun sending opening effect_is triad_is held_is) =
          as_opening x opening (own_ids (applied config s0 before).hops.next opening) (ap opening_of held_is) (ap ids_of held_is)
          (inl (birth before after e opening is (ap opened_by effect_is)))
      by_case (Ended opening o link effect_is triad_is held_is) =
          as_opening x opening (own_ids (applied config s0 before).hops.next opening) (ap opening_of held_is) (ap ids_of held_is)
          (inl (birth before after e opening is (ap opened_by effect_is)))
      by_case (Finished opened) = as_opening x opened.opening opened.ids (ap opening_of opened.is) (ap ids_of opened.is)
          (h q (IsOpening opened.opening opened.ids) opened.was)

pub held_born : (config : ModuleSettings) (turns : List Turn) → IsHistory config turns → (q : Triad) (x : Held)
    → map.get (state_after config turns).hops.held q ≡ Some x
    → Past (IsBirth config (opening_of x) (ids_of x)) turns
held_born config [] h q x at = let none : None ≡ Some x = sym (map.get-empty {X = Held} triad_cmp q) ∙ at in absurd (cc)
held_born config (turn ∷ turns) h q x at =
    let now = newest config turn turns h in
    let all : AllBorn config turns turn now (state_after config (turn ∷ turns)) turn.outputs =
    by_places config (state_after config turns) turn.event (state_after config (turn ∷ turns)) turn.outputs now (AllBorn config turns turn now)
    (λ before after e is tells old. born_each config turns turn now before after e is old) (λ q x at. inr (held_born config turns h.0 q x at)) in
    all q x at

-- ---- an id is drawn once

up_range : (next id : ℕ) (u d : Bool) → cond u (Some (next + cond d 1 0)) None ≡ Some id → (next ≤ id) × (id < next + (cond d 1 0 + cond u 1 0))
up_range next id true d e = let is : next + cond d 1 0 ≡ id = cc in (omega (arith, is), omega (arith, is))
up_range next id false d e = absurd (cc)

down_range : (next id : ℕ) (u d : Bool) → cond d (Some next) None ≡ Some id → (next ≤ id) × (id < next + (cond d 1 0 + cond u 1 0))
down_range next id u true e = let is : next ≡ id = cc in (omega (arith, is), omega (arith, is))
down_range next id u false e = absurd (cc)

pub own_range : (next id : ℕ) (o : Opening) → HasId (own_ids next o) id → (next ≤ id) × (id < next + ids_drawn o)
own_range next id o (inl e) = up_range next id (up_is_link o.up) (down_is_link o.down) e
own_range next id o (inr e) = down_range next id (up_is_link o.up) (down_is_link o.down) e

opened_draws : (config : ModuleSettings) (s : State) (e : Effect) (o : Opening) → opened_by e ≡ Some o → drawn_ids config s e ≡ ids_drawn o
opened_draws config s (Begins sending opening) o h = let same : opening ≡ o = cc in ap ids_drawn same
opened_draws config s (Accepts opening open_ link) o h = let same : opening ≡ o = cc in ap ids_drawn same
opened_draws config s e o h = absurd (cc)

by_first : (config : ModuleSettings) (s : State) (e : Effect) (es : List Effect) (o : Opening) (n : ℕ) (x : Option Opening) → opened_by e ≡ x
    → or_else x (first_opened es) ≡ Some o
    → (first_opened es ≡ Some o → ids_drawn o ≤ n) → ids_drawn o ≤ drawn_ids config s e + n
by_first config s e es o n None t r later = let rest = later r in omega (arith, rest)
by_first config s e es o n (Some p) t r later =
    let same : p ≡ o = cc in let here = opened_draws config s e o (t ∙ ap (λ (y : Opening). Some y) same) in omega (arith, here)

first_draws : (config : ModuleSettings) (s : State) (es : List Effect) (o : Opening) → first_opened es ≡ Some o
    → ids_drawn o ≤ drawn_from config drawn_ids s es
first_draws config s [] o h = absurd (cc)
first_draws config s (e ∷ es) o h =
    by_first config s e es o (drawn_from config drawn_ids (apply config s e) es) (opened_by e) refl h (λ r. first_draws config (apply config s e) es o r)

-- the ids of a birth are from the next before it, and below the next after it
pub birth_range : (config : ModuleSettings) (o : Opening) (ids : OwnIds) (turns : List Turn) (turn : Turn) (id : ℕ) → IsHistory config (turn ∷ turns)
    → IsBirth config o ids turns turn → HasId ids id
    → ((state_after config turns).hops.next ≤ id) × (id < (state_after config (turn ∷ turns)).hops.next)
birth_range config o ids turns turn id h b has =
    let now = newest config turn turns h in
    let first : first_opened now.effects ≡ Some o = sym (ap (option_and_then first_opened) now.decided) ∙ b.is in
    let drawn = first_draws config (state_after config turns) now.effects o first in
    let next = ids_after config (state_after config turns) now.effects in
    let same = ap (λ (s : State). s.hops.next) now.state in
    let range = own_range (state_after config turns).hops.next id o (subst (λ (i : OwnIds). HasId i id) b.ids_are has) in
    let low = range.0 in let high = range.1 in
    (low, omega (arith, high, drawn, next, same))

pub past_range : (config : ModuleSettings) (o : Opening) (ids : OwnIds) (turns : List Turn) (id : ℕ) → IsHistory config turns
    → Past (IsBirth config o ids) turns → HasId ids id → id < (state_after config turns).hops.next
past_range config o ids [] id h past has = absurd past
past_range config o ids (turn ∷ turns) id h (inl now) has = (birth_range config o ids turns turn id h now has).1
past_range config o ids (turn ∷ turns) id h (inr old) has =
    let below = past_range config o ids turns id h.0 old has in let rise = ids_rise config turn turns h in omega (arith, below, rise)

same_birth : (config : ModuleSettings) (o p : Opening) (ids own : OwnIds) (turns : List Turn) (turn : Turn) → IsBirth config o ids turns turn
    → IsBirth config p own turns turn → (o ≡ p) × (ids ≡ own)
same_birth config o p ids own turns turn a b =
    let both : Some o ≡ Some p = sym a.is ∙ b.is in
    let one : o ≡ p = cc in
    (one, a.ids_are ∙ ap (own_ids (state_after config turns).hops.next) one ∙ sym b.ids_are)

-- of two that were born in a history and have one own id, each is the other
pub born_once : (config : ModuleSettings) (o p : Opening) (ids own : OwnIds) (turns : List Turn) (id : ℕ) → IsHistory config turns
    → Past (IsBirth config o ids) turns → Past (IsBirth config p own) turns
    → HasId ids id → HasId own id → (o ≡ p) × (ids ≡ own)
born_once config o p ids own [] id h a b has too = absurd a
born_once config o p ids own (turn ∷ turns) id h (inl a) (inl b) has too = same_birth config o p ids own turns turn a b
born_once config o p ids own (turn ∷ turns) id h (inl a) (inr b) has too =
    let range = birth_range config o ids turns turn id h a has in let low = range.0 in let high =
    past_range config p own turns id h.0 b too in absurd (omega (arith, low, high))
born_once config o p ids own (turn ∷ turns) id h (inr a) (inl b) has too =
    let range = birth_range config p own turns turn id h b too in let low = range.0 in let high =
    past_range config o ids turns id h.0 a has in absurd (omega (arith, low, high))
born_once config o p ids own (turn ∷ turns) id h (inr a) (inr b) has too = born_once config o p ids own turns id h.0 a b has too
