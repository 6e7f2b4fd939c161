-- An event takes up at most what it asks.
use Rattle.std.proofs.Common.{◌≡◌, ℕ, ◌≤◌, List, [], ◌∷◌, Option, Some, None, refl, sym, ◌∙◌, arith}
use Rattle.cip_pending.specs.declared.entry.UpSide.{UpSide}
use Rattle.cip_laws.specs.EffectLists.{gain, takes_up, IsLight, IsBounded}
use Rattle.cip_config.specs.declared.config.ModuleSettings.{ModuleSettings}
use Rattle.cip_event.specs.declared.event.Event.{Event}
use Rattle.cip_routing.specs.Effects.{Effect, Replies, Answers, Forwards, Begins}
use Rattle.cip_routing.specs.State.{State}
use Rattle.cip_routing.specs.Table.{decide}
use Rattle.cip_laws.specs.Tells.{asker, Tells, AllTell}
use Rattle.cip_laws.proofs.Tells.{decide_tells}
use Rattle.cip_laws.proofs.TellsAskers.{replies_asker, answers_asker, forwards_asker, begins_asker}
use Rattle.cip_laws.specs.Weights.{mark, same_up, is_to, is_asked_by}
use Rattle.cip_laws.proofs.Light.{light_once}

-- what asks nothing takes nothing up
none_asked : (up : UpSide) (config : ModuleSettings) (s : State) (event : Event) (e : Effect) → asker event ≡ None → Tells config s event e
    → takes_up up e ≡ 0
none_asked up config s event (Replies v bytes) none tells = let no : None ≡ Some v = sym none ∙ replies_asker config s event v bytes tells in absurd (cc)
none_asked up config s event (Answers v request) none tells = let no : None ≡ Some v = sym none ∙ answers_asker config s event v request tells in absurd (cc)
none_asked up config s event (Forwards sending kind) none tells =
    let no : None ≡ Some sending.up = sym none ∙ forwards_asker config s event sending kind tells in absurd (cc)
none_asked up config s event (Begins sending opening) none tells =
    let no : None ≡ Some sending.up = sym none ∙ begins_asker config s event sending opening tells in absurd (cc)
none_asked up config s event e none tells = refl

taking_light : (up : UpSide) → IsLight (takes_up up) (λ v. mark (same_up v up))
taking_light up = record {
  replies = λ v bytes. omega arith;
  answers = λ v asked. omega arith;
  forwards = λ sending kind. omega arith;
  begins = λ sending opening. omega arith;
  accepts = λ opening o link v bytes. omega arith;
  spends = λ op. refl;
  closes_on = λ triad sending kind. omega arith;
  closes = λ triad v bytes. omega arith;
  refuses = λ fault. refl;
  drops = λ reason. refl;
}

none_taken : (up : UpSide) (config : ModuleSettings) (s : State) (event : Event) (es : List Effect) → asker event ≡ None → AllTell config s event es
    → gain (takes_up up) es ≡ 0
none_taken up config s event [] none tells = refl
none_taken up config s event (e ∷ es) none tells =
    let here = none_asked up config s event e none tells.0 in let there = none_taken up config s event es none tells.1 in omega (arith, here, there)

bounded : (up : UpSide) (v : Option UpSide) (n : ℕ) → IsBounded (λ v. mark (same_up v up)) v n → (v ≡ None → n ≡ 0) → n ≤ is_to up v
bounded up None n h none = let nothing = none refl in omega (arith, nothing)
bounded up (Some v) n h none = h

pub takes_once : (up : UpSide) (config : ModuleSettings) (s : State) (event : Event) (es : List Effect) → decide config s event ≡ Some es
    → gain (takes_up up) es ≤ is_asked_by up event
takes_once up config s event es e =
    bounded up (asker event) (gain (takes_up up) es) (light_once (takes_up up) (λ v. mark (same_up v up)) (taking_light up) config s event es e)
    (λ none. none_taken up config s event es none (decide_tells config s event es e))
