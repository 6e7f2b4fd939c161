-- A turn of a module is its effects, in order.
use Rattle.std.proofs.Common.{◌≡◌, ◌∙◌, List, [], ◌∷◌, ◌++◌, Option, Some, None, refl, sym, ap, subst, append_assoc, append-nil}
use Rattle.cip_config.specs.declared.config.ModuleSettings.{ModuleSettings}
use Rattle.cip_event.specs.declared.event.Event.{Event}
use Rattle.cip_event.specs.declared.event.Output.{Output}
use Rattle.cip_routing.specs.Effects.{Effect, apply, output_of, applied, outputs_of}
use Rattle.cip_routing.specs.State.{State}
use Rattle.cip_routing.specs.Table.{Stepped, decide, after_effects, table_step}
use Rattle.cip_laws.specs.Tells.{Tells, AllTell}
use Rattle.cip_laws.proofs.Tells.{decide_tells}
use Rattle.cip_laws.specs.Histories.{Turn, state_after, IsHistory}

pub record Turned (config : ModuleSettings) (s : State) (event : Event) (new : State) (outs : List Output) : Type 0 where
  pub effects : List Effect
  pub decided : decide config s event ≡ Some effects
  pub tells : AllTell config s event effects
  pub state : applied config s effects ≡ new
  pub out : outputs_of config s effects ≡ outs

by_decided : (config : ModuleSettings) (s : State) (event : Event) (o : Option (List Effect)) (st : Stepped)
    → decide config s event ≡ o → after_effects config s o ≡ Some st → Turned config s event st.state st.outputs
by_decided config s event None st d e = absurd (cc)
by_decided config s event (Some es) st d e =
    let same : record { state = applied config s es; outputs = outputs_of config s es } ≡ st = cc in
    record {
      effects = es;
      decided = d;
      tells = decide_tells config s event es d;
      state = ap (λ (x : Stepped). x.state) same;
      out = ap (λ (x : Stepped). x.outputs) same;
    }

pub turned : (config : ModuleSettings) (s : State) (event : Event) (new : State) (outs : List Output)
    → table_step config s event ≡ Some (record { state = new; outputs = outs }) → Turned config s event new outs
turned config s event new outs e = by_decided config s event (decide config s event) (record { state = new; outputs = outs }) refl e

-- the newest turn of a history
pub newest : (config : ModuleSettings) (turn : Turn) (turns : List Turn) → IsHistory config (turn ∷ turns)
    → Turned config (state_after config turns) turn.event (state_after config (turn ∷ turns)) turn.outputs
newest config turn turns h = turned config (state_after config turns) turn.event (state_after config (turn ∷ turns)) turn.outputs h.1

-- what each effect keeps, of the state and the outputs so far, a turn keeps
module _ (config : ModuleSettings) (s0 : State) (event : Event) (I : State → List Output → Type 0)
    (each : (s : State) (outs : List Output) (e : Effect) → Tells config s0 event e → I s outs → I (apply config s e) (outs ++ output_of config s e)) where
  pub by_effects : (s : State) (outs : List Output) (es : List Effect) → AllTell config s0 event es → I s outs
      → I (applied config s es) (outs ++ outputs_of config s es)
  by_effects s outs [] tells h = subst (λ (os : List Output). I s os) (sym (append-nil outs)) h
  by_effects s outs (e ∷ es) tells h =
      subst (λ (os : List Output). I (applied config (apply config s e) es) os)
      (append_assoc outs (output_of config s e) (outputs_of config (apply config s e) es))
      (by_effects (apply config s e) (outs ++ output_of config s e) es tells.1 (each s outs e tells.0 h))

  pub by_turn : (new : State) (outs : List Output) → Turned config s0 event new outs → I s0 [] → I new outs
  by_turn new outs turn h =
      subst (λ (x : State). I x outs) turn.state
      (subst (λ (os : List Output). I (applied config s0 turn.effects) os) turn.out (by_effects s0 [] turn.effects turn.tells h))

-- ---- the same, where each effect knows those before it and those after it

pub applied-append : (config : ModuleSettings) (s : State) (es fs : List Effect) → applied config s (es ++ fs) ≡ applied config (applied config s es) fs
applied-append config s [] fs = refl
applied-append config s (e ∷ es) fs = applied-append config (apply config s e) es fs

pub outputs-append : (config : ModuleSettings) (s : State) (es fs : List Effect)
    → outputs_of config s (es ++ fs) ≡ outputs_of config s es ++ outputs_of config (applied config s es) fs
outputs-append config s [] fs = refl
outputs-append config s (e ∷ es) fs =
    ap (λ (os : List Output). output_of config s e ++ os) (outputs-append config (apply config s e) es fs)
    ∙ sym (append_assoc (output_of config s e) (outputs_of config (apply config s e) es) (outputs_of config (applied config (apply config s e) es) fs))

module _ (config : ModuleSettings) (s0 : State) (event : Event) (all : List Effect) (I : State → List Output → Type 0)
    (each : (before after : List Effect) (e : Effect) → before ++ (e ∷ after) ≡ all → Tells config s0 event e
    → I (applied config s0 before) (outputs_of config s0 before)
    → I (apply config (applied config s0 before) e) (outputs_of config s0 before ++ output_of config (applied config s0 before) e)) where
  one_more : (before after : List Effect) (e : Effect) → before ++ (e ∷ after) ≡ all → Tells config s0 event e
      → I (applied config s0 before) (outputs_of config s0 before)
      → I (applied config s0 (before ++ (e ∷ []))) (outputs_of config s0 (before ++ (e ∷ [])))
  one_more before after e is tells h =
      let s = applied config s0 before in
      subst (λ (x : State). I x (outputs_of config s0 (before ++ (e ∷ [])))) (sym (applied-append config s0 before (e ∷ [])))
      (subst (λ (os : List Output). I (apply config s e) os)
      (ap (λ (os : List Output). outputs_of config s0 before ++ os) (sym (append-nil (output_of config s e)))
      ∙ sym (outputs-append config s0 before (e ∷ [])))
      (each before after e is tells h))

  from_there : (before after : List Effect) → before ++ after ≡ all → AllTell config s0 event after
      → I (applied config s0 before) (outputs_of config s0 before)
      → I (applied config s0 all) (outputs_of config s0 all)
  from_there before [] is tells h =
      subst (λ (es : List Effect). I (applied config s0 es) (outputs_of config s0 es)) (sym (append-nil before) ∙ is) h
  from_there before (e ∷ after) is tells h =
      from_there (before ++ (e ∷ [])) after (append_assoc before (e ∷ []) after ∙ is) tells.1 (one_more before after e is tells.0 h)

-- what each effect keeps, among those of its turn, the turn keeps
pub by_places : (config : ModuleSettings) (s0 : State) (event : Event) (new : State) (outs : List Output) (turn : Turned config s0 event new outs)
    (I : State → List Output → Type 0)
    → ((before after : List Effect) (e : Effect) → before ++ (e ∷ after) ≡ turn.effects → Tells config s0 event e
    → I (applied config s0 before) (outputs_of config s0 before)
    → I (apply config (applied config s0 before) e) (outputs_of config s0 before ++ output_of config (applied config s0 before) e))
    → I s0 [] → I new outs
by_places config s0 event new outs turn I each h =
    subst (λ (x : State). I x outs) turn.state
    (subst (λ (os : List Output). I (applied config s0 turn.effects) os) turn.out
    (from_there config s0 event turn.effects I each [] turn.effects refl turn.tells h))
