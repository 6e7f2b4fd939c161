-- Where a datum that an assembly makes is passed, only counts have changed: each connection stood before the event with the same core.
use Rattle.std.proofs.Common.{◌≡◌, ℕ, true, false, cond, List, [], ◌∷◌, ◌++◌, Option, Some, None, eqb, refl, sym, subst, ◌∙◌}
use Rattle.std.specs.FinMap as map
use Rattle.cip_base.specs.Fields.{word}
use Rattle.cip_base.specs.declared.triad.Triad.{Triad}
use Rattle.cip_hops.specs.declared.hop.Hop.{Hop}
use Rattle.cip_hops.specs.declared.hop.Held.{Held}
use Rattle.cip_hops.specs.declared.hop.Held.TheVariants.{Opening as IsOpening, Open}
use Rattle.cip_hops.specs.declared.hop.Side.TheVariants.{Up, Down}
use Rattle.cip_config.specs.declared.config.ModuleSettings.{ModuleSettings}
use Rattle.cip_event.specs.declared.event.Command.TheVariants as commands
use Rattle.cip_event.specs.declared.event.Event.TheVariants as events
use Rattle.cip_laws.specs.EffectLists.{HasStood, IsMade, AreMade}
use Rattle.cip_routing.specs.Effects.{Effect, Passes, Counts, RefusesCommand, apply, applied}
use Rattle.cip_routing.specs.Produced.{reads_from, next_count, made_effects, held_effects, each_effects}
use Rattle.cip_routing.specs.State.{State}
use Rattle.cip_routing.specs.Table.{produce_effects, decide}
use Rattle.cip_laws.proofs.Stands.{SameCore, same_self, Stood, HeldCase, Stands, Begun, Ended, Finished, held_cases}

are_made : (es fs : List Effect) → AreMade es → AreMade fs → AreMade (es ++ fs)
are_made [] fs h k = k
are_made (e ∷ es) fs h k = (h.0, are_made es fs h.1 k)

made_before : (es fs : List Effect) → AreMade (es ++ fs) → AreMade es
made_before [] fs h = tt
made_before (e ∷ es) fs h = (h.0, made_before es fs h.1)

made_data : (held : List ℕ) (hop : Hop) → AreMade (made_effects held hop)
made_data held hop =
    elim (eqb hop.opening.class 1) as (λ b. AreMade (cond b
    (Counts hop.opening.triad Down (next_count hop.produced) ∷ Passes hop.opening.triad Up (word (next_count hop.produced) ++ held) ∷ [])
    (Passes hop.opening.triad Up held ∷ []))) [ true ↦ (tt, (tt, tt)) | false ↦ (tt, tt) ]

held_data : (instance : ℕ) (held : List ℕ) (x : Held) → AreMade (held_effects instance held x)
held_data instance held (IsOpening o ids) = tt
held_data instance held (Open hop) = elim (reads_from instance hop.opening.down) as (λ b. AreMade (cond b (made_effects held hop) []))
    [ true ↦ made_data held hop | false ↦ tt ]

each_data : (instance : ℕ) (held : List ℕ) (es : List (Triad × Held)) → AreMade (each_effects instance held es)
each_data instance held [] = tt
each_data instance held (e ∷ es) =
    are_made (held_effects instance held e.1) (each_effects instance held es) (held_data instance held e.1) (each_data instance held es)

produce_data : (s : State) (instance : ℕ) (held : Option (List ℕ)) → AreMade (produce_effects s instance held)
produce_data s instance None = (tt, tt)
produce_data s instance (Some held) = each_data instance held (map.entries s.hops.held)

-- the list of a Produce holds only counts and data, or the refusal
pub produced_made : (config : ModuleSettings) (s : State) (instance : ℕ) (es : List Effect)
    → decide config s (events.Command (commands.Produce instance)) ≡ Some es → AreMade es
produced_made config s instance es decided =
    let whole : Some (produce_effects s instance (map.get s.assemblies instance)) ≡ Some es = decided in
    let same : produce_effects s instance (map.get s.assemblies instance) ≡ es = cc in
    subst AreMade same (produce_data s instance (map.get s.assemblies instance))

-- ---- what stands

core_trans : (x y z : Held) → SameCore x y → SameCore y z → SameCore x z
core_trans (IsOpening o a) (IsOpening p b) (IsOpening q c) h k = (h.0 ∙ k.0, h.1 ∙ k.1)
core_trans (Open f) (Open g) (Open k) h l = (h.0 ∙ l.0, h.1 ∙ l.1, h.2 ∙ l.2)
core_trans (IsOpening o a) (Open g) z h k = absurd h
core_trans (Open f) (IsOpening p b) z h k = absurd h
core_trans (IsOpening o a) (IsOpening p b) (Open g) h k = absurd k
core_trans (Open f) (Open g) (IsOpening q c) h k = absurd k

by_case : (s : State) (e : Effect) (q : Triad) (x : Held) → IsMade e → HeldCase s e q x → Stood s.hops q x
by_case s e q x made (Stands stood) = stood
by_case s e q x made (Begun sending opening is triad_is held_is) = absurd (subst IsMade is made)
by_case s e q x made (Ended opening o link is triad_is held_is) = absurd (subst IsMade is made)
by_case s e q x made (Finished by) = absurd (subst IsMade by.effect_is made)

same_waits : (config : ModuleSettings) (s : State) (e : Effect) → IsMade e → (apply config s e).pendings ≡ s.pendings
same_waits config s (Counts triad Down count) made = refl
same_waits config s (Passes triad Up bytes) made = refl
same_waits config s (RefusesCommand fault) made = refl
same_waits config s e made = absurd made

stood_list : (config : ModuleSettings) (s : State) (es : List Effect) → AreMade es → HasStood s (applied config s es)
stood_list config s [] made = record { pendings = refl; held = λ q x at. record { old = x; at = at; core = same_self x } }
stood_list config s (e ∷ es) made =
    let later = stood_list config (apply config s e) es made.1 in
    record {
      pendings = later.pendings ∙ same_waits config s e made.0;
      held = λ q x at.
          let stood = later.held q x at in
          let now = by_case s e q stood.old made.0 (held_cases config s e q stood.old stood.at) in
          record { old = now.old; at = now.at; core = core_trans now.old stood.old x now.core stood.core };
    }

pub produced_stood : (config : ModuleSettings) (s : State) (instance : ℕ) (es before after : List Effect) (e : Effect)
    → decide config s (events.Command (commands.Produce instance)) ≡ Some es → before ++ (e ∷ after) ≡ es → HasStood s (applied config s before)
produced_stood config s instance es before after e decided is =
    stood_list config s before (made_before before (e ∷ after) (subst AreMade (sym is) (produced_made config s instance es decided)))
