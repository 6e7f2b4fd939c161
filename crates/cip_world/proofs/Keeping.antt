-- A connection that is not removed stays what it is: what stands under its triad at a later moment has its core.
use Rattle.std.proofs.Common.{◌≡◌, ℕ, ◌≤◌, List, [], ◌∷◌, ◌++◌, Some, None, refl, sym, ap, subst, ◌∙◌, inl, inr, arith, length}
use Rattle.std.specs.FinMap as map
use Rattle.cip_base.specs.declared.triad.Triad.{Triad}
use Rattle.cip_hops.specs.declared.opening.Opening.{Opening}
use Rattle.cip_hops.specs.declared.hop.Hop.{Hop}
use Rattle.cip_hops.specs.declared.hop.Held.{Held}
use Rattle.cip_hops.specs.declared.hop.Held.TheVariants.{Opening as IsOpening, Open}
use Rattle.cip_config.specs.declared.config.ModuleSettings.{ModuleSettings}
use Rattle.cip_event.specs.declared.event.Output.{Output}
use Rattle.cip_laws.specs.Changes.{SameCore, HeldCase, Stands, Begun, Ended, Finished}
use Rattle.cip_routing.specs.Effects.{Effect, apply, applied}
use Rattle.cip_laws.specs.Histories.{Turn, state_after, IsHistory}
use Rattle.cip_routing.specs.State.{State}
use Rattle.cip_laws.specs.Tells.{Tells}
use Rattle.cip_laws.proofs.Stands.{held_cases, same_self}
use Rattle.cip_laws.proofs.Turns.{Turned, newest, by_places}
use Rattle.cip_chassis.specs.Plan.{Plan}
use Rattle.cip_world.specs.declared.journal.Entry.{Entry}
use Rattle.cip_world.specs.declared.journal.Entry.TheVariants.{Step, Lost}
use Rattle.cip_world.specs.Journals.{Journal, part}
use Rattle.cip_world.specs.Mirrors.{IsOlder}
use Rattle.cip_world.specs.Runs.{IsModule, IsRun, state_in}
use Rattle.cip_world.proofs.Moments.{older_length}
use Rattle.cip_world.proofs.Parts.{turn_of, part_step, step_here, run_history}

core_trans : (h : Hop) (old x : Held) → SameCore (Open h) old → SameCore old x → SameCore (Open h) x
core_trans h (IsOpening o ids) x a b = absurd a
core_trans h (Open g) (IsOpening o ids) a b = b
core_trans h (Open g) (Open k) a b = (a.0 ∙ b.0, a.1 ∙ b.1, a.2 ∙ b.2)

held_same : (x y : Held) → Some x ≡ Some y → x ≡ y
held_same x y e = cc

-- ---- in one turn

module _ (config : ModuleSettings) (turns : List Turn) (turn : Turn) (h : IsHistory config (turn ∷ turns)) (q : Triad) (hop : Hop)
    (at : map.get (state_after config turns).hops.held q ≡ Some (Open hop)) where
  abbrev s0 : State
  s0 = state_after config turns

  abbrev AllSame : State → List Output → Type 0
  AllSame s outs = (x : Held) → map.get s.hops.held q ≡ Some x → SameCore (Open hop) x

  now : Turned config s0 turn.event (state_after config (turn ∷ turns)) turn.outputs
  now = newest config turn turns h

  not_free : (triad : Triad) → q ≡ triad → map.get s0.hops.held triad ≡ None → ⊥
  not_free triad same free = let no : Some (Open hop) ≡ None = sym at ∙ ap (map.get s0.hops.held) same ∙ free in cc

  each : (before after : List Effect) (e : Effect) → before ++ (e ∷ after) ≡ now.effects → Tells config s0 turn.event e → AllSame (applied config s0 before) []
      → AllSame (apply config (applied config s0 before) e) []
  each before after e is tells old x held = by_case (held_cases config (applied config s0 before) e q x held)
    where
      by_case : HeldCase (applied config s0 before) e q x → SameCore (Open hop) x
      by_case (Stands stood) = core_trans hop stood.old x (old stood.old stood.at) stood.core
      by_case (Begun sending opening effect_is triad_is held_is) =
          let told = subst (Tells config s0 turn.event) effect_is tells in
          absurd (not_free told.o.fields.triad (triad_is ∙ ap (λ (o : Opening). o.triad) told.opening_is) told.free)
      by_case (Ended opening o link effect_is triad_is held_is) =
          let told = subst (Tells config s0 turn.event) effect_is tells in
          absurd (not_free o.fields.triad (triad_is ∙ ap (λ (p : Opening). p.triad) told.opening_is) told.free)
      by_case (Finished by) = absurd (old (IsOpening by.opening by.ids) by.was)

  pub stays_same : (x : Held) → map.get (state_after config (turn ∷ turns)).hops.held q ≡ Some x → SameCore (Open hop) x
  stays_same =
      by_places config s0 turn.event (state_after config (turn ∷ turns)) turn.outputs now AllSame each
      (λ x held. let same : Open hop ≡ x = held_same (Open hop) x (sym at ∙ held) in subst (SameCore (Open hop)) same (same_self (Open hop)))

-- ---- in a run

-- it stands, with the same core
pub record Still (config : ModuleSettings) (m : ℕ) (j : Journal) (q : Triad) (hop : Hop) : Type 0 where
  pub now : Hop
  pub stands : map.get (state_in config m j).hops.held q ≡ Some (Open now)
  pub core : SameCore (Open hop) (Open now)

as_still : (config : ModuleSettings) (m : ℕ) (j : Journal) (q : Triad) (hop : Hop) (x : Held) → map.get (state_in config m j).hops.held q ≡ Some x
    → SameCore (Open hop) x → Still config m j q hop
as_still config m j q hop (IsOpening o ids) at core = absurd core
as_still config m j q hop (Open g) at core = record { now = g; stands = at; core = core }

-- something stands under the triad at each moment from this on
abbrev pub Holds : ModuleSettings → ℕ → Journal → Journal → Triad → Type 0
Holds config m from j q = (l : Journal) → IsOlder l j → length from ≤ length l → (x : Held) × (map.get (state_in config m l).hops.held q ≡ Some x)

pub still : (t : Plan) (k j : Journal) (m : ℕ) (config : ModuleSettings) → IsRun t j → IsModule t m config → IsOlder k j → (q : Triad) (hop : Hop)
    → map.get (state_in config m k).hops.held q ≡ Some (Open hop) → Holds config m k j q → Still config m j q hop
still t k [] m config run is older q hop at holds =
    record { now = hop; stands = ap (λ (x : Journal). map.get (state_in config m x).hops.held q) (sym older) ∙ at; core = same_self (Open hop) }
still t k (e ∷ j) m config run is (inl same) q hop at holds =
    record { now = hop; stands = ap (λ (x : Journal). map.get (state_in config m x).hops.held q) (sym same) ∙ at; core = same_self (Open hop) }
still t k (e ∷ j) m config run is (inr older) q hop at holds =
    let old = still t k j m config run.0 is older q hop at (λ l earlier long. holds l (inr earlier) long) in
    let long = older_length k j older in
    let now = holds (e ∷ j) (inl refl) (omega (arith, long)) in
    as_still config m (e ∷ j) q hop now.0 now.1 (core_trans hop (Open old.now) now.0 old.core (one_more e run old.now old.stands now.0 now.1))
  where
    one_more : (e : Entry) → (y : IsRun t (e ∷ j)) → (g : Hop) → map.get (state_in config m j).hops.held q ≡ Some (Open g) → (x : Held)
        → map.get (state_in config m (e ∷ j)).hops.held q ≡ Some x → SameCore (Open g) x
    one_more (Step n input outs) y g was =
        part_step (λ turns. (x : Held) → map.get (state_after config turns).hops.held q ≡ Some x → SameCore (Open g) x) t m n input outs j y.1
        (λ same. stays_same config (part m j) (turn_of y.1.event outs)
        (run_history t j m config y.0 is, step_here t j m n.0 config input outs same is y.1) q g was)
        (λ x held. let both : Some (Open g) ≡ Some x = sym was ∙ held in subst (SameCore (Open g)) (held_same (Open g) x both) (same_self (Open g)))
    one_more (Lost frame) y g was =
        λ x held. let both : Some (Open g) ≡ Some x = sym was ∙ held in subst (SameCore (Open g)) (held_same (Open g) x both) (same_self (Open g))
