-- A step of one of several modules, whatever the modules are.
use Rattle.std.proofs.Common.{◌≡◌, ℕ, List, [], ◌∷◌, Some, ◌<◌, suc, zero, length, map, sym, ap, ◌∙◌, IfOk, Result, Ok, Err, get_or, slice_get, slice_set}
use Rattle.std.proofs.lemmas.List.{map-set}
use Rattle.std.proofs.lemmas.Option.{slice_get-get_or}
use Rattle.std.proofs.Math.Seq.{map-set_same}
use Rattle.cip_config.specs.declared.config.ModuleSettings.{ModuleSettings}
use Rattle.cip_event.specs.declared.event.Event.{Event}
use Rattle.cip_event.specs.declared.event.Output.{Output}
use Rattle.cip_routing.specs.declared.contract.StepFault.{StepFault}
use Rattle.cip_routing.specs.declared.contract.StepFault.TheVariants.{NoMemory, ClockFull}
use Rattle.std.specs.Prelude.{IfErr, OnErr}
use Rattle.cip_routing.specs.State.{State}
use Rattle.cip_routing.specs.Steps.{IsStep, IsStepFault}
use Rattle.cip_world.specs.Worlds.{IsStepOf, IsFull}

pub slice_get-map : {A B : Type 0} (f : A → B) (xs : List A) (i : ℕ) (x : A) → slice_get xs i ≡ Some x → slice_get (map f xs) i ≡ Some (f x)
slice_get-map f [] i x e = cc
slice_get-map f (y ∷ ys) zero x e = let same : y ≡ x = cc in ap (λ v. Some (f v)) same
slice_get-map f (y ∷ ys) (suc i) x e = slice_get-map f ys i x e

pub at_place : {B : Type 0} (boxes : List B) (m : ℕ) (old : B) → m < length boxes → old ≡ get_or boxes m old → slice_get boxes m ≡ Some old
at_place boxes m old h is = slice_get-get_or boxes m old h ∙ ap (λ v. Some v) (sym is)

pub step_at_ok : {B X : Type 0} (config : B → ModuleSettings) (state : B → State) (outputs_in : X
    → List Output) (boxes : List B) (m : ℕ) (old new : B) (event : Event) (r : Result X StepFault) →
    slice_get boxes m ≡ Some old →
    IfOk r (λ v. IsStep (config old) (state old) event (state new) (outputs_in v)) →
    IfOk r (λ v. IsStepOf (map config boxes) (map state boxes) m event (map state (slice_set boxes m new)) (outputs_in v))
step_at_ok config state outputs_in boxes m old new event (Ok v) at h =
    record {
      config = config old;
      old = state old;
      new = state new;
      at_config = slice_get-map config boxes m old at;
      at_state = slice_get-map state boxes m old at;
      step = h;
      changed = map-set state boxes m new;
    }
step_at_ok config state outputs_in boxes m old new event (Err e) at h = tt

pub step_at_err : {B X : Type 0} (config : B → ModuleSettings) (state : B → State) (boxes : List B) (m : ℕ) (old new : B)
    (event : Event) (r : Result X StepFault) →
    old ≡ get_or boxes m old → IsStepFault (config old) (state old) event (state new) r →
    OnErr r (map state (slice_set boxes m new) ≡ map state boxes)
step_at_err config state boxes m old new event (Ok v) is h = tt
step_at_err config state boxes m old new event (Err (NoMemory back)) is h = map-set_same state boxes m new old (h.1 ∙ ap state is)
step_at_err config state boxes m old new event (Err (ClockFull back)) is h = map-set_same state boxes m new old (h.1 ∙ ap state is)

pub step_at_full : {B X : Type 0} (config : B → ModuleSettings) (state : B → State) (boxes : List B) (m : ℕ) (old new : B)
    (event : Event) (r : Result X StepFault) →
    slice_get boxes m ≡ Some old → IsStepFault (config old) (state old) event (state new) r →
    IfErr r (λ fault. IsFull (map config boxes) (map state boxes) m event fault)
step_at_full config state boxes m old new event (Ok v) at h = tt
step_at_full config state boxes m old new event (Err (NoMemory back)) at h = tt
step_at_full config state boxes m old new event (Err (ClockFull back)) at h =
    (config old, state old, slice_get-map config boxes m old at, slice_get-map state boxes m old at, h.2)
