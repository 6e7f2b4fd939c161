-- The least place where two lists differ, and that a box whose tables look fresh is in its first state.
use Rattle.std.proofs.Common.{◌≡◌, ℕ, zero, suc, ◌≤◌, Bool, List, [], ◌∷◌, length, map, take, Result, Ok, Err, Some, refl, sym, ap, subst, ◌∙◌, arith}
use Rattle.std.specs.Prelude.{slice_get, IfOk, ◌↔◌, IsTrue}
use Rattle.std.proofs.lemmas.List.{length-map}
use Rattle.cip_config.specs.declared.config.ModuleSettings.{ModuleSettings}
use Rattle.cip_routing.specs.declared.tables.Tables.{Tables}
use Rattle.cip_routing.specs.Paired.{IsPaired}
use Rattle.cip_routing.specs.Rooms.{HasRooms}
use Rattle.cip_routing.specs.State.{State, initial_state}
use Rattle.cip_routing.specs.Views.{ShowsState}
use Rattle.cip_laws.proofs.Shown.{fresh}
use Rattle.cip_chassis.specs.Plan.{Plan}
use Rattle.cip_world.specs.Fresh.{AreFresh, DifferFirst}
use Rattle.cip_world.specs.Journals.{Journal}
use Rattle.cip_world.specs.Ledgers.{Told}
use Rattle.cip_world.specs.Worlds.{AreStates, Stand}
use Rattle.cip_world.proofs.Delivered.{got_within, some_same}
use Rattle.cip_world.proofs.StepAt.{slice_get-map}

take_map : {A B : Type 0} (f : A → B) (xs : List A) (m : ℕ) → take m (map f xs) ≡ map f (take m xs)
take_map f [] zero = refl
take_map f [] (suc m) = refl
take_map f (x ∷ xs) zero = refl
take_map f (x ∷ xs) (suc m) = ap (λ ys. f x ∷ ys) (take_map f xs m)

take_all : {A : Type 0} (xs : List A) (m : ℕ) → length xs ≤ m → take m xs ≡ xs
take_all [] zero l = refl
take_all [] (suc m) l = refl
take_all (x ∷ xs) zero l = absurd (omega (arith, l))
take_all (x ∷ xs) (suc m) l = ap (λ ys. x ∷ ys) (take_all xs m (omega (arith, l)))

map_twice : {A B C : Type 0} (f : B → C) (g : A → B) (xs : List A) → map (λ x. f (g x)) xs ≡ map f (map g xs)
map_twice f g [] = refl
map_twice f g (x ∷ xs) = ap (λ ys. f (g x) ∷ ys) (map_twice f g xs)

pub differ_at : {A X : Type 0} (f : A → X) (boxes : List A) (xs : List X) (m : ℕ) (b : A) (x : X) → map f (take m boxes) ≡ take m xs
    → slice_get boxes m ≡ Some b → slice_get xs m ≡ Some x
    → (f b ≡ x → ⊥) → DifferFirst (map f boxes) xs m
differ_at f boxes xs m b x before at there n = record {
  before = take_map f boxes m ∙ before;
  within = let l = got_within boxes m b at in let same = length-map boxes f in omega (arith, l, same);
  differ = λ e. n (some_same (f b) x (sym (slice_get-map f boxes m b at) ∙ e ∙ there));
}

module _ {A : Type 0} (state : A → State) (config : A → ModuleSettings) (boxes : List A) (m : ℕ)
    (so_far : map state (take m boxes) ≡ map (λ b. initial_state (config b)) (take m boxes)) where
  far : map state (take m boxes) ≡ take m (map initial_state (map config boxes))
  far =
      so_far ∙ map_twice initial_state config (take m boxes) ∙ ap (map initial_state) (sym (take_map config boxes m))
      ∙ sym (take_map initial_state (map config boxes) m)

  -- the module at m is not in its first state
  pub stale_at : (b : A) → slice_get boxes m ≡ Some b → (state b ≡ initial_state (config b) → ⊥)
      → DifferFirst (map state boxes) (map initial_state (map config boxes)) m
  stale_at b at n =
      differ_at state boxes (map initial_state (map config boxes)) m b (initial_state (config b)) far at
      (slice_get-map initial_state (map config boxes) m (config b) (slice_get-map config boxes m b at)) n

  pub all_fresh : length boxes ≤ m → map state boxes ≡ map initial_state (map config boxes)
  all_fresh l =
      ap (map state) (sym (take_all boxes m l)) ∙ so_far ∙ map_twice initial_state config (take m boxes)
      ∙ ap (λ bs. map initial_state (map config bs)) (take_all boxes m l)

pub fresh_just : {E : Type 0} (config : ModuleSettings) (s : State) (tables : Tables) (r : Result Bool E) → ShowsState s tables
    → HasRooms config s → IsPaired s.pendings s.hops
    → IfOk r (λ b. IsTrue b ↔ ShowsState (initial_state config) tables) → IfOk r (λ b. IsTrue b ↔ (s ≡ initial_state config))
fresh_just config s tables (Ok b) shows rooms paired h =
    ((λ t. fresh config s tables paired shows (h.0 t) rooms), λ e. h.1 (subst (λ (x : State). ShowsState x tables) e shows))
fresh_just config s tables (Err e) shows rooms paired h = tt

-- modules that are fresh stand where nothing happened yet
pub fresh_stand : (told : Told) (t : Plan) (configs : List ModuleSettings) (states : List State) → AreFresh t configs states
    → told.plan ≡ t → told.journal ≡ [] → Stand told configs states
fresh_stand told t configs states f plan journal = record {
  same = f.configs_are ∙ ap (λ (p : Plan). p.modules) (sym plan);
  stand = subst (λ (j : Journal). AreStates told.plan j states) (sym journal) (subst (λ (p : Plan). AreStates p [] states) (sym plan) (record {
    count = ap (λ (s : List State). length s) f.states_are ∙ length-map t.modules initial_state;
    each = λ m config is. ap (λ (s : List State). slice_get s m) f.states_are ∙ slice_get-map initial_state t.modules m config is;
  }));
}
