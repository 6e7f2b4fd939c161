-- Frames that arrive one by one, each of least name.
use Rattle.std.proofs.Common.{◌≡◌, ◌≢◌, ℕ, zero, suc, ◌+◌, Bool, true, ◌||◌, List, [], ◌∷◌, map, Some, None, refl, sym, ap, subst, ◌∙◌, arith}
use Rattle.std.specs.Prelude.{slice_get, Option}
use Rattle.std.specs.List.{list_any}
use Rattle.std.specs.Option.{option_and_then}
use Rattle.cip_hops.specs.declared.hop.Hop.{Hop}
use Rattle.cip_hops.specs.Hops.{Hops}
use Rattle.cip_config.specs.declared.config.ModuleSettings.{ModuleSettings}
use Rattle.cip_routing.specs.declared.tables.Tables.{Tables}
use Rattle.cip_routing.specs.State.{State}
use Rattle.cip_routing.specs.Views.{ShowsState}
use Rattle.cip_chassis.specs.Plan.{Plan}
use Rattle.cip_event.specs.declared.frame.FrameName.{FrameName}
use Rattle.cip_world.specs.Journals.{Journal, same_name}
use Rattle.cip_world.specs.Ledgers.{Told}
use Rattle.cip_world.specs.Runs.{IsModule, IsWaiting, state_in}
use Rattle.cip_world.specs.Waiting.{waiting}
use Rattle.cip_world.specs.Worlds.{Stand, DeliversOne, Delivers, IsOneMore, IsShownAt, looked_up}
use Rattle.cip_world.proofs.Delivered.{some_same}
use Rattle.cip_world.proofs.Named.{same_self}
use Rattle.cip_world.proofs.StepAt.{slice_get-map}
use Rattle.cip_world.proofs.Waits.{listed_waits}

pub none_first : (t : Plan) (j : Journal) (r : Option FrameName) → r ≡ slice_get (waiting t j) 0 → r ≡ None → waiting t j ≡ []
none_first t j r is none = by (waiting t j) (sym none ∙ is)
  where
    by : (xs : List FrameName) → None ≡ slice_get xs 0 → xs ≡ []
    by [] e = refl
    by (x ∷ xs) e = absurd (cc)

pub some_first : (t : Plan) (j : Journal) (r : Option FrameName) (f : FrameName) → r ≡ slice_get (waiting t j) 0 → r ≡ Some f → waiting t j ≢ []
some_first t j r f is some e = let none : Some f ≡ None = sym some ∙ is ∙ ap (λ (xs : List FrameName). slice_get xs 0) e in cc

pub first_waits : (t : Plan) (j : Journal) (r : Option FrameName) (f : FrameName) → r ≡ slice_get (waiting t j) 0 → r ≡ Some f → IsWaiting t j f
first_waits t j r f is some = listed_waits t j f (by (waiting t j) (sym some ∙ is))
  where
    by : (xs : List FrameName) → Some f ≡ slice_get xs 0 → list_any (λ g. same_name g f) xs ≡ true
    by [] e = absurd (cc)
    by (x ∷ xs) e = ap (λ b. b || list_any (λ g. same_name g f) xs) (ap (λ g. same_name g f) (some_same x f (sym e)) ∙ same_self f)

pub one_more : (t : Plan) (old new : Journal) (b : Bool) → b ≡ true → IsOneMore t old new b → DeliversOne t old new
one_more t old new b is h = subst (IsOneMore t old new) is h

pub one_further : (t : Plan) (n : ℕ) (old mid new : Journal) → Delivers t n old mid → DeliversOne t mid new → Delivers t (n + 1) old new
one_further t n old mid new h one =
    let same : suc n ≡ n + 1 = omega arith in
    subst (λ (k : ℕ). Delivers t k old new) same (mid, h, one)

pub shown_at : {A : Type 0} (told : Told) (config : A → ModuleSettings) (state : A → State) (boxes : List A) (m : ℕ) (b : A) (tables : Tables)
    → Stand told (map config boxes) (map state boxes) → slice_get boxes m ≡ Some b → ShowsState (state b) tables → IsShownAt told.plan told.journal m tables
shown_at told config state boxes m b tables stand at shows =
    let there : IsModule told.plan m (config b) =
    subst (λ (cs : List ModuleSettings). slice_get cs m ≡ Some (config b)) stand.same (slice_get-map config boxes m b at) in
    let same : state b ≡ state_in (config b) m told.journal =
    some_same (state b) (state_in (config b) m told.journal) (sym (slice_get-map state boxes m b at) ∙ stand.stand.each m (config b) there) in
    record { config = config b; is_module = there; shows = subst (λ (s : State). ShowsState s tables) same shows }

-- ---- looks at connections

slice_get-none : {A B : Type 0} (f : A → B) (xs : List A) (i : ℕ) → slice_get xs i ≡ None → slice_get (map f xs) i ≡ None
slice_get-none f [] i e = refl
slice_get-none f (x ∷ xs) zero e = absurd (cc)
slice_get-none f (x ∷ xs) (suc i) e = slice_get-none f xs i e

pub looked_at : {A : Type 0} (told : Told) (config : A → ModuleSettings) (state : A → State) (boxes : List A) (m : ℕ) (b : A) (look : Hops → Option Hop)
    → Stand told (map config boxes) (map state boxes) → slice_get boxes m ≡ Some b → look (state b).hops ≡ looked_up told.plan told.journal m look
looked_at told config state boxes m b look stand at =
    let there : IsModule told.plan m (config b) =
    subst (λ (cs : List ModuleSettings). slice_get cs m ≡ Some (config b)) stand.same (slice_get-map config boxes m b at) in
    let same : state b ≡ state_in (config b) m told.journal =
    some_same (state b) (state_in (config b) m told.journal) (sym (slice_get-map state boxes m b at) ∙ stand.stand.each m (config b) there) in
    ap (λ (s : State). look s.hops) same ∙ sym (ap (option_and_then (λ (c : ModuleSettings). look (state_in c m told.journal).hops)) there)

pub looked_nowhere : {A : Type 0} (told : Told) (config : A → ModuleSettings) (state : A → State) (boxes : List A) (m : ℕ) (look : Hops → Option Hop)
    → Stand told (map config boxes) (map state boxes) → slice_get boxes m ≡ None → None ≡ looked_up told.plan told.journal m look
looked_nowhere told config state boxes m look stand at =
    let nowhere : slice_get told.plan.modules m ≡ None =
    subst (λ (cs : List ModuleSettings). slice_get cs m ≡ None) stand.same (slice_get-none config boxes m at) in
    sym (ap (option_and_then (λ (c : ModuleSettings). look (state_in c m told.journal).hops)) nowhere)
