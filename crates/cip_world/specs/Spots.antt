-- Names in rising order, each with whether it waits still.
use Rattle.std.specs.Prelude.{◌≡◌, ℕ, ◌<◌, Bool, false, not, Option, List, [], ◌∷◌, T, length, slice_index_or}
use Rattle.std.specs.FinMap.Entries as entries
use Rattle.cip_event.specs.declared.frame.FrameName.{FrameName}
use Rattle.cip_world.specs.Journals.{same_name}
use Rattle.cip_world.specs.Names.{name_cmp}
use Rattle.cip_world.specs.Waiting.{or_none}

-- those that wait
abbrev pub names_in : List (FrameName × Bool) → List FrameName
names_in [] = []
names_in (spot ∷ spots) = or_none spot.1 spot.0 (names_in spots)

abbrev pub AreInOrder : List (FrameName × Bool) → Type 0
AreInOrder spots = T (entries.is_sorted name_cmp spots)

-- whether the name waits, where it stands there
abbrev pub value_of : FrameName → List (FrameName × Bool) → Option Bool
value_of = entries.find name_cmp

-- whether the name stands first
abbrev pub is_first : List (FrameName × Bool) → FrameName → Bool
is_first [] name = false
is_first (spot ∷ spots) name = same_name spot.0 name

-- whether the first does not wait
abbrev pub is_first_gone : List (FrameName × Bool) → Bool
is_first_gone [] = false
is_first_gone (spot ∷ spots) = not spot.1

-- whether the last does not wait
abbrev pub is_last_gone : List (FrameName × Bool) → Bool
is_last_gone [] = false
is_last_gone (spot ∷ []) = not spot.1
is_last_gone (spot ∷ next ∷ spots) = is_last_gone (next ∷ spots)

-- in rising order, and the first and the last wait
pub record AreSpots (spots : List (FrameName × Bool)) : Type 0 where
  pub rising : AreInOrder spots
  pub first : is_first_gone spots ≡ false
  pub last : is_last_gone spots ≡ false

-- the name stands at this place
pub record IsPlaceOf (spots : List (FrameName × Bool)) (name : FrameName) (i : ℕ) : Type 0 where
  pub within : i < length spots
  pub key : (d : FrameName × Bool) → (slice_index_or spots i d).0 ≡ name
