-- How ports are found by link and address: an index of seats, in rising order of their spots.
use Rattle.std.specs.Prelude.{◌≡◌, ℕ, ◌<◌, ◌≤◌, T, Bool, is_some, List, [], ◌∷◌, length, slice_index_or, Option, None, option_map}
use Rattle.std.specs.Ordering.{nat_cmp, ordering_then}
use Rattle.std.specs.Cmp.Lexicographic.{slice_cmp}
use Rattle.std.specs.FinMap.Entries as entries
use Rattle.std.specs.declared.cmp.Ordering.{Ordering}
use Rattle.std.specs.declared.cmp.Ordering.TheVariants.{Less, Greater}
use Rattle.cip_base.specs.Words.{LinkAddress}
use Rattle.cip_config.specs.declared.config.ModuleSettings.{ModuleSettings}
use Rattle.cip_config.specs.declared.config.PortConfig.{PortConfig}
use Rattle.cip_chassis.specs.declared.seats.Spot.{Spot}
use Rattle.cip_chassis.specs.declared.seats.Seat.{Seat}
use Rattle.cip_chassis.specs.Nodes.{Node, node_from}

-- by link, then by address
abbrev pub spot_cmp : Spot → Spot → Ordering
spot_cmp a b = ordering_then (nat_cmp a.link b.link) (slice_cmp nat_cmp a.address b.address)

abbrev pub spot : ℕ → LinkAddress → Spot
spot link address = record { link = link; address = address }

-- each spot is above the one before it
abbrev pub AreRising : List (Spot × Seat) → Type 0
AreRising seats = T (entries.is_sorted spot_cmp seats)

-- the seat of a spot stands at this place
pub record StandsAt (seats : List (Spot × Seat)) (name : Spot) (i : ℕ) : Type 0 where
  pub within : i < length seats
  pub spot : (d : Spot × Seat) → (slice_index_or seats i d).0 ≡ name

-- the spot is above those before this place, and below those from it on
pub record FitsAt (seats : List (Spot × Seat)) (name : Spot) (i : ℕ) : Type 0 where
  pub within : i ≤ length seats
  pub low : (k : ℕ) (d : Spot × Seat) → k < i → spot_cmp name (slice_index_or seats k d).0 ≡ Greater
  pub high : (d : Spot × Seat) → i < length seats
      → spot_cmp name (slice_index_or seats i d).0 ≡ Less

-- the seat at this address of this link
abbrev pub seat_at : List (Spot × Seat) → ℕ → LinkAddress → Option Seat
seat_at seats link address = entries.find spot_cmp (spot link address) seats

-- with one more seat
abbrev pub seated : Spot → Seat → List (Spot × Seat) → List (Spot × Seat)
seated = entries.put spot_cmp

abbrev pub seat_of : Node → Seat
seat_of n = record { at = n.at; port = n.port.number }

-- the index finds the ports of these modules, and no others
abbrev pub IsIndexOf : List ModuleSettings → List (Spot × Seat) → Type 0
IsIndexOf modules seats = (link : ℕ) (address : LinkAddress)
    → seat_at seats link address ≡ option_map seat_of (node_from 0 modules link address)

-- the index has the address on the link
abbrev pub is_seated : List (Spot × Seat) → ℕ → LinkAddress → Bool
is_seated seats link address = is_some (seat_at seats link address)

abbrev pub spot_of : PortConfig → Spot
spot_of p = spot p.link p.address

abbrev pub seat_in : ℕ → PortConfig → Seat
seat_in at p = record { at = at; port = p.number }

-- with the ports of one more module, of this place
abbrev pub all_seated : ℕ → List PortConfig → List (Spot × Seat) → List (Spot × Seat)
all_seated at [] seats = seats
all_seated at (p ∷ ps) seats = all_seated at ps (seated (spot_of p) (seat_in at p) seats)

-- no port stands yet where these are to stand, and no two of these stand at one spot
abbrev pub AreFree : ℕ → List PortConfig → List (Spot × Seat) → Type 0
AreFree at [] seats = Unit {0}
AreFree at (p ∷ ps) seats =
    (seat_at seats p.link p.address ≡ None)
    × AreFree at ps (seated (spot_of p) (seat_in at p) seats)
