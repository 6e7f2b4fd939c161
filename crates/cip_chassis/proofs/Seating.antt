-- The order of spots is total, and tells any two apart; where a search by it ends.
use Rattle.std.proofs.Common.{◌≡◌, ℕ, ◌+◌, ◌<◌, List, length, get_or, ap, sym, ◌∙◌, arith, inl, inr, Some, None}
use Rattle.std.specs.Ordering.{nat_cmp, ordering_reverse}
use Rattle.std.specs.Cmp.{IsTotalOrder, nat_cmp_total}
use Rattle.std.specs.Cmp.Lexicographic.{slice_cmp, nat_list_cmp_total}
use Rattle.std.specs.declared.cmp.Ordering.{Ordering}
use Rattle.std.specs.declared.cmp.Ordering.TheVariants.{Less, Equal, Greater}
use Rattle.std.proofs.lemmas.Cmp.{on_total, then_total}
use Rattle.std.proofs.lemmas.List.{get_or_default}
use Rattle.std.proofs.lemmas.Map.Lookups.{CmpEqualImpliesEq, exact_pairs, exact_unsigned, exact_bytes}
use Rattle.std.specs.List as lists
use Rattle.std.specs.FinMap.Entries as entries
use Rattle.cip_base.proofs.Search.{rises, below_or_same}
use Rattle.cip_base.proofs.Sorted.{find-at, find-gap, put-gap, sorted_insert}
use Rattle.cip_chassis.specs.declared.seats.Spot.{Spot}
use Rattle.cip_chassis.specs.declared.seats.Seat.{Seat}
use Rattle.cip_chassis.specs.Seats.{spot_cmp, AreRising, StandsAt, FitsAt, seated}

pub spots_total : IsTotalOrder spot_cmp
spots_total = then_total (on_total (λ (s : Spot). s.link) nat_cmp_total) (on_total (λ (s : Spot). s.address) nat_list_cmp_total)

pub exact_spots : CmpEqualImpliesEq spot_cmp
exact_spots a b h =
    ap (λ (p : ℕ × List ℕ). record { link = p.0; address = p.1 })
    (exact_pairs nat_cmp (slice_cmp nat_cmp) exact_unsigned exact_bytes (a.link, a.address) (b.link, b.address) h)

-- ---- a binary search

-- the spot is above all before this place
abbrev pub IsAboveAll : List (Spot × Seat) → Spot → ℕ → Type 0
IsAboveAll es name i = (k : ℕ) (d : Spot × Seat) → k < i → spot_cmp name (get_or es k d).0 ≡ Greater

-- the spot is below the one at this place, if one stands there
abbrev pub IsBelowAt : List (Spot × Seat) → Spot → ℕ → Type 0
IsBelowAt es name i = (d : Spot × Seat) → i < length es → spot_cmp name (get_or es i d).0 ≡ Less

compared : (es : List (Spot × Seat)) (name : Spot) (i : ℕ) (d e : Spot × Seat) (r : Ordering) → i < length es → r ≡ spot_cmp (get_or es i e).0 name
    → spot_cmp (get_or es i d).0 name ≡ r
compared es name i d e r lt is = ap (λ (x : Spot × Seat). spot_cmp x.0 name) (get_or_default es i d e lt) ∙ sym is

pub goes_above : (es : List (Spot × Seat)) (name : Spot) (i : ℕ) (e : Spot × Seat) → AreRising es → i < length es → Less ≡ spot_cmp (get_or es i e).0 name
    → IsAboveAll es name (i + 1)
goes_above es name i e h lt is = λ k d before.
    let here : spot_cmp (get_or es i d).0 name ≡ Less = compared es name i d e Less lt is in
    let below : spot_cmp (get_or es k d).0 name ≡ Less =
    elim (below_or_same k i (omega (arith, before))) [
      | inl low ↦ spots_total.trans (get_or es k d).0 (get_or es i d).0 name (rises spots_total es h k i d low lt) here
      | inr same ↦ ap (λ (n : ℕ). spot_cmp (get_or es n d).0 name) same ∙ here
    ] in
    spots_total.antisymm name _ ∙ ap ordering_reverse below

pub goes_below : (es : List (Spot × Seat)) (name : Spot) (i : ℕ) (e : Spot × Seat) → i < length es
    → Greater ≡ spot_cmp (get_or es i e).0 name → IsBelowAt es name i
goes_below es name i e lt is = λ d _. spots_total.antisymm name _ ∙ ap ordering_reverse (compared es name i d e Greater lt is)

pub stands_at : (es : List (Spot × Seat)) (name : Spot) (i : ℕ) (e : Spot × Seat) → i < length es → Equal ≡ spot_cmp (get_or es i e).0 name → StandsAt es name i
stands_at es name i e lt is = record { within = lt; spot = λ d. exact_spots _ _ (compared es name i d e Equal lt is) }

-- ---- what a place says of the index

pub found_at : (es : List (Spot × Seat)) (name : Spot) (i : ℕ) (d : Spot × Seat) → AreRising es → StandsAt es name i
    → entries.find spot_cmp name es ≡ Some (get_or es i d).1
found_at es name i d h s = ap (λ (n : Spot). entries.find spot_cmp n es) (sym (s.spot d)) ∙ find-at spot_cmp spots_total es i d h s.within

pub not_found : (es : List (Spot × Seat)) (name : Spot) (i : ℕ) → AreRising es → FitsAt es name i → entries.find spot_cmp name es ≡ None
not_found es name i h f = find-gap spot_cmp spots_total es i name h f.low f.high f.within

pub rising_insert : (es : List (Spot × Seat)) (name : Spot) (i : ℕ) (seat : Seat) → AreRising es → FitsAt es name i → AreRising (lists.insert es i (name, seat))
rising_insert es name i seat h f = sorted_insert spot_cmp spots_total es i name seat h f.low f.high f.within

pub seated_insert : (es : List (Spot × Seat)) (name : Spot) (i : ℕ) (seat : Seat) → FitsAt es name i → seated name seat es ≡ lists.insert es i (name, seat)
seated_insert es name i seat f = put-gap spot_cmp spots_total es i name seat f.low f.high f.within
