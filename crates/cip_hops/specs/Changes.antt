-- What the table does to what stands under a triad, where it stands.
use Rattle.std.specs.Prelude.{◌≡◌, ◌<◌, ◌^◌, IsSome, IsSomeAnd, IsTrue}
use Rattle.std.specs.FinMap as map
use Rattle.cip_base.specs.declared.triad.Triad.{Triad}
use Rattle.cip_hops.specs.declared.hop.Change.{Change}
use Rattle.cip_hops.specs.declared.hop.Change.TheVariants.{Finish, Touch, Count}
use Rattle.cip_hops.specs.declared.hop.Held.{Held}
use Rattle.cip_hops.specs.declared.hop.Held.TheVariants.{Opening as IsOpening, Open}
use Rattle.cip_hops.specs.Hops.{Hops, as_opening, as_hop, opening_of, opened, with_held, is_link, ends_here, touched, counted}

-- what the change makes of it
abbrev pub change_of : Change → Held → Held
change_of (Finish their_id now) (IsOpening o ids) = Open (opened o ids their_id now)
change_of (Finish their_id now) (Open hop) = Open hop
change_of (Touch side now) (IsOpening o ids) = IsOpening o ids
change_of (Touch side now) (Open hop) = Open (touched side now hop)
change_of (Count side count) (IsOpening o ids) = IsOpening o ids
change_of (Count side count) (Open hop) = Open (counted side count hop)

-- what the change is meant for: an opening, a side that is a link, a hop that ends here
abbrev pub Suits : Change → Held → Type 0
Suits (Finish their_id now) x = IsSome (as_opening x) × (now < 2 ^ 63)
Suits (Touch side now) x =
    IsSomeAnd (as_hop x) (λ hop. IsTrue (is_link side hop)) × (now < 2 ^ 63)
Suits (Count side count) x = IsSomeAnd (as_hop x) (λ hop. IsTrue (ends_here hop))

-- the change is meant for it, and its time-out multiplier is one
abbrev pub IsMeant : Change → Held → Type 0
IsMeant change x = Suits change x × ((opening_of x).multiplier < 8)

-- the table after the change of what stands under a triad
abbrev pub IsChanged : Change → Hops → Triad → Hops → Type 0
IsChanged change h triad new =
    IsSomeAnd (map.get h.held triad) (λ x. new ≡ with_held h triad (change_of change x))
