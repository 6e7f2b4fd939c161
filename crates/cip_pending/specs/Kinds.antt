-- What a request that waits will open.
use Rattle.std.specs.Prelude.{Bool, true, false, if◌then◌else◌, Option, Some, None}
use Rattle.cip_base.specs.declared.triad.Triad.{Triad}
use Rattle.cip_pending.specs.declared.entry.Kind.{Kind}
use Rattle.cip_pending.specs.declared.entry.Kind.TheVariants.{Unconnected, Opening, OpeningLarge, Closing}

-- the kind of a request that opens, large or not
abbrev pub opening_kind : Bool → Triad → Kind
opening_kind large triad = if large then OpeningLarge triad else Opening triad

-- whether it is a large one
abbrev pub is_large_kind : Kind → Bool
is_large_kind Unconnected = false
is_large_kind (Opening triad) = false
is_large_kind (OpeningLarge triad) = true
is_large_kind (Closing triad) = false

-- the triad of the connection that a request of this kind opens
abbrev pub opened_triad : Kind → Option Triad
opened_triad Unconnected = None
opened_triad (Opening triad) = Some triad
opened_triad (OpeningLarge triad) = Some triad
opened_triad (Closing triad) = None
