-- What a connection that begins to open waits for opens it, by a request of its kind.
use Rattle.std.proofs.Common.{◌≡◌, Bool, true, false, Some, refl}
use Rattle.cip_base.specs.declared.triad.Triad.{Triad}
use Rattle.cip_pending.specs.Kinds.{opened_triad, opening_kind, is_large_kind}
use Rattle.cip_hops.specs.declared.opening.Opening.{Opening}
use Rattle.cip_routing.specs.Effects.{kind_for}

kind_opens : (large : Bool) (triad : Triad) → opened_triad (opening_kind large triad) ≡ Some triad
kind_opens true triad = refl
kind_opens false triad = refl

kind_large : (large : Bool) (triad : Triad) → is_large_kind (opening_kind large triad) ≡ large
kind_large true triad = refl
kind_large false triad = refl

pub opens_for : (o : Opening) → opened_triad (kind_for o) ≡ Some o.triad
opens_for o = kind_opens o.large o.triad

pub large_for : (o : Opening) → is_large_kind (kind_for o) ≡ o.large
large_for o = kind_large o.large o.triad
