-- That what is opening waits for one reply.
use Rattle.std.specs.Prelude.{◌≡◌, ℕ, IsSome, None, Some}
use Rattle.std.specs.FinMap as map
use Rattle.cip_base.specs.Words.{RequestNumber}
use Rattle.cip_base.specs.declared.triad.Triad.{Triad}
use Rattle.cip_pending.specs.declared.entry.Kind.{Kind}
use Rattle.cip_pending.specs.declared.entry.Entry.{Entry}
use Rattle.cip_pending.specs.Pendings.{Pendings}
use Rattle.cip_pending.specs.Kinds.{opened_triad}
use Rattle.cip_hops.specs.Hops.{Hops, opening_at}

-- a request that opens a connection waits under this number
pub record IsAwaited (p : Pendings) (triad : Triad) (number : RequestNumber) : Type 0 where
  pub entry : Entry
  pub waits : map.get p.entries number ≡ Some entry
  pub kind : opened_triad entry.kind ≡ Some triad

-- one opening for the triad of each pending that opens, and no other
pub record IsPaired (p : Pendings) (h : Hops) : Type 0 where
  pub each : (triad : Triad) (number : RequestNumber) → IsAwaited p triad number
      → IsSome (opening_at h triad)
  pub one : (triad : Triad) (m n : ℕ) → IsAwaited p triad m → IsAwaited p triad n → m ≡ n
  pub only : (triad : Triad) → IsSome (opening_at h triad)
      → ((number : RequestNumber) → IsAwaited p triad number → ⊥) → ⊥

-- a request that opens no connection
abbrev pub IsOther : Kind → Type 0
IsOther kind = opened_triad kind ≡ None
