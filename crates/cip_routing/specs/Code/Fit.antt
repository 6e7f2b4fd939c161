-- What a module keeps of its tables: that they fit one another.
use Rattle.std.specs.Prelude.{◌≡◌, ℕ, ◌<◌, Bool, true, false, List, Option, Some, is_some, if◌then◌else◌, option_and_then}
use Rattle.std.specs.Option.{option_map_or}
use Rattle.std.specs.FinMap as map
use Rattle.cip_base.specs.Words.{InstanceNumber, OpNumber}
use Rattle.cip_base.specs.declared.triad.Triad.{Triad}
use Rattle.cip_pending.specs.Pendings.{Pendings}
use Rattle.cip_hops.specs.declared.opening.Opening.{Opening}
use Rattle.cip_hops.specs.declared.opening.HopDown.{HopDown}
use Rattle.cip_hops.specs.declared.opening.HopDown.TheVariants.{Link as DownLink, End}
use Rattle.cip_hops.specs.declared.hop.Held.{Held}
use Rattle.cip_hops.specs.Sides.{down_is_link}
use Rattle.cip_hops.specs.Hops.{Hops, opening_at, as_hop, held_op_of}
use Rattle.cip_target.specs.Ends.{Ends, released}
use Rattle.cip_target.specs.Assemblies.{AssemblyMap, Owners, size_in}
use Rattle.cip_config.specs.declared.config.ModuleSettings.{ModuleSettings}
use Rattle.cip_routing.specs.OpenRows.{writes_to}
use Rattle.cip_routing.specs.Paired.{IsPaired}
use Rattle.cip_routing.specs.State.{is_spent}

-- whether a connection that is open writes this assembly
abbrev pub writes_of : Option Held → InstanceNumber → Bool
writes_of x instance = option_map_or (λ hop. writes_to instance hop.opening.down)
    (option_and_then as_hop x) false

-- the op of each connection that a command opens or opened is spent
abbrev pub AreSpent : Hops → List ℕ → Type 0
AreSpent h ops = (triad : Triad) (x : Held) (op : OpNumber) → map.get h.held triad ≡ Some x
    → held_op_of x ≡ Some op → is_spent op ops ≡ true

-- what is opening goes on by a link
abbrev pub AreLinks : Hops → Type 0
AreLinks h = (triad : Triad) (o : Opening) → opening_at h triad ≡ Some o
    → down_is_link o.down ≡ true

-- of the assemblies that there are: who owns one writes it, and who writes one that has bytes owns
-- it
pub record AreOwned (h : Hops) (m : AssemblyMap) (owners : Owners) : Type 0 where
  pub owner : (triad : Triad) (instance size : ℕ) → map.get owners instance ≡ Some triad
      → size_in m instance ≡ Some size
      → writes_of (map.get h.held triad) instance ≡ true
  pub writer : (triad : Triad) (instance size : ℕ)
      → writes_of (map.get h.held triad) instance ≡ true → size_in m instance ≡ Some size → 0 < size
      → map.get owners instance ≡ Some triad

-- what a connection owned that is gone is given back
abbrev pub given_back : HopDown → Ends → Ends
given_back (DownLink port address) t = t
given_back (End config consume produce) t =
    if is_some (map.get t.objects.assemblies consume) then released t consume else t

pub record Fit (config : ModuleSettings) (p : Pendings) (h : Hops) (t : Ends) (ops : List ℕ) : Type
    0 where
  pub identity : t.objects.identity ≡ config.identity
  pub pending_room : p.room ≡ config.pending_room
  pub hop_room : h.room ≡ config.hop_room
  pub paired : IsPaired p h
  pub spent : AreSpent h ops
  pub links : AreLinks h
  pub owned : AreOwned h t.objects.assemblies t.owners
