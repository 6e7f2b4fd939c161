-- Where a path leads, hop by hop. It knows nothing of frames, identifiers or tables.
use Rattle.std.specs.Prelude.{ℕ, zero, suc, length, Option, Some, None, option_and_then}
use Rattle.cip_base.specs.Words.{Octets}
use Rattle.cip_segment.specs.Reading.{HopAt, hop_of}
use Rattle.cip_chassis.specs.Plan.{Plan}
use Rattle.cip_chassis.specs.Nodes.{node}

-- a module, and the path that it has to go on by
pub record Stop : Type 0 where
  pub at : ℕ
  pub path : Octets

abbrev pub walk_by : (ℕ → Octets → Option Stop) → Plan → ℕ → Octets → Option HopAt → Option Stop
walk_by on t m path None = Some (record { at = m; path = path })
walk_by on t m path (Some hop) =
    option_and_then (λ n. on n hop.rest) (node t m hop.port hop.address)

-- in fewer hops than this number
unfoldable pub walk_within : ℕ → Plan → ℕ → Octets → Option Stop
walk_within zero t m path = None
walk_within (suc n) t m path = walk_by (walk_within n t) t m path (hop_of path)

-- where a path from module m ends, and what is left of it there; each hop takes a byte at least
unfoldable pub walk : Plan → ℕ → Octets → Option Stop
walk t m path = walk_within (suc (length path)) t m path
