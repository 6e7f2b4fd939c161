-- A request to the Connection Manager that can go on.
use Rattle.std.specs.Prelude.{◌≡◌, ℕ, ◌+◌, ◌≤◌, length, drop, Some}
use Rattle.cip_base.specs.Words.{Octets}
use Rattle.cip_message.specs.declared.request.TheConstants.{MANAGER_HEADER}
use Rattle.cip_segment.specs.Spelling.{IsReadable}
use Rattle.cip_segment.specs.Hop.{HasHop}
use Rattle.cip_segment.specs.Reading.{HopAt, hop_of}

-- the data of b begins at `start`, and ends behind `fixed` bytes with a path that begins with this
-- hop
pub record LeadsOn (b : Octets) (start fixed : ℕ) (hop : HopAt) : Type 0 where
  pub header : MANAGER_HEADER ≤ start
  pub within : start + fixed ≤ length b
  pub readable : IsReadable (drop (start + fixed) b)
  pub has_hop : HasHop (drop (start + fixed) b)
  pub leads : hop_of (drop (start + fixed) b) ≡ Some hop
