-- A request as it came to a Connection Manager: class 6, instance 1 (Volume 1, chapter 3,
-- Connection Manager).
use Rattle.std.specs.Prelude.{◌≡◌, ◌⊎◌, ℕ, List, [], ◌∷◌, Ok}
use Rattle.cip_base.specs.Words.{Octets}
use Rattle.cip_segment.specs.declared.segment.Segment.{Segment}
use Rattle.cip_segment.specs.declared.segment.Segment.TheVariants.{Class, Instance, Attribute}
use Rattle.cip_segment.specs.Reading.{segments_of}
use Rattle.cip_message.specs.declared.request.TheConstants.{CONNECTION_MANAGER}
use Rattle.cip_message.specs.Request.{request_with}
use Rattle.cip_message.specs.RequestAt.{request_at}

-- the segments name the Connection Manager, and perhaps an attribute, which is not looked at
abbrev pub IsManager : List Segment → Type 0
IsManager s =
    (s ≡ Class CONNECTION_MANAGER ∷ Instance 1 ∷ [])
    ⊎ ((a : ℕ) × (s ≡ Class CONNECTION_MANAGER ∷ Instance 1 ∷ Attribute a ∷ []))

-- b is read as a request for this service of the Connection Manager, in any spelling of its path,
-- with this data
pub record IsReceived (service : ℕ) (d b : Octets) : Type 0 where
  pub path : Octets
  pub reads : request_at b ≡ Ok (request_with service path d)
  pub manager : IsManager (segments_of path)
