-- Requests to the Connection Manager: class 6, instance 1 (Volume 1, chapter 3, Connection
-- Manager).
use Rattle.std.specs.Prelude.{ℕ, [], ◌∷◌}
use Rattle.cip_base.specs.Words.{Octets}
use Rattle.cip_message.specs.Request.{Request, request_with, request_bytes}

-- the path of the Connection Manager, as it is written
abbrev pub manager_path : Octets
manager_path = 0x20 ∷ 0x06 ∷ 0x24 ∷ 0x01 ∷ []

-- the request for a service of the Connection Manager, with this data
abbrev pub manager_request : ℕ → Octets → Request
manager_request s d = request_with s manager_path d

-- its bytes: the header, and the data
abbrev pub manager_bytes : ℕ → Octets → Octets
manager_bytes s d = request_bytes (manager_request s d)
