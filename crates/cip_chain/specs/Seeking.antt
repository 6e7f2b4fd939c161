-- What a trail goes on by, as the code keeps it.
use Rattle.std.specs.Prelude.{ℕ, Bool, true, false, Option, Some, None}
use Rattle.cip_world.specs.declared.journal.Entry.{Entry}
use Rattle.cip_event.specs.declared.frame.FrameName.{FrameName}
use Rattle.cip_world.specs.Journals.{Journal}
use Rattle.cip_world.specs.Trails.{is_command, request_of, arrived_in}
use Rattle.cip_chain.specs.declared.trails.Sought.{Sought}
use Rattle.cip_chain.specs.declared.trails.Sought.TheVariants.{Command, Arrival, Nothing}

-- an entry is what is sought
abbrev pub is_next : ℕ → ℕ → Sought → Entry → Bool
is_next m op Command e = is_command m op e
is_next m op (Arrival f) e = arrived_in f e
is_next m op Nothing e = false

abbrev pub is_nothing : Sought → Bool
is_nothing Command = false
is_nothing (Arrival f) = false
is_nothing Nothing = true

-- behind an entry that sent this request
abbrev pub seeks : Option FrameName → Sought
seeks None = Nothing
seeks (Some f) = Arrival f

-- behind a trail that ends so
abbrev pub sought_behind : Journal → Option ℕ → Sought
sought_behind j None = Command
sought_behind j (Some k) = seeks (request_of j k)
