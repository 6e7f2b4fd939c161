-- The incarnations in which a device draws its connection ids and its request numbers.
use Rattle.std.specs.Prelude.{◌≡◌, ◌↔◌, ◌⊎◌, ℕ, Option, Some, None}
use Rattle.cip_base.specs.Counts.{incarnation}
use Rattle.cip_device.specs.Shown.{Shown}

-- each is that of what comes next, and of what is drawn until the next reset
abbrev pub AreIncarnations : Shown → ℕ → ℕ → Type 0
AreIncarnations s ids numbers =
    (ids ≡ incarnation s.state.hops.next) × (numbers ≡ incarnation s.state.pendings.next)

abbrev pub AreDeviceIncarnations : Option Shown → ℕ → ℕ → Type 0
AreDeviceIncarnations (Some s) ids numbers = AreIncarnations s ids numbers
AreDeviceIncarnations None ids numbers = ⊥

-- what is answered to who asks for them: 0 exactly where there is a device, and then they are told;
-- else 1
abbrev pub IsIncarnationAnswer : ℕ → Option Shown → ℕ → ℕ → Type 0
IsIncarnationAnswer result old ids numbers =
    (result ≡ 0 → AreDeviceIncarnations old ids numbers) × ((result ≡ 1) ↔ (old ≡ None))
    × ((result ≡ 0) ⊎ (result ≡ 1))
