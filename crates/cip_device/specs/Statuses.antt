-- Which statuses each call can answer at all.
use Rattle.std.specs.Prelude.{◌≡◌, ◌⊎◌, ℕ}

-- to settings: done, a device already, a bad argument, refused memory
abbrev pub IsNewStatus : ℕ → Type 0
IsNewStatus result = (result ≡ 0) ⊎ ((result ≡ 2) ⊎ ((result ≡ 4) ⊎ (result ≡ 5)))

-- to an event: done, no device, unread outputs, a bad argument, refused memory, a full clock
abbrev pub IsStepStatus : ℕ → Type 0
IsStepStatus result =
    (result ≡ 0) ⊎ ((result ≡ 1) ⊎ ((result ≡ 3) ⊎ ((result ≡ 4) ⊎ ((result ≡ 5)
    ⊎ (result ≡ 6)))))

-- to who asks for the next output: done, no device, nothing, a short buffer; it takes no memory
abbrev pub IsNextStatus : ℕ → Type 0
IsNextStatus result = (result ≡ 0) ⊎ ((result ≡ 1) ⊎ ((result ≡ 7) ⊎ (result ≡ 8)))

-- to who reads an assembly: done, no device, refused memory, nothing, a short buffer
abbrev pub IsReadStatus : ℕ → Type 0
IsReadStatus result =
    (result ≡ 0) ⊎ ((result ≡ 1) ⊎ ((result ≡ 5) ⊎ ((result ≡ 7) ⊎ (result ≡ 8))))

-- to who reads a table: done, no device, refused memory, nothing
abbrev pub IsTableStatus : ℕ → Type 0
IsTableStatus result = (result ≡ 0) ⊎ ((result ≡ 1) ⊎ ((result ≡ 5) ⊎ (result ≡ 7)))

-- to who asks for the next deadline: done, no device, nothing; it takes no memory
abbrev pub IsDeadlineStatus : ℕ → Type 0
IsDeadlineStatus result = (result ≡ 0) ⊎ ((result ≡ 1) ⊎ (result ≡ 7))
