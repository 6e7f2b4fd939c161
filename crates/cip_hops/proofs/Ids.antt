-- The ids that an opening draws are new, and apart.
use Rattle.std.proofs.Common.{◌≡◌, ℕ, ◌+◌, ◌<◌, ◌≤◌, Bool, true, false, Some, None, is_some, if◌then◌else◌, refl, arith}

pub is_some-if : {X : Type 0} (b : Bool) (x : X) → is_some (if b then Some x else None) ≡ b
is_some-if true x = refl
is_some-if false x = refl

pub up_range : (u d : Bool) (next id : ℕ) → (if u then Some (next + (if d then 1 else 0)) else None) ≡ Some id
    → (next ≤ id) × (id < next + ((if d then 1 else 0) + (if u then 1 else 0)))
up_range true true next id e = let is : next + 1 ≡ id = cc in (omega arith, omega arith)
up_range true false next id e = let is : next + 0 ≡ id = cc in (omega arith, omega arith)
up_range false d next id e = absurd (cc)

pub down_range : (u d : Bool) (next id : ℕ) → (if d then Some next else None) ≡ Some id
    → (next ≤ id) × (id < next + ((if d then 1 else 0) + (if u then 1 else 0)))
down_range true true next id e = let is : next ≡ id = cc in (omega arith, omega arith)
down_range false true next id e = let is : next ≡ id = cc in (omega arith, omega arith)
down_range u false next id e = absurd (cc)

pub drawn_apart : (u d : Bool) (next id : ℕ) → (if u then Some (next + (if d then 1 else 0)) else None) ≡ Some id
    → (if d then Some next else None) ≡ Some id → ⊥
drawn_apart true true next id e f = let a : next + 1 ≡ id = cc in let b : next ≡ id = cc in omega arith
drawn_apart true false next id e f = cc
drawn_apart false d next id e f = cc
