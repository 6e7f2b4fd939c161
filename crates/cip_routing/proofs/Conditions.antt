-- What a chain of tests tells by its result.
use Rattle.std.proofs.Common.{◌≡◌, Bool, true, false, cond, not, is_some, refl, Option, Some, None}

-- the first of two is not what came
pub past : {X : Type 0} (b : Bool) (x y z : X) → cond b x y ≡ z → (x ≡ z → ⊥) → (b ≡ false) × (y ≡ z)
past true x y z e never = absurd (never e)
past false x y z e never = (refl, e)

pub past_not : {X : Type 0} (b : Bool) (x y z : X) → cond (not b) x y ≡ z → (x ≡ z → ⊥) → (b ≡ true) × (y ≡ z)
past_not true x y z e never = (refl, e)
past_not false x y z e never = absurd (never e)

-- the second is not
pub first_of : {X : Type 0} (b : Bool) (x y z : X) → cond b x y ≡ z → (y ≡ z → ⊥) → (b ≡ true) × (x ≡ z)
first_of true x y z e never = (refl, e)
first_of false x y z e never = absurd (never e)

pub none_is : {X : Type 0} (x : Option X) → is_some x ≡ false → x ≡ None
none_is None e = refl
none_is (Some x) e = absurd (cc)
