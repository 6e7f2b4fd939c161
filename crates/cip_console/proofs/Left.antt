-- What a reader has left, where that is known.
use Rattle.std.proofs.Common.{◌≡◌, ℕ, List, [], Option, Some, None, refl, sym, subst}
use Rattle.std.specs.Prelude.{IfSome}

-- some script that the reader may have had
abbrev pub left_of : Option (List ℕ) → List ℕ
left_of None = []
left_of (Some bytes) = bytes

pub is_left : (left : Option (List ℕ)) → IfSome left (λ bytes. left_of left ≡ bytes)
is_left None = tt
is_left (Some bytes) = refl

-- what a reader lends is all that it has left
pub all_lent : (left : Option (List ℕ)) (script : List ℕ) → left ≡ Some script → IfSome left (λ bytes. script ≡ bytes)
all_lent left script lends = subst (λ (o : Option (List ℕ)). IfSome o (λ bytes. script ≡ bytes)) (sym lends) refl
