use Rattle.std.proofs.lemmas.Str.{IsUtf8-had, IsUtf8-append}
use Rattle.cip_text.proofs.Digits.{pairs_are_text}
use Rattle.cip_text.proofs.draft.Draft.put_some.Goals as goal

pub invariant_of-self : goal.invariant_of-self
invariant_of-self c = (c.in_err-self-inside.ensures.least, rw c.in_err-self-inside.ensures.left c.self.invariant.1)

pub invariant_of-self-2 : goal.invariant_of-self-2
invariant_of-self-2 c = (
  c.in_ok-self-inside.ensures.fits,
  ∣ rw c.in_ok-self-inside.ensures.text (IsUtf8-append _ _ (IsUtf8-had _ c.self.invariant.1) (pairs_are_text c.args.bytes.now)) ∣₁,
)
