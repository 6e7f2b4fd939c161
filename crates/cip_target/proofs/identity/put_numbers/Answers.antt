use Rattle.std.proofs.Common.{append_assoc}
use Rattle.cip_target.proofs.identity.put_numbers.Goals as goal

pub returns : goal.returns
returns c =
    rw (
      c.in_ok-put_double.ensures,
      c.in_ok-put_word-4.ensures,
      c.in_ok-push-2.ensures.items,
      c.in_ok-push.ensures.items,
      c.in_ok-put_word-3.ensures,
      c.in_ok-put_word-2.ensures,
      c.in_ok-put_word.ensures,
    ) (simp append_assoc)
