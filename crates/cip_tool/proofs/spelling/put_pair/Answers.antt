use Rattle.std.proofs.Common.{ℕ, ap, ◌∙◌, get_or}
use Rattle.hex.specs.Hex.{upper_digits}
use Rattle.cip_tool.proofs.Texts.{pair_put}
use Rattle.cip_tool.proofs.spelling.put_pair.Goals as goal

pub returns : goal.returns
returns c =
    pair_put _ _ _ c.args.byte c.from-2.result c.from-4.result c.in_ok-push.ensures.bytes c.in_ok-push-2.ensures.bytes
    (c.from-2.ensures ∙ ap (λ (i : ℕ). get_or upper_digits i 0) c.from.ensures)
    (c.from-4.ensures ∙ ap (λ (i : ℕ). get_or upper_digits i 0) c.from-3.ensures)
