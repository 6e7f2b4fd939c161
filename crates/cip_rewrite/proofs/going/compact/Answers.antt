use Rattle.std.proofs.Common.{ℕ, ◌+◌, ◌-◌, List, length, take, ap, ◌∙◌}
use Rattle.std.specs.List.{copy_within}
use Rattle.cip_rewrite.proofs.Shortened.{closed_up}
use Rattle.cip_rewrite.proofs.going.compact.Goals as goal

pub returns-clause-front : goal.returns-clause-front
returns-clause-front c =
    let b : List ℕ = c.args.bytes.now in
    let at : ℕ = 6 + c.args.fixed in
    let moved = c.copy_within.ensures.after
    ∙ ap (λ (n : ℕ). copy_within c.move_forward.new.bytes (n - c.args.left) n at) c.move_forward.auto.bytes
    ∙ ap (λ (z : List ℕ). copy_within z (length b - c.args.left) (length b) at) c.move_forward.ensures in
    ap (λ (z : List ℕ). take (6 + c.args.fixed + c.args.left) z) c.set_manager_header.ensures
    ∙ closed_up b c.copy_within.new.self c.args.start c.args.fixed c.args.left c.requires.header c.requires.within moved
