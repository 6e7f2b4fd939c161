use Rattle.std.proofs.Common.{◌≤◌, ◌<◌, ℕ, List, length, get_or, None, IsSome, Option, sym, ap, subst, ◌∙◌, arith}
use Rattle.cip_base.specs.Rising.{Divides}
use Rattle.cip_pending.specs.declared.entry.Entry.{Entry}
use Rattle.cip_pending.specs.Pendings.{first_after, is_after}
use Rattle.cip_pending.proofs.Steps.{after_none, after_is, pair_at, noted_at}
use Rattle.cip_pending.proofs.table.PendingTable.next_after.Goals as goal

pub returns-then-at-pairs : goal.returns-then-at-pairs
returns-then-at-pairs c =
    let parts =
    subst (λ ps. Divides (λ p. is_after c.args.after p.0) ps c.place_after-at.result) c.pairs-pairs.ensures.all c.place_after-at.ensures.parts in
    let end = subst (λ (ps : List (ℕ × ℕ)). length ps ≤ c.place_after-at.result) c.pairs-pairs.ensures.all (omega (arith, c.if-at-pairs.true)) in
    sym (after_none c.self.inside c.self.invariant c.args.after c.place_after-at.result parts end) ∙ ap (first_after c.args.after) c.self.view_is

pub returns-in_err-get : goal.returns-in_err-get
returns-in_err-get c =
    let lt : c.place_after-at.result < length c.pairs-pairs.result.now = omega (arith, c.if-at-pairs.false, c.place_after-at.ensures.bound) in
    let noted = noted_at c.self.inside c.self.invariant c.pairs-pairs.result.now c.place_after-at.result c.pairs-pairs.ensures.all lt in
    let some : IsSome {T = Entry} None = subst (λ (o : Option Entry). IsSome o) (sym c.in_err-get.ensures) (c.self.invariant.present _ _ noted) in
    absurd cc

pub returns : goal.returns
returns c =
    let parts =
    subst (λ ps. Divides (λ p. is_after c.args.after p.0) ps c.place_after-at.result) c.pairs-pairs.ensures.all c.place_after-at.ensures.parts in
    let lt : c.place_after-at.result < length c.pairs-pairs.result.now = omega (arith, c.if-at-pairs.false, c.place_after-at.ensures.bound) in
    let here = pair_at c.self.inside c.self.invariant c.pairs-pairs.result.now c.place_after-at.result c.pairs-pairs.ensures.all lt in
    sym (after_is c.self.inside c.self.invariant c.args.after c.place_after-at.result parts
    (get_or c.pairs-pairs.result.now c.place_after-at.result (0, 0)) c.in_ok-get.field-0.now here.0 here.1 (sym c.in_ok-get.ensures))
    ∙ ap (first_after c.args.after) c.self.view_is
