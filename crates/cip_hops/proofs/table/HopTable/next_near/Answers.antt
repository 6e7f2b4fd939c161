use Rattle.std.proofs.Common.{ℕ, ◌+◌, List, get_or, Some, None, sym, ap, subst, ◌∙◌}
use Rattle.std.specs.Option.{option_copied}
use Rattle.slab.specs.Slab.{get}
use Rattle.cip_base.specs.Rising.{Divides}
use Rattle.cip_base.specs.declared.triad.Triad.{Triad}
use Rattle.cip_hops.specs.Hops.{first_after, is_after}
use Rattle.cip_hops.proofs.Ticks.{next_none, next_is, next_stands, opens_from, no_pair}
use Rattle.cip_hops.proofs.table.HopTable.next_near.Goals as goal

pub returns-in_err-at : goal.returns-in_err-at
returns-in_err-at c =
    let after = option_copied c.args.after in
    let parts = subst (λ ps. Divides (λ p. is_after after p.0) ps c.place_near-from.result) c.pairs-pairs.ensures.all c.place_near-from.ensures.parts in
    let none = opens_from c.pairs-pairs.result.now _ c.place_near-from.result (get c.self.inside.records) None c.pairs-pairs.ensures.all c.in_err-at.ensures in
    ap option_copied c.from_residual.ensures ∙ sym (next_none c.self.inside c.self.invariant after c.place_near-from.result parts none)
    ∙ ap (first_after after) c.self.view_is

pub returns-in_err-get : goal.returns-in_err-get
returns-in_err-get c =
    let after = option_copied c.args.after in
    let parts = subst (λ ps. Divides (λ p. is_after after p.0) ps c.place_near-from.result) c.pairs-pairs.ensures.all c.place_near-from.ensures.parts in
    let at = opens_from c.pairs-pairs.result.now _ c.place_near-from.result (get c.self.inside.records) (Some c.in_ok-at.at) c.pairs-pairs.ensures.all
    c.in_ok-at.ensures in
    let none =
    ap (λ (ps : List (Triad × ℕ)). get c.self.inside.records (get_or ps (c.place_near-from.result + c.in_ok-at.at) no_pair).1)
    (sym c.pairs-pairs.ensures.all) ∙ sym c.in_err-get.ensures in
    absurd (next_stands c.self.inside c.self.invariant after c.place_near-from.result parts c.in_ok-at.at no_pair at none)

pub returns : goal.returns
returns c =
    let after = option_copied c.args.after in
    let parts = subst (λ ps. Divides (λ p. is_after after p.0) ps c.place_near-from.result) c.pairs-pairs.ensures.all c.place_near-from.ensures.parts in
    let at = opens_from c.pairs-pairs.result.now _ c.place_near-from.result (get c.self.inside.records) (Some c.in_ok-at.at) c.pairs-pairs.ensures.all
    c.in_ok-at.ensures in
    let found =
    ap (λ (ps : List (Triad × ℕ)). get c.self.inside.records (get_or ps (c.place_near-from.result + c.in_ok-at.at) no_pair).1)
    (sym c.pairs-pairs.ensures.all) ∙ sym c.in_ok-get.ensures in
    c.hop.ensures
    ∙ sym (next_is c.self.inside c.self.invariant after c.place_near-from.result parts c.in_ok-at.at no_pair c.in_ok-get.field-0.now at found)
    ∙ ap (first_after after) c.self.view_is
