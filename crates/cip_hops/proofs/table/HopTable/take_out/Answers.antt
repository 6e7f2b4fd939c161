use Rattle.std.proofs.Common.{◌≡◌, Option, None, IsSome, refl, sym, ap, subst, ◌∙◌}
use Rattle.std.specs.FinMap as map
use Rattle.cip_hops.specs.declared.opening.Opening.{Opening}
use Rattle.cip_hops.specs.declared.opening.OwnIds.{OwnIds}
use Rattle.cip_hops.specs.declared.hop.Held.{Held}
use Rattle.cip_hops.specs.Sides.{op_of}
use Rattle.cip_hops.specs.Hops.{Hops, without}
use Rattle.cip_base.specs.Index.{forgot}
use Rattle.cip_hops.specs.Kept.{IsKept, hops}
use Rattle.cip_hops.proofs.Steps.{held_none, held_at, finds, same_inside, kept_dropped, view_dropped}
use Rattle.cip_hops.proofs.table.HopTable.take_out.Goals as goal

pub unreachable-requires : goal.unreachable-requires
unreachable-requires c =
    let none : map.get c.args.self.now.held c.args.triad.now ≡ None = ap (λ (p : Hops). map.get p.held c.args.triad.now) (sym c.self.view_is)
    ∙ held_none c.self.inside c.self.invariant c.args.triad.now (sym c.in_default.ensures) in
    let some : IsSome {T = Held} None = subst (λ (o : Option Held). IsSome o) none c.requires in cc

pub remove-held-requires : goal.remove-held-requires
remove-held-requires c = finds c.self.inside c.self.invariant c.args.triad.now c.in-Some.key (sym c.in-Some.ensures)

pub invariant_of-self : goal.invariant_of-self
invariant_of-self c =
    let t = c.self.inside in
    let made = same_inside t.room c.remove-held.new.self refl c.forget.ensures
    (c.forget-2.ensures ∙ ap (λ (ids : OwnIds). forgot t.ups ids.up) c.ids-ids.ensures)
    (c.forget-3.ensures ∙ ap (λ (ids : OwnIds). forgot t.downs ids.down) c.ids-ids.ensures)
    (c.forget-4.ensures ∙ ap (forgot t.ops) (c.op-op.ensures ∙ ap (λ (o : Opening). op_of o.up) c.opening.ensures)) in
    subst IsKept (sym made)
    (kept_dropped t c.self.invariant c.args.triad.now c.in-Some.key c.remove-held.result c.remove-held.new.self
    (sym c.in-Some.ensures) c.remove-held.ensures.value c.remove-held.ensures.updates c.remove-held.ensures.len c.remove-held.ensures.capacity)

pub returns-clause-value : goal.returns-clause-value
returns-clause-value c =
    ap (λ (p : Hops). map.get p.held c.args.triad.now) (sym c.self.view_is)
    ∙ held_at c.self.inside c.self.invariant c.args.triad.now c.in-Some.key c.remove-held.result (sym c.in-Some.ensures) c.remove-held.ensures.value

pub returns-clause-after : goal.returns-clause-after
returns-clause-after c =
    let t = c.self.inside in
    let made = same_inside t.room c.remove-held.new.self refl c.forget.ensures
    (c.forget-2.ensures ∙ ap (λ (ids : OwnIds). forgot t.ups ids.up) c.ids-ids.ensures)
    (c.forget-3.ensures ∙ ap (λ (ids : OwnIds). forgot t.downs ids.down) c.ids-ids.ensures)
    (c.forget-4.ensures ∙ ap (forgot t.ops) (c.op-op.ensures ∙ ap (λ (o : Opening). op_of o.up) c.opening.ensures)) in
    ap hops made
    ∙ view_dropped t c.self.invariant c.args.triad.now c.in-Some.key c.remove-held.result c.remove-held.new.self
    (sym c.in-Some.ensures) c.remove-held.ensures.value c.remove-held.ensures.updates
    ∙ ap (λ p. without p c.args.triad.now) c.self.view_is
