use Rattle.slab.specs.Slab.{Slab}
use Rattle.std.proofs.Common.{◌≡◌, Some, None, is_some, sym, ap, subst, ◌∙◌}
use Rattle.cip_hops.specs.declared.hop.Held.{Held}
use Rattle.cip_hops.specs.declared.hop.Held.TheVariants.{Open}
use Rattle.cip_hops.specs.declared.hop.Change.TheVariants.{Touch}
use Rattle.cip_hops.specs.declared.hop.Side.TheVariants.{Down}
use Rattle.cip_hops.specs.Hops.{down_id_of}
use Rattle.cip_hops.specs.Kept.{IsKept, hops}
use Rattle.cip_hops.proofs.Changes.{with_records, changed_one, meant_one}
use Rattle.cip_hops.proofs.Touching.{at_id, in_records, it, kept_touched, view_touched}
use Rattle.cip_hops.proofs.table.HopTable.touch_down.Goals as goal

pub unreachable-requires : goal.unreachable-requires
unreachable-requires c =
    let n = c.requires.named in
    let both : None ≡ Some (it c.self.inside c.self.invariant c.args.self.now c.self.view_is down_id_of c.self.inside.downs.keys c.self.invariant.by_down
    c.args.id n.0 n.1).key = c.in_default.ensures ∙ at_id c.self.inside c.self.invariant c.args.self.now c.self.view_is down_id_of
    c.self.inside.downs.keys c.self.invariant.by_down c.args.id n.0 n.1 in cc

pub change-requires : goal.change-requires
change-requires c =
    let n = c.requires.named in
    let found = in_records c.self.inside c.self.invariant c.args.self.now c.self.view_is down_id_of c.self.inside.downs.keys c.self.invariant.by_down
    c.args.id n.0 n.1 c.in-Some.key c.in-Some.ensures in
    let held = c.self.invariant.each c.in-Some.key _ found in
    let link = sym held.down ∙ ap is_some n.1.named in
    meant_one c.self.inside.records c.in-Some.key (Touch Down c.args.now) (Open n.1.hop) found ((link, c.requires.time), held.multiplier)

pub invariant_of-self : goal.invariant_of-self
invariant_of-self c =
    let n = c.requires.named in
    let found = in_records c.self.inside c.self.invariant c.args.self.now c.self.view_is down_id_of c.self.inside.downs.keys c.self.invariant.by_down
    c.args.id n.0 n.1 c.in-Some.key c.in-Some.ensures in
    let link = sym (c.self.invariant.each c.in-Some.key _ found).down ∙ ap is_some n.1.named in
    subst (λ (r : Slab Held). IsKept (with_records c.self.inside r))
    (sym (changed_one c.self.inside.records c.in-Some.key (Touch Down c.args.now) c.change.new.self (Open n.1.hop) found c.change.ensures))
    (kept_touched c.self.inside c.self.invariant c.args.self.now c.self.view_is down_id_of c.self.inside.downs.keys c.self.invariant.by_down
    c.args.id n.0 n.1 c.in-Some.key c.in-Some.ensures (Open n.1.hop) found Down c.args.now link c.requires.time)

pub returns : goal.returns
returns c = λ triad n.
    let found = in_records c.self.inside c.self.invariant c.args.self.now c.self.view_is down_id_of c.self.inside.downs.keys c.self.invariant.by_down
    c.args.id triad n c.in-Some.key c.in-Some.ensures in
    ap (λ (r : Slab Held). hops (with_records c.self.inside r))
    (changed_one c.self.inside.records c.in-Some.key (Touch Down c.args.now) c.change.new.self (Open n.hop) found c.change.ensures)
    ∙ view_touched c.self.inside c.self.invariant c.args.self.now c.self.view_is down_id_of c.self.inside.downs.keys c.self.invariant.by_down
    c.args.id triad n c.in-Some.key c.in-Some.ensures (Open n.hop) found Down c.args.now
