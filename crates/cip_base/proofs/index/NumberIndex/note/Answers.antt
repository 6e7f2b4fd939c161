use Rattle.std.proofs.Common.{◌≡◌, ◌<◌, ℕ, get_or, List, Option, Some, None, IfSome, sym, ap, subst, ◌∙◌, arith}
use Rattle.std.specs.FinMap as map
use Rattle.std.specs.Ordering.{nat_cmp}
use Rattle.std.specs.Cmp.{nat_cmp_total}
use Rattle.cip_base.specs.Rising.{IsRising, StandsAt, FitsAt}
use Rattle.cip_base.specs.Rows.{Row}
use Rattle.cip_base.specs.Index.{Index, noted}
use Rattle.cip_base.proofs.Standing.{found_at, rising_insert, map_insert, len_of}
use Rattle.cip_base.proofs.index.NumberIndex.note.Goals as goal

pub unreachable-requires : goal.unreachable-requires
unreachable-requires c =
    let at =
    subst (λ (ps : List (ℕ × ℕ)). StandsAt ps c.in-Some.number c.in_default-place_of.field-0) c.as_slice.ensures c.in_default-place_of.ensures in
    let free = subst (λ (o : Option ℕ). IfSome o (λ n. map.get c.args.self.now.keys n ≡ None)) c.in-Some.is c.requires.free in
    let stands = ap (λ (m : Index nat_cmp). map.get m.keys c.in-Some.number) (sym c.self.view_is)
    ∙ found_at nat_cmp nat_cmp_total c.self.inside.pairs.items c.in-Some.number c.in_default-place_of.field-0
    (c.in-Some.number, 0) c.self.invariant at in
    let both : None ≡ Some (get_or c.self.inside.pairs.items c.in_default-place_of.field-0 (c.in-Some.number, 0)).1 = sym free ∙ stands in cc

pub insert-requires-clause-room : goal.insert-requires-clause-room
insert-requires-clause-room c =
    let room = subst (λ (m : Index nat_cmp). map.len m.keys < m.room) (sym c.self.view_is) c.requires.room in
    let len = len_of nat_cmp nat_cmp_total c.self.inside.pairs.items c.self.invariant in omega (arith, room, len)

pub invariant_of-self : goal.invariant_of-self
invariant_of-self c =
    let at = subst (λ (ps : List (ℕ × ℕ)). FitsAt nat_cmp ps c.in-Some.number c.in-Err.at) c.as_slice.ensures c.in-Err.ensures in
    subst (λ (r : Row (ℕ × ℕ)). IsRising nat_cmp r.items) (sym c.insert.ensures)
    (rising_insert nat_cmp nat_cmp_total c.self.inside.pairs.items c.in-Some.number c.in-Err.at c.args.key c.self.invariant at)

pub returns-in-Err : goal.returns-in-Err
returns-in-Err c =
    let at = subst (λ (ps : List (ℕ × ℕ)). FitsAt nat_cmp ps c.in-Some.number c.in-Err.at) c.as_slice.ensures c.in-Err.ensures in
    let view : Row (ℕ × ℕ) → Index nat_cmp = λ r. record { room = r.room; keys = map.from_sorted r.items } in
    let with : map.FinMap nat_cmp ℕ → Index nat_cmp = λ keys. record { room = c.self.inside.pairs.room; keys = keys } in
    ap view c.insert.ensures
    ∙ ap with
    (map_insert nat_cmp nat_cmp_total c.self.inside.pairs.items c.in-Some.number c.in-Err.at c.args.key c.self.invariant at)
    ∙ ap (λ (m : Index nat_cmp). noted m (Some c.in-Some.number) c.args.key) c.self.view_is
    ∙ ap (λ (o : Option ℕ). noted c.args.self.now o c.args.key) (sym c.in-Some.is)
