use Rattle.std.proofs.Common.{◌≡◌, ◌<◌, ℕ, get_or, List, Some, None, sym, ap, subst, ◌∙◌, arith}
use Rattle.std.specs.FinMap as map
use Rattle.cip_base.specs.Triads.{triad_cmp}
use Rattle.cip_base.specs.declared.triad.Triad.{Triad}
use Rattle.cip_base.proofs.Triads.{triads_total}
use Rattle.cip_base.specs.Rising.{IsRising, StandsAt, FitsAt}
use Rattle.cip_base.specs.Rows.{Row}
use Rattle.cip_base.specs.Index.{Index, noted}
use Rattle.cip_base.proofs.Standing.{found_at, rising_insert, map_insert, len_of}
use Rattle.cip_hops.proofs.triads.TriadIndex.note.Goals as goal

pub unreachable-requires : goal.unreachable-requires
unreachable-requires c =
    let at = subst (λ (ps : List (Triad × ℕ)). StandsAt ps c.args.triad c.in_default.field-0) c.as_slice.ensures c.in_default.ensures in
    let free = c.requires.free in
    let stands = ap (λ (m : Index triad_cmp). map.get m.keys c.args.triad) (sym c.self.view_is)
    ∙ found_at triad_cmp triads_total c.self.inside.pairs.items c.args.triad c.in_default.field-0 (c.args.triad, 0) c.self.invariant at in
    let both : None ≡ Some (get_or c.self.inside.pairs.items c.in_default.field-0 (c.args.triad, 0)).1 = sym free ∙ stands in cc

pub insert-requires-clause-room : goal.insert-requires-clause-room
insert-requires-clause-room c =
    let room = subst (λ (m : Index triad_cmp). map.len m.keys < m.room) (sym c.self.view_is) c.requires.room in
    let len = len_of triad_cmp triads_total c.self.inside.pairs.items c.self.invariant in omega (arith, room, len)

pub invariant_of-self : goal.invariant_of-self
invariant_of-self c =
    let at = subst (λ (ps : List (Triad × ℕ)). FitsAt triad_cmp ps c.args.triad c.in-Err.at) c.as_slice.ensures c.in-Err.ensures in
    subst (λ (r : Row (Triad × ℕ)). IsRising triad_cmp r.items) (sym c.insert.ensures)
    (rising_insert triad_cmp triads_total c.self.inside.pairs.items c.args.triad c.in-Err.at c.args.key c.self.invariant at)

pub returns : goal.returns
returns c =
    let at = subst (λ (ps : List (Triad × ℕ)). FitsAt triad_cmp ps c.args.triad c.in-Err.at) c.as_slice.ensures c.in-Err.ensures in
    let view : Row (Triad × ℕ) → Index triad_cmp = λ r. record { room = r.room; keys = map.from_sorted r.items } in
    let with : map.FinMap triad_cmp ℕ → Index triad_cmp = λ keys. record { room = c.self.inside.pairs.room; keys = keys } in
    ap view c.insert.ensures
    ∙ ap with
    (map_insert triad_cmp triads_total c.self.inside.pairs.items c.args.triad c.in-Err.at c.args.key c.self.invariant at)
    ∙ ap (λ (m : Index triad_cmp). noted m (Some c.args.triad) c.args.key) c.self.view_is
