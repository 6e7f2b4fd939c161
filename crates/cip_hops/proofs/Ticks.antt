-- The first due hop goes, and the next hop above a triad.
use Rattle.std.proofs.Common.{◌≡◌, ℕ, zero, suc, ◌+◌, ◌-◌, ◌<◌, ◌≤◌, Bool, true, false, cond, List, ◌∷◌, length, get_or, take, drop, refl, sym, ap, subst, ◌∙◌}
use Rattle.std.proofs.Common.{arith, Option, Some, None, IsSome, is_some}
use Rattle.std.specs.Option.{option_and_then, option_map_or}
use Rattle.std.specs.List.{find, filter_map, position}
use Rattle.std.specs.List.Sorted.{IsPartitionPoint}
use Rattle.std.specs.FinMap as map
use Rattle.std.proofs.lemmas.List.{get_or-drop, length-drop, take_rest}
use Rattle.std.proofs.lemmas.List.Quantifiers.{position-Some}
use Rattle.slab.specs.Slab.{get}
use Rattle.cip_base.specs.Triads.{triad_cmp}
use Rattle.cip_base.specs.declared.triad.Triad.{Triad}
use Rattle.cip_base.proofs.Going.{goes}
use Rattle.cip_base.proofs.Places.{find-None, find-Some, find-first, find-misses, all_miss}
use Rattle.cip_base.proofs.Triads.{triads_total}
use Rattle.cip_hops.specs.declared.hop.Hop.{Hop}
use Rattle.cip_hops.specs.declared.hop.Held.{Held}
use Rattle.cip_hops.specs.declared.hop.Held.TheVariants.{Opening as IsOpening, Open}
use Rattle.cip_hops.specs.declared.table.HopTable.TheInside.{Inside}
use Rattle.cip_hops.specs.Hops.{Hops, triad_of, as_hop, is_hop, is_hop_due, is_entry_due, is_entry_open, first_due, due, rest, without, is_after, first_after}
use Rattle.cip_base.specs.Joined.{passes}
use Rattle.cip_hops.specs.Kept.{hops, IsKept}
use Rattle.cip_base.proofs.Joined.{joined_none, joined_first}
use Rattle.cip_base.proofs.Views.{get-at, entries-view, found-gives}
use Rattle.cip_hops.proofs.Steps.{triads_apart, held_at}

-- stands for what is past the end of the pairs
abbrev pub no_pair : Triad × ℕ
no_pair = (record { serial = 0; vendor = 0; originator = 0 }, 0)

-- ---- the due

pub record DueAt (p : Hops) (now : ℕ) (q : Triad) : Type 0 where
  pub held : Held
  pub stands : map.get p.held q ≡ Some held
  pub first : find (is_entry_due now) (map.entries p.held) ≡ Some (q, held)

module _ (t : Inside) (h : IsKept t) where
  pub due_none : (now : ℕ) → position (passes (is_entry_due now) (get t.records)) (map.entries t.triads.keys) ≡ None → first_due now (hops t) ≡ None
  due_none now none =
      ap (option_and_then (λ (e : Triad × Held). as_hop e.1))
      (ap (find (is_entry_due now)) (entries-view triad_cmp triads_total triads_apart t.triads.keys (get t.records))
      ∙ joined_none (is_entry_due now) (map.entries t.triads.keys) (get t.records)
      (find-None (passes (is_entry_due now) (get t.records)) (map.entries t.triads.keys) none))

  pub due_at : (now at : ℕ) (d : Triad × ℕ) → position (passes (is_entry_due now) (get t.records)) (map.entries t.triads.keys) ≡ Some at
      → DueAt (hops t) now (get_or (map.entries t.triads.keys) at d).0
  due_at now at d e =
      let es = map.entries t.triads.keys in
      let here = position-Some (passes (is_entry_due now) (get t.records)) es at d e in
      let noted = get-at triad_cmp triads_total triads_apart t.triads.keys at d here.0 in
      let x = h.by_triad.sound _ _ noted in
      record {
        held = x.held;
        stands = held_at t h _ _ x.held noted x.stands;
        first = ap (find (is_entry_due now)) (entries-view triad_cmp triads_total triads_apart t.triads.keys (get t.records))
            ∙ joined_first (is_entry_due now) es (get t.records) (get_or es at d) x.held (find-Some _ es at d e) x.stands;
      }

  -- the due place that a search of the pairs found, in pairs that were asked for anew
  pub due_found : (p : Hops) → hops t ≡ p → (now at : ℕ) (d : Triad × ℕ) (ps qs : List (Triad × ℕ))
      → ps ≡ map.entries t.triads.keys → qs ≡ map.entries t.triads.keys → Some at ≡ position (passes (is_entry_due now) (get t.records)) ps
      → DueAt p now (get_or qs at d).0
  due_found p is now at d ps qs first second found =
      let here : position (passes (is_entry_due now) (get t.records)) (map.entries t.triads.keys) ≡ Some at =
      ap (position (passes (is_entry_due now) (get t.records))) (sym first) ∙ sym found in
      subst (λ q. DueAt q now (get_or qs at d).0) is
      (subst (λ (rs : List (Triad × ℕ)). DueAt (hops t) now (get_or rs at d).0) (sym second) (due_at now at d here))

  -- ---- the next

  module _ (after : Option Triad) (from : ℕ)
      (parts : IsPartitionPoint (λ p. is_after after p.0 ≡ false) (λ p. is_after after p.0 ≡ true) (map.entries t.triads.keys) from) where
    abbrev es : List (Triad × ℕ)
    es = map.entries t.triads.keys

    abbrev is_next : Triad × Held → Bool
    is_next e = is_hop (λ hop. is_after after hop.opening.triad) e.1

    by_triad_of : (x : Held) (b : Bool) → is_after after (triad_of x) ≡ b
        → is_hop (λ hop. is_after after hop.opening.triad) x ≡ cond (is_some (as_hop x)) b false
    by_triad_of (IsOpening o ids) b e = refl
    by_triad_of (Open hop) b e = e

    -- whether an entry of the index is next, by its triad and by what stands there
    next_by : (k : ℕ) (d : Triad × ℕ) (b c : Bool) → k < length es → is_after after (get_or es k d).0 ≡ b
        → passes is_entry_open (get t.records) (get_or es k d) ≡ c → passes is_next (get t.records) (get_or es k d) ≡ cond c b false
    next_by k d b c lt side open_ =
        let noted = get-at triad_cmp triads_total triads_apart t.triads.keys k d lt in
        let x = h.by_triad.sound _ _ noted in
        let name : triad_of x.held ≡ (get_or es k d).0 = let both : Some (triad_of x.held) ≡ Some (get_or es k d).0 = x.named in cc in
        let is : is_some (as_hop x.held) ≡ c = ap (λ (o : Option Held). option_map_or (λ y. is_some (as_hop y)) o false) (sym x.stands) ∙ open_ in
        ap (λ (o : Option Held). option_map_or (is_hop (λ hop. is_after after hop.opening.triad)) o false) x.stands
        ∙ by_triad_of x.held b (ap (is_after after) name ∙ side) ∙ ap (λ v. cond v b false) is

    never_before : (k : ℕ) (d : Triad × ℕ) → k < length es → k < from → passes is_next (get t.records) (get_or es k d) ≡ false
    never_before k d lt below = next_by k d false _ lt (parts.0 k d (omega arith) below) refl ∙ both_false _
      where
        both_false : (c : Bool) → cond c false false ≡ false
        both_false true = refl
        both_false false = refl

    shut_after : (k : ℕ) (d : Triad × ℕ) → k < length es → from ≤ k → passes is_entry_open (get t.records) (get_or es k d) ≡ false
        → passes is_next (get t.records) (get_or es k d) ≡ false
    shut_after k d lt above shut = next_by k d true false lt (parts.1 k d above lt) shut

    before_or_not : (A : Type 0) (k : ℕ) → (k < from → A) → (from ≤ k → A) → A
    before_or_not A k low high = split k from low high
      where
        split : (a b : ℕ) → (a < b → A) → (b ≤ a → A) → A
        split a zero low high = high (omega arith)
        split zero (suc b) low high = low (omega arith)
        split (suc a) (suc b) low high = split a b (λ lt. low (omega arith)) (λ le. high (omega arith))

    in_rest : (k : ℕ) (d : Triad × ℕ) → from ≤ k → get_or (drop from es) (k - from) d ≡ get_or es k d
    in_rest k d le = get_or-drop from es (k - from) d ∙ ap (λ n. get_or es n d) (omega arith)

    pub next_none : position (passes is_entry_open (get t.records)) (drop from es) ≡ None → first_after after (hops t) ≡ None
    next_none none =
        ap (option_and_then (λ (e : Triad × Held). as_hop e.1))
        (ap (find is_next) (entries-view triad_cmp triads_total triads_apart t.triads.keys (get t.records))
        ∙ joined_none is_next es (get t.records) (find-misses (passes is_next (get t.records)) es (λ k d lt.
        before_or_not (passes is_next (get t.records) (get_or es k d) ≡ false) k (never_before k d lt) (λ above.
        let len = length-drop from es in
        shut_after k d lt above (ap (passes is_entry_open (get t.records)) (sym (in_rest k d above))
        ∙ all_miss (passes is_entry_open (get t.records)) (drop from es) none (k - from) d (omega (arith, len)))))))

    pub next_is : (at : ℕ) (d : Triad × ℕ) (x : Held) → position (passes is_entry_open (get t.records)) (drop from es) ≡ Some at
        → get t.records (get_or es (from + at) d).1 ≡ Some x → first_after after (hops t) ≡ as_hop x
    next_is at d x e found =
        let here = position-Some (passes is_entry_open (get t.records)) (drop from es) at d e in
        let len = length-drop from es in
        let lt : from + at < length es = omega (arith, here.0, len) in
        let open_ : passes is_entry_open (get t.records) (get_or es (from + at) d) ≡ true =
        ap (passes is_entry_open (get t.records)) (sym (get_or-drop from es at d)) ∙ here.1 in
        let hit : passes is_next (get t.records) (get_or es (from + at) d) ≡ true =
        next_by (from + at) d true true lt (parts.1 (from + at) d (omega arith) lt) open_ in
        let miss : (k : ℕ) → k < from + at → passes is_next (get t.records) (get_or es k d) ≡ false = λ k below.
        before_or_not (passes is_next (get t.records) (get_or es k d) ≡ false) k (never_before k d (omega arith)) (λ above.
        shut_after k d (omega arith) above (ap (passes is_entry_open (get t.records)) (sym (in_rest k d above)) ∙ here.2 (k - from) (omega arith))) in
        ap (option_and_then (λ (e : Triad × Held). as_hop e.1))
        (ap (find is_next) (entries-view triad_cmp triads_total triads_apart t.triads.keys (get t.records))
        ∙ joined_first is_next es (get t.records) (get_or es (from + at) d) x
        (find-first (passes is_next (get t.records)) es (from + at) d lt hit miss) found)

    -- a record stands there
    pub next_stands : (at : ℕ) (d : Triad × ℕ) → position (passes is_entry_open (get t.records)) (drop from es) ≡ Some at
        → get t.records (get_or es (from + at) d).1 ≡ None → ⊥
    next_stands at d e none =
        let here = position-Some (passes is_entry_open (get t.records)) (drop from es) at d e in
        let len = length-drop from es in
        let x = h.by_triad.sound _ _ (get-at triad_cmp triads_total triads_apart t.triads.keys (from + at) d (omega (arith, here.0, len))) in
        let never : None ≡ Some x.held = sym none ∙ x.stands in cc

-- the hop that goes, of a due place
module _ (p : Hops) (now : ℕ) (q : Triad) (d : DueAt p now q) where
  pub due_stands : IsSome (map.get p.held q)
  due_stands = subst (λ (o : Option Held). IsSome o) (sym d.stands) refl

  pub due_open : (x : Held) → map.get p.held q ≡ Some x → is_hop_due now x ≡ true
  due_open x e =
      let is = found-gives triad_cmp triads_total triads_apart p.held (is_entry_due now) (q, d.held) d.first in
      let both : Some d.held ≡ Some x = sym d.stands ∙ e in
      let one : d.held ≡ x = cc in
      ap (is_hop_due now) (sym one) ∙ is.1

  first_is : (hop : Hop) → map.get p.held q ≡ Some (Open hop) → find (is_entry_due now) (map.entries p.held) ≡ Some (q, Open hop)
  first_is hop e =
      let both : Some d.held ≡ Some (Open hop) = sym d.stands ∙ e in
      let one : d.held ≡ Open hop = cc in
      d.first ∙ ap (λ x. Some (q, x)) one

  pub due_hop : (hop : Hop) → map.get p.held q ≡ Some (Open hop) → first_due now p ≡ Some hop
  due_hop hop e = ap (option_and_then (λ (e : Triad × Held). as_hop e.1)) (first_is hop e)

  pub due_lists : (hop : Hop) (new : Hops) → map.get p.held q ≡ Some (Open hop) → new ≡ without p q
      → (due now p ≡ hop ∷ due now new) × (rest now new ≡ rest now p)
  due_lists hop new e after =
      let g = goes triad_cmp triads_total triads_apart p.held (is_entry_due now) q (Open hop) (first_is hop e) in
      (ap (filter_map (λ (e : Triad × Held). as_hop e.1)) g.0 ∙ ap (λ r. hop ∷ due now r) (sym after), ap (rest now) after ∙ sym g.1)

-- a place in the pairs that were asked for, as one in the index
pub opens_from : (ps es : List (Triad × ℕ)) (from : ℕ) (found : ℕ → Option Held) (at : Option ℕ) → ps ≡ es
    → at ≡ position (passes is_entry_open found) (take (length ps - from) (drop from ps)) → position (passes is_entry_open found) (drop from es) ≡ at
opens_from ps es from found at same is =
    ap (λ (rs : List (Triad × ℕ)). position (passes is_entry_open found) (drop from rs)) (sym same)
    ∙ ap (position (passes is_entry_open found)) (sym (take_rest ps from)) ∙ sym is
