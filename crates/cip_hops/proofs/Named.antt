-- The one hop of a name, through the index of that name.
use Rattle.std.proofs.Common.{◌≡◌, ℕ, Bool, true, false, ◌&&◌, ◌==◌, List, refl, sym, ap, ◌∙◌, arith, Option, Some, None, if◌then◌else◌}
use Rattle.std.specs.Option.{option_and_then, option_map_or}
use Rattle.std.specs.Ordering.{nat_cmp}
use Rattle.std.specs.FinMap as map
use Rattle.std.specs.FinMap.{FinMap}
use Rattle.std.proofs.lemmas.Bool.{eqb-true}
use Rattle.std.proofs.lemmas.Bool.Decides.{nat_tests}
use Rattle.slab.specs.Slab.{get}
use Rattle.cip_base.specs.Triads.{triad_cmp}
use Rattle.cip_base.specs.declared.triad.Triad.{Triad}
use Rattle.cip_base.proofs.Triads.{triads_total}
use Rattle.cip_hops.specs.declared.hop.Hop.{Hop}
use Rattle.cip_hops.specs.declared.hop.Held.{Held}
use Rattle.cip_hops.specs.declared.hop.Held.TheVariants.{Opening as IsOpening, Open}
use Rattle.cip_hops.specs.declared.table.HopTable.TheInside.{Inside}
use Rattle.cip_hops.specs.Sides.{op_of, up_is, down_is}
use Rattle.cip_hops.specs.Hops.{triad_of, up_id_of, down_id_of, held_op_of, as_hop, is_hop, is_id, first_hop, is_hop_by_up, is_hop_by_down, is_hop_by_op}
use Rattle.cip_hops.specs.Hops.{hop_by_up, hop_by_down, hop_by_op}
use Rattle.cip_hops.specs.Kept.{Indexes, hops, IsKept}
use Rattle.cip_base.proofs.Views.{find-only, find-nowhere}
use Rattle.cip_hops.proofs.Steps.{triads_apart, stands, under, within}

pub not_true : (b : Bool) → (b ≡ true → ⊥) → b ≡ false
not_true true never = absurd (never refl)
not_true false never = refl

pub and_first : (a b : Bool) → (a && b) ≡ true → a ≡ true
and_first true b e = refl
and_first false b e = absurd (cc)

pub is_id_true : (id : ℕ) (own : Option ℕ) → is_id id own ≡ true → own ≡ Some id
is_id_true id None e = absurd (cc)
is_id_true id (Some n) e = ap (λ m. Some m) (eqb-true n id e)

same_number : (n : ℕ) → (n == n) ≡ true
same_number n = grind (arith, nat_tests)

is_id_same : (id : ℕ) (own : Option ℕ) → own ≡ Some id → is_id id own ≡ true
is_id_same id own e = ap (is_id id) e ∙ same_number id

pub is_open : (x : Held) (hop : Hop) → as_hop x ≡ Some hop → x ≡ Open hop
is_open (IsOpening o ids) hop e = absurd (cc)
is_open (Open hop) hop' e = let same : hop ≡ hop' = cc in ap (λ h. Open h) same

module _ (t : Inside) (h : IsKept t) (name_of : Held → Option ℕ) (m : FinMap nat_cmp ℕ) (ix : Indexes name_of m (get t.records)) (test : Hop → Bool)
    (name : ℕ) (named : (x : Held) → is_hop test x ≡ true → name_of x ≡ Some name) where
  pub hop_absent : map.get m name ≡ None → first_hop test (hops t) ≡ None
  hop_absent none =
      ap (option_and_then (λ (e : Triad × Held). as_hop e.1))
      (find-nowhere triad_cmp triads_total triads_apart (hops t).held (λ e. is_hop test e.1) (λ q y e. not_true (is_hop test y) (λ pass.
      let s = stands t h q y e in
      let no_key : None ≡ Some s.key = sym none ∙ ix.complete name s.key y s.found (named y pass) in cc)))

  pub hop_found : (key : ℕ) (x : Held) (b : Bool) → map.get m name ≡ Some key → get t.records key ≡ Some x → is_hop test x ≡ b
      → first_hop test (hops t) ≡ (if b then as_hop x else None)
  hop_found key x true at found pass =
      ap (option_and_then (λ (e : Triad × Held). as_hop e.1))
      (find-only triad_cmp triads_total triads_apart (hops t).held (λ e. is_hop test e.1) (triad_of x) x (under t h key x found) pass (λ r y e p.
      let s = stands t h r y e in
      let keys : Some s.key ≡ Some key = sym (ix.complete name s.key y s.found (named y p)) ∙ at in
      let same : s.key ≡ key = cc in
      let both : Some y ≡ Some x = sym s.found ∙ ap (get t.records) same ∙ found in
      let one : y ≡ x = cc in
      sym ((within t h).triads r y e) ∙ ap triad_of one))
  hop_found key x false at found pass =
      ap (option_and_then (λ (e : Triad × Held). as_hop e.1))
      (find-nowhere triad_cmp triads_total triads_apart (hops t).held (λ e. is_hop test e.1) (λ q y e. not_true (is_hop test y) (λ p.
      let s = stands t h q y e in
      let keys : Some s.key ≡ Some key = sym (ix.complete name s.key y s.found (named y p)) ∙ at in
      let same : s.key ≡ key = cc in
      let both : Some y ≡ Some x = sym s.found ∙ ap (get t.records) same ∙ found in
      let one : y ≡ x = cc in
      let no_pass : false ≡ true = sym pass ∙ ap (is_hop test) (sym one) ∙ p in cc)))

module _ (t : Inside) (h : IsKept t) (id port : ℕ) (address : List ℕ) where
  named_up : (x : Held) → is_hop (is_hop_by_up id port address) x ≡ true → up_id_of x ≡ Some id
  named_up (IsOpening o ids) e = absurd (cc)
  named_up (Open hop) e = is_id_true id hop.ids.up (and_first (is_id id hop.ids.up) _ e)

  pub no_up : map.get t.ups.keys id ≡ None → hop_by_up (hops t) id port address ≡ None
  no_up = hop_absent t h up_id_of t.ups.keys h.by_up (is_hop_by_up id port address) id named_up

  pub up_opening : (key : ℕ) (x : Held) → map.get t.ups.keys id ≡ Some key → get t.records key ≡ Some x → as_hop x ≡ None
      → hop_by_up (hops t) id port address ≡ None
  up_opening key x at found none =
      hop_found t h up_id_of t.ups.keys h.by_up (is_hop_by_up id port address) id named_up key x false at found
      (ap (λ (o : Option Hop). option_map_or (is_hop_by_up id port address) o false) none)

  pub up_gives : (key : ℕ) (x : Held) (hop : Hop) (r : Bool) → map.get t.ups.keys id ≡ Some key → get t.records key ≡ Some x → as_hop x ≡ Some hop
      → up_is port address hop.opening.up ≡ r → hop_by_up (hops t) id port address ≡ (if r then Some hop else None)
  up_gives key x hop r at found is side =
      let s = h.by_up.sound id key at in
      let both : Some s.held ≡ Some x = sym s.stands ∙ found in
      let one : s.held ≡ x = cc in
      let own : hop.ids.up ≡ Some id = sym (ap up_id_of (is_open x hop is)) ∙ ap up_id_of (sym one) ∙ s.named in
      let pass : is_hop (is_hop_by_up id port address) x ≡ r = ap (λ (o : Option Hop). option_map_or (is_hop_by_up id port address) o false) is
      ∙ (λ i. is_id_same id hop.ids.up own i && side i) in
      hop_found t h up_id_of t.ups.keys h.by_up (is_hop_by_up id port address) id named_up key x r at found pass
      ∙ ap (λ (o : Option Hop). if r then o else None) is

  named_down : (x : Held) → is_hop (is_hop_by_down id port address) x ≡ true → down_id_of x ≡ Some id
  named_down (IsOpening o ids) e = absurd (cc)
  named_down (Open hop) e = is_id_true id hop.ids.down (and_first (is_id id hop.ids.down) _ e)

  pub no_down : map.get t.downs.keys id ≡ None → hop_by_down (hops t) id port address ≡ None
  no_down = hop_absent t h down_id_of t.downs.keys h.by_down (is_hop_by_down id port address) id named_down

  pub down_opening : (key : ℕ) (x : Held) → map.get t.downs.keys id ≡ Some key → get t.records key ≡ Some x → as_hop x ≡ None
      → hop_by_down (hops t) id port address ≡ None
  down_opening key x at found none =
      hop_found t h down_id_of t.downs.keys h.by_down (is_hop_by_down id port address) id named_down key x false at found
      (ap (λ (o : Option Hop). option_map_or (is_hop_by_down id port address) o false) none)

  pub down_gives : (key : ℕ) (x : Held) (hop : Hop) (r : Bool) → map.get t.downs.keys id ≡ Some key → get t.records key ≡ Some x → as_hop x ≡ Some hop
      → down_is port address hop.opening.down ≡ r → hop_by_down (hops t) id port address ≡ (if r then Some hop else None)
  down_gives key x hop r at found is side =
      let s = h.by_down.sound id key at in
      let both : Some s.held ≡ Some x = sym s.stands ∙ found in
      let one : s.held ≡ x = cc in
      let own : hop.ids.down ≡ Some id = sym (ap down_id_of (is_open x hop is)) ∙ ap down_id_of (sym one) ∙ s.named in
      let pass : is_hop (is_hop_by_down id port address) x ≡ r = ap (λ (o : Option Hop). option_map_or (is_hop_by_down id port address) o false) is
      ∙ (λ i. is_id_same id hop.ids.down own i && side i) in
      hop_found t h down_id_of t.downs.keys h.by_down (is_hop_by_down id port address) id named_down key x r at found pass
      ∙ ap (λ (o : Option Hop). if r then o else None) is

module _ (t : Inside) (h : IsKept t) (op : ℕ) where
  named_op : (x : Held) → is_hop (is_hop_by_op op) x ≡ true → held_op_of x ≡ Some op
  named_op (IsOpening o ids) e = absurd (cc)
  named_op (Open hop) e = is_id_true op (op_of hop.opening.up) e

  pub no_op : map.get t.ops.keys op ≡ None → hop_by_op (hops t) op ≡ None
  no_op = hop_absent t h held_op_of t.ops.keys h.by_op (is_hop_by_op op) op named_op

  open_passes : (x : Held) → held_op_of x ≡ Some op → (if is_hop (is_hop_by_op op) x then as_hop x else None) ≡ as_hop x
  open_passes (IsOpening o ids) e = refl
  open_passes (Open hop) e = ap (λ b. if b then Some hop else None) (is_id_same op (op_of hop.opening.up) e)

  pub op_gives : (key : ℕ) (x : Held) → map.get t.ops.keys op ≡ Some key → get t.records key ≡ Some x → hop_by_op (hops t) op ≡ as_hop x
  op_gives key x at found =
      let s = h.by_op.sound op key at in
      let both : Some s.held ≡ Some x = sym s.stands ∙ found in
      let one : s.held ≡ x = cc in
      hop_found t h held_op_of t.ops.keys h.by_op (is_hop_by_op op) op named_op key x _ at found refl ∙ open_passes x (ap held_op_of (sym one) ∙ s.named)
