-- A hop that is watched anew, found by an id of its own.
use Rattle.std.proofs.Common.{◌≡◌, ℕ, ◌<◌, ◌^◌, sym, ap, subst, ◌∙◌, Option, Some, None, IsTrue}
use Rattle.std.specs.Option.{option_and_then}
use Rattle.std.specs.FinMap as map
use Rattle.std.specs.FinMap.{FinMap}
use Rattle.std.specs.Ordering.{nat_cmp}
use Rattle.slab.specs.Slab.{get}
use Rattle.cip_base.specs.declared.triad.Triad.{Triad}
use Rattle.cip_hops.specs.declared.hop.Hop.{Hop}
use Rattle.cip_hops.specs.declared.hop.Side.{Side}
use Rattle.cip_hops.specs.declared.hop.Change.TheVariants.{Touch}
use Rattle.cip_hops.specs.declared.hop.Held.{Held}
use Rattle.cip_hops.specs.declared.hop.Held.TheVariants.{Opening as IsOpening, Open}
use Rattle.cip_hops.specs.declared.table.HopTable.TheInside.{Inside}
use Rattle.cip_hops.specs.Changes.{Suits, change_of}
use Rattle.cip_hops.specs.Hops.{Hops, as_hop, HasId, with_held, change_in, changed, is_link, touched}
use Rattle.cip_hops.specs.Kept.{hops, IsKept, Indexes}
use Rattle.cip_hops.proofs.Steps.{Stands, stands}
use Rattle.cip_hops.proofs.Changes.{written, kept_in_place, view_in_place}

pub held_open : (o : Option Held) (hop : Hop) → option_and_then as_hop o ≡ Some hop → o ≡ Some (Open hop)
held_open None hop e = absurd cc
held_open (Some (IsOpening opening ids)) hop e = absurd cc
held_open (Some (Open other)) hop e = let same : other ≡ hop = cc in ap (λ x. Some (Open x)) same

module _ (t : Inside) (h : IsKept t) (p : Hops) (is : hops t ≡ p) (id_of : Held → Option ℕ) (m : FinMap nat_cmp ℕ)
    (ix : Indexes id_of m (get t.records)) (id : ℕ) (triad : Triad) (n : HasId id_of p id triad) where
  pub it : Stands t triad (Open n.hop)
  it = stands t h triad (Open n.hop) (ap (λ (q : Hops). map.get q.held triad) is ∙ held_open (map.get p.held triad) n.hop n.stands)

  pub at_id : map.get m id ≡ Some it.key
  at_id = ix.complete id it.key (Open n.hop) it.found n.named

  module _ (key : ℕ) (at : Some key ≡ map.get m id) where
    same_key : it.key ≡ key
    same_key = let both : Some it.key ≡ Some key = sym at_id ∙ sym at in cc

    pub under_triad : map.get t.triads.keys triad ≡ Some key
    under_triad = it.noted_ ∙ ap (λ (k : ℕ). Some k) same_key

    pub in_records : get t.records key ≡ Some (Open n.hop)
    in_records = ap (get t.records) (sym same_key) ∙ it.found

    module _ (x : Held) (found : get t.records key ≡ Some x) where
      pub open_ : Open n.hop ≡ x
      open_ = let both : Some (Open n.hop) ≡ Some x = sym in_records ∙ found in cc

      module _ (side : Side) (now : ℕ) (link : IsTrue (is_link side n.hop)) (time : now < 2 ^ 63) where
        pub touch_suits : Suits (Touch side now) x
        touch_suits = subst (Suits (Touch side now)) open_ (link, time)

        pub kept_touched : IsKept (written t key (change_of (Touch side now) x))
        kept_touched = kept_in_place t h triad key x (Touch side now) under_triad found touch_suits

      pub view_touched : (side : Side) (now : ℕ) → hops (written t key (change_of (Touch side now) x)) ≡ changed p triad (touched side now)
      view_touched side now =
          view_in_place t h triad key x (Touch side now) under_triad found
          ∙ ap (λ (q : Hops). with_held q triad (change_of (Touch side now) x)) is
          ∙ ap (λ (y : Held). with_held p triad (change_of (Touch side now) y)) (sym open_)
          ∙ ap (change_in p triad (touched side now)) (sym n.stands)
