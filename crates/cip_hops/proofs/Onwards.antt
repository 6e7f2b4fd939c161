-- A datum on its way: the hop that has this own id on this side, through the index of that side.
use Rattle.std.proofs.Common.{◌≡◌, ℕ, ◌<◌, ◌^◌, Bool, true, false, List, sym, ap, subst, ◌∙◌, Option, Some, None, if◌then◌else◌, is_some}
use Rattle.std.specs.Option.{option_and_then}
use Rattle.std.specs.FinMap as map
use Rattle.std.specs.FinMap.{FinMap}
use Rattle.std.specs.Ordering.{nat_cmp}
use Rattle.slab.specs.Slab.{get}
use Rattle.cip_hops.specs.declared.hop.Hop.{Hop}
use Rattle.cip_hops.specs.declared.hop.Side.{Side}
use Rattle.cip_hops.specs.declared.hop.Side.TheVariants.{Up, Down}
use Rattle.cip_hops.specs.declared.hop.Change.TheVariants.{Touch}
use Rattle.cip_hops.specs.declared.hop.Held.{Held}
use Rattle.cip_hops.specs.declared.hop.Held.TheVariants.{Open}
use Rattle.cip_hops.specs.declared.onward.Onward.{Onward}
use Rattle.cip_hops.specs.declared.table.HopTable.TheInside.{Inside}
use Rattle.cip_hops.specs.Changes.{IsMeant, change_of}
use Rattle.cip_hops.specs.Hops.{Hops, as_hop, up_id_of, down_id_of, HasId, hop_at, is_link}
use Rattle.cip_hops.specs.Onwards.{on_side, side_is, hop_by, after_onward}
use Rattle.cip_hops.specs.Kept.{hops, IsKept, Indexes}
use Rattle.cip_hops.proofs.Steps.{under}
use Rattle.cip_hops.proofs.Named.{no_up, no_down, up_opening, down_opening, up_gives, down_gives, is_open}
use Rattle.cip_hops.proofs.Changes.{written}
use Rattle.cip_hops.proofs.Touching.{kept_touched, view_touched}

abbrev pub keys_by : Side → Inside → FinMap nat_cmp ℕ
keys_by side t = on_side side t.ups.keys t.downs.keys

abbrev pub id_by : Side → Held → Option ℕ
id_by Up = up_id_of
id_by Down = down_id_of

module _ (t : Inside) (h : IsKept t) (p : Hops) (is : hops t ≡ p) where
  index_by : (side : Side) → Indexes (id_by side) (keys_by side t) (get t.records)
  index_by Up = h.by_up
  index_by Down = h.by_down

  link_by : (side : Side) (key id : ℕ) (hop : Hop) → get t.records key ≡ Some (Open hop) → id_by side (Open hop) ≡ Some id → is_link side hop ≡ true
  link_by Up key id hop found named = sym (h.each key (Open hop) found).up ∙ ap is_some named
  link_by Down key id hop found named = sym (h.each key (Open hop) found).down ∙ ap is_some named

  module _ (id port : ℕ) (address : List ℕ) where
    none_in : (side : Side) → map.get (keys_by side t) id ≡ None → hop_by side (hops t) id port address ≡ None
    none_in Up = no_up t h id port address
    none_in Down = no_down t h id port address

    opening_in : (side : Side) (key : ℕ) (x : Held) → map.get (keys_by side t) id ≡ Some key → get t.records key ≡ Some x → as_hop x ≡ None
        → hop_by side (hops t) id port address ≡ None
    opening_in Up = up_opening t h id port address
    opening_in Down = down_opening t h id port address

    gives_in : (side : Side) (key : ℕ) (x : Held) (hop : Hop) (r : Bool) → map.get (keys_by side t) id ≡ Some key → get t.records key ≡ Some x
        → as_hop x ≡ Some hop → side_is side port address hop ≡ r → hop_by side (hops t) id port address ≡ (if r then Some hop else None)
    gives_in Up = up_gives t h id port address
    gives_in Down = down_gives t h id port address

    module _ (side : Side) where
      here : hop_by side (hops t) id port address ≡ hop_by side p id port address
      here = ap (λ q. hop_by side q id port address) is

      pub no_hop : map.get (keys_by side t) id ≡ None → hop_by side p id port address ≡ None
      no_hop none = sym here ∙ none_in side none

      module _ (key : ℕ) (at : map.get (keys_by side t) id ≡ Some key) where
        pub no_record : get t.records key ≡ None → ⊥
        no_record none = let s = (index_by side).sound id key at in let both : None ≡ Some s.held = sym none ∙ s.stands in cc

        module _ (x : Held) (found : get t.records key ≡ Some x) where
          pub no_open : as_hop x ≡ None → hop_by side p id port address ≡ None
          no_open none = sym here ∙ opening_in side key x at found none

          module _ (hop : Hop) (open_ : as_hop x ≡ Some hop) where
            pub elsewhere : side_is side port address hop ≡ false → hop_by side p id port address ≡ None
            elsewhere other = sym here ∙ gives_in side key x hop false at found open_ other

            pub one_hop : side_is side port address hop ≡ true → hop_by side p id port address ≡ Some hop
            one_hop same = sym here ∙ gives_in side key x hop true at found open_ same

            held : x ≡ Open hop
            held = is_open x hop open_

            named : id_by side (Open hop) ≡ Some id
            named = let s = (index_by side).sound id key at in
                let both : Some s.held ≡ Some x = sym s.stands ∙ found in
                let one : s.held ≡ x = cc in
                ap (id_by side) (sym held) ∙ ap (id_by side) (sym one) ∙ s.named

            in_place : get t.records key ≡ Some (Open hop)
            in_place = found ∙ ap (λ y. Some y) held

            abbrev stands : HasId (id_by side) p id hop.opening.triad
            stands = record {
              hop = hop;
              stands = ap (λ (q : Hops). hop_at q hop.opening.triad) (sym is)
                  ∙ ap (option_and_then as_hop) (under t h key (Open hop) in_place);
              named = named;
            }

            module _ (now : ℕ) where
              pub meant_on : now < 2 ^ 63 → IsMeant (Touch side now) x
              meant_on time = subst (IsMeant (Touch side now)) (sym held)
                  ((link_by side key id hop in_place named, time), (h.each key (Open hop) in_place).multiplier)

              pub kept_on : now < 2 ^ 63 → IsKept (written t key (change_of (Touch side now) x))
              kept_on time = kept_touched t h p is (id_by side) (keys_by side t) (index_by side) id hop.opening.triad stands key (sym at) x found side now
                  (link_by side key id hop in_place named) time

              pub gone_on : (onward : Onward) → side_is side port address hop ≡ true
                  → hops (written t key (change_of (Touch side now) x)) ≡ after_onward p side now (hop_by side p id port address) (Some onward)
              gone_on onward same =
                  view_touched t h p is (id_by side) (keys_by side t) (index_by side) id hop.opening.triad stands key (sym at) x found side now
                  ∙ ap (λ o. after_onward p side now o (Some onward)) (sym (one_hop same))
