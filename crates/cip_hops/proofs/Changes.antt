-- A hop that is made of an opening, or changed in its place.
use Rattle.std.proofs.Common.{◌≡◌, ℕ, ◌<◌, Bool, true, false, not, refl, sym, ap, subst, ◌∙◌, Option, Some, None, IsSome, IsTrue, is_some, arith, ◌^◌}
use Rattle.std.specs.Option.{option_and_then, IsSomeAnd}
use Rattle.std.specs.FinMap as map
use Rattle.std.proofs.lemmas.List.Sums.{sum_by-set}
use Rattle.slab.specs.Slab.{Slab, get, slab_len, with_value, Updates}
use Rattle.slab.proofs.SlabLemmas.{ContainsKey-within, Updates-with_value}
use Rattle.cip_base.specs.declared.triad.Triad.{Triad}
use Rattle.cip_hops.specs.declared.opening.Opening.{Opening}
use Rattle.cip_hops.specs.declared.opening.OwnIds.{OwnIds}
use Rattle.cip_hops.specs.declared.hop.Hop.{Hop}
use Rattle.cip_hops.specs.declared.hop.Change.{Change}
use Rattle.cip_hops.specs.declared.hop.Change.TheVariants.{Finish, Touch, Count}
use Rattle.cip_hops.specs.declared.hop.Side.{Side}
use Rattle.cip_hops.specs.declared.hop.Side.TheVariants.{Up, Down}
use Rattle.cip_hops.specs.declared.hop.Held.{Held}
use Rattle.cip_hops.specs.declared.hop.Held.TheVariants.{Opening as IsOpening, Open}
use Rattle.cip_hops.specs.declared.table.HopTable.TheInside.{Inside}
use Rattle.cip_hops.specs.Sides.{up_is_link, down_is_link}
use Rattle.cip_hops.specs.Changes.{Suits, IsMeant, change_of}
use Rattle.cip_hops.specs.Hops.{Hops, opening_of, as_opening, as_hop, opened, open_in, finished, with_held, with_hop, ends_here, change_in, is_link, touched}
use Rattle.cip_hops.specs.Hops.{counted, IsHop, IsHeld}
use Rattle.cip_hops.specs.Kept.{hops, IsKept}
use Rattle.cip_base.proofs.Lengths.{one_if}
use Rattle.cip_hops.proofs.Ids.{is_some-if}
use Rattle.cip_hops.proofs.Steps.{SameNames, held_at, held_is, kept_changed, view_changed}

-- ---- an opening becomes a hop

pub opened_sound : (next : ℕ) (o : Opening) (ids : OwnIds) (their_id now : ℕ) → IsHeld next (IsOpening o ids)
    → IsHeld next (Open (opened o ids their_id now))
opened_sound next o ids their_id now h = record {
  multiplier = h.multiplier;
  up = h.up;
  down = h.down;
  up_below = h.up_below;
  down_below = h.down_below;
  open_ = λ hop e. let same : opened o ids their_id now ≡ hop = cc in subst IsHop same record {
    their_id = is_some-if (down_is_link o.down) _;
    up_deadline = is_some-if (up_is_link o.up) _;
    down_deadline = is_some-if (down_is_link o.down) _;
    consumed = λ _. refl;
    produced = λ _. refl;
  };
}

pub opened_alike : (o : Opening) (ids : OwnIds) (their_id now : ℕ) → SameNames (IsOpening o ids) (Open (opened o ids their_id now))
opened_alike o ids their_id now = record { triad = refl; up = refl; down = refl; op = refl }

pub finished_is : (p : Hops) (triad : Triad) (their_id now : ℕ) (o : Opening) (ids : OwnIds) → map.get p.held triad ≡ Some (IsOpening o ids)
    → finished p triad their_id now ≡ with_hop p triad (opened o ids their_id now)
finished_is p triad their_id now o ids e = ap (open_in p triad their_id now) e

-- ---- a hop changes

pub touched_alike : (side : Side) (now : ℕ) (hop : Hop) → SameNames (Open hop) (Open (touched side now hop))
touched_alike Up now hop = record { triad = refl; up = refl; down = refl; op = refl }
touched_alike Down now hop = record { triad = refl; up = refl; down = refl; op = refl }

pub counted_alike : (side : Side) (count : ℕ) (hop : Hop) → SameNames (Open hop) (Open (counted side count hop))
counted_alike Up count hop = record { triad = refl; up = refl; down = refl; op = refl }
counted_alike Down count hop = record { triad = refl; up = refl; down = refl; op = refl }

with_open : (next : ℕ) (hop new : Hop) → new.opening ≡ hop.opening → new.ids ≡ hop.ids → IsHeld next (Open hop) → IsHop new → IsHeld next (Open new)
with_open next hop new same ids h is = record {
  multiplier = subst (λ (o : Opening). o.multiplier < 8) (sym same) h.multiplier;
  up = ap (λ (d : OwnIds). is_some d.up) ids ∙ h.up ∙ ap (λ (o : Opening). up_is_link o.up) (sym same);
  down = ap (λ (d : OwnIds). is_some d.down) ids ∙ h.down ∙ ap (λ (o : Opening). down_is_link o.down) (sym same);
  up_below = λ id e. h.up_below id (ap (λ (d : OwnIds). d.up) (sym ids) ∙ e);
  down_below = λ id e. h.down_below id (ap (λ (d : OwnIds). d.down) (sym ids) ∙ e);
  open_ = λ other e. let one : new ≡ other = cc in subst IsHop one is;
}

pub touched_sound : (next : ℕ) (side : Side) (now : ℕ) (hop : Hop) → IsTrue (is_link side hop) → IsHeld next (Open hop)
    → IsHeld next (Open (touched side now hop))
touched_sound next Up now hop link h =
    let is = h.open_ hop refl in
    with_open next hop _ refl refl h record {
      their_id = is.their_id;
      up_deadline = sym link;
      down_deadline = is.down_deadline;
      consumed = is.consumed;
      produced = is.produced;
    }
touched_sound next Down now hop link h =
    let is = h.open_ hop refl in
    with_open next hop _ refl refl h record {
      their_id = is.their_id;
      up_deadline = is.up_deadline;
      down_deadline = sym link;
      consumed = is.consumed;
      produced = is.produced;
    }

no_link : (b : Bool) → IsTrue (not b) → b ≡ true → ⊥
no_link true e f = cc
no_link false e f = cc

pub counted_sound : (next : ℕ) (side : Side) (count : ℕ) (hop : Hop) → IsTrue (not (down_is_link hop.opening.down)) → IsHeld next (Open hop)
    → IsHeld next (Open (counted side count hop))
counted_sound next Up count hop end h =
    let is = h.open_ hop refl in
    with_open next hop _ refl refl h record {
      their_id = is.their_id;
      up_deadline = is.up_deadline;
      down_deadline = is.down_deadline;
      consumed = λ e. absurd (no_link (down_is_link hop.opening.down) end e);
      produced = is.produced;
    }
counted_sound next Down count hop end h =
    let is = h.open_ hop refl in
    with_open next hop _ refl refl h record {
      their_id = is.their_id;
      up_deadline = is.up_deadline;
      down_deadline = is.down_deadline;
      consumed = is.consumed;
      produced = λ e. absurd (no_link (down_is_link hop.opening.down) end e);
    }

-- ---- what each change makes of what is held

pub alike : (change : Change) (x : Held) → SameNames x (change_of change x)
alike (Finish their_id now) (IsOpening o ids) = opened_alike o ids their_id now
alike (Finish their_id now) (Open hop) = record { triad = refl; up = refl; down = refl; op = refl }
alike (Touch side now) (IsOpening o ids) = record { triad = refl; up = refl; down = refl; op = refl }
alike (Touch side now) (Open hop) = touched_alike side now hop
alike (Count side count) (IsOpening o ids) = record { triad = refl; up = refl; down = refl; op = refl }
alike (Count side count) (Open hop) = counted_alike side count hop

sound : (next : ℕ) (change : Change) (x : Held) → Suits change x → IsHeld next x → IsHeld next (change_of change x)
sound next (Finish their_id now) (IsOpening o ids) suits h = opened_sound next o ids their_id now h
sound next (Finish their_id now) (Open hop) suits h = h
sound next (Touch side now) (IsOpening o ids) suits h = h
sound next (Touch side now) (Open hop) suits h = touched_sound next side now hop suits.0 h
sound next (Count side count) (IsOpening o ids) suits h = h
sound next (Count side count) (Open hop) suits h = counted_sound next side count hop suits h

-- as many records as before
same_len : (s : Slab Held) (key : ℕ) (x y : Held) → get s key ≡ Some x → slab_len (with_value s key y) ≡ slab_len s
same_len s key x y found =
    let within = ContainsKey-within s key (subst (λ (o : Option Held). IsSome o) (sym found) refl) in
    let sum = sum_by-set (λ (o : Option Held). one_if (is_some o)) s.slots key (Some y) None within in
    let was : one_if (is_some (get s key)) ≡ one_if true = ap (λ (o : Option Held). one_if (is_some o)) found in omega (arith, sum, was)

-- the table with another record under a key
abbrev pub written : Inside → ℕ → Held → Inside
written t key y = record {
  room = t.room;
  next = t.next;
  triads = t.triads;
  ups = t.ups;
  downs = t.downs;
  ops = t.ops;
  records = with_value t.records key y;
}

-- what stands under the key stands under the triad
pub stands : (t : Inside) (p : Hops) → IsKept t → hops t ≡ p → (triad : Triad) (key : ℕ) (x : Held)
    → map.get t.triads.keys triad ≡ Some key → get t.records key ≡ Some x → map.get p.held triad ≡ Some x
stands t p h is triad key x at found = ap (λ (p : Hops). map.get p.held triad) (sym is) ∙ held_at t h triad key x at found

module _ (t : Inside) (h : IsKept t) (triad : Triad) (key : ℕ) (x : Held) (change : Change)
    (at : map.get t.triads.keys triad ≡ Some key) (found : get t.records key ≡ Some x) where
  abbrev y : Held
  y = change_of change x

  updates : Updates t.records (with_value t.records key y) key (Some y)
  updates = Updates-with_value t.records key y (subst (λ (o : Option Held). IsSome o) (sym found) refl)

  pub kept_in_place : Suits change x → IsKept (written t key (change_of change x))
  kept_in_place suits =
      kept_changed t h triad key x y (with_value t.records key y) at found updates.changed updates.others (alike change x)
      (same_len t.records key x y found) refl (sound t.next change x suits (h.each key x found))

  pub view_in_place : hops (written t key (change_of change x)) ≡ with_held (hops t) triad (change_of change x)
  view_in_place = view_changed t h triad key x y (with_value t.records key y) at found updates.changed updates.others (alike change x)

-- the table with other records
abbrev pub with_records : Inside → Slab Held → Inside
with_records t s = record {
  room = t.room;
  next = t.next;
  triads = t.triads;
  ups = t.ups;
  downs = t.downs;
  ops = t.ops;
  records = s;
}

-- the records in which what stands under a key was changed
abbrev pub HasChanged : Slab Held → ℕ → Change → Slab Held → Type 0
HasChanged records key change s = IsSomeAnd (get records key) (λ x. s ≡ with_value records key (change_of change x))

pub changed_one : (records : Slab Held) (key : ℕ) (change : Change) (s : Slab Held) (x : Held) → get records key ≡ Some x
    → HasChanged records key change s → s ≡ with_value records key (change_of change x)
changed_one records key change s x found is =
    subst (λ (o : Option Held). IsSomeAnd o (λ x. s ≡ with_value records key (change_of change x))) found is

pub meant_one : (records : Slab Held) (key : ℕ) (change : Change) (x : Held) → get records key ≡ Some x → IsMeant change x
    → IsSomeAnd (get records key) (IsMeant change)
meant_one records key change x found is = subst (λ (o : Option Held). IsSomeAnd o (IsMeant change)) (sym found) is

module _ (t : Inside) (h : IsKept t) (p : Hops) (is : hops t ≡ p) (triad : Triad) (key : ℕ) (at : map.get t.triads.keys triad ≡ Some key) where
  -- what stands under the triad stands under the key
  pub held_here : map.get p.held triad ≡ get t.records key
  held_here = ap (λ (q : Hops). map.get q.held triad) (sym is) ∙ held_is t h triad ∙ ap (option_and_then (get t.records)) at

  module _ (change : Change) (suits : IsSomeAnd (map.get p.held triad) (Suits change)) where
    suits_here : IsSomeAnd (get t.records key) (Suits change)
    suits_here = subst (λ (o : Option Held). IsSomeAnd o (Suits change)) held_here suits

    pub meant : IsSomeAnd (get t.records key) (IsMeant change)
    meant = each (get t.records key) (λ x found. (h.each key x found).multiplier) suits_here
      where
        each : (o : Option Held) → ((x : Held) → o ≡ Some x → (opening_of x).multiplier < 8) → IsSomeAnd o (Suits change) → IsSomeAnd o (IsMeant change)
        each None multiplier suits = suits
        each (Some x) multiplier suits = (suits, multiplier x refl)

    module _ (s : Slab Held) (changed : HasChanged t.records key change s) where
      pub kept_after : IsKept (with_records t s)
      kept_after = each (get t.records key) refl suits_here changed
        where
          each : (o : Option Held) → get t.records key ≡ o → IsSomeAnd o (Suits change)
              → IsSomeAnd o (λ x. s ≡ with_value t.records key (change_of change x)) → IsKept (with_records t s)
          each None found suits is = absurd suits
          each (Some x) found suits is = subst (λ r. IsKept (with_records t r)) (sym is) (kept_in_place t h triad key x change at found suits)

      pub view_after : IsSomeAnd (map.get p.held triad) (λ x. hops (with_records t s) ≡ with_held p triad (change_of change x))
      view_after =
          subst (λ (o : Option Held). IsSomeAnd o (λ x. hops (with_records t s) ≡ with_held p triad (change_of change x))) (sym held_here)
          (each (get t.records key) refl changed)
        where
          each : (o : Option Held) → get t.records key ≡ o → IsSomeAnd o (λ x. s ≡ with_value t.records key (change_of change x))
              → IsSomeAnd o (λ x. hops (with_records t s) ≡ with_held p triad (change_of change x))
          each None found e = e
          each (Some x) found e = ap (λ r. hops (with_records t r)) e ∙ view_in_place t h triad key x change at found
              ∙ ap (λ q. with_held q triad (change_of change x)) is

-- ---- each call by the change that it makes

pub finish_suits : (their_id now : ℕ) (o : Option Held) → IsSome (option_and_then as_opening o) → now < 2 ^ 63
    → IsSomeAnd o (Suits (Finish their_id now))
finish_suits their_id now None is time = absurd (cc)
finish_suits their_id now (Some x) is time = (is, time)

pub finish_is : (p new : Hops) (triad : Triad) (their_id now : ℕ) (o : Option Held) → IsSome (option_and_then as_opening o)
    → IsSomeAnd o (λ x. new ≡ with_held p triad (change_of (Finish their_id now) x)) → new ≡ open_in p triad their_id now o
finish_is p new triad their_id now None is e = absurd (cc)
finish_is p new triad their_id now (Some (IsOpening o ids)) is e = e
finish_is p new triad their_id now (Some (Open hop)) is e = absurd (cc)

pub touch_suits : (side : Side) (now : ℕ) (o : Option Held) → IsSomeAnd (option_and_then as_hop o) (λ hop. IsTrue (is_link side hop)) → now < 2 ^ 63
    → IsSomeAnd o (Suits (Touch side now))
touch_suits side now None is time = is
touch_suits side now (Some x) is time = (is, time)

pub count_suits : (side : Side) (count : ℕ) (o : Option Held) → IsSomeAnd (option_and_then as_hop o) (λ hop. IsTrue (ends_here hop))
    → IsSomeAnd o (Suits (Count side count))
count_suits side count None is = is
count_suits side count (Some x) is = is

pub touch_is : (p new : Hops) (triad : Triad) (side : Side) (now : ℕ) (o : Option Held)
    → IsSomeAnd (option_and_then as_hop o) (λ hop. IsTrue (is_link side hop))
    → IsSomeAnd o (λ x. new ≡ with_held p triad (change_of (Touch side now) x)) → new ≡ change_in p triad (touched side now) (option_and_then as_hop o)
touch_is p new triad side now None is e = absurd is
touch_is p new triad side now (Some (IsOpening o ids)) is e = absurd is
touch_is p new triad side now (Some (Open hop)) is e = e

pub count_is : (p new : Hops) (triad : Triad) (side : Side) (count : ℕ) (o : Option Held)
    → IsSomeAnd (option_and_then as_hop o) (λ hop. IsTrue (ends_here hop))
    → IsSomeAnd o (λ x. new ≡ with_held p triad (change_of (Count side count) x)) → new ≡ change_in p triad (counted side count) (option_and_then as_hop o)
count_is p new triad side count None is e = absurd is
count_is p new triad side count (Some (IsOpening o ids)) is e = absurd is
count_is p new triad side count (Some (Open hop)) is e = e
