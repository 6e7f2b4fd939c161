-- What the tables show of a state: two states that show the same tables have the same clock, numbers, requests, assemblies and ops; and tables as at the
-- beginning are those of the first state alone.
use Rattle.std.proofs.Common.{◌≡◌, ℕ, true, false, cond, List, [], ◌∷◌, length, Option, Some, None, is_some, refl, sym, ap, subst, ◌∙◌, ◌⊎◌, inl, inr, arith}
use Rattle.std.specs.List.{All}
use Rattle.std.specs.Prelude.{map, filter_map, option_and_then}
use Rattle.std.proofs.lemmas.List.Elements.{All-head, All-tail}
use Rattle.std.specs.Ordering.{nat_cmp, eq_by_cmp}
use Rattle.std.specs.FinMap as finite
use Rattle.cip_base.specs.declared.triad.Triad.{Triad}
use Rattle.cip_base.specs.Triads.{triad_cmp}
use Rattle.cip_base.proofs.Triads.{triads_total}
use Rattle.cip_hops.proofs.Steps.{triads_apart}
use Rattle.cip_hops.specs.declared.hop.Hop.{Hop}
use Rattle.cip_hops.specs.declared.hop.Held.{Held}
use Rattle.cip_hops.specs.declared.hop.Held.TheVariants.{Opening as IsOpening, Open}
use Rattle.cip_hops.specs.declared.opening.Opening.{Opening}
use Rattle.cip_hops.specs.declared.opening.OwnIds.{OwnIds}
use Rattle.cip_hops.specs.Hops.{as_hop, as_opening, opening_at}
use Rattle.cip_pending.specs.declared.entry.Entry.{Entry}
use Rattle.cip_config.specs.declared.config.ModuleSettings.{ModuleSettings}
use Rattle.cip_routing.specs.declared.tables.HopRow.{HopRow}
use Rattle.cip_routing.specs.declared.tables.Tables.{Tables}
use Rattle.cip_laws.specs.OwnTriads.{HasOwnTriads}
use Rattle.cip_routing.specs.Paired.{IsPaired}
use Rattle.cip_routing.specs.Rooms.{HasRooms}
use Rattle.cip_routing.specs.State.{State, initial_state}
use Rattle.cip_routing.specs.Views.{row_of, hop_row_of, assembly_row_of, ShowsState, SlotsAlike, LooksAlike, ShowsNone}
use Rattle.cip_laws.proofs.TellsCommands.{each_stands}

-- ---- lists of rows

module _ {X Y : Type 0} (f : X → Y) (back : (x y : X) → f x ≡ f y → x ≡ y) where
  rows_back : (xs ys : List X) → map f xs ≡ map f ys → xs ≡ ys
  rows_back [] [] e = refl
  rows_back [] (y ∷ ys) e = absurd (cc)
  rows_back (x ∷ xs) [] e = absurd (cc)
  rows_back (x ∷ xs) (y ∷ ys) e =
      let heads : f x ≡ f y = cc in
      let tails : map f xs ≡ map f ys = cc in
      λ i. back x y heads i ∷ rows_back xs ys tails i

pending_back : (a b : ℕ × Entry) → row_of a ≡ row_of b → a ≡ b
pending_back a b e = λ i. ((e i).number, (e i).entry)

assembly_back : (a b : ℕ × List ℕ) → assembly_row_of a ≡ assembly_row_of b → a ≡ b
assembly_back a b e = λ i. ((e i).instance, (e i).bytes)

-- ---- two states that show the same tables

pub record Alike (s t : State) : Type 0 where
  pub now : s.now ≡ t.now
  pub number : s.pendings.next ≡ t.pendings.next
  pub id : s.hops.next ≡ t.hops.next
  pub pendings : s.pendings.entries ≡ t.pendings.entries
  pub assemblies : s.assemblies ≡ t.assemblies
  pub ops : s.ops ≡ t.ops

pub alike : (s t : State) (tables : Tables) → ShowsState s tables → ShowsState t tables → Alike s t
alike s t tables h k = record {
  now = sym h.now ∙ k.now;
  number = sym h.last_number ∙ k.last_number;
  id = sym h.last_id ∙ k.last_id;
  pendings = finite.same_entries_map s.pendings.entries t.pendings.entries
      (rows_back row_of pending_back (finite.entries s.pendings.entries) (finite.entries t.pendings.entries) (sym h.pendings ∙ k.pendings));
  assemblies = finite.same_entries_map s.assemblies t.assemblies
      (rows_back assembly_row_of assembly_back (finite.entries s.assemblies) (finite.entries t.assemblies) (sym h.assemblies ∙ k.assemblies));
  ops = sym h.ops ∙ k.ops;
}

-- ---- no connection is shown

no_items : {X : Type 0} (xs : List X) → length xs ≡ 0 → xs ≡ []
no_items [] e = refl
no_items (x ∷ xs) e = absurd (omega (arith, e))

no_entries : finite.entries (finite.empty {X = Held} {R = triad_cmp}) ≡ []
no_entries = no_items (finite.entries (finite.empty {X = Held} {R = triad_cmp}))
    (sym (finite.len-entries (finite.empty {X = Held} {R = triad_cmp})) ∙ finite.len-empty triad_cmp Held)

-- the rows of what is open
abbrev rows : List (Triad × Held) → List HopRow
rows es = map hop_row_of (filter_map (λ (e : Triad × Held). as_hop e.1) es)

-- one of these rows
abbrev Among : List HopRow → HopRow → Type 0
Among [] row = ⊥
Among (x ∷ xs) row = (x ≡ row) ⊎ Among xs row

-- what is open has a row
has_row : (es : List (Triad × Held)) (q : Triad) (hop : Hop) → finite.find triad_cmp q es ≡ Some (Open hop) → Among (rows es) (hop_row_of hop)
has_row [] q hop at = absurd (cc)
has_row ((k, IsOpening o ids) ∷ es) q hop at =
    elim (eq_by_cmp triad_cmp q k) as (λ b. cond b (Some (IsOpening o ids)) (finite.find triad_cmp q es) ≡ Some (Open hop) → Among (rows es) (hop_row_of hop)) [
      | true ↦ λ s. absurd (cc)
      | false ↦ λ s. has_row es q hop s
    ] at
has_row ((k, Open g) ∷ es) q hop at =
    elim (eq_by_cmp triad_cmp q k) as (λ b. cond b (Some (Open g)) (finite.find triad_cmp q es) ≡ Some (Open hop)
    → Among (rows ((k, Open g) ∷ es)) (hop_row_of hop)) [
      | true ↦ λ s. let same : g ≡ hop = cc in inl (ap hop_row_of same)
      | false ↦ λ s. inr (has_row es q hop s)
    ] at

-- a row is of what is open
record OfRow (m : finite.FinMap triad_cmp Held) (row : HopRow) : Type 0 where
  key : Triad
  hop : Hop
  at : finite.get m key ≡ Some (Open hop)
  is : hop_row_of hop ≡ row

of_row : (m : finite.FinMap triad_cmp Held) (es : List (Triad × Held)) → All (λ e. finite.get m e.0 ≡ Some e.1) es → (row : HopRow) → Among (rows es) row
    → OfRow m row
of_row m [] all row a = absurd a
of_row m ((k, IsOpening o ids) ∷ es) all row a = of_row m es (All-tail (λ e. finite.get m e.0 ≡ Some e.1) (k, IsOpening o ids) es all) row a
of_row m ((k, Open g) ∷ es) all row (inl e) =
    record { key = k; hop = g; at = All-head (λ e. finite.get m e.0 ≡ Some e.1) (k, Open g) es all; is = e }
of_row m ((k, Open g) ∷ es) all row (inr a) = of_row m es (All-tail (λ e. finite.get m e.0 ≡ Some e.1) (k, Open g) es all) row a

module _ (s : State) (tables : Tables) (paired : IsPaired s.pendings s.hops) (shows : ShowsState s tables) (none : ShowsNone s tables) where
  none_held : (q : Triad) (x : Option Held) → finite.get s.hops.held q ≡ x → x ≡ None
  none_held q None at = refl
  none_held q (Some (Open hop)) at =
      absurd (subst (λ (rs : List HopRow). Among rs (hop_row_of hop)) (sym shows.hops ∙ none.hops)
      (has_row (finite.entries s.hops.held) q hop (sym (finite.get-entries s.hops.held q) ∙ at)))
  none_held q (Some (IsOpening o ids)) at =
      absurd (paired.only q (ap (λ y. is_some (option_and_then as_opening y)) at) (λ n awaited.
      let no : None ≡ Some q = sym (none.pendings n awaited.entry awaited.waits) ∙ awaited.kind in cc))

  bare : s.hops.held ≡ finite.empty
  bare = finite.same_map triads_total triads_apart s.hops.held finite.empty
      (λ q. none_held q (finite.get s.hops.held q) refl ∙ sym (finite.get-empty {X = Held} triad_cmp q))

-- ---- two states

module _ (config : ModuleSettings) (s t : State) (tables : Tables) (roomy : HasRooms config s) (other_roomy : HasRooms config t)
    (paired : IsPaired s.pendings s.hops) (other_paired : IsPaired t.pendings t.hops) (shows : ShowsState s tables) (other_shows : ShowsState t tables) where
  same : Alike s t
  same = alike s t tables shows other_shows

  same_pendings : s.pendings ≡ t.pendings
  same_pendings = λ i. record { room = (roomy.pendings ∙ sym other_roomy.pendings) i; next = same.number i; entries = same.pendings i }

  same_room : s.hops.room ≡ t.hops.room
  same_room = roomy.hops ∙ sym other_roomy.hops

  -- where no connection is shown they are equal
  pub equal_bare : ShowsNone s tables → s ≡ t
  equal_bare none =
      let other : ShowsNone t tables =
      record { hops = none.hops; pendings = λ n p at. none.pendings n p (ap (λ m. finite.get m n) same.pendings ∙ at) } in
      let held = bare s tables paired shows none ∙ sym (bare t tables other_paired other_shows other) in
      λ i. record {
        now = same.now i;
        pendings = same_pendings i;
        hops = record { room = same_room i; next = same.id i; held = held i };
        assemblies = same.assemblies i;
        ops = same.ops i;
      }

-- what is open in one is open in the other, with the same row
module _ (s t : State) (tables : Tables) (own : HasOwnTriads s) (other_own : HasOwnTriads t) (shows : ShowsState s tables) (other_shows : ShowsState t tables)
  where
    there : (q : Triad) (hop : Hop) → finite.get s.hops.held q ≡ Some (Open hop)
        → (g : Hop) × (finite.get t.hops.held q ≡ Some (Open g)) × (hop_row_of hop ≡ hop_row_of g)
    there q hop at =
        let row = subst (λ (rs : List HopRow). Among rs (hop_row_of hop)) (sym shows.hops ∙ other_shows.hops)
        (has_row (finite.entries s.hops.held) q hop (sym (finite.get-entries s.hops.held q) ∙ at)) in
        let of = of_row t.hops.held (finite.entries t.hops.held) (each_stands t.hops) (hop_row_of hop) row in
        let key : of.key ≡ q = sym (other_own of.key (Open of.hop) of.at) ∙ ap (λ (r : HopRow). r.triad) of.is ∙ own q (Open hop) at in
        (of.hop, ap (finite.get t.hops.held) (sym key) ∙ of.at, sym of.is)

-- what is opening in one is opening in the other
module _ (s t : State) (paired : IsPaired s.pendings s.hops) (other_paired : IsPaired t.pendings t.hops) (same : s.pendings.entries ≡ t.pendings.entries) where
  opens_too : (q : Triad) (o : Opening) (ids : OwnIds) → finite.get s.hops.held q ≡ Some (IsOpening o ids)
      → is_some (opening_at t.hops q) ≡ false → ⊥
  opens_too q o ids at none =
      paired.only q (ap (λ y. is_some (option_and_then as_opening y)) at)
      (λ n awaited.
      let some : is_some (opening_at t.hops q) ≡ true =
      other_paired.each q n (record { entry = awaited.entry; waits = ap (λ m. finite.get m n) (sym same) ∙ awaited.waits; kind = awaited.kind }) in
      let both : false ≡ true = sym none ∙ some in cc)

module _ (config : ModuleSettings) (s t : State) (tables : Tables) (roomy : HasRooms config s) (other_roomy : HasRooms config t)
    (paired : IsPaired s.pendings s.hops) (other_paired : IsPaired t.pendings t.hops) (own : HasOwnTriads s) (other_own : HasOwnTriads t)
    (shows : ShowsState s tables) (other_shows : ShowsState t tables) where
  both : Alike s t
  both = alike s t tables shows other_shows

  unopened : (u : State) (q : Triad) (x : Option Held) → finite.get u.hops.held q ≡ x → is_some (option_and_then as_opening x) ≡ false
      → is_some (opening_at u.hops q) ≡ false
  unopened u q x at none = ap (λ y. is_some (option_and_then as_opening y)) at ∙ none

  slots : (q : Triad) (x y : Option Held) → finite.get s.hops.held q ≡ x → finite.get t.hops.held q ≡ y → SlotsAlike x y
  slots q None None a b = tt
  slots q (Some (IsOpening o ids)) (Some (IsOpening p more)) a b = tt
  slots q (Some (Open hop)) y a b =
      let is = there s t tables own other_own shows other_shows q hop a in
      subst (SlotsAlike (Some (Open hop))) (sym is.1 ∙ b) is.2
  slots q None (Some (Open hop)) a b =
      let is = there t s tables other_own own other_shows shows q hop b in
      let no : None ≡ Some (Open is.0) = sym a ∙ is.1 in cc
  slots q None (Some (IsOpening o ids)) a b = absurd (opens_too t s other_paired paired (sym both.pendings) q o ids b (unopened s q None a refl))
  slots q (Some (IsOpening o ids)) None a b = absurd (opens_too s t paired other_paired both.pendings q o ids a (unopened t q None b refl))
  slots q (Some (IsOpening o ids)) (Some (Open hop)) a b =
      absurd (opens_too s t paired other_paired both.pendings q o ids a (unopened t q (Some (Open hop)) b refl))

  pub looks_alike : LooksAlike s t
  looks_alike = record {
    now = both.now;
    pendings = same_pendings config s t tables roomy other_roomy paired other_paired shows other_shows;
    room = same_room config s t tables roomy other_roomy paired other_paired shows other_shows;
    id = both.id;
    held = λ q. slots q (finite.get s.hops.held q) (finite.get t.hops.held q) refl refl;
    assemblies = both.assemblies;
    ops = both.ops;
  }

-- ---- tables as at the beginning

none_first : (config : ModuleSettings) (tables : Tables) → ShowsState (initial_state config) tables → ShowsNone (initial_state config) tables
none_first config tables shows = record {
  hops = shows.hops ∙ ap rows no_entries;
  pendings =
      λ n p at. let none : None ≡ Some p = sym (finite.get-empty {X = Entry} nat_cmp n) ∙ at in absurd (cc);
}

first_rooms : (config : ModuleSettings) → HasRooms config (initial_state config)
first_rooms config = record { pendings = refl; hops = refl }

-- nothing waits and nothing opens
first_paired : (config : ModuleSettings) → IsPaired (initial_state config).pendings (initial_state config).hops
first_paired config = record {
  each = λ triad n a. let none : None ≡ Some a.entry = sym (finite.get-empty {X = Entry} nat_cmp n) ∙ a.waits in absurd (cc);
  one = λ triad m n a b. let none : None ≡ Some a.entry = sym (finite.get-empty {X = Entry} nat_cmp m) ∙ a.waits in absurd (cc);
  only = λ triad some no.
      let none : is_some (opening_at (initial_state config).hops triad) ≡ false =
      ap (λ y. is_some (option_and_then as_opening y)) (finite.get-empty {X = Held} triad_cmp triad) in
      let both : true ≡ false = sym some ∙ none in cc;
}

pub fresh : (config : ModuleSettings) (s : State) (tables : Tables) → IsPaired s.pendings s.hops → ShowsState s tables
    → ShowsState (initial_state config) tables → HasRooms config s → s ≡ initial_state config
fresh config s tables paired shows first rooms =
    sym (equal_bare config (initial_state config) s tables (first_rooms config) rooms (first_paired config) paired first shows (none_first config tables first))
