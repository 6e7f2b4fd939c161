-- That the tables of a module fit one another after a connection ends here.
use Rattle.std.proofs.Common.{◌≡◌, ℕ, ◌≤◌, ◌<◌, Bool, true, false, cond, eqb, ◌&&◌, refl, sym, ap, subst, ◌∙◌, Option, Some, None, is_some, List, [], length}
use Rattle.std.proofs.Common.{◌⊎◌, inl, inr, Ok, Err}
use Rattle.std.specs.Prelude.{option_and_then, nat_lt, not, IsSomeAnd}
use Rattle.std.specs.Option.{option_map_or}
use Rattle.std.specs.Cmp.{nat_cmp_total}
use Rattle.std.specs.FinMap as map
use Rattle.std.proofs.lemmas.Bool.{eqb-true, eq-eqb, lt-ltb}
use Rattle.cip_base.specs.declared.triad.Triad.{Triad}
use Rattle.cip_segment.specs.Reading.{segments_of}
use Rattle.cip_open.specs.declared.request.OpenFields.{OpenFields}
use Rattle.cip_open.specs.Open.{Open as OpenRecord}
use Rattle.cip_pending.specs.Pendings.{Pendings}
use Rattle.cip_hops.specs.declared.opening.Opening.{Opening}
use Rattle.cip_hops.specs.declared.opening.OwnIds.{OwnIds}
use Rattle.cip_hops.specs.declared.hop.Held.{Held}
use Rattle.cip_hops.specs.declared.hop.Held.TheVariants.{Opening as IsOpening, Open}
use Rattle.cip_hops.specs.Sides.{op_of, own_ids}
use Rattle.cip_hops.specs.Hops.{Hops, begun, finished, opened, opening_at, held_op_of, as_opening}
use Rattle.cip_hops.proofs.Changes.{finished_is}
use Rattle.cip_target.specs.ApplicationPath.{Application, application_of}
use Rattle.cip_target.specs.Assemblies.{AssemblyMap, Owners, size_in, owned_with}
use Rattle.cip_target.specs.declared.ends.EndRefusal.TheVariants.{NotAnApplicationPath, NoSuchInstanceOrConfiguration, TransportClassNotSupported, SizeMismatch}
use Rattle.cip_target.specs.declared.ends.EndRefusal.TheVariants.{OutputOwned}
use Rattle.cip_target.specs.Ends.{Ends, sized_row, application_row, end_row, row_at, is_configuration, are_sizes, class_of, link_of, configuration_of}
use Rattle.cip_target.specs.Ends.{configured, accepted}
use Rattle.cip_target.specs.declared.link.EndLink.{EndLink}
use Rattle.cip_target.proofs.Fitting.{FitsWith, fitting}
use Rattle.cip_config.specs.declared.config.ModuleSettings.{ModuleSettings}
use Rattle.cip_routing.specs.OpenRows.{writes_to, end_down}
use Rattle.cip_routing.specs.Code.Fit.{Fit, AreOwned, writes_of}
use Rattle.cip_routing.specs.State.{is_spent}
use Rattle.cip_base.proofs.Points.{one_or_apart, put_here, put_apart}
use Rattle.cip_routing.proofs.Fits.{Becomes, becomes_put, spent_becomes, links_becomes, paired_becomes, numbers_apart, triad_or_not}
use Rattle.cip_steps.proofs.Sizes.{written_sizes}

-- ---- what fits has an output that nothing owns

last_row : (a b c d : Bool) (l link : EndLink) → cond a (Err NoSuchInstanceOrConfiguration)
    (cond b (Err TransportClassNotSupported) (cond c (Err SizeMismatch) (cond d (Err OutputOwned) (Ok l)))) ≡ Ok link → (d ≡ false) × (l ≡ link)
last_row true b c d l link e = absurd (cc)
last_row false true c d l link e = absurd (cc)
last_row false false true d l link e = absurd (cc)
last_row false false false true l link e = absurd (cc)
last_row false false false false l link e = (refl, cc)

both_false : (d : ℕ) (b : Bool) → (nat_lt 0 d && b) ≡ false → 0 < d → b ≡ false
both_false d b e some = sym (ap (λ t. t && b) (lt-ltb 0 d some)) ∙ e

sized_free : (owned : ℕ → Bool) (f : OpenFields) (a : Application) (x y z : Option ℕ) (link : EndLink) → sized_row owned f a x y z ≡ Ok link
    → (link_of f a ≡ link) × ((d : ℕ) → y ≡ Some d → 0 < d → owned a.consume ≡ false)
sized_free owned f a None y z link e = absurd (let none : (Err NoSuchInstanceOrConfiguration) ≡ Ok link = e in cc)
sized_free owned f a (Some c) None z link e = absurd (let none : (Err NoSuchInstanceOrConfiguration) ≡ Ok link = e in cc)
sized_free owned f a (Some c) (Some d) None link e = absurd (let none : (Err NoSuchInstanceOrConfiguration) ≡ Ok link = e in cc)
sized_free owned f a (Some c) (Some d) (Some p) link e =
    let r = last_row (not (is_configuration c a.bytes)) (nat_lt 1 (class_of f.transport)) (not (are_sizes f d p)) (nat_lt 0 d && owned a.consume) (link_of f a)
    link e in
    (r.1, λ n same some. both_false d (owned a.consume) r.0 (let one : d ≡ n = cc in subst (λ k. 0 < k) (sym one) some))

application_free : (m : AssemblyMap) (owned : ℕ → Bool) (f : OpenFields) (a : Option Application) (link : EndLink) (d : ℕ)
    → application_row m owned f a ≡ Ok link
    → size_in m link.consume ≡ Some d → 0 < d → owned link.consume ≡ false
application_free m owned f None link d e at some = absurd (let none : (Err NotAnApplicationPath) ≡ Ok link = e in cc)
application_free m owned f (Some a) link d e at some =
    let r = sized_free owned f a (size_in m a.config) (size_in m a.consume) (size_in m a.produce) link e in
    ap (λ (l : EndLink). owned l.consume) (sym r.0) ∙ r.1 d (ap (λ (l : EndLink). size_in m l.consume) r.0 ∙ at) some

output_free : (t : Ends) (o : OpenRecord) (link : EndLink) (d : ℕ) → row_at t o ≡ Ok link → size_in t.objects.assemblies link.consume ≡ Some d → 0 < d
    → is_some (map.get t.owners link.consume) ≡ false
unfolding end_row
output_free t o link d e at some = application_free t.objects.assemblies (λ i. is_some (map.get t.owners i)) o.fields (application_of (segments_of o.path)) link
    d e at some

configured_in : (m : AssemblyMap) (o : OpenRecord) (link : EndLink) (a : Option Application) → application_of (segments_of o.path) ≡ a → FitsWith m link a
    → (j : ℕ) → size_in (configured m o link) j ≡ size_in m j
configured_in m o link None e fits j = absurd fits
configured_in m o link (Some a) e fits j = written_sizes m link.config (configuration_of o)
    (let same : configuration_of o ≡ a.bytes = ap (λ (p : Option Application). option_map_or (λ a. a.bytes) p []) e in
    subst (λ (b : List ℕ). IsSomeAnd (map.get m link.config) (λ held. length held ≤ length b)) (sym same) fits) j

configured_sizes : (t : Ends) (o : OpenRecord) (link : EndLink) → row_at t o ≡ Ok link → (j : ℕ)
    → size_in (configured t.objects.assemblies o link) j ≡ size_in t.objects.assemblies j
configured_sizes t o link e j = configured_in t.objects.assemblies o link (application_of (segments_of o.path)) refl (fitting t o link e) j

-- ---- who owns what after it

owned_get : (owners : Owners) (i : ℕ) (triad : Triad) (size : Option ℕ) (j : ℕ) → (j ≡ i → ⊥) → map.get (owned_with owners i triad size) j ≡ map.get owners j
owned_get owners i triad None j apart = refl
owned_get owners i triad (Some d) j apart = elim (nat_lt 0 d) as (λ b. map.get (cond b (map.insert owners i triad) owners) j ≡ map.get owners j) [
  | true ↦ put_apart nat_cmp_total numbers_apart owners i triad j apart
  | false ↦ refl
]

owned_some : (owners : Owners) (i : ℕ) (triad : Triad) (size : Option ℕ) (d : ℕ) → size ≡ Some d → 0 < d
    → map.get (owned_with owners i triad size) i ≡ Some triad
owned_some owners i triad size d e some =
    ap (λ s. map.get (owned_with owners i triad s) i) e ∙ ap (λ b. map.get (cond b (map.insert owners i triad) owners) i) (lt-ltb 0 d some)
    ∙ put_here nat_cmp_total numbers_apart owners i triad

-- its owner is the new one, or nothing changed
owned_by : (owners : Owners) (i : ℕ) (triad k : Triad) (size : Option ℕ) → map.get (owned_with owners i triad size) i ≡ Some k
    → (k ≡ triad) ⊎ (map.get owners i ≡ Some k)
owned_by owners i triad k None e = inr e
owned_by owners i triad k (Some d) e = elim (nat_lt 0 d) as
    (λ b. map.get (cond b (map.insert owners i triad) owners) i ≡ Some k → (k ≡ triad) ⊎ (map.get owners i ≡ Some k)) [
      | true ↦ λ s. let both : Some triad ≡ Some k = sym (put_here nat_cmp_total numbers_apart owners i triad) ∙ s in inl (cc)
      | false ↦ λ s. inr s
    ] e

eq_is : (a b : ℕ) → b ≡ a → eqb a b ≡ true
eq_is a b e = ap (eqb a) e ∙ eq-eqb a a refl

module _ (h new : Hops) (m : AssemblyMap) (owners : Owners) (triad : Triad) (x : Held) (b : Becomes h new triad (Some x)) (free : map.get h.held triad ≡ None)
    (c i q : ℕ) (writes : (j : ℕ) → writes_of (Some x) j ≡ eqb i j) (f : AreOwned h m owners) where
  apart_if : (k : Triad) (j : ℕ) → writes_of (map.get h.held k) j ≡ true → k ≡ triad → ⊥
  apart_if k j w one = let none : false ≡ true = sym (ap (λ z. writes_of z j) (ap (map.get h.held) one ∙ free)) ∙ w in cc

  still : (k : Triad) (j : ℕ) → writes_of (map.get h.held k) j ≡ true → writes_of (map.get new.held k) j ≡ true
  still k j w = ap (λ z. writes_of z j) (b.others k (apart_if k j w)) ∙ w

  owner_after : (k : Triad) (j size : ℕ) → map.get (owned_with owners i triad (size_in m i)) j ≡ Some k → size_in m j ≡ Some size
      → writes_of (map.get new.held k) j ≡ true
  owner_after k j size e sized = elim (one_or_apart nat_cmp_total numbers_apart j i) as (λ _. writes_of (map.get new.held k) j ≡ true) [
    | inr apart ↦ still k j (f.owner k j size (sym (owned_get owners i triad (size_in m i) j apart) ∙ e) sized)
    | inl here ↦ elim (owned_by owners i triad k (size_in m i) (ap (map.get (owned_with owners i triad (size_in m i))) (sym here) ∙ e)) as
        (λ _. writes_of (map.get new.held k) j ≡ true) [
          | inl mine ↦ ap (λ z. writes_of z j) (ap (map.get new.held) mine ∙ b.here) ∙ writes j ∙ eq_is i j here
          | inr old ↦ still k j (f.owner k j size (ap (map.get owners) here ∙ old) sized)
        ]
  ]

  writer_after : ((d : ℕ) → size_in m i ≡ Some d → 0 < d → is_some (map.get owners i) ≡ false) → (k : Triad) (j size : ℕ)
      → writes_of (map.get new.held k) j ≡ true → size_in m j ≡ Some size → 0 < size
      → map.get (owned_with owners i triad (size_in m i)) j ≡ Some k
  writer_after unowned k j size w sized some = elim (triad_or_not k triad) as (λ _. map.get (owned_with owners i triad (size_in m i)) j ≡ Some k) [
    | inl one ↦
        let here : j ≡ i = sym (eqb-true i j (sym (writes j) ∙ ap (λ z. writes_of z j) (sym b.here) ∙ ap (λ z. writes_of (map.get new.held z) j) (sym one) ∙ w))
        in
        ap (map.get (owned_with owners i triad (size_in m i))) here ∙ owned_some owners i triad (size_in m i) size (ap (size_in m) (sym here) ∙ sized) some
        ∙ ap (λ z. Some z) (sym one)
    | inr other ↦
        let owns : map.get owners j ≡ Some k = f.writer k j size (ap (λ z. writes_of z j) (sym (b.others k other)) ∙ w) sized some in
        elim (one_or_apart nat_cmp_total numbers_apart j i) as (λ _. map.get (owned_with owners i triad (size_in m i)) j ≡ Some k) [
          | inr apart ↦ owned_get owners i triad (size_in m i) j apart ∙ owns
          | inl here ↦
              let none : false ≡ true = sym (unowned size (ap (size_in m) (sym here) ∙ sized) some) ∙ ap is_some (ap (map.get owners) (sym here) ∙ owns) in
              absurd (cc)
        ]
  ]

some_held : (x y : Held) → Some x ≡ Some y → x ≡ y
some_held x y e = cc

pub fit_accepts : (config : ModuleSettings) (p : Pendings) (h new : Hops) (t after : Ends) (ops : List ℕ) (o : Opening) (asked : OpenRecord) (link : EndLink)
    (now : ℕ)
    → Fit config p h t ops → map.get h.held o.triad ≡ None → o.down ≡ end_down link → asked.fields.triad ≡ o.triad → row_at t asked ≡ Ok link
    → ((op : ℕ) → op_of o.up ≡ Some op → is_spent op ops ≡ true) → new ≡ finished (begun h o) o.triad 0 now → after ≡ accepted t link asked
    → Fit config p new after ops
fit_accepts config p h new t after ops o asked link now f free down named fits spent is gives =
    let ids : OwnIds = own_ids h.next o in
    let x : Held = Open (opened o ids 0 now) in
    let first : Becomes h (begun h o) o.triad (Some (IsOpening o ids)) = becomes_put h (begun h o) o.triad (IsOpening o ids) refl in
    let is_with = is ∙ finished_is (begun h o) o.triad 0 now o ids first.here in
    let later : Becomes (begun h o) new o.triad (Some x) = becomes_put (begun h o) new o.triad x (ap (λ (y : Hops). y.held) is_with) in
    let b : Becomes h new o.triad (Some x) = record { here = later.here; others = λ q ne. later.others q ne ∙ first.others q ne } in
    let m = t.objects.assemblies in
    let writes : (j : ℕ) → writes_of (Some x) j ≡ eqb link.consume j = λ j. ap (writes_to j) down in
    let own : after.owners ≡ owned_with t.owners link.consume o.triad (size_in m link.consume) =
    ap (λ (y : Ends). y.owners) gives ∙ ap (λ k. owned_with t.owners link.consume k (size_in m link.consume)) named in
    let sizes : (j : ℕ) → size_in after.objects.assemblies j ≡ size_in m j =
    λ j. ap (λ (y : Ends). size_in y.objects.assemblies j) gives ∙ configured_sizes t asked link fits j in
    record {
      identity = ap (λ (y : Ends). y.objects.identity) gives ∙ f.identity;
      pending_room = f.pending_room;
      hop_room = ap (λ (y : Hops). y.room) is_with ∙ f.hop_room;
      paired = paired_becomes h new o.triad (Some x) b p f.paired (ap (λ y. is_some (option_and_then as_opening y)) (sym free));
      spent = spent_becomes h new o.triad (Some x) b ops f.spent (λ y op at by. spent op (ap held_op_of (some_held x y at) ∙ by));
      links = links_becomes h new o.triad (Some x) b f.links (λ q none. absurd (cc));
      owned = record {
        owner = λ k j size e sized. owner_after h new m t.owners o.triad x b free link.config link.consume link.produce writes f.owned k j size
            (ap (λ y. map.get y j) (sym own) ∙ e) (sym (sizes j) ∙ sized);
        writer = λ k j size w sized some. ap (λ y. map.get y j) own
            ∙ writer_after h new m t.owners o.triad x b free link.config link.consume link.produce writes f.owned
            (λ d at some. output_free t asked link d fits at some) k j size w (sym (sizes j) ∙ sized) some;
      };
    }

pub begun_opens : (h : Hops) (o : Opening) → opening_at (begun h o) o.triad ≡ Some o
begun_opens h o = ap (option_and_then as_opening) (becomes_put h (begun h o) o.triad (IsOpening o (own_ids h.next o)) refl).here
