-- That the tables of a module fit one another after a connection is gone.
use Rattle.std.proofs.Common.{◌≡◌, ℕ, true, false, cond, refl, sym, ap, subst, ◌∙◌, arith, Some, None, is_some, List, eqb, inl, inr}
use Rattle.std.specs.Prelude.{option_and_then, option_map, length}
use Rattle.std.specs.Cmp.{nat_cmp_total}
use Rattle.std.specs.FinMap as map
use Rattle.std.proofs.lemmas.Bool.{eqb-true}
use Rattle.std.proofs.lemmas.Bool.Decides.{nat_tests}
use Rattle.cip_base.specs.declared.triad.Triad.{Triad}
use Rattle.cip_pending.specs.Pendings.{Pendings}
use Rattle.cip_hops.specs.declared.opening.HopDown.{HopDown}
use Rattle.cip_hops.specs.declared.opening.HopDown.TheVariants.{Link as DownLink, End}
use Rattle.cip_hops.specs.declared.hop.Hop.{Hop}
use Rattle.cip_hops.specs.declared.hop.Held.TheVariants.{Open}
use Rattle.cip_hops.specs.Hops.{Hops, as_opening, as_hop, hop_at, without}
use Rattle.cip_hops.proofs.Named.{is_open}
use Rattle.cip_target.specs.Assemblies.{AssemblyMap, Owners, size_in}
use Rattle.cip_target.specs.Ends.{Ends, released}
use Rattle.cip_config.specs.declared.config.ModuleSettings.{ModuleSettings}
use Rattle.cip_routing.specs.OpenRows.{writes_to}
use Rattle.cip_routing.specs.Code.Fit.{Fit, AreOwned, writes_of, given_back}
use Rattle.cip_base.proofs.Points.{one_or_apart, gone_here, gone_apart}
use Rattle.cip_routing.proofs.Fits.{Becomes, becomes_gone, spent_becomes, links_becomes, owned_becomes, paired_becomes, numbers_apart, triad_or_not}

-- ---- a connection is gone

tests_same : (o i : ℕ) → i ≡ o → eqb o i ≡ true
tests_same o i same = grind (arith, nat_tests)

-- the output that it wrote has no owner any more, if it exists
owned_gone : (h new : Hops) (triad : Triad) (m : AssemblyMap) (owners after : Owners) (o : ℕ) → Becomes h new triad None → AreOwned h m owners
    → ((i : ℕ) → writes_of (map.get h.held triad) i ≡ eqb o i)
    → ((i : ℕ) → (i ≡ o → ⊥) → map.get after i ≡ map.get owners i)
    → ((size : ℕ) → size_in m o ≡ Some size → map.get after o ≡ None)
    → AreOwned new m after
owned_gone h new triad m owners after o gone fits writes others here = record {
  owner = λ k i size e sized. elim (one_or_apart nat_cmp_total numbers_apart i o) as (λ _. writes_of (map.get new.held k) i ≡ true) [
    | inl same ↦ let never : None ≡ Some k = sym (here size (ap (size_in m) (sym same) ∙ sized)) ∙ ap (map.get after) (sym same) ∙ e in absurd (cc)
    | inr apart ↦
        let old : map.get owners i ≡ Some k = sym (others i apart) ∙ e in
        let writer : writes_of (map.get h.held k) i ≡ true = fits.owner k i size old sized in
        let other : k ≡ triad → ⊥ = λ one. apart (sym (eqb-true o i (sym (writes i) ∙ ap (λ z. writes_of (map.get h.held z) i) (sym one) ∙ writer))) in
        ap (λ x. writes_of x i) (gone.others k other) ∙ writer
  ];
  writer = λ k i size w sized some. elim (triad_or_not k triad) as (λ _. map.get after i ≡ Some k) [
    | inl one ↦ let never : false ≡ true = sym (ap (λ x. writes_of x i) gone.here) ∙ ap (λ z. writes_of (map.get new.held z) i) (sym one) ∙ w in absurd (cc)
    | inr other ↦
        let before : writes_of (map.get h.held k) i ≡ true = ap (λ x. writes_of x i) (sym (gone.others k other)) ∙ w in
        let owns : map.get owners i ≡ Some k = fits.writer k i size before sized some in
        elim (one_or_apart nat_cmp_total numbers_apart i o) as (λ _. map.get after i ≡ Some k) [
          | inl same ↦
              let mine : map.get owners i ≡ Some triad = fits.writer triad i size (writes i ∙ tests_same o i same) sized some in
              let both : Some k ≡ Some triad = sym owns ∙ mine in
              let one : k ≡ triad = cc in absurd (other one)
          | inr apart ↦ others i apart ∙ owns
        ]
  ];
}

-- an open connection stands under its triad
pub open_at : (h : Hops) (triad : Triad) (hop : Hop) → hop_at h triad ≡ Some hop → map.get h.held triad ≡ Some (Open hop)
open_at h triad hop e =
    elim (map.get h.held triad) as (λ x. option_and_then as_hop x ≡ Some hop → x ≡ Some (Open hop)) [
      | None ↦ λ s. absurd (cc)
      | Some x ↦ λ s. ap (λ y. Some y) (is_open x hop s)
    ] e

module _ (config : ModuleSettings) (p : Pendings) (h new : Hops) (t : Ends) (ops : List ℕ) (triad : Triad) (hop : Hop)
    (f : Fit config p h t ops) (at : map.get h.held triad ≡ Some (Open hop)) (g : new ≡ without h triad) where
  gone : Becomes h new triad None
  gone = becomes_gone h new triad (ap (λ (y : Hops). y.held) g)

  -- the rest of what fits, with any owners that fit
  gone_with : (after : Ends) → after.objects ≡ t.objects → AreOwned new t.objects.assemblies after.owners → Fit config p new after ops
  gone_with after same owned = record {
    identity = ap (λ objects. objects.identity) same ∙ f.identity;
    pending_room = f.pending_room;
    hop_room = ap (λ (y : Hops). y.room) g ∙ f.hop_room;
    paired = paired_becomes h new triad None gone p f.paired (ap (λ x. is_some (option_and_then as_opening x)) (sym at));
    spent = spent_becomes h new triad None gone ops f.spent (λ y op none named. absurd (cc));
    links = links_becomes h new triad None gone f.links (λ q none. absurd (cc));
    owned = subst (λ objects. AreOwned new objects.assemblies after.owners) (sym same) owned;
  }

  -- it went on by a link, and owned nothing
  link_gone : (port : ℕ) (address : List ℕ) → hop.opening.down ≡ DownLink port address → Fit config p new t ops
  link_gone port address link = gone_with t refl
      (owned_becomes h new triad None gone t.objects.assemblies t.owners f.owned (λ i. sym (ap (λ x. writes_of x i) at ∙ ap (writes_to i) link)))

  -- it ended here
  end_writes : (c o q : ℕ) → hop.opening.down ≡ End c o q → (i : ℕ) → writes_of (map.get h.held triad) i ≡ eqb o i
  end_writes c o q end i = ap (λ x. writes_of x i) at ∙ ap (writes_to i) end

  end_gone : (c o q : ℕ) → hop.opening.down ≡ End c o q → Fit config p new (released t o) ops
  end_gone c o q end = gone_with (released t o) refl
      (owned_gone h new triad t.objects.assemblies t.owners (map.remove t.owners o) o gone f.owned (end_writes c o q end)
      (λ i apart. gone_apart nat_cmp_total numbers_apart t.owners o i apart) (λ size sized. gone_here nat_cmp_total numbers_apart t.owners o))

  -- at an assembly that there is not
  nowhere_gone : (c o q : ℕ) → hop.opening.down ≡ End c o q → map.get t.objects.assemblies o ≡ None → Fit config p new t ops
  nowhere_gone c o q end lacks = gone_with t refl
      (owned_gone h new triad t.objects.assemblies t.owners t.owners o gone f.owned (end_writes c o q end) (λ i apart. refl)
      (λ size sized. let never : None ≡ Some size = sym (ap (option_map length) lacks) ∙ sized in absurd (cc)))

  by_down : (down : HopDown) → hop.opening.down ≡ down → Fit config p new (given_back down t) ops
  by_down (DownLink port address) is = link_gone port address is
  by_down (End c o q) is =
      elim (map.get t.objects.assemblies o) as (λ x. map.get t.objects.assemblies o ≡ x → Fit config p new (cond (is_some x) (released t o) t) ops) [
        | None ↦ λ lacks. nowhere_gone c o q is lacks
        | Some held ↦ λ stands. end_gone c o q is
      ] refl

-- what it owned is given back
pub fit_gone : (config : ModuleSettings) (p : Pendings) (h new : Hops) (t after : Ends) (ops : List ℕ) (triad : Triad) (hop : Hop)
    → Fit config p h t ops → hop_at h triad ≡ Some hop → new ≡ without h triad → after ≡ given_back hop.opening.down t → Fit config p new after ops
fit_gone config p h new t after ops triad hop f at g e =
    subst (λ (x : Ends). Fit config p new x ops) (sym e) (by_down config p h new t ops triad hop f (open_at h triad hop at) g hop.opening.down refl)
