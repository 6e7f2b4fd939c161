-- Who owns an output is who writes it: the target's own record of it agrees with the connections.
use Rattle.std.proofs.Common.{◌≡◌, ℕ, Bool, true, false, cond, ltb, ◌&&◌, refl, sym, ap, ◌∙◌, Option, Some, None, is_some, List, [], ◌∷◌, Ok, Err}
use Rattle.std.specs.Prelude.{option_and_then, not, nat_lt}
use Rattle.std.specs.List.{find}
use Rattle.std.specs.Ordering.{eq_by_cmp}
use Rattle.std.specs.FinMap as map
use Rattle.std.specs.FinMap.Entries as entries
use Rattle.std.proofs.lemmas.Bool.{ltb-true}
use Rattle.cip_base.specs.declared.triad.Triad.{Triad}
use Rattle.cip_base.specs.Triads.{triad_cmp}
use Rattle.cip_base.proofs.Triads.{triads_total}
use Rattle.cip_segment.specs.Reading.{segments_of}
use Rattle.cip_hops.specs.declared.hop.Hop.{Hop}
use Rattle.cip_hops.specs.declared.hop.Held.{Held}
use Rattle.cip_hops.specs.declared.hop.Held.TheVariants.{Opening as IsOpening, Open}
use Rattle.cip_hops.specs.Hops.{Hops, as_hop, is_hop, refusal}
use Rattle.cip_hops.proofs.Steps.{triads_apart}
use Rattle.cip_base.proofs.Views.{found-gives}
use Rattle.cip_open.specs.declared.request.OpenFields.{OpenFields}
use Rattle.cip_open.specs.Open.{Open as OpenRecord}
use Rattle.cip_target.specs.ApplicationPath.{Application, application_of}
use Rattle.cip_target.specs.Assemblies.{AssemblyMap, Owners, size_in}
use Rattle.cip_target.specs.declared.ends.EndRefusal.{EndRefusal}
use Rattle.cip_target.specs.declared.ends.EndRefusal.TheVariants.{NotAnApplicationPath, NoSuchInstanceOrConfiguration, TransportClassNotSupported, SizeMismatch}
use Rattle.cip_target.specs.declared.ends.EndRefusal.TheVariants.{OutputOwned}
use Rattle.cip_target.specs.Ends.{EndRow, sized_row, application_row, end_row, is_configuration, are_sizes, class_of, link_of}
use Rattle.cip_target.specs.declared.link.EndLink.{EndLink}
use Rattle.cip_routing.specs.OpenRows.{Refuses, Accepted, writes_to, is_consumed, accepted_row, here_row}
use Rattle.cip_routing.specs.declared.refusals.OpenRefusal.TheVariants.{NotAccepted, NoRoomToEndHere}
use Rattle.cip_routing.specs.State.{State}
use Rattle.cip_hops.specs.declared.opening.HopUp.{HopUp}
use Rattle.cip_hops.specs.Sides.{up_is_link}
use Rattle.cip_routing.specs.Code.Fit.{writes_of, AreOwned}

abbrev pub writes_it : ℕ → Hop → Bool
writes_it i hop = writes_to i hop.opening.down

-- what passes stands somewhere in the list, so the search does not fail
no_miss : (p : Held → Bool) (q : Triad) (x : Held) (es : List (Triad × Held)) → entries.find triad_cmp q es ≡ Some x → p x ≡ true → find (λ e. p e.1) es ≡ None
    → ⊥
no_miss p q x [] at pass none = absurd (cc)
no_miss p q x (e ∷ es) at pass none =
    elim (p e.1) as (λ b. p e.1 ≡ b → cond b (Some e) (find (λ e. p e.1) es) ≡ None → ⊥) [
      | true ↦ λ t s. absurd (cc)
      | false ↦ λ t s.
          elim (eq_by_cmp triad_cmp q e.0) as (λ b. cond b (Some e.1) (entries.find triad_cmp q es) ≡ Some x → ⊥) [
            | true ↦ λ here. let same : e.1 ≡ x = cc in let no : true ≡ false = sym pass ∙ ap p (sym same) ∙ t in absurd (cc)
            | false ↦ λ there. no_miss p q x es there pass s
          ] at
    ] refl none

hit : (i : ℕ) (x : Held) → writes_of (Some x) i ≡ true → is_some (as_hop x) ≡ true
hit i (IsOpening o ids) e = absurd (cc)
hit i (Open hop) e = refl

found_some : (test : Hop → Bool) (x : Held) → is_hop test x ≡ true → is_some (as_hop x) ≡ true
found_some test (IsOpening o ids) e = absurd (cc)
found_some test (Open hop) e = refl

stands_writes : (h : Hops) (i : ℕ) (t : Triad) (x : Held) → map.get h.held t ≡ Some x → is_hop (writes_it i) x ≡ true → is_consumed h i ≡ true
stands_writes h i t x at pass =
    elim (find (λ (e : Triad × Held). is_hop (writes_it i) e.1) (map.entries h.held)) as
    (λ f. find (λ (e : Triad × Held). is_hop (writes_it i) e.1) (map.entries h.held) ≡ f
    → is_some (option_and_then (λ (e : Triad × Held). as_hop e.1) f) ≡ true) [
      | None ↦ λ none. absurd (no_miss (is_hop (writes_it i)) t x (map.entries h.held) (sym (map.get-entries h.held t) ∙ at) pass none)
      | Some e ↦ λ f. found_some (writes_it i) e.1 (found-gives triad_cmp triads_total triads_apart h.held (λ e. is_hop (writes_it i) e.1) e f).1
    ] refl

-- a connection that writes an assembly is one of those that consume to it
pub writes_consumed : (h : Hops) (i : ℕ) (t : Triad) → writes_of (map.get h.held t) i ≡ true → is_consumed h i ≡ true
writes_consumed h i t e =
    elim (map.get h.held t) as (λ g. map.get h.held t ≡ g → writes_of g i ≡ true → is_consumed h i ≡ true) [
      | None ↦ λ at w. absurd (cc)
      | Some x ↦ λ at w. stands_writes h i t x at w
    ] refl e

-- and the other way round
pub consumed_writes : (h : Hops) (i : ℕ) → is_consumed h i ≡ true → (t : Triad) × (writes_of (map.get h.held t) i ≡ true)
consumed_writes h i e =
    elim (find (λ (e : Triad × Held). is_hop (writes_it i) e.1) (map.entries h.held)) as
    (λ f. find (λ (e : Triad × Held). is_hop (writes_it i) e.1) (map.entries h.held) ≡ f
    → is_some (option_and_then (λ (e : Triad × Held). as_hop e.1) f) ≡ true → (t : Triad) × (writes_of (map.get h.held t) i ≡ true)) [
      | None ↦ λ f s. absurd (cc)
      | Some e ↦ λ f s.
          let g = found-gives triad_cmp triads_total triads_apart h.held (λ e. is_hop (writes_it i) e.1) e f in
          (e.0, ap (λ x. writes_of x i) g.0 ∙ g.1)
    ] refl e

owned_same : (h : Hops) (m : AssemblyMap) (owners : Owners) (i size : ℕ) → AreOwned h m owners → size_in m i ≡ Some size
    → (nat_lt 0 size && is_some (map.get owners i)) ≡ (nat_lt 0 size && is_consumed h i)
owned_same h m owners i size o e =
    elim (ltb 0 size) as (λ b. ltb 0 size ≡ b → (b && is_some (map.get owners i)) ≡ (b && is_consumed h i)) [
      | false ↦ λ t. refl
      | true ↦ λ t.
          elim (map.get owners i) as (λ g. map.get owners i ≡ g → is_some g ≡ is_consumed h i) [
            | Some k ↦ λ at. sym (writes_consumed h i k (o.owner k i size at e))
            | None ↦ λ at.
                elim (is_consumed h i) as (λ c. is_consumed h i ≡ c → false ≡ c) [
                  | false ↦ λ c. refl
                  | true ↦ λ c. let w = consumed_writes h i c in let no : None ≡ Some w.0 =
                      sym at ∙ o.writer w.0 i size w.1 e (ltb-true 0 size t) in absurd (cc)
                ] refl
          ] refl
    ] refl

sized_same : (a b : ℕ → Bool) (f : OpenFields) (x : Application) (c d p : Option ℕ)
    → ((size : ℕ) → d ≡ Some size → (nat_lt 0 size && a x.consume) ≡ (nat_lt 0 size && b x.consume)) → sized_row a f x c d p ≡ sized_row b f x c d p
sized_same a b f x None d p e = refl
sized_same a b f x (Some c) None p e = refl
sized_same a b f x (Some c) (Some d) None e = refl
sized_same a b f x (Some c) (Some d) (Some p) e =
    ap (λ o. cond (not (is_configuration c x.bytes)) (Err NoSuchInstanceOrConfiguration)
    (cond (nat_lt 1 (class_of f.transport)) (Err TransportClassNotSupported)
    (cond (not (are_sizes f d p)) (Err SizeMismatch) (cond o (Err OutputOwned) (Ok (link_of f x)))))) (e d refl)

application_same : (h : Hops) (m : AssemblyMap) (owners : Owners) (f : OpenFields) (x : Option Application) → AreOwned h m owners
    → application_row m (λ i. is_some (map.get owners i)) f x ≡ application_row m (is_consumed h) f x
application_same h m owners f None o = refl
application_same h m owners f (Some x) o =
    sized_same (λ i. is_some (map.get owners i)) (is_consumed h) f x (size_in m x.config) (size_in m x.consume) (size_in m x.produce)
    (λ size e. owned_same h m owners x.consume size o e)

-- an open meets the same row by the target's own record and by the connections
pub rows_agree : (h : Hops) (m : AssemblyMap) (owners : Owners) (o : OpenRecord) → AreOwned h m owners
    → end_row m (λ i. is_some (map.get owners i)) o ≡ end_row m (is_consumed h) o
unfolding end_row
rows_agree h m owners o w = application_same h m owners o.fields (application_of (segments_of o.path)) w

-- what an open answers that may end here, by what the target says
module _ (s : State) (up : HopUp) (o : OpenRecord) (row : EndRow) (asked : up_is_link up ≡ true)
    (is : row ≡ end_row s.assemblies (is_consumed s.hops) o) where
  here_is : here_row s up o ≡ accepted_row s.hops o row
  here_is =
      ap (λ b. cond (not b) (Refuses (NotAccepted NotAnApplicationPath)) (accepted_row s.hops o (end_row s.assemblies (is_consumed s.hops) o))) asked
      ∙ ap (accepted_row s.hops o) (sym is)

pub here_full : (s : State) (up : HopUp) (o : OpenRecord) (link : EndLink) → up_is_link up ≡ true
    → Ok link ≡ end_row s.assemblies (is_consumed s.hops) o → is_some (refusal s.hops o.fields.triad 1) ≡ true
    → here_row s up o ≡ Refuses NoRoomToEndHere
here_full s up o link asked is full =
    here_is s up o (Ok link) asked is ∙ ap (λ b. cond b (Refuses NoRoomToEndHere) (Accepted link)) full

pub here_ends : (s : State) (up : HopUp) (o : OpenRecord) (link : EndLink) → up_is_link up ≡ true
    → Ok link ≡ end_row s.assemblies (is_consumed s.hops) o → is_some (refusal s.hops o.fields.triad 1) ≡ false
    → here_row s up o ≡ Accepted link
here_ends s up o link asked is room =
    here_is s up o (Ok link) asked is ∙ ap (λ b. cond b (Refuses NoRoomToEndHere) (Accepted link)) room

pub here_refused : (s : State) (up : HopUp) (o : OpenRecord) (refusal : EndRefusal) → up_is_link up ≡ true
    → Err refusal ≡ end_row s.assemblies (is_consumed s.hops) o → here_row s up o ≡ Refuses (NotAccepted refusal)
here_refused s up o refusal asked is = here_is s up o (Err refusal) asked is
