-- That the tables of a module fit one another, after each change.
use Rattle.std.proofs.Common.{◌≡◌, ℕ, true, false, sym, ap, ◌∙◌, Option, Some, None, is_some, List, ◌⊎◌, inl, inr}
use Rattle.std.specs.Prelude.{option_and_then}
use Rattle.std.specs.Ordering.{nat_cmp}
use Rattle.std.specs.Cmp.{nat_cmp_total}
use Rattle.std.specs.FinMap as map
use Rattle.std.specs.FinMap.{IsAntisymmetric}
use Rattle.std.proofs.lemmas.Map.Lookups.{exact_unsigned}
use Rattle.cip_base.specs.declared.triad.Triad.{Triad}
use Rattle.cip_base.proofs.Triads.{triads_total}
use Rattle.cip_hops.proofs.Steps.{triads_apart}
use Rattle.cip_pending.specs.Kinds.{opened_triad}
use Rattle.cip_pending.specs.declared.entry.Entry.{Entry}
use Rattle.cip_pending.specs.Pendings.{Pendings}
use Rattle.cip_hops.specs.declared.opening.Opening.{Opening}
use Rattle.cip_hops.specs.declared.hop.Held.{Held}
use Rattle.cip_hops.specs.Sides.{down_is_link}
use Rattle.cip_hops.specs.Hops.{Hops, opening_at, as_opening, held_op_of}
use Rattle.cip_target.specs.Assemblies.{AssemblyMap, Owners}
use Rattle.cip_routing.specs.Paired.{IsAwaited, IsPaired, IsOther}
use Rattle.cip_routing.specs.Code.Fit.{writes_of, AreSpent, AreLinks, AreOwned}
use Rattle.cip_routing.specs.State.{is_spent}
use Rattle.cip_base.proofs.Points.{one_or_apart, put_here, put_apart, gone_here, gone_apart}

pub numbers_apart : IsAntisymmetric nat_cmp
numbers_apart a b h = exact_unsigned a b h

pub triad_or_not : (a b : Triad) → (a ≡ b) ⊎ (a ≡ b → ⊥)
triad_or_not a b = one_or_apart triads_total triads_apart a b

-- what stands under one triad is another, or is gone
pub record Becomes (h new : Hops) (k : Triad) (v : Option Held) : Type 0 where
  pub here : map.get new.held k ≡ v
  pub others : (q : Triad) → (q ≡ k → ⊥) → map.get new.held q ≡ map.get h.held q

pub becomes_put : (h new : Hops) (k : Triad) (x : Held) → new.held ≡ map.insert h.held k x → Becomes h new k (Some x)
becomes_put h new k x e = record {
  here = ap (λ m. map.get m k) e ∙ put_here triads_total triads_apart h.held k x;
  others = λ q ne. ap (λ m. map.get m q) e ∙ put_apart triads_total triads_apart h.held k x q ne;
}

pub becomes_gone : (h new : Hops) (k : Triad) → new.held ≡ map.remove h.held k → Becomes h new k None
becomes_gone h new k e = record {
  here = ap (λ m. map.get m k) e ∙ gone_here triads_total triads_apart h.held k;
  others = λ q ne. ap (λ m. map.get m q) e ∙ gone_apart triads_total triads_apart h.held k q ne;
}

module _ (h new : Hops) (k : Triad) (v : Option Held) (b : Becomes h new k v) where
  -- at a triad: the changed one, or another
  at_one : (q : Triad) → q ≡ k → map.get new.held q ≡ v
  at_one q e = ap (map.get new.held) e ∙ b.here

  pub spent_becomes : (ops : List ℕ) → AreSpent h ops → ((x : Held) (op : ℕ) → v ≡ Some x → held_op_of x ≡ Some op → is_spent op ops ≡ true) → AreSpent new ops
  spent_becomes ops old this q x op e f = elim (triad_or_not q k) as (λ _. is_spent op ops ≡ true) [
    | inl one ↦ this x op (sym (at_one q one) ∙ e) f
    | inr apart ↦ old q x op (sym (b.others q apart) ∙ e) f
  ]

  pub links_becomes : AreLinks h → ((o : Opening) → option_and_then as_opening v ≡ Some o → down_is_link o.down ≡ true) → AreLinks new
  links_becomes old this q o e = elim (triad_or_not q k) as (λ _. down_is_link o.down ≡ true) [
    | inl one ↦ this o (ap (option_and_then as_opening) (sym (at_one q one)) ∙ e)
    | inr apart ↦ old q o (ap (option_and_then as_opening) (sym (b.others q apart)) ∙ e)
  ]

  -- what it writes stays the same, and so do the owners
  pub owned_becomes : (m : AssemblyMap) (owners : Owners) → AreOwned h m owners → ((i : ℕ) → writes_of v i ≡ writes_of (map.get h.held k) i)
      → AreOwned new m owners
  owned_becomes m owners old alike =
      let same : (q : Triad) (i : ℕ) → writes_of (map.get new.held q) i ≡ writes_of (map.get h.held q) i =
      λ q i. elim (triad_or_not q k) as (λ _. writes_of (map.get new.held q) i ≡ writes_of (map.get h.held q) i) [
        | inl one ↦ ap (λ x. writes_of x i) (at_one q one) ∙ alike i ∙ ap (λ t. writes_of (map.get h.held t) i) (sym one)
        | inr apart ↦ ap (λ x. writes_of x i) (b.others q apart)
      ] in
      record {
        owner = λ q i size e sized. same q i ∙ old.owner q i size e sized;
        writer = λ q i size e. old.writer q i size (sym (same q i) ∙ e);
      }

  -- what waits and what is opening stay the same
  pub paired_becomes : (p : Pendings) → IsPaired p h → is_some (option_and_then as_opening v) ≡ is_some (opening_at h k) → IsPaired p new
  paired_becomes p old alike =
      let same : (q : Triad) → is_some (opening_at new q) ≡ is_some (opening_at h q) =
      λ q. elim (triad_or_not q k) as (λ _. is_some (opening_at new q) ≡ is_some (opening_at h q)) [
        | inl one ↦ ap (λ x. is_some (option_and_then as_opening x)) (at_one q one) ∙ alike ∙ ap (λ t. is_some (opening_at h t)) (sym one)
        | inr apart ↦ ap (λ x. is_some (option_and_then as_opening x)) (b.others q apart)
      ] in
      record {
        each = λ q n a. same q ∙ old.each q n a;
        one = old.one;
        only = λ q e none. old.only q (sym (same q) ∙ e) none;
      }

  -- it begins to open, and a request waits for it
  pub paired_begun : (p after : Pendings) (n : ℕ) (entry : Entry) → IsPaired p h → opening_at h k ≡ None → is_some (option_and_then as_opening v) ≡ true
      → map.get p.entries n ≡ None → after.entries ≡ map.insert p.entries n entry → opened_triad entry.kind ≡ Some k → IsPaired after new
  paired_begun p after n entry old free begins fresh put kind =
      let kept : (q : Triad) (i : ℕ) → IsAwaited after q i → ((q ≡ k) × (i ≡ n)) ⊎ (((q ≡ k → ⊥) × IsAwaited p q i)) =
      λ q i a. elim (one_or_apart nat_cmp_total numbers_apart i n) [
        | inl e ↦
            let both : Some entry ≡ Some a.entry = sym (put_here nat_cmp_total numbers_apart p.entries n entry) ∙ ap (λ m. map.get m n) (sym put)
            ∙ ap (map.get after.entries) (sym e) ∙ a.waits in
            let one : entry ≡ a.entry = cc in
            let kinds : Some q ≡ Some k = sym a.kind ∙ ap (λ (x : Entry). opened_triad x.kind) (sym one) ∙ kind in
            let triads : q ≡ k = cc in
            inl (triads, e)
        | inr ne ↦
            let before : map.get p.entries i ≡ Some a.entry = sym (put_apart nat_cmp_total numbers_apart p.entries n entry i ne)
            ∙ ap (λ m. map.get m i) (sym put) ∙ a.waits in
            let was : IsAwaited p q i = record { entry = a.entry; waits = before; kind = a.kind } in
            inr (
              (λ e. let some : is_some (opening_at h q) ≡ true = old.each q i was in let none : is_some (opening_at h q) ≡ false =
                  ap (λ t. is_some (opening_at h t)) e ∙ ap is_some free in absurd (cc)),
              was,
            )
      ] in
      record {
        each = λ q i a. elim (kept q i a) as (λ _. is_some (opening_at new q) ≡ true) [
          | inl here ↦ ap (λ x. is_some (option_and_then as_opening x)) (at_one q here.0) ∙ begins
          | inr there ↦ ap (λ x. is_some (option_and_then as_opening x)) (b.others q there.0) ∙ old.each q i there.1
        ];
        one = λ q i j x y. elim (kept q i x) as (λ _. i ≡ j) [
          | inl here ↦ elim (kept q j y) as (λ _. i ≡ j) [
            | inl too ↦ here.1 ∙ sym too.1
            | inr there ↦ absurd (there.0 here.0)
          ]
          | inr there ↦ elim (kept q j y) as (λ _. i ≡ j) [
            | inl here ↦ absurd (there.0 here.0)
            | inr too ↦ old.one q i j there.1 too.1
          ]
        ];
        only = λ q e none. elim (triad_or_not q k) as (λ _. ⊥) [
          | inl one ↦ none n
              (record {
                entry = entry;
                waits = ap (λ m. map.get m n) put ∙ put_here nat_cmp_total numbers_apart p.entries n entry;
                kind =
                    kind ∙ ap (λ (t : Triad). Some t) (sym one);
              })
          | inr apart ↦ old.only q (ap (λ x. is_some (option_and_then as_opening x)) (sym (b.others q apart)) ∙ e) (λ i a.
              none i (record {
                entry = a.entry;
                waits = ap (λ m. map.get m i) put ∙ put_apart nat_cmp_total numbers_apart p.entries n entry i
                    (λ same. let no : None ≡ Some a.entry = sym fresh ∙ ap (map.get p.entries) (sym same) ∙ a.waits in cc) ∙ a.waits;
                kind = a.kind;
              }))
        ];
      }

  -- it opens no more, and no request waits for it
  pub paired_ended : (p after : Pendings) (n : ℕ) → IsPaired p h → IsAwaited p k n → is_some (option_and_then as_opening v) ≡ false
      → after.entries ≡ map.remove p.entries n → IsPaired after new
  paired_ended p after n old this ends gone =
      let was : (q : Triad) (i : ℕ) → IsAwaited after q i → IsAwaited p q i × (i ≡ n → ⊥) =
      λ q i a.
      let ne : i ≡ n → ⊥ = λ e. let no : None ≡ Some a.entry =
      sym (gone_here nat_cmp_total numbers_apart p.entries n) ∙ ap (λ m. map.get m n) (sym gone) ∙ ap (map.get after.entries) (sym e) ∙ a.waits in cc in (
        record {
          entry = a.entry;
          waits = sym (gone_apart nat_cmp_total numbers_apart p.entries n i ne) ∙ ap (λ m. map.get m i) (sym gone) ∙ a.waits;
          kind =
              a.kind;
        },
        ne,
      ) in
      let stays : (q : Triad) (i : ℕ) → IsAwaited p q i → (i ≡ n → ⊥) → IsAwaited after q i =
      λ q i a ne. record {
        entry = a.entry;
        waits = ap (λ m. map.get m i) gone ∙ gone_apart nat_cmp_total numbers_apart p.entries n i ne ∙ a.waits;
        kind =
            a.kind;
      } in
      record {
        each = λ q i a. let w = was q i a in
            let apart : q ≡ k → ⊥ = λ e.
            w.1 (old.one q i n w.0 (record { entry = this.entry; waits = this.waits; kind = this.kind ∙ ap (λ (t : Triad). Some t) (sym e) })) in
            ap (λ x. is_some (option_and_then as_opening x)) (b.others q apart) ∙ old.each q i w.0;
        one = λ q i j x y. old.one q i j (was q i x).0 (was q j y).0;
        only = λ q e none. elim (triad_or_not q k) as (λ _. ⊥) [
          | inl one ↦ let no : false ≡ true = sym ends ∙ ap (λ x. is_some (option_and_then as_opening x)) (sym (at_one q one)) ∙ e in cc
          | inr apart ↦ old.only q (ap (λ x. is_some (option_and_then as_opening x)) (sym (b.others q apart)) ∙ e) (λ i a.
              none i (stays q i a (λ same.
              let both : Some a.entry ≡ Some this.entry = sym a.waits ∙ ap (map.get p.entries) same ∙ this.waits in
              let entries : a.entry ≡ this.entry = cc in
              let kinds : Some q ≡ Some k = sym a.kind ∙ ap (λ (x : Entry). opened_triad x.kind) entries ∙ this.kind in
              let triads : q ≡ k = cc in apart triads)))
        ];
      }

-- ---- the pendings alone change

pub paired_added : (p after : Pendings) (h : Hops) (n : ℕ) (entry : Entry) → IsPaired p h → map.get p.entries n ≡ None
    → after.entries ≡ map.insert p.entries n entry → IsOther entry.kind → IsPaired after h
paired_added p after h n entry old fresh put other =
    let was : (q : Triad) (i : ℕ) → IsAwaited after q i → IsAwaited p q i =
    λ q i a.
    let ne : i ≡ n → ⊥ = λ e.
    let both : Some entry ≡ Some a.entry = sym (put_here nat_cmp_total numbers_apart p.entries n entry) ∙ ap (λ m. map.get m n) (sym put)
    ∙ ap (map.get after.entries) (sym e) ∙ a.waits in
    let one : entry ≡ a.entry = cc in
    let no : None ≡ Some q = sym other ∙ ap (λ (x : Entry). opened_triad x.kind) one ∙ a.kind in cc in
    record {
      entry = a.entry;
      waits = sym (put_apart nat_cmp_total numbers_apart p.entries n entry i ne) ∙ ap (λ m. map.get m i) (sym put) ∙ a.waits;
      kind =
          a.kind;
    } in
    let stays : (q : Triad) (i : ℕ) → IsAwaited p q i → IsAwaited after q i =
    λ q i a. record {
      entry = a.entry;
      waits = ap (λ m. map.get m i) put ∙ put_apart nat_cmp_total numbers_apart p.entries n entry i
          (λ same. let no : None ≡ Some a.entry = sym fresh ∙ ap (map.get p.entries) (sym same) ∙ a.waits in cc) ∙ a.waits;
      kind = a.kind;
    } in
    record {
      each = λ q i a. old.each q i (was q i a);
      one = λ q i j x y. old.one q i j (was q i x) (was q j y);
      only = λ q e none. old.only q e (λ i a. none i (stays q i a));
    }

pub paired_dropped : (p after : Pendings) (h : Hops) (n : ℕ) (entry : Entry) → IsPaired p h → map.get p.entries n ≡ Some entry
    → after.entries ≡ map.remove p.entries n → IsOther entry.kind → IsPaired after h
paired_dropped p after h n entry old stands gone other =
    let was : (q : Triad) (i : ℕ) → IsAwaited after q i → IsAwaited p q i =
    λ q i a.
    let ne : i ≡ n → ⊥ = λ e. let no : None ≡ Some a.entry =
    sym (gone_here nat_cmp_total numbers_apart p.entries n) ∙ ap (λ m. map.get m n) (sym gone) ∙ ap (map.get after.entries) (sym e) ∙ a.waits in cc in
    record {
      entry = a.entry;
      waits = sym (gone_apart nat_cmp_total numbers_apart p.entries n i ne) ∙ ap (λ m. map.get m i) (sym gone) ∙ a.waits;
      kind =
          a.kind;
    } in
    let stays : (q : Triad) (i : ℕ) → IsAwaited p q i → IsAwaited after q i =
    λ q i a.
    let ne : i ≡ n → ⊥ = λ same.
    let both : Some a.entry ≡ Some entry = sym a.waits ∙ ap (map.get p.entries) same ∙ stands in
    let entries : a.entry ≡ entry = cc in
    let no : None ≡ Some q = sym other ∙ ap (λ (x : Entry). opened_triad x.kind) (sym entries) ∙ a.kind in cc in
    record { entry = a.entry; waits = ap (λ m. map.get m i) gone ∙ gone_apart nat_cmp_total numbers_apart p.entries n i ne ∙ a.waits; kind = a.kind } in
    record {
      each = λ q i a. old.each q i (was q i a);
      one = λ q i j x y. old.one q i j (was q i x) (was q j y);
      only = λ q e none. old.only q e (λ i a. none i (stays q i a));
    }
