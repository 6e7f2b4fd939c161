-- What an index says of the records after each change of both.
use Rattle.std.proofs.Common.{◌≡◌, ◌≢◌, ℕ, zero, suc, true, false, cond, refl, sym, ap, ◌∙◌, arith, Option, Some, None, ◌⊎◌, inl, inr}
use Rattle.std.specs.Ordering.{eq_by_cmp, is_eq}
use Rattle.std.specs.declared.cmp.Ordering.{Ordering}
use Rattle.std.specs.Cmp.{IsTotalOrder, tied_itself}
use Rattle.std.specs.FinMap as map
use Rattle.std.specs.FinMap.{FinMap, IsAntisymmetric}
use Rattle.cip_hops.specs.declared.hop.Held.{Held}
use Rattle.cip_base.specs.Index.{Index, noted, forgot}
use Rattle.cip_hops.specs.Kept.{HasName, Indexes}
use Rattle.cip_base.proofs.Views.{tied_name}

pub same_or_not : (a b : ℕ) → (a ≡ b) ⊎ (a ≢ b)
same_or_not zero zero = inl refl
same_or_not zero (suc b) = inr (λ e. cc)
same_or_not (suc a) zero = inr (λ e. cc)
same_or_not (suc a) (suc b) = elim (same_or_not a b) [ inl e ↦ inl (ap (λ n. suc n) e) | inr ne ↦ inr (λ e. ne (omega arith)) ]

-- the records after one of them came, went or changed
abbrev pub Others : (ℕ → Option Held) → (ℕ → Option Held) → ℕ → Type 0
Others found new key = (k : ℕ) → k ≢ key → new k ≡ found k

module _ {K : Type 0} (R : K → K → Ordering) (o : IsTotalOrder R) (same : IsAntisymmetric R) (name_of : Held → Option K) where
  moved : (found new : ℕ → Option Held) (key k : ℕ) (name : K) → Others found new key → k ≢ key → HasName name_of found k name → HasName name_of new k name
  moved found new key k name others ne h = record { held = h.held; stands = others k ne ∙ h.stands; named = h.named }

  -- a record comes
  pub index_add : (m : Index R) (found new : ℕ → Option Held) (key : ℕ) (x : Held) (name : Option K) → Indexes name_of m.keys found → found key ≡ None
      → new key ≡ Some x → Others found new key
      → name_of x ≡ name → ((n : K) → name ≡ Some n → map.get m.keys n ≡ None) → Indexes name_of (noted m name key).keys new
  index_add m found new key x None h vacant is others named free = record {
    sound = λ n k e. let old = h.sound n k e in
        moved found new key k n others (λ s. let no : None ≡ Some old.held = sym vacant ∙ ap found (sym s) ∙ old.stands in cc) old;
    complete = λ n k y e f. elim (same_or_not k key) [
      | inl s ↦ let one : x ≡ y = let both : Some x ≡ Some y = sym is ∙ ap new (sym s) ∙ e in cc in let no : None ≡ Some n = sym named ∙ ap name_of one
          ∙ f in absurd (cc)
      | inr ne ↦ h.complete n k y (sym (others k ne) ∙ e) f
    ];
  }
  index_add m found new key x (Some name) h vacant is others named free = record {
    sound = λ n k e.
        elim (eq_by_cmp R n name) as (λ b. eq_by_cmp R n name ≡ b → cond b (Some key) (map.get m.keys n) ≡ Some k → HasName name_of new k n) [
          | true ↦ λ t s. let at : key ≡ k = cc in
              record { held = x; stands = ap new (sym at) ∙ is; named = named ∙ ap (λ q. Some q) (sym (tied_name same n name t)) }
          | false ↦ λ t s. let old = h.sound n k s in
              moved found new key k n others (λ s. let no : None ≡ Some old.held = sym vacant ∙ ap found (sym s) ∙ old.stands in cc) old
        ] refl (sym (map.get-insert o m.keys name key n) ∙ e);
    complete = λ n k y e f.
        map.get-insert o m.keys name key n ∙ elim (same_or_not k key) [
          | inl s ↦ let one : x ≡ y = let both : Some x ≡ Some y = sym is ∙ ap new (sym s) ∙ e in cc in
              let at : name ≡ n = let both : Some name ≡ Some n = sym named ∙ ap name_of one ∙ f in cc in
              ap (λ q. cond (eq_by_cmp R q name) (Some key) (map.get m.keys q)) (sym at)
              ∙ ap (λ r. cond (is_eq r) (Some key) (map.get m.keys name)) (tied_itself o name) ∙ ap (λ j. Some j) (sym s)
          | inr ne ↦ let stands = h.complete n k y (sym (others k ne) ∙ e) f in
              elim (eq_by_cmp R n name) as (λ b. eq_by_cmp R n name ≡ b → cond b (Some key) (map.get m.keys n) ≡ Some k) [
                | true ↦ λ t. let no : None ≡ Some k = sym (free name refl) ∙ ap (map.get m.keys) (sym (tied_name same n name t)) ∙ stands in absurd (cc)
                | false ↦ λ t. stands
              ] refl
        ];
  }

  -- a record goes
  pub index_drop : (m : Index R) (found new : ℕ → Option Held) (key : ℕ) (x : Held) (name : Option K) → Indexes name_of m.keys found → found key ≡ Some x
      → new key ≡ None → Others found new key
      → name_of x ≡ name → Indexes name_of (forgot m name).keys new
  index_drop m found new key x None h is vacant others named = record {
    sound = λ n k e. let old = h.sound n k e in
        moved found new key k n others (λ s. let one : x ≡ old.held = let both : Some x ≡ Some old.held = sym is ∙ ap found (sym s) ∙ old.stands in cc in
        let no : None ≡ Some n = sym named ∙ ap name_of one ∙ old.named in cc) old;
    complete = λ n k y e f. h.complete n k y (sym (others k (λ s. let no : None ≡ Some y = sym vacant ∙ ap new (sym s) ∙ e in cc)) ∙ e) f;
  }
  index_drop m found new key x (Some name) h is vacant others named = record {
    sound = λ n k e.
        elim (eq_by_cmp R n name) as (λ b. eq_by_cmp R n name ≡ b → cond b None (map.get m.keys n) ≡ Some k → HasName name_of new k n) [
          | true ↦ λ t s. absurd (cc)
          | false ↦ λ t s. let old = h.sound n k s in
              moved found new key k n others (λ s.
              let one : x ≡ old.held = let both : Some x ≡ Some old.held = sym is ∙ ap found (sym s) ∙ old.stands in cc in
              let at : name ≡ n = let both : Some name ≡ Some n = sym named ∙ ap name_of one ∙ old.named in cc in
              let tied : eq_by_cmp R n name ≡ true = ap (λ q. eq_by_cmp R q name) (sym at) ∙ ap is_eq (tied_itself o name) in cc) old
        ] refl (sym (map.get-remove o m.keys name n) ∙ e);
    complete = λ n k y e f.
        let ne : k ≢ key = λ s. let no : None ≡ Some y = sym vacant ∙ ap new (sym s) ∙ e in cc in
        let stands = h.complete n k y (sym (others k ne) ∙ e) f in
        map.get-remove o m.keys name n ∙ elim (eq_by_cmp R n name) as (λ b. eq_by_cmp R n name ≡ b → cond b None (map.get m.keys n) ≡ Some k) [
          | true ↦ λ t. let both : Some k ≡ Some key = sym stands ∙ ap (map.get m.keys) (tied_name same n name t) ∙ h.complete name key x is named in
              let at : k ≡ key = cc in absurd (ne at)
          | false ↦ λ t. stands
        ] refl;
  }

  -- a record changes, and keeps its name
  pub index_change : (m : FinMap R ℕ) (found new : ℕ → Option Held) (key : ℕ) (x y : Held) → Indexes name_of m found → found key ≡ Some x
      → new key ≡ Some y → Others found new key
      → name_of y ≡ name_of x → Indexes name_of m new
  index_change m found new key x y h is now others alike = record {
    sound = λ n k e. let old = h.sound n k e in elim (same_or_not k key) [
      | inl s ↦ let one : x ≡ old.held = let both : Some x ≡ Some old.held = sym is ∙ ap found (sym s) ∙ old.stands in cc in
          record { held = y; stands = ap new s ∙ now; named = alike ∙ ap name_of one ∙ old.named }
      | inr ne ↦ moved found new key k n others ne old
    ];
    complete = λ n k z e f. elim (same_or_not k key) [
      | inl s ↦ let one : y ≡ z = let both : Some y ≡ Some z = sym now ∙ ap new (sym s) ∙ e in cc in
          h.complete n k x (ap found s ∙ is) (sym alike ∙ ap name_of one ∙ f)
      | inr ne ↦ h.complete n k z (sym (others k ne) ∙ e) f
    ];
  }
