-- What a finite map shows after a change, by where it comes from.
use Rattle.std.proofs.Common.{◌≡◌, sym, ap, ◌∙◌, Some, None, ◌⊎◌, inl, inr}
use Rattle.std.specs.declared.cmp.Ordering.{Ordering}
use Rattle.std.specs.Cmp.{IsTotalOrder}
use Rattle.std.specs.FinMap as map
use Rattle.std.specs.FinMap.{FinMap, IsAntisymmetric}
use Rattle.cip_base.proofs.Points.{one_or_apart, put_here, put_apart, gone_here, gone_apart}

pub some_same : {X : Type 0} (x y : X) → Some x ≡ Some y → x ≡ y
some_same x y e = cc

module _ {K X : Type 0} {R : K → K → Ordering} (o : IsTotalOrder R) (same : IsAntisymmetric R) where
  -- the new one, or one that stood before
  pub insert_cases : (m : FinMap R X) (k : K) (v : X) (q : K) (x : X) → map.get (map.insert m k v) q ≡ Some x
      → ((q ≡ k) × (v ≡ x)) ⊎ ((q ≡ k → ⊥) × (map.get m q ≡ Some x))
  insert_cases m k v q x e =
      elim (one_or_apart o same q k) as (λ _. ((q ≡ k) × (v ≡ x)) ⊎ ((q ≡ k → ⊥) × (map.get m q ≡ Some x))) [
        | inl one ↦ inl (one, some_same v x (sym (put_here o same m k v) ∙ ap (map.get (map.insert m k v)) (sym one) ∙ e))
        | inr apart ↦ inr (apart, sym (put_apart o same m k v q apart) ∙ e)
      ]

  -- one that stood before, under another key
  pub remove_cases : (m : FinMap R X) (k q : K) (x : X) → map.get (map.remove m k) q ≡ Some x → (q ≡ k → ⊥) × (map.get m q ≡ Some x)
  remove_cases m k q x e =
      let apart : q ≡ k → ⊥ = λ one. let no : None ≡ Some x = sym (gone_here o same m k) ∙ ap (map.get (map.remove m k)) (sym one) ∙ e in cc in
      (apart, sym (gone_apart o same m k q apart) ∙ e)
