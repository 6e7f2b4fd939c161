-- What a finite map has at a key, after an entry came or went.
use Rattle.std.proofs.Common.{◌≡◌, true, false, cond, refl, ap, ◌∙◌, Some, None, ◌⊎◌, inl, inr}
use Rattle.std.specs.Ordering.{eq_by_cmp, is_eq}
use Rattle.std.specs.declared.cmp.Ordering.{Ordering}
use Rattle.std.specs.Cmp.{IsTotalOrder, tied_itself}
use Rattle.std.specs.FinMap as map
use Rattle.std.specs.FinMap.{FinMap, IsAntisymmetric}
use Rattle.cip_base.proofs.Views.{tied_name}

module _ {K : Type 0} {R : K → K → Ordering} (o : IsTotalOrder R) (same : IsAntisymmetric R) where
  -- two keys are one or apart
  pub one_or_apart : (a b : K) → (a ≡ b) ⊎ (a ≡ b → ⊥)
  one_or_apart a b =
      elim (eq_by_cmp R a b) as (λ t. eq_by_cmp R a b ≡ t → (a ≡ b) ⊎ (a ≡ b → ⊥)) [
        | true ↦ λ t. inl (tied_name same a b t)
        | false ↦ λ t. inr (λ e. let tied : eq_by_cmp R a b ≡ true = ap (λ x. eq_by_cmp R x b) e ∙ ap is_eq (tied_itself o b) in cc)
      ] refl

  apart_tests : (a b : K) → (a ≡ b → ⊥) → eq_by_cmp R a b ≡ false
  apart_tests a b ne =
      elim (eq_by_cmp R a b) as (λ t. eq_by_cmp R a b ≡ t → eq_by_cmp R a b ≡ false) [
        | true ↦ λ t. absurd (ne (tied_name same a b t))
        | false ↦ λ t. t
      ] refl

module _ {K X : Type 0} {R : K → K → Ordering} (o : IsTotalOrder R) (same : IsAntisymmetric R) where
  pub put_here : (m : FinMap R X) (k : K) (v : X) → map.get (map.insert m k v) k ≡ Some v
  put_here m k v = map.get-insert o m k v k ∙ ap (λ r. cond (is_eq r) (Some v) (map.get m k)) (tied_itself o k)

  pub put_apart : (m : FinMap R X) (k : K) (v : X) (q : K) → (q ≡ k → ⊥) → map.get (map.insert m k v) q ≡ map.get m q
  put_apart m k v q ne = map.get-insert o m k v q ∙ ap (λ b. cond b (Some v) (map.get m q)) (apart_tests o same q k ne)

  pub gone_here : (m : FinMap R X) (k : K) → map.get (map.remove m k) k ≡ None
  gone_here m k = map.get-remove o m k k ∙ ap (λ r. cond (is_eq r) None (map.get m k)) (tied_itself o k)

  pub gone_apart : (m : FinMap R X) (k q : K) → (q ≡ k → ⊥) → map.get (map.remove m k) q ≡ map.get m q
  gone_apart m k q ne = map.get-remove o m k q ∙ ap (λ b. cond b None (map.get m q)) (apart_tests o same q k ne)
