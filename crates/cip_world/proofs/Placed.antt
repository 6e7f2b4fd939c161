-- The entry of a number, in a journal that is kept oldest first.
use Rattle.std.proofs.Common.{◌≡◌, ℕ, zero, suc, cond, List, [], ◌∷◌, ◌++◌, length, reverse, false, Option, Some, None, refl, ap, ◌∙◌, arith, eqb}
use Rattle.std.specs.Prelude.{slice_get}
use Rattle.std.specs.Cmp.{both_ways}
use Rattle.std.proofs.lemmas.Bool.{eqb-true, eq-eqb, ne_eqb}
use Rattle.std.proofs.lemmas.List.{reverse-append, length-append}
use Rattle.cip_world.specs.declared.journal.Entry.{Entry}
use Rattle.cip_world.specs.Journals.{Journal, entry_at}

one_longer : (j : Journal) (y : Entry) → length (j ++ y ∷ []) ≡ suc (length j)
one_longer j y = let is = length-append j (y ∷ []) in omega (arith, is)

not_first : (n : ℕ) → eqb 0 (suc n) ≡ false
not_first n = ne_eqb 0 (suc n) (λ e. omega (arith, e))

after_first : (k : ℕ) → eqb (suc k) 0 ≡ false
after_first k = ne_eqb (suc k) 0 (λ e. omega (arith, e))

one_on : (k n : ℕ) → eqb (suc k) (suc n) ≡ eqb k n
one_on k n =
    both_ways (eqb (suc k) (suc n)) (eqb k n)
    (λ t. let same = eqb-true (suc k) (suc n) t in eq-eqb k n (omega (arith, same)))
    (λ t. eq-eqb (suc k) (suc n) (ap suc (eqb-true k n t)))

oldest : (j : Journal) (y : Entry) → entry_at (j ++ y ∷ []) zero ≡ Some y
oldest [] y = refl
oldest (e ∷ j) y =
    ap (λ (n : ℕ). cond (eqb 0 n) (Some e) (entry_at (j ++ y ∷ []) 0)) (one_longer j y)
    ∙ ap (λ b. cond b (Some e) (entry_at (j ++ y ∷ []) 0)) (not_first (length j)) ∙ oldest j y

later : (j : Journal) (y : Entry) (k : ℕ) → entry_at (j ++ y ∷ []) (suc k) ≡ entry_at j k
later [] y k = ap (λ b. cond b (Some y) None) (after_first k)
later (e ∷ j) y k =
    ap (λ (n : ℕ). cond (eqb (suc k) n) (Some e) (entry_at (j ++ y ∷ []) (suc k))) (one_longer j y)
    ∙ ap (λ b. cond b (Some e) (entry_at (j ++ y ∷ []) (suc k))) (one_on k (length j))
    ∙ ap (λ (o : Option Entry). cond (eqb k (length j)) (Some e) o) (later j y k)

pub placed : (entries : List Entry) (k : ℕ) → entry_at (reverse entries) k ≡ slice_get entries k
placed [] k = refl
placed (y ∷ ys) zero = ap (λ (j : Journal). entry_at j 0) (reverse-append (y ∷ []) ys) ∙ oldest (reverse ys) y
placed (y ∷ ys) (suc k) = ap (λ (j : Journal). entry_at j (suc k)) (reverse-append (y ∷ []) ys) ∙ later (reverse ys) y k ∙ placed ys k
