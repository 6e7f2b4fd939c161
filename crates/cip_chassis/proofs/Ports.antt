-- A module's ports by their numbers, and what a search through a list finds.
use Rattle.std.proofs.Common.{◌≡◌, ℕ, zero, suc, Bool, true, false, not, cond, ◌&&◌, ◌||◌, List, [], ◌∷◌, Some, refl, sym, ap, ◌∙◌, eqb, nat_le, length}
use Rattle.std.specs.Prelude.{slice_get, find}
use Rattle.std.specs.List.{list_all, list_any}
use Rattle.std.proofs.lemmas.Bool.{and_parts, eqb-true, eq-eqb}
use Rattle.cip_config.specs.declared.config.ModuleSettings.{ModuleSettings}
use Rattle.cip_config.specs.declared.config.PortConfig.{PortConfig}
use Rattle.cip_config.specs.Config.{has_number, numbers_differ, is_name, are_counts, are_ports, are_assemblies, most_ports, is_port, is_settings}

pub some_same : {X : Type 0} (x y : X) → Some x ≡ Some y → x ≡ y
some_same x y e = cc

module _ {X : Type 0} (f : X → Bool) where
  pub record Found (xs : List X) (x : X) : Type 0 where
    pub place : ℕ
    pub at : slice_get xs place ≡ Some x
    pub passes : f x ≡ true

  found_later : (y : X) (xs : List X) (x : X) → Found xs x → Found (y ∷ xs) x
  found_later y xs x h = record { place = suc h.place; at = h.at; passes = h.passes }

  pub found : (xs : List X) (x : X) → find f xs ≡ Some x → Found xs x
  found [] x e = absurd (cc)
  found (y ∷ xs) x e =
      elim (f y) as (λ b. f y ≡ b → cond b (Some y) (find f xs) ≡ Some x → Found (y ∷ xs) x) [
        | true ↦ λ t s. let same = some_same y x s in record { place = 0; at = ap (λ z. Some z) same; passes = ap f (sym same) ∙ t }
        | false ↦ λ t s. found_later y xs x (found xs x s)
      ] refl e

  later : (y : X) (xs : List X) (k : ℕ) (x : X) → slice_get (y ∷ xs) k ≡ Some x → f x ≡ true → f y ≡ false
      → ((i : ℕ) → slice_get xs i ≡ Some x → (z : X) × (find f xs ≡ Some z)) → (z : X) × (find f xs ≡ Some z)
  later y xs zero x at t s rest = let same = some_same y x at in let no : true ≡ false = sym t ∙ ap f (sym same) ∙ s in absurd (cc)
  later y xs (suc k) x at t s rest = rest k at

  -- where one passes, one is found
  pub finds : (xs : List X) (i : ℕ) (x : X) → slice_get xs i ≡ Some x → f x ≡ true → (y : X) × (find f xs ≡ Some y)
  finds [] i x at t = absurd (cc)
  finds (y ∷ xs) i x at t =
      elim (f y) as (λ b. f y ≡ b → (z : X) × (cond b (Some y) (find f xs) ≡ Some z)) [
        | true ↦ λ s. (y, refl)
        | false ↦ λ s. later y xs i x at t s (λ k e. finds xs k x e t)
      ] refl

  or_true : (a b : Bool) → b ≡ true → (a || b) ≡ true
  or_true true b h = refl
  or_true false b h = h

  -- what passes at a place passes somewhere
  pub any_at : (xs : List X) (i : ℕ) (x : X) → slice_get xs i ≡ Some x → f x ≡ true → list_any f xs ≡ true
  any_at [] i x at t = absurd (cc)
  any_at (y ∷ xs) zero x at t = let same = some_same y x at in ap (λ b. b || list_any f xs) (ap f same ∙ t)
  any_at (y ∷ xs) (suc i) x at t = or_true (f y) (list_any f xs) (any_at xs i x at t)

not_true : (b : Bool) → not b ≡ true → b ≡ false
not_true true h = sym h
not_true false h = refl

-- where numbers differ, a number finds the port that has it
pub numbered : (ps : List PortConfig) → numbers_differ ps ≡ true → (i : ℕ) (p : PortConfig) → slice_get ps i ≡ Some p → find (has_number p.number) ps ≡ Some p
numbered [] d i p at = absurd (cc)
numbered (q ∷ ps) d zero p at =
    let same = some_same q p at in
    ap (λ b. cond b (Some q) (find (has_number p.number) ps)) (eq-eqb q.number p.number (ap (λ (x : PortConfig). x.number) same)) ∙ ap (λ x. Some x) same
numbered (q ∷ ps) d (suc i) p at =
    let (others, rest) = and_parts (not (list_any (has_number q.number) ps)) (numbers_differ ps) d in
    elim (eqb q.number p.number) as (λ b. eqb q.number p.number ≡ b → cond b (Some q) (find (has_number p.number) ps) ≡ Some p) [
      | true ↦ λ t.
          let back : eqb p.number q.number ≡ true = eq-eqb p.number q.number (sym (eqb-true q.number p.number t)) in
          let no : true ≡ false = sym (any_at (has_number q.number) ps i p at back) ∙ not_true (list_any (has_number q.number) ps) others in absurd (cc)
      | false ↦ λ t. numbered ps rest i p at
    ] refl

-- a module's port numbers differ
pub settings_differ : (c : ModuleSettings) → is_settings c ≡ true → numbers_differ c.ports ≡ true
settings_differ c h =
    let (name, h1) = and_parts (is_name c.name) (are_counts c && (are_ports c.kind c.ports && are_assemblies c.assemblies)) h in
    let (counts, h2) = and_parts (are_counts c) (are_ports c.kind c.ports && are_assemblies c.assemblies) h1 in
    let (ports, assemblies) = and_parts (are_ports c.kind c.ports) (are_assemblies c.assemblies) h2 in
    let (some, h3) = and_parts (nat_le 1 (length c.ports))
    (nat_le (length c.ports) (most_ports c.kind) && (list_all is_port c.ports && numbers_differ c.ports)) ports in
    let (few, h4) = and_parts (nat_le (length c.ports) (most_ports c.kind)) (list_all is_port c.ports && numbers_differ c.ports) h3 in
    (and_parts (list_all is_port c.ports) (numbers_differ c.ports) h4).1
