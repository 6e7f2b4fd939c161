-- The map from names to records that an index and the records under its keys make.
use Rattle.std.proofs.Common.{◌≡◌, ℕ, zero, suc, ◌<◌, Bool, true, false, cond, List, [], ◌∷◌, length, get_or, refl, sym, ap, ◌∙◌, arith, Option, Some, None}
use Rattle.std.proofs.Common.{IsSome, find}
use Rattle.std.specs.Option.{option_and_then}
use Rattle.std.specs.Ordering.{eq_by_cmp, is_eq}
use Rattle.std.specs.declared.cmp.Ordering.{Ordering}
use Rattle.std.specs.declared.cmp.Ordering.TheVariants.{Less, Equal, Greater}
use Rattle.std.specs.Cmp.{IsTotalOrder}
use Rattle.std.specs.FinMap as map
use Rattle.std.specs.FinMap.{FinMap, IsAntisymmetric}
use Rattle.std.specs.FinMap.Entries as entries
use Rattle.cip_base.proofs.Sorted.{find-at}
use Rattle.cip_base.proofs.Places.{find-misses}
use Rattle.cip_base.specs.Joined.{put_before, joined, IsPresent, Finds, joined_map}
use Rattle.cip_base.proofs.Joined.{sorted_joined, length_joined}

same_then : {X : Type 0} (o : Option ℕ) (found new : ℕ → Option X) → ((key : ℕ) → o ≡ Some key → new key ≡ found key)
    → option_and_then new o ≡ option_and_then found o
same_then None found new h = refl
same_then (Some key) found new h = h key refl

pub tied_name : {K : Type 0} {R : K → K → Ordering} → IsAntisymmetric R → (a b : K) → eq_by_cmp R a b ≡ true → a ≡ b
tied_name {R = R} same a b e = same a b (equal_from (R a b) e)
  where
    equal_from : (r : Ordering) → is_eq r ≡ true → r ≡ Equal
    equal_from Less e = absurd (cc)
    equal_from Equal e = refl
    equal_from Greater e = absurd (cc)

pub some_or : {A : Type 0} (a : Option A) → (B : Type 0) → (a ≡ None → B) → ((x : A) → a ≡ Some x → B) → B
some_or None B none some = none refl
some_or (Some x) B none some = some x refl

module _ {K X : Type 0} (R : K → K → Ordering) (o : IsTotalOrder R) (same : IsAntisymmetric R) where
  -- the entry at a place is found under its name
  pub get-at : (m : FinMap R X) (i : ℕ) (d : K × X) → i < length (map.entries m)
      → map.get m (get_or (map.entries m) i d).0 ≡ Some (get_or (map.entries m) i d).1
  get-at m i d lt = map.get-entries m _ ∙ find-at R o (map.entries m) i d (map.entries_sorted m) lt

module _ {K X : Type 0} (R : K → K → Ordering) (o : IsTotalOrder R) (same : IsAntisymmetric R) where
  pub present : (m : FinMap R ℕ) (found : ℕ → Option X) → Finds m found → IsPresent (map.entries m) found
  present m found h k d lt = h _ _ (get-at R o same m k d lt)

  find-put_before : (q k : K) (x : Option X) (rest : List (K × X)) → IsSome x
      → entries.find R q (put_before k x rest) ≡ cond (eq_by_cmp R q k) x (entries.find R q rest)
  find-put_before q k None rest h = absurd (cc)
  find-put_before q k (Some x) rest h = refl

  find-joined : (q : K) (ps : List (K × ℕ)) (found : ℕ → Option X) → IsPresent ps found
      → entries.find R q (joined ps found) ≡ option_and_then found (entries.find R q ps)
  find-joined q [] found h = refl
  find-joined q (p ∷ ps) found h =
      find-put_before q p.0 (found p.1) (joined ps found) (h 0 p (omega arith))
      ∙ elim (eq_by_cmp R q p.0) as (λ b. cond b (found p.1) (entries.find R q (joined ps found))
      ≡ option_and_then found (cond b (Some p.1) (entries.find R q ps))) [
        | true ↦ refl
        | false ↦ find-joined q ps found (λ k d lt. h (suc k) d (omega arith))
      ]

  pub entries-view : (m : FinMap R ℕ) (found : ℕ → Option X) → map.entries (joined_map m found) ≡ joined (map.entries m) found
  entries-view m found = map.entries-from_sorted R _ (sorted_joined R (map.entries m) found (map.entries_sorted m))

  pub get-view : (m : FinMap R ℕ) (found : ℕ → Option X) → Finds m found → (q : K) → map.get (joined_map m found) q ≡ option_and_then found (map.get m q)
  get-view m found h q =
      map.get-from_sorted R _ q (sorted_joined R (map.entries m) found (map.entries_sorted m))
      ∙ find-joined q (map.entries m) found (present m found h) ∙ ap (option_and_then found) (sym (map.get-entries m q))

  pub len-view : (m : FinMap R ℕ) (found : ℕ → Option X) → Finds m found → map.len (joined_map m found) ≡ map.len m
  len-view m found h = map.len-entries _ ∙ ap length (entries-view m found) ∙ length_joined (map.entries m) found (present m found h)
      ∙ sym (map.len-entries m)

  -- a record under a new key
  pub view-insert : (m : FinMap R ℕ) (found new : ℕ → Option X) (name : K) (key : ℕ) (x : X) → Finds m found → Finds (map.insert m name key) new
      → new key ≡ Some x → ((q : K) (k : ℕ) → map.get m q ≡ Some k → new k ≡ found k)
      → joined_map (map.insert m name key) new ≡ map.insert (joined_map m found) name x
  view-insert m found new name key x h h' is others =
      map.same_map o same _ _ (λ q. get-view (map.insert m name key) new h' q ∙ ap (option_and_then new) (map.get-insert o m name key q)
      ∙ elim (eq_by_cmp R q name) as (λ b. option_and_then new (cond b (Some key) (map.get m q)) ≡ cond b (Some x) (option_and_then found (map.get m q))) [
        | true ↦ is
        | false ↦ same_then (map.get m q) found new (others q)
      ]
      ∙ sym (map.get-insert o (joined_map m found) name x q ∙ ap (cond (eq_by_cmp R q name) (Some x)) (get-view m found h q)))

  -- a record goes
  pub view-remove : (m : FinMap R ℕ) (found new : ℕ → Option X) (name : K) → Finds m found → Finds (map.remove m name) new
      → ((q : K) (k : ℕ) → map.get m q ≡ Some k → eq_by_cmp R q name ≡ false → new k ≡ found k)
      → joined_map (map.remove m name) new ≡ map.remove (joined_map m found) name
  view-remove m found new name h h' others =
      map.same_map o same _ _ (λ q. get-view (map.remove m name) new h' q ∙ ap (option_and_then new) (map.get-remove o m name q)
      ∙ elim (eq_by_cmp R q name) as (λ b. eq_by_cmp R q name ≡ b
      → option_and_then new (cond b None (map.get m q)) ≡ cond b None (option_and_then found (map.get m q))) [
        | true ↦ λ t. refl
        | false ↦ λ t. same_then (map.get m q) found new (λ k e. others q k e t)
      ] refl
      ∙ sym (map.get-remove o (joined_map m found) name q ∙ ap (cond (eq_by_cmp R q name) None) (get-view m found h q)))

  -- another record under the same key
  pub view-change : (m : FinMap R ℕ) (found new : ℕ → Option X) (name : K) (key : ℕ) (x : X) → Finds m found → Finds m new → map.get m name ≡ Some key
      → new key ≡ Some x → ((q : K) (k : ℕ) → map.get m q ≡ Some k → eq_by_cmp R q name ≡ false → new k ≡ found k)
      → joined_map m new ≡ map.insert (joined_map m found) name x
  view-change m found new name key x h h' stands is others =
      map.same_map o same _ _ (λ q. get-view m new h' q
      ∙ elim (eq_by_cmp R q name) as (λ b. eq_by_cmp R q name ≡ b
      → option_and_then new (map.get m q) ≡ cond b (Some x) (option_and_then found (map.get m q))) [
        | true ↦ λ t. ap (λ r. option_and_then new (map.get m r)) (tied_name same q name t) ∙ ap (option_and_then new) stands ∙ is
        | false ↦ λ t. same_then (map.get m q) found new (λ k e. others q k e t)
      ] refl
      ∙ sym (map.get-insert o (joined_map m found) name x q ∙ ap (cond (eq_by_cmp R q name) (Some x)) (get-view m found h q)))

  -- ---- the first entry that passes a test

  -- none passes
  pub find-nowhere : (m : FinMap R X) (p : K × X → Bool) → ((q : K) (x : X) → map.get m q ≡ Some x → p (q, x) ≡ false) → find p (map.entries m) ≡ None
  find-nowhere m p miss = find-misses p (map.entries m) (λ k d lt. miss _ _ (get-at R o same m k d lt))

  record Passing (p : K × X → Bool) (es : List (K × X)) (e : K × X) : Type 0 where
    pub place : ℕ
    pub within : place < length es
    pub stands : get_or es place e ≡ e
    pub passes : p e ≡ true

  passing : (p : K × X → Bool) (es : List (K × X)) (e : K × X) → find p es ≡ Some e → Passing p es e
  passing p [] e f = absurd (cc)
  passing p (x ∷ es) e f =
      elim (p x) as (λ b. p x ≡ b → cond b (Some x) (find p es) ≡ Some e → Passing p (x ∷ es) e) [
        | true ↦ λ t s. let is : x ≡ e = cc in record { place = 0; within = omega arith; stands = is; passes = ap p (sym is) ∙ t }
        | false ↦ λ t s. let h = passing p es e s in record { place = suc h.place; within = omega (arith, h.within); stands = h.stands; passes = h.passes }
      ] refl f

  -- what is found stands under its name, and passes
  pub found-gives : (m : FinMap R X) (p : K × X → Bool) (e : K × X) → find p (map.entries m) ≡ Some e → (map.get m e.0 ≡ Some e.1) × (p e ≡ true)
  found-gives m p e f =
      let h = passing p (map.entries m) e f in
      (ap (λ (y : K × X). map.get m y.0) (sym h.stands) ∙ get-at R o same m h.place e h.within ∙ ap (λ (y : K × X). Some y.1) h.stands, h.passes)

  missed : (p : K × X → Bool) (es : List (K × X)) → find p es ≡ None → (k : ℕ) (d : K × X) → k < length es → p (get_or es k d) ≡ false
  missed p [] f k d lt = absurd (omega arith)
  missed p (e ∷ es) f zero d lt = elim (p e) as (λ b. cond b (Some e) (find p es) ≡ None → b ≡ false) [ true ↦ λ s. absurd (cc) | false ↦ λ s. refl ] f
  missed p (e ∷ es) f (suc k) d lt =
      missed p es (elim (p e) as (λ b. cond b (Some e) (find p es) ≡ None → find p es ≡ None) [ true ↦ λ s. absurd (cc) | false ↦ λ s. s ] f) k d
      (omega arith)

  place_in : (q : K) (x : X) (es : List (K × X)) → entries.find R q es ≡ Some x → (i : ℕ) × (i < length es) × (get_or es i (q, x) ≡ (q, x))
  place_in q x [] f = absurd (cc)
  place_in q x (e ∷ es) f =
      elim (eq_by_cmp R q e.0) as (λ b. eq_by_cmp R q e.0 ≡ b → cond b (Some e.1) (entries.find R q es) ≡ Some x
      → (i : ℕ) × (i < length (e ∷ es)) × (get_or (e ∷ es) i (q, x) ≡ (q, x))) [
        | true ↦ λ t s. let name : e.0 ≡ q = sym (tied_name same q e.0 t) in let value : e.1 ≡ x = cc in (0, omega arith, λ i. (name i, value i))
        | false ↦ λ t s. let h = place_in q x es s in (suc h.0, omega (arith, h.1), h.2)
      ] refl f

  -- the one entry that passes
  pub find-only : (m : FinMap R X) (p : K × X → Bool) (q : K) (x : X) → map.get m q ≡ Some x → p (q, x) ≡ true
      → ((r : K) (y : X) → map.get m r ≡ Some y → p (r, y) ≡ true → r ≡ q) → find p (map.entries m) ≡ Some (q, x)
  find-only m p q x stands pass only =
      some_or (find p (map.entries m)) (find p (map.entries m) ≡ Some (q, x))
      (λ none.
      let at = place_in q x (map.entries m) (sym (map.get-entries m q) ∙ stands) in
      let miss : p (get_or (map.entries m) at.0 (q, x)) ≡ false = missed p (map.entries m) none at.0 (q, x) at.1 in
      let hit : p (get_or (map.entries m) at.0 (q, x)) ≡ true = ap p at.2 ∙ pass in absurd (cc))
      (λ e f.
      let is = found-gives m p e f in
      let name : e.0 ≡ q = only e.0 e.1 is.0 is.1 in
      let value : e.1 ≡ x = let both : Some e.1 ≡ Some x = sym is.0 ∙ ap (map.get m) name ∙ stands in cc in
      f ∙ (λ i. Some (name i, value i)))
