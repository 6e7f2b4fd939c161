-- Rising names that stand in queues, taken out least first.
use Rattle.std.proofs.Common.{◌≡◌, ℕ, zero, suc, List, [], ◌∷◌, ◌++◌, Option, Some, None, Bool, true, false, ◌⊎◌, inl}
use Rattle.std.proofs.Common.{inr, refl, sym, subst, cond, arith, ◌∙◌, ap, drop, filter, length, set, ◌<◌, ◌+◌}
use Rattle.std.specs.Prelude.{IfSome, IfNone}
use Rattle.std.specs.List.{AllByRecursion}
use Rattle.std.proofs.lemmas.List.{append_assoc, append-nil}
use Rattle.std.specs.List.Sorted.{IsStrictlySortedBy}
use Rattle.std.specs.Ordering.{ordering_reverse}
use Rattle.std.specs.declared.cmp.Ordering.TheVariants.{Less}
use Rattle.cip_event.specs.declared.frame.FrameName.{FrameName}
use Rattle.cip_world.specs.Names.{name_cmp}
use Rattle.cip_world.proofs.Named.{names_total}
use Rattle.cip_threads.specs.Queues.{queue_at, count_all}
use Rattle.cip_threads.specs.QueueSteps.{IsLeast, AreSplit}
use Rattle.cip_threads.proofs.Queueing.{same_or, queue_same, queue_other, none_counted_at, nonempty_within}

pub head_is : (x y : FrameName) (xs ys : List FrameName) → x ∷ xs ≡ y ∷ ys → (x ≡ y) × (xs ≡ ys)
head_is x y xs ys e = (cc, cc)

-- what a test lets through first is in the list
among_rest : (P : FrameName → Type 0) (p : FrameName → Bool) (xs : List FrameName) (f : FrameName) (fs : List FrameName)
    → AllByRecursion P xs → filter p xs ≡ f ∷ fs → P f
among_rest P p [] f fs all e = cc
among_rest P p (x ∷ xs) f fs all e = by (p x) refl (λ r. among_rest P p xs f fs all.1 r)
  where
    by : (b : Bool) → p x ≡ b → (filter p xs ≡ f ∷ fs → P f) → P f
    by true is old = subst P (head_is x f (filter p xs) fs (sym (ap (λ c. cond c (x ∷ filter p xs) (filter p xs)) is) ∙ e)).0 all.0
    by false is old = old (sym (ap (λ c. cond c (x ∷ filter p xs) (filter p xs)) is) ∙ e)

filter_yes : (p : FrameName → Bool) (x : FrameName) (xs : List FrameName) → p x ≡ true → filter p (x ∷ xs) ≡ x ∷ filter p xs
filter_yes p x xs is = ap (λ c. cond c (x ∷ filter p xs) (filter p xs)) is

filter_no : (p : FrameName → Bool) (x : FrameName) (xs : List FrameName) → p x ≡ false → filter p (x ∷ xs) ≡ filter p xs
filter_no p x xs is = ap (λ c. cond c (x ∷ filter p xs) (filter p xs)) is

no_yes : (b : Bool) → (b ≡ true → ⊥) → b ≡ false
no_yes true n = absurd (n refl)
no_yes false n = refl

-- what is left without the first
pub record IsRest (own : ℕ → FrameName → Bool) (queues : List (List FrameName)) (m : ℕ) (f : FrameName) (names : List FrameName) : Type 0 where
  pub rest : List FrameName
  pub first : names ≡ f ∷ rest
  pub split : AreSplit own (set queues m (drop 1 (queue_at queues m))) rest

-- the least name in front of a queue is the first of all
pub least_first : (own : ℕ → FrameName → Bool) (queues : List (List FrameName)) (m : ℕ) (f : FrameName) (names : List FrameName) → AreSplit own queues names
    → ((k : ℕ) (g : FrameName) (gs : List FrameName) → queue_at queues k ≡ g ∷ gs → name_cmp g f ≡ Less → ⊥)
    → m < length queues → queue_at queues m ≡ f ∷ drop 1 (queue_at queues m) → IsRest own queues m f names
unfolding IsStrictlySortedBy
least_first own queues m f [] s least lt here = let e = s.split m in cc
least_first own queues m f (x ∷ xs) s least lt here = by (own m x) refl
  where
    home : (n : ℕ) × (own n x ≡ true)
    home = s.somewhere.0

    by : (b : Bool) → own m x ≡ b → IsRest own queues m f (x ∷ xs)
    by false is =
        let low : name_cmp x f ≡ Less = among_rest (λ g. name_cmp x g ≡ Less) (own m) xs f (drop 1 (queue_at queues m)) s.rising.0
        (sym (filter_no (own m) x xs is) ∙ sym (s.split m) ∙ here) in
        absurd (least home.0 x (filter (own home.0) xs) (s.split home.0 ∙ filter_yes (own home.0) x xs home.1) low)
    by true is =
        let front = head_is x f (filter (own m) xs) (drop 1 (queue_at queues m)) (sym (filter_yes (own m) x xs is) ∙ sym (s.split m) ∙ here) in
        record {
          rest = xs;
          first = ap (λ (y : FrameName). y ∷ xs) front.0;
          split = record {
            rising = s.rising.1;
            split = λ n. elim (same_or n m) [
              | inl e ↦ ap (queue_at (set queues m (drop 1 (queue_at queues m)))) e ∙ queue_same queues m (drop 1 (queue_at queues m)) lt
                  ∙ sym front.1 ∙ ap (λ (k : ℕ). filter (own k) xs) (sym e)
              | inr other ↦ queue_other queues m n (drop 1 (queue_at queues m)) other ∙ s.split n
                  ∙ filter_no (own n) x xs (no_yes (own n x) (λ yes. other (s.apart x n m yes is)))
            ];
            somewhere = s.somewhere.1;
            apart = s.apart;
          };
        }

-- nothing is left where no queue has anything
pub none_left : (own : ℕ → FrameName → Bool) (queues : List (List FrameName)) (names : List FrameName) → AreSplit own queues names
    → count_all queues ≡ 0 → names ≡ []
none_left own queues [] s e = refl
none_left own queues (x ∷ xs) s e =
    let home = s.somewhere.0 in
    let empty = none_counted_at queues home.0 e in
    let full = s.split home.0 ∙ filter_yes (own home.0) x xs home.1 in cc

-- ---- which front is least

irreflexive : (f : FrameName) → name_cmp f f ≡ Less → ⊥
irreflexive f less = let e = names_total.antisymm f f ∙ ap ordering_reverse less in cc

below_more : (k n : ℕ) → k < n + 1 → (k < n) ⊎ (k ≡ n)
below_more zero zero lt = inr refl
below_more zero (suc n) lt = inl (omega arith)
below_more (suc k) zero lt = absurd (omega arith)
below_more (suc k) (suc n) lt =
    elim (below_more k n (omega (arith, lt))) [
      | inl l ↦ inl (omega (arith, l))
      | inr e ↦ inr (ap suc e)
    ]

pub none_more : (queues : List (List FrameName)) (n : ℕ) → ((k : ℕ) → k < n → queue_at queues k ≡ []) → queue_at queues n ≡ []
    → (k : ℕ) → k < n + 1 → queue_at queues k ≡ []
none_more queues n none now k lt =
    elim (below_more k n lt) [
      | inl l ↦ none k l
      | inr e ↦ ap (queue_at queues) e ∙ now
    ]

-- the next queue has nothing
pub least_past : (queues : List (List FrameName)) (n m : ℕ) (f : FrameName) → IsLeast queues n m f → queue_at queues n ≡ [] → IsLeast queues (n + 1) m f
least_past queues n m f o none =
    record {
      within = o.within;
      here = o.here;
      least = λ k g gs lt is less. elim (below_more k n lt) [
        | inl l ↦ o.least k g gs l is less
        | inr e ↦ (let both : [] ≡ g ∷ gs = sym none ∙ ap (queue_at queues) (sym e) ∙ is in absurd (cc))
      ];
    }

-- its front is not less
pub least_stays : (queues : List (List FrameName)) (n m : ℕ) (f h : FrameName) (hs : List FrameName) → IsLeast queues n m f → queue_at queues n ≡ h ∷ hs
    → (name_cmp h f ≡ Less → ⊥) → IsLeast queues (n + 1) m f
least_stays queues n m f h hs o now more =
    record {
      within = o.within;
      here = o.here;
      least = λ k g gs lt is less. elim (below_more k n lt) [
        | inl l ↦ o.least k g gs l is less
        | inr e ↦ more (subst (λ (x : FrameName). name_cmp x f ≡ Less) (sym (head_is h g hs gs (sym now ∙ ap (queue_at queues) (sym e) ∙ is)).0) less)
      ];
    }

-- it is the least of all then, where none before was less
pub least_new : (queues : List (List FrameName)) (n : ℕ) (h : FrameName) → n < length queues → queue_at queues n ≡ h ∷ drop 1 (queue_at queues n)
    → ((k : ℕ) (g : FrameName) (gs : List FrameName) → k < n → queue_at queues k ≡ g ∷ gs → name_cmp g h ≡ Less → ⊥) → IsLeast queues (n + 1) n h
least_new queues n h lt now none =
    record {
      within = lt;
      here = now;
      least = λ k g gs l is less. elim (below_more k n l) [
        | inl l ↦ none k g gs l is less
        | inr e ↦ (let same = (head_is h g (drop 1 (queue_at queues n)) gs (sym now ∙ ap (queue_at queues) (sym e) ∙ is)).0 in
            irreflexive h (subst (λ (x : FrameName). name_cmp x h ≡ Less) (sym same) less))
      ];
    }

pub less_than_least : (queues : List (List FrameName)) (n m : ℕ) (f h : FrameName) → IsLeast queues n m f → name_cmp h f ≡ Less
    → (k : ℕ) (g : FrameName) (gs : List FrameName) → k < n → queue_at queues k ≡ g ∷ gs → name_cmp g h ≡ Less → ⊥
less_than_least queues n m f h o low k g gs lt is less = o.least k g gs lt is (names_total.trans g h f less low)

pub less_than_none : (queues : List (List FrameName)) (n : ℕ) (h : FrameName) → ((k : ℕ) → k < n → queue_at queues k ≡ [])
    → (k : ℕ) (g : FrameName) (gs : List FrameName) → k < n → queue_at queues k ≡ g ∷ gs → name_cmp g h ≡ Less → ⊥
less_than_none queues n h none k g gs lt is less = let both : [] ≡ g ∷ gs = sym (none k lt) ∙ is in absurd (cc)

-- ---- the whole merge

-- with these names taken out of the queues, the others of each list that they split are left
abbrev pub IsMerging : List (List FrameName) → List (List FrameName) → List FrameName → Type 0
IsMerging start now names = (own : ℕ → FrameName → Bool) (all : List FrameName) → AreSplit own start all
    → (rest : List FrameName) × (names ++ rest ≡ all) × AreSplit own now rest

pub merge_none : (start : List (List FrameName)) → IsMerging start start []
merge_none start own all s = (all, refl, s)

pub merge_more : (start now : List (List FrameName)) (names : List FrameName) (n m : ℕ) (f : FrameName) → length now ≡ n
    → IsLeast now n m f → IsMerging start now names
    → IsMerging start (set now m (drop 1 (queue_at now m))) (names ++ f ∷ [])
merge_more start now names n m f e o left own all s =
    let p = left own all s in
    let r = least_first own now m f p.0 p.2 (λ k g gs is less. o.least k g gs (let lt = nonempty_within now k g gs is in omega (arith, lt, e)) is less)
    o.within o.here in
    (r.rest, append_assoc names (f ∷ []) r.rest ∙ ap (λ (l : List FrameName). names ++ l) (sym r.first) ∙ p.1, r.split)

pub merge_done : (start now : List (List FrameName)) (names : List FrameName) → IsMerging start now names → count_all now ≡ 0
    → (own : ℕ → FrameName → Bool) (all : List FrameName) → AreSplit own start all → names ≡ all
merge_done start now names left e own all s =
    let p = left own all s in
    sym (append-nil names) ∙ ap (λ (l : List FrameName). names ++ l) (sym (none_left own now p.0 p.2 e)) ∙ p.1

pub if_some : {A : Type 0} (P Q : A → Type 0) (o : Option A) → ((x : A) → P x → Q x) → IfSome o P → IfSome o Q
if_some P Q None f h = tt
if_some P Q (Some x) f h = f x h

pub if_none : {A : Type 0} (P Q : Type 0) (o : Option A) → (P → Q) → IfNone o P → IfNone o Q
if_none P Q None f h = f h
if_none P Q (Some x) f h = tt

pub some_at : {A : Type 0} (P : A → Type 0) (o : Option A) (x : A) → o ≡ Some x → IfSome o P → P x
some_at P o x is h = subst (λ (y : Option _). IfSome y P) is h

pub when_none : {A : Type 0} (P : Type 0) (o : Option A) → o ≡ None → IfNone o P → P
when_none P o is h = subst (λ (y : Option _). IfNone y P) is h
