-- Queues, and what goes into them and out of them.
use Rattle.std.proofs.Common.{◌≡◌, ◌≢◌, ℕ, zero, suc, List, [], ◌∷◌, ◌++◌, Option, Some, None, Bool, true, false, ◌⊎◌, inl, inr, refl, sym}
use Rattle.std.proofs.Common.{subst, cond, arith, ◌∙◌, ap, map, drop, take, length, get_or, set, replicate, ◌<◌, ◌≤◌, ◌+◌, eqb}
use Rattle.std.specs.Prelude.{slice_get, IsSome, IfSome, IfNone, ◌-◌}
use Rattle.std.specs.List.{AllByRecursion}
use Rattle.std.proofs.lemmas.Bool.{eq-eqb, ne_eqb}
use Rattle.std.proofs.lemmas.List.{get_or-map, get_or-set_same, get_or-set_other, set-get_or, map-set, length-map}
use Rattle.std.proofs.lemmas.List.{length-set, length-append, append_assoc, append-nil, take_more, drop_more}
use Rattle.cip_base.specs.declared.numbers.ModuleId.{ModuleId}
use Rattle.cip_threads.specs.declared.feed.Feed.{Feed}
use Rattle.cip_threads.specs.Feeds.{feeds_of, fed_if}
use Rattle.cip_threads.specs.Queues.{queue_at, enqueue, count_all}
use Rattle.cip_threads.specs.QueueSteps.{HasRoom, HaveRoom, Moved}

pub same_or : (a b : ℕ) → (a ≡ b) ⊎ (a ≢ b)
same_or zero zero = inl refl
same_or zero (suc b) = inr (λ e. absurd (omega (arith, e)))
same_or (suc a) zero = inr (λ e. absurd (omega (arith, e)))
same_or (suc a) (suc b) =
    elim (same_or a b) [
      | inl e ↦ inl (ap suc e)
      | inr n ↦ inr (λ e. n (omega (arith, e)))
    ]

-- ---- one queue

-- what is read at a place is the queue
pub queue_is : {Q X : Type 0} (items : Q → List X) (qs : List Q) (m : ℕ) (q : Q) → m < length qs → q ≡ get_or qs m q → queue_at (map items qs) m ≡ items q
queue_is items qs m q lt at = get_or-map items qs m q [] lt ∙ ap items (sym at)

pub get_is : {Q : Type 0} (qs : List Q) (m : ℕ) (q : Q) → m < length qs → q ≡ get_or qs m q → slice_get qs m ≡ Some q
get_is [] m q lt at = absurd (omega arith)
get_is (x ∷ qs) zero q lt at = ap Some (sym at)
get_is (x ∷ qs) (suc m) q lt at = get_is qs m q (omega (arith, lt)) at

pub within_lists : {Q X : Type 0} (items : Q → List X) (qs : List Q) (m : ℕ) → m < length qs → m < length (map items qs)
within_lists items qs m lt = let same = length-map qs items in omega (arith, lt, same)

pub nonempty_within : {X : Type 0} (qs : List (List X)) (m : ℕ) (x : X) (xs : List X) → queue_at qs m ≡ x ∷ xs → m < length qs
nonempty_within [] m x xs e = cc
nonempty_within (q ∷ qs) zero x xs e = omega arith
nonempty_within (q ∷ qs) (suc m) x xs e = let r = nonempty_within qs m x xs e in omega (arith, r)

-- one queue is written
pub set_lists : {Q X : Type 0} (items : Q → List X) (qs : List Q) (m : ℕ) (new : Q) (xs : List X) → items new ≡ xs
    → map items (set qs m new) ≡ set (map items qs) m xs
set_lists items qs m new xs e = map-set items qs m new ∙ ap (set (map items qs) m) e

pub kept_lists : {Q X : Type 0} (items : Q → List X) (qs : List Q) (m : ℕ) (old new : Q) → m < length qs → old ≡ get_or qs m old → items new ≡ items old
    → map items (set qs m new) ≡ map items qs
kept_lists items qs m old new lt at e = set_lists items qs m new (queue_at (map items qs) m) (e ∙ sym (queue_is items qs m old lt at))
    ∙ set-get_or (map items qs) m []

front_is : {X : Type 0} (xs : List X) (x : X) → 0 < length xs → x ≡ get_or xs 0 x → xs ≡ x ∷ drop 1 xs
front_is [] x lt at = absurd (omega arith)
front_is (y ∷ xs) x lt at = ap (λ (z : _). z ∷ xs) (sym at)

pub first_some : {A X : Type 0} (now : A → X) (o : Option A) (xs : List X) → (IsSome o → 0 < length xs) → IfSome o (λ x. now x ≡ get_or xs 0 (now x))
    → IfSome o (λ x. xs ≡ now x ∷ drop 1 xs)
first_some now None xs v l = tt
first_some now (Some x) xs v l = front_is xs (now x) (v refl) l

pub first_none : {A X : Type 0} (o : Option A) (xs : List X) → (0 < length xs → IsSome o) → IfNone o (xs ≡ [])
first_none None [] v = refl
first_none None (y ∷ ys) v = let no = v (omega arith) in cc
first_none (Some x) xs v = tt

pub queue_same : {X : Type 0} (qs : List (List X)) (m : ℕ) (xs : List X) → m < length qs → queue_at (set qs m xs) m ≡ xs
queue_same qs m xs lt = get_or-set_same qs m xs [] lt

pub queue_other : {X : Type 0} (qs : List (List X)) (m n : ℕ) (xs : List X) → n ≢ m → queue_at (set qs m xs) n ≡ queue_at qs n
queue_other qs m n xs other = get_or-set_other qs m n xs [] other

pub none_at_all : (X : Type 0) (n m : ℕ) → queue_at {X = X} (replicate n []) m ≡ []
none_at_all X zero m = refl
none_at_all X (suc n) zero = refl
none_at_all X (suc n) (suc m) = none_at_all X n m

-- ---- how many wait

pub count_set : {X : Type 0} (qs : List (List X)) (m : ℕ) (xs : List X) → m < length qs
    → count_all (set qs m xs) + length (queue_at qs m) ≡ count_all qs + length xs
count_set [] m xs lt = absurd (omega arith)
count_set (q ∷ qs) zero xs lt = omega arith
count_set (q ∷ qs) (suc m) xs lt = let r = count_set qs m xs (omega arith) in omega (arith, r)

pub count_none : (X : Type 0) (n : ℕ) → count_all {X = X} (replicate n []) ≡ 0
count_none X zero = refl
count_none X (suc n) = let r = count_none X n in omega (arith, r)

pub none_counted_at : {X : Type 0} (qs : List (List X)) (m : ℕ) → count_all qs ≡ 0 → queue_at qs m ≡ []
none_counted_at [] m e = refl
none_counted_at ([] ∷ qs) zero e = refl
none_counted_at ([] ∷ qs) (suc m) e = none_counted_at qs m (omega (arith, e))
none_counted_at ((x ∷ q) ∷ qs) m e = absurd (omega (arith, e))

pub count_empty : {X : Type 0} (qs : List (List X)) → ((m : ℕ) → m < length qs → queue_at qs m ≡ []) → count_all qs ≡ 0
count_empty [] all = refl
count_empty (q ∷ qs) all =
    let first = ap length (all 0 (omega arith)) in
    let rest = count_empty qs (λ m lt. all (suc m) (omega (arith, lt))) in
    omega (arith, first, rest)

pub count_taken : {X : Type 0} (qs : List (List X)) (m : ℕ) (x : X) (rest : List X) → m < length qs → queue_at qs m ≡ x ∷ rest
    → count_all (set qs m rest) + 1 ≡ count_all qs
count_taken qs m x rest lt is = let s = count_set qs m rest lt in let l = ap length is in omega (arith, s, l)

pub length_enqueue : {X : Type 0} (qs : List (List X)) (xs : List (ModuleId × X)) → length (enqueue qs xs) ≡ length qs
length_enqueue qs [] = refl
length_enqueue qs (x ∷ xs) = length_enqueue (set qs x.0.0 (queue_at qs x.0.0 ++ x.1 ∷ [])) xs ∙ length-set qs x.0.0 (queue_at qs x.0.0 ++ x.1 ∷ [])

pub count_enqueue : {X : Type 0} (qs : List (List X)) (n : ℕ) (xs : List (ModuleId × X)) → length qs ≡ n → AllByRecursion (λ x. x.0.0 < n) xs
    → count_all (enqueue qs xs) ≡ count_all qs + length xs
count_enqueue qs n [] e all = omega arith
count_enqueue qs n (x ∷ xs) e all =
    let next = set qs x.0.0 (queue_at qs x.0.0 ++ x.1 ∷ []) in
    let r = count_enqueue next n xs (length-set qs x.0.0 (queue_at qs x.0.0 ++ x.1 ∷ []) ∙ e) all.1 in
    let low = all.0 in
    let s = count_set qs x.0.0 (queue_at qs x.0.0 ++ x.1 ∷ []) (omega (arith, e, low)) in
    let l = length-append (queue_at qs x.0.0) (x.1 ∷ []) in
    omega (arith, r, s, l)

-- ---- those of one module

abbrev pub of_module : {X : Type 0} → ℕ → List (ModuleId × X) → List X
of_module m [] = []
of_module m (x ∷ xs) = cond (eqb x.0.0 m) (x.1 ∷ of_module m xs) (of_module m xs)

pub feeds_are : (m : ℕ) (xs : List (ModuleId × Feed)) → of_module m xs ≡ feeds_of m xs
feeds_are m [] = refl
feeds_are m (x ∷ xs) = ap (λ (l : List Feed). cond (eqb x.0.0 m) (x.1 ∷ l) l) (feeds_are m xs)

cond_is : {X : Type 0} (b c : Bool) (x y : X) → b ≡ c → cond b x y ≡ cond c x y
cond_is b c x y e = ap (λ d. cond d x y) e

pub enqueued : {X : Type 0} (qs : List (List X)) (n m : ℕ) (xs : List (ModuleId × X)) → length qs ≡ n → AllByRecursion (λ x. x.0.0 < n) xs
    → queue_at (enqueue qs xs) m ≡ queue_at qs m ++ of_module m xs
enqueued qs n m [] e all = sym (append-nil (queue_at qs m))
enqueued {X} qs n m (x ∷ xs) e all =
    let more = queue_at qs x.0.0 ++ x.1 ∷ [] in
    let low = all.0 in
    let here = enqueued (set qs x.0.0 more) n m xs (length-set qs x.0.0 more ∙ e) all.1 in
    elim (same_or m x.0.0) [
      | inl same ↦ here
          ∙ ap (λ (k : ℕ). queue_at (set qs x.0.0 more) k ++ of_module m xs) same
          ∙ ap (λ (l : List X). l ++ of_module m xs) (queue_same qs x.0.0 more (omega (arith, e, low)))
          ∙ append_assoc (queue_at qs x.0.0) (x.1 ∷ []) (of_module m xs)
          ∙ ap (λ (k : ℕ). queue_at qs k ++ (x.1 ∷ of_module m xs)) (sym same)
          ∙ ap (λ (l : List X). queue_at qs m ++ l) (sym (cond_is (eqb x.0.0 m) true (x.1 ∷ of_module m xs) (of_module m xs) (eq-eqb x.0.0 m (sym same))))
      | inr other ↦ here
          ∙ ap (λ (l : List X). l ++ of_module m xs) (queue_other qs x.0.0 m more other)
          ∙ ap (λ (l : List X). queue_at qs m ++ l)
          (sym (cond_is (eqb x.0.0 m) false (x.1 ∷ of_module m xs) (of_module m xs) (ne_eqb x.0.0 m (λ s. other (sym s)))))
    ]

-- ---- feeds poured out

feeds_push : (m : ℕ) (xs : List (ModuleId × Feed)) (x : ModuleId × Feed) → feeds_of m (xs ++ x ∷ []) ≡ feeds_of m xs ++ feeds_of m (x ∷ [])
feeds_push m [] x = refl
feeds_push m (y ∷ xs) x = ap (λ (l : List Feed). fed_if m y l) (feeds_push m xs x) ∙ out (eqb y.0.0 m)
  where
    out : (b : Bool) → cond b (y.1 ∷ (feeds_of m xs ++ feeds_of m (x ∷ []))) (feeds_of m xs ++ feeds_of m (x ∷ []))
        ≡ cond b (y.1 ∷ feeds_of m xs) (feeds_of m xs) ++ feeds_of m (x ∷ [])
    out true = refl
    out false = refl

pub moved_none : (qs : List (List Feed)) (to : List (ModuleId × Feed)) → Moved qs qs to to
moved_none qs to = record { same = λ m. refl; empty = λ m e. e; count = refl; size = refl }

-- one more
pub moved_more : (old qs : List (List Feed)) (m : ℕ) (feed : Feed) (rest : List Feed) (from to : List (ModuleId × Feed))
    → m < length qs → queue_at qs m ≡ feed ∷ rest
    → Moved old qs from to → Moved old (set qs m rest) from (to ++ (record { 0 = m }, feed) ∷ [])
moved_more old qs m feed rest from to lt is so =
    let one : ModuleId × Feed = (record { 0 = m }, feed) in
    record {
      same = λ n. elim (same_or n m) [
        | inl e ↦ ap (λ (l : List Feed). l ++ queue_at (set qs m rest) n) (feeds_push n to one)
            ∙ ap (λ (l : List Feed). (feeds_of n to ++ l) ++ queue_at (set qs m rest) n) (cond_is (eqb m n) true (feed ∷ []) [] (eq-eqb m n (sym e)))
            ∙ ap (λ (k : ℕ). (feeds_of n to ++ feed ∷ []) ++ queue_at (set qs m rest) k) e
            ∙ ap (λ (l : List Feed). (feeds_of n to ++ feed ∷ []) ++ l) (queue_same qs m rest lt)
            ∙ append_assoc (feeds_of n to) (feed ∷ []) rest
            ∙ ap (λ (l : List Feed). feeds_of n to ++ l) (sym is ∙ ap (queue_at qs) (sym e))
            ∙ so.same n
        | inr other ↦ ap (λ (l : List Feed). l ++ queue_at (set qs m rest) n) (feeds_push n to one)
            ∙ ap (λ (l : List Feed). (feeds_of n to ++ l) ++ queue_at (set qs m rest) n)
            (cond_is (eqb m n) false (feed ∷ []) [] (ne_eqb m n (λ s. other (sym s))))
            ∙ ap (λ (l : List Feed). l ++ queue_at (set qs m rest) n) (append-nil (feeds_of n to))
            ∙ ap (λ (l : List Feed). feeds_of n to ++ l) (queue_other qs m n rest other)
            ∙ so.same n
      ];
      empty = λ n e. elim (same_or n m) [
        | inl s ↦ (let old_is = so.empty n e in let is' : queue_at qs n ≡ feed ∷ rest = ap (queue_at qs) s ∙ is in cc)
        | inr other ↦ queue_other qs m n rest other ∙ so.empty n e
      ];
      count = length-set qs m rest ∙ so.count;
      size = (let size = so.size in let taken = count_taken qs m feed rest lt is in let l = length-append to (one ∷ []) in omega (arith, size, taken, l));
    }

pub moved_then : (a b c : List (List Feed)) (x y z : List (ModuleId × Feed)) → Moved a b x y → Moved b c y z → Moved a c x z
moved_then a b c x y z p q =
    record {
      same = λ m. q.same m ∙ p.same m;
      empty = λ m e. q.empty m (p.empty m e);
      count = q.count ∙ p.count;
      size = q.size ∙ p.size;
    }

-- ---- room

some_is : {X : Type 0} (x y : X) → Some x ≡ Some y → x ≡ y
some_is x y e = cc

-- a queue in which there was room for more has room for n after a change
pub room_set : {Q : Type 0} (room : Q → ℕ) (qs : List Q) (m k n l : ℕ) (old new : Q) → slice_get qs m ≡ Some old → (l ≤ room old → n ≤ room new) → n ≤ l
    → HasRoom room qs k l → HasRoom room (set qs m new) k n
room_set room [] m k n l old new at grows le has q is = cc
room_set room (x ∷ qs) zero zero n l old new at grows le has q is =
    let s : new ≡ q = some_is new q is in
    subst (λ (y : _). n ≤ room y) s (grows (has old at))
room_set room (x ∷ qs) zero (suc k) n l old new at grows le has q is = let r = has q is in omega (arith, r, le)
room_set room (x ∷ qs) (suc m) zero n l old new at grows le has q is = let r = has q is in omega (arith, r, le)
room_set room (x ∷ qs) (suc m) (suc k) n l old new at grows le has q is = room_set room qs m k n l old new at grows le (λ q is. has q is) q is

pub room_here : {Q : Type 0} (room : Q → ℕ) (qs : List Q) (m n : ℕ) (new : Q) → m < length qs → n ≤ room new → HasRoom room (set qs m new) m n
room_here room [] m n new lt le q is = absurd (omega arith)
room_here room (x ∷ qs) zero n new lt le q is = subst (λ (y : _). n ≤ room y) (some_is new q is) le
room_here room (x ∷ qs) (suc m) n new lt le q is = room_here room qs m n new (omega arith) le q is

pub room_all : {Q X : Type 0} (room : Q → ℕ) (qs new : List Q) (n l : ℕ) (xs : List (ModuleId × X)) → ((k : ℕ) → HasRoom room qs k n → HasRoom room new k l)
    → HaveRoom room qs n xs → HaveRoom room new l xs
room_all room qs new n l [] keeps h = tt
room_all room qs new n l (x ∷ xs) keeps h = (keeps x.0.0 h.0, room_all room qs new n l xs keeps h.1)

pub room_push : {Q X : Type 0} (room : Q → ℕ) (qs : List Q) (n : ℕ) (xs : List (ModuleId × X)) (x : ModuleId × X)
    → HaveRoom room qs n xs → HasRoom room qs x.0.0 n
    → HaveRoom room qs n (xs ++ x ∷ [])
room_push room qs n [] x h r = (r, tt)
room_push room qs n (y ∷ xs) x h r = (h.0, room_push room qs n xs x h.1 r)

-- a queue that got one more, or room
pub room_less : (n cap cap' len len' : ℕ) → len' ≡ len + 1 → cap' ≡ cap → n + 1 ≤ cap - len → n ≤ cap' - len'
room_less n cap cap' len len' l c h = omega (arith, l, c, h)

pub room_kept : (n cap cap' len len' : ℕ) → len' ≡ len → cap ≤ cap' → n ≤ cap - len → n ≤ cap' - len'
room_kept n cap cap' len len' l c h = omega (arith, l, c, h)

pub room_enough : (n cap len : ℕ) → len + n ≤ cap → n ≤ cap - len
room_enough n cap len h = omega (arith, h)

opened : {X : Type 0} (xs : List X) (i : ℕ) (x : X) → i < length xs → x ≡ get_or xs i x → drop i xs ≡ x ∷ drop (i + 1) xs
opened xs i x lt at = drop_more xs i x lt ∙ ap (λ (y : _). y ∷ drop (i + 1) xs) (sym at)

pub room_taken : {Q X : Type 0} (room : Q → ℕ) (qs new : List Q) (n i : ℕ) (xs : List (ModuleId × X)) (x : ModuleId × X) → i < length xs → x ≡ get_or xs i x
    → ((k : ℕ) → HasRoom room qs k n → HasRoom room new k n) → HasRoom room new x.0.0 n → HaveRoom room qs n (take i xs) → HaveRoom room new n (take (i + 1) xs)
room_taken room qs new n i xs x lt at keeps here h =
    subst (HaveRoom room new n) (sym (take_more xs i x lt ∙ ap (λ (y : _). take i xs ++ y ∷ []) (sym at)))
    (room_push room new n (take i xs) x (room_all room qs new n n (take i xs) keeps h) here)

pub room_first : {Q X : Type 0} (room : Q → ℕ) (qs : List Q) (i : ℕ) (xs : List (ModuleId × X)) (x : ModuleId × X) → i < length xs → x ≡ get_or xs i x
    → HaveRoom room qs (length (drop i xs)) (drop i xs) → HasRoom room qs x.0.0 1
room_first room qs i xs x lt at h q is =
    let o = subst (λ (l : List _). HaveRoom room qs (length l) l) (opened xs i x lt at) h in
    let r = o.0 q is in omega (arith, r)

pub room_later : {Q X : Type 0} (room : Q → ℕ) (qs new : List Q) (i : ℕ) (xs : List (ModuleId × X)) (x : ModuleId × X) → i < length xs → x ≡ get_or xs i x
    → ((k n : ℕ) → HasRoom room qs k (n + 1) → HasRoom room new k n) → HaveRoom room qs (length (drop i xs)) (drop i xs)
    → HaveRoom room new (length (drop (i + 1) xs)) (drop (i + 1) xs)
room_later room qs new i xs x lt at keeps h =
    let o = subst (λ (l : List _). HaveRoom room qs (length l) l) (opened xs i x lt at) h in
    room_all room qs new (suc (length (drop (i + 1) xs))) (length (drop (i + 1) xs)) (drop (i + 1) xs)
    (λ k has. keeps k (length (drop (i + 1) xs)) (λ q is. let r = has q is in omega (arith, r))) o.1

pub enqueue_next : {X : Type 0} (qs new end : List (List X)) (i : ℕ) (xs : List (ModuleId × X)) (x : ModuleId × X) → i < length xs → x ≡ get_or xs i x
    → new ≡ set qs x.0.0 (queue_at qs x.0.0 ++ x.1 ∷ []) → enqueue qs (drop i xs) ≡ end → enqueue new (drop (i + 1) xs) ≡ end
enqueue_next qs new end i xs x lt at e old = ap (λ (l : List (List _)). enqueue l (drop (i + 1) xs)) e ∙ ap (enqueue qs) (sym (opened xs i x lt at)) ∙ old
