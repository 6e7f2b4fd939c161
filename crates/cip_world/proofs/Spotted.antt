-- Names in rising order, each with whether it waits: what is found there, what is put in and taken out, and how the ends are given up.
use Rattle.std.proofs.Common.{◌≡◌, ◌≢◌, ℕ, zero, suc, ◌+◌, ◌<◌, Bool, true, false, cond, not, ◌&&◌, ◌||◌, T, List, [], ◌∷◌, ◌++◌, length, get_or, refl, sym, ap}
use Rattle.std.proofs.Common.{subst, ◌∙◌, arith, Option, Some, None, Result, Ok, Err, MatchResult, filter}
use Rattle.std.specs.Prelude.{slice_get, slice_set, option_to_list, is_some, drop}
use Rattle.std.specs.List.{AllByRecursion, list_any}
use Rattle.std.specs.List.Sorted.{IsSearchInRange, IsBinarySearchResult}
use Rattle.std.specs.Ordering.{is_eq, is_lt, eq_by_cmp, ordering_reverse}
use Rattle.std.specs.declared.cmp.Ordering.{Ordering}
use Rattle.std.specs.declared.cmp.Ordering.TheVariants.{Less, Equal, Greater}
use Rattle.std.specs.FinMap.Entries as entries
use Rattle.cip_base.proofs.Search.{search_premise}
use Rattle.cip_base.proofs.Sorted.{find-gap, below-at, first, second, both, sorted_push}
use Rattle.cip_event.specs.declared.frame.FrameName.{FrameName}
use Rattle.cip_world.specs.Journals.{same_name}
use Rattle.cip_world.specs.Names.{name_cmp, AllBefore}
use Rattle.cip_world.specs.Waiting.{or_none}
use Rattle.cip_world.specs.Spots.{names_in, AreInOrder, AreSpots, IsPlaceOf, value_of, is_first, is_first_gone, is_last_gone}
use Rattle.cip_world.proofs.Named.{names_total, name_eq, same_self, same_sym, at_same, all_stay, less_differ}

abbrev Spot : Type 0
Spot = FrameName × Bool

true_false : true ≢ false
true_false e = subst T e tt

less : (r : Ordering) → T (is_lt r) → r ≡ Less
less Less p = refl
less Equal p = absurd p
less Greater p = absurd p

-- ---- those that wait, one by one

or_none_any : (test : FrameName → Bool) (b : Bool) (f : FrameName) (fs : List FrameName) → list_any test (or_none b f fs) ≡ ((b && test f) || list_any test fs)
or_none_any test true f fs = refl
or_none_any test false f fs = refl

or_none_append : (b : Bool) (f : FrameName) (fs gs : List FrameName) → or_none b f fs ++ gs ≡ or_none b f (fs ++ gs)
or_none_append true f fs gs = refl
or_none_append false f fs gs = refl

or_none_each : (P : FrameName → Type 0) (b : Bool) (f : FrameName) (fs : List FrameName) → P f → AllByRecursion P fs → AllByRecursion P (or_none b f fs)
or_none_each P true f fs p h = (p, h)
or_none_each P false f fs p h = h

or_none_rest : (P : FrameName → Type 0) (b : Bool) (f : FrameName) (fs : List FrameName) → AllByRecursion P (or_none b f fs) → AllByRecursion P fs
or_none_rest P true f fs h = h.1
or_none_rest P false f fs h = h

or_none_kept : (test : FrameName → Bool) (b : Bool) (f : FrameName) (fs : List FrameName) → test f ≡ true
    → filter test (or_none b f fs) ≡ or_none b f (filter test fs)
or_none_kept test true f fs e = ap (λ t. cond t (f ∷ filter test fs) (filter test fs)) e
or_none_kept test false f fs e = refl

or_none_gone : (test : FrameName → Bool) (b : Bool) (f : FrameName) (fs : List FrameName) → test f ≡ false → filter test (or_none b f fs) ≡ filter test fs
or_none_gone test true f fs e = ap (λ t. cond t (f ∷ filter test fs) (filter test fs)) e
or_none_gone test false f fs e = refl

-- ---- what stands above a name

above_all : (f : FrameName) (es : List Spot) → T (entries.below_all name_cmp f es) → AllByRecursion (λ g. name_cmp f g ≡ Less) (names_in es)
above_all f [] h = tt
above_all f (e ∷ es) h = or_none_each (λ g. name_cmp f g ≡ Less) e.1 e.0 (names_in es) (less _ (first _ _ h)) (above_all f es (second _ _ h))

none_above : (f : FrameName) (gs : List FrameName) → AllByRecursion (λ g. name_cmp f g ≡ Less) gs → list_any (λ g. same_name g f) gs ≡ false
none_above f [] h = refl
none_above f (g ∷ gs) h = ap (λ b. b || list_any (λ g. same_name g f) gs) (less_differ f g h.0) ∙ none_above f gs h.1

-- a name that is above the first differs from it
above_differs : (e : FrameName) (name : FrameName) → name_cmp e name ≡ Less → same_name e name ≡ false
above_differs e name h = same_sym e name ∙ less_differ e name h

-- ---- what is found at a place

pub has_at : (es : List Spot) (i : ℕ) (d : Spot) (name : FrameName) → AreInOrder es → i < length es → (get_or es i d).0 ≡ name
    → list_any (λ f. same_name f name) (names_in es) ≡ (get_or es i d).1
has_at [] i d name h lt e = absurd (omega arith)
has_at (x ∷ es) zero d name h lt e =
    let above = subst (λ (n : FrameName). AllByRecursion (λ g. name_cmp n g ≡ Less) (names_in es)) e (above_all x.0 es (first _ _ h)) in
    or_none_any (λ f. same_name f name) x.1 x.0 (names_in es)
    ∙ ap (λ b. (x.1 && b) || list_any (λ f. same_name f name) (names_in es)) (ap (λ n. same_name n name) e ∙ same_self name)
    ∙ ap (λ b. (x.1 && true) || b) (none_above name (names_in es) above)
    ∙ elim x.1 as (λ b. ((b && true) || false) ≡ b) [ true ↦ refl | false ↦ refl ]
has_at (x ∷ es) (suc i) d name h lt e =
    let below = subst (λ (n : FrameName). name_cmp x.0 n ≡ Less) e (below-at name_cmp x.0 es i d (first _ _ h) (omega arith)) in
    or_none_any (λ f. same_name f name) x.1 x.0 (names_in es)
    ∙ ap (λ b. (x.1 && b) || list_any (λ f. same_name f name) (names_in es)) (above_differs x.0 name below)
    ∙ elim x.1 as (λ b. ((b && false) || list_any (λ f. same_name f name) (names_in es)) ≡ list_any (λ f. same_name f name) (names_in es))
    [ true ↦ refl | false ↦ refl ]
    ∙ has_at es i d name (second _ _ h) (omega arith) e

found_differs : (b : Bool) (x : Bool) (o : Option Bool) → cond b (Some x) o ≡ None → b ≡ false
found_differs true x o e = absurd (true_false (ap is_some e))
found_differs false x o e = refl

found_later : (b : Bool) (x : Bool) (o : Option Bool) → cond b (Some x) o ≡ None → o ≡ None
found_later true x o e = absurd (true_false (ap is_some e))
found_later false x o e = e

pub has_not : (es : List Spot) (name : FrameName) → value_of name es ≡ None → list_any (λ f. same_name f name) (names_in es) ≡ false
has_not [] name n = refl
has_not (x ∷ es) name n =
    or_none_any (λ f. same_name f name) x.1 x.0 (names_in es)
    ∙ ap (λ b. (x.1 && b) || list_any (λ f. same_name f name) (names_in es)) (sym (at_same name x.0) ∙ found_differs (eq_by_cmp name_cmp name x.0) x.1 _ n)
    ∙ elim x.1 as (λ b. ((b && false) || list_any (λ f. same_name f name) (names_in es)) ≡ list_any (λ f. same_name f name) (names_in es))
    [ true ↦ refl | false ↦ refl ]
    ∙ has_not es name (found_later (eq_by_cmp name_cmp name x.0) x.1 _ n)

pub none_goes : (es : List Spot) (name : FrameName) → value_of name es ≡ None → names_in es ≡ filter (λ f. not (same_name f name)) (names_in es)
none_goes [] name n = refl
none_goes (x ∷ es) name n =
    ap (or_none x.1 x.0) (none_goes es name (found_later (eq_by_cmp name_cmp name x.0) x.1 _ n))
    ∙ sym (or_none_kept (λ f. not (same_name f name)) x.1 x.0 (names_in es)
    (ap not (sym (at_same name x.0) ∙ found_differs (eq_by_cmp name_cmp name x.0) x.1 _ n)))

-- ---- a name is taken out

pub goes_at : (es : List Spot) (i : ℕ) (d : Spot) (name : FrameName) → AreInOrder es → i < length es → (get_or es i d).0 ≡ name
    → names_in (slice_set es i ((get_or es i d).0, false)) ≡ filter (λ f. not (same_name f name)) (names_in es)
goes_at [] i d name h lt e = absurd (omega arith)
goes_at (x ∷ es) zero d name h lt e =
    let above = subst (λ (n : FrameName). AllByRecursion (λ g. name_cmp n g ≡ Less) (names_in es)) e (above_all x.0 es (first _ _ h)) in
    sym (all_stay name (names_in es) above)
    ∙ sym (or_none_gone (λ f. not (same_name f name)) x.1 x.0 (names_in es) (ap not (ap (λ n. same_name n name) e ∙ same_self name)))
goes_at (x ∷ es) (suc i) d name h lt e =
    let below = subst (λ (n : FrameName). name_cmp x.0 n ≡ Less) e (below-at name_cmp x.0 es i d (first _ _ h) (omega arith)) in
    ap (or_none x.1 x.0) (goes_at es i d name (second _ _ h) (omega arith) e)
    ∙ sym (or_none_kept (λ f. not (same_name f name)) x.1 x.0 (names_in es) (ap not (above_differs x.0 name below)))

pub first_goes : (es : List Spot) (name : FrameName) → AreSpots es → is_first es name ≡ true
    → names_in (drop 1 es) ≡ filter (λ f. not (same_name f name)) (names_in es)
first_goes [] name s t = absurd (true_false (sym t))
first_goes (x ∷ es) name s t =
    let e : x.0 ≡ name = name_eq x.0 name t in
    let above = subst (λ (n : FrameName). AllByRecursion (λ g. name_cmp n g ≡ Less) (names_in es)) e (above_all x.0 es (first _ _ s.rising)) in
    sym (all_stay name (names_in es) above)
    ∙ sym (or_none_gone (λ f. not (same_name f name)) x.1 x.0 (names_in es) (ap not t))

below_set : (f : FrameName) (es : List Spot) (i : ℕ) (d : Spot) (b : Bool)
    → entries.below_all name_cmp f (slice_set es i ((get_or es i d).0, b)) ≡ entries.below_all name_cmp f es
below_set f [] i d b = refl
below_set f (x ∷ es) zero d b = refl
below_set f (x ∷ es) (suc i) d b = ap (λ t. is_lt (name_cmp f x.0) && t) (below_set f es i d b)

sorted_set : (es : List Spot) (i : ℕ) (d : Spot) (b : Bool) → entries.is_sorted name_cmp (slice_set es i ((get_or es i d).0, b)) ≡ entries.is_sorted name_cmp es
sorted_set [] i d b = refl
sorted_set (x ∷ es) zero d b = refl
sorted_set (x ∷ es) (suc i) d b =
    ap (λ t. t && entries.is_sorted name_cmp (slice_set es i ((get_or es i d).0, b))) (below_set x.0 es i d b)
    ∙ ap (λ t. entries.below_all name_cmp x.0 es && t) (sorted_set es i d b)

pub order_stays : (es : List Spot) (i : ℕ) (d : Spot) (b : Bool) → AreInOrder es → AreInOrder (slice_set es i ((get_or es i d).0, b))
order_stays es i d b h = subst T (sym (sorted_set es i d b)) h

-- ---- a name is put in

pub names_push : (es : List Spot) (f : FrameName) → names_in (es ++ (f, true) ∷ []) ≡ names_in es ++ f ∷ []
names_push [] f = refl
names_push (x ∷ es) f = ap (or_none x.1 x.0) (names_push es f) ∙ sym (or_none_append x.1 x.0 (names_in es) (f ∷ []))

or_none_first : (P : FrameName → Type 0) (b : Bool) (f : FrameName) (fs : List FrameName) → not b ≡ false → AllByRecursion P (or_none b f fs) → P f
or_none_first P true f fs e h = h.0
or_none_first P false f fs e h = absurd (true_false e)

all_below : (es : List Spot) (f : FrameName) → AreInOrder es → is_last_gone es ≡ false → AllBefore f (names_in es)
    → (i : ℕ) (d : Spot) → i < length es → name_cmp (get_or es i d).0 f ≡ Less
all_below [] f h l a i d lt = absurd (omega arith)
all_below (x ∷ []) f h l a zero d lt = or_none_first (λ g. name_cmp g f ≡ Less) x.1 x.0 [] l a
all_below (x ∷ []) f h l a (suc i) d lt = absurd (omega arith)
all_below (x ∷ y ∷ es) f h l a zero d lt =
    names_total.trans x.0 y.0 f (below-at name_cmp x.0 (y ∷ es) 0 d (first _ _ h) (omega arith))
    (all_below (y ∷ es) f (second _ _ h) l (or_none_rest (λ g. name_cmp g f ≡ Less) x.1 x.0 (names_in (y ∷ es)) a) 0 d (omega arith))
all_below (x ∷ y ∷ es) f h l a (suc i) d lt =
    all_below (y ∷ es) f (second _ _ h) l (or_none_rest (λ g. name_cmp g f ≡ Less) x.1 x.0 (names_in (y ∷ es)) a) i d (omega arith)

last_push : (es : List Spot) (x : Spot) → is_last_gone (es ++ x ∷ []) ≡ not x.1
last_push [] x = refl
last_push (y ∷ []) x = refl
last_push (y ∷ z ∷ es) x = last_push (z ∷ es) x

first_push : (es : List Spot) (f : FrameName) → is_first_gone es ≡ false → is_first_gone (es ++ (f, true) ∷ []) ≡ false
first_push [] f h = refl
first_push (x ∷ es) f h = h

pub spots_push : (es : List Spot) (f : FrameName) → AreSpots es → AllBefore f (names_in es) → AreSpots (es ++ (f, true) ∷ [])
spots_push es f s a = record {
  rising = sorted_push name_cmp es f true s.rising (all_below es f s.rising s.last a);
  first = first_push es f s.first;
  last = last_push es (f, true);
}

-- ---- the ends are given up

pub names_pop_back : (es : List Spot) (x : Spot) → is_last_gone (es ++ x ∷ []) ≡ true → names_in es ≡ names_in (es ++ x ∷ [])
names_pop_back es x l =
    let gone : not x.1 ≡ true = sym (last_push es x) ∙ l in all es gone
  where
    all : (es : List Spot) → not x.1 ≡ true → names_in es ≡ names_in (es ++ x ∷ [])
    all [] g = elim x.1 as (λ b. not b ≡ true → [] ≡ or_none b x.0 []) [ true ↦ λ e. absurd (true_false (sym e)) | false ↦ λ e. refl ] g
    all (y ∷ es) g = ap (or_none y.1 y.0) (all es g)

below_front : (f : FrameName) (es : List Spot) (x : Spot) → T (entries.below_all name_cmp f (es ++ x ∷ [])) → T (entries.below_all name_cmp f es)
below_front f [] x h = tt
below_front f (y ∷ es) x h = both _ _ (first _ _ h) (below_front f es x (second _ _ h))

pub order_pop_back : (es : List Spot) (x : Spot) → AreInOrder (es ++ x ∷ []) → AreInOrder es
order_pop_back [] x h = tt
order_pop_back (y ∷ es) x h = both _ _ (below_front y.0 es x (first _ _ h)) (order_pop_back es x (second _ _ h))

pub names_pop_front : (x : Spot) (es : List Spot) → is_first_gone (x ∷ es) ≡ true → names_in es ≡ names_in (x ∷ es)
names_pop_front x es g = elim x.1 as (λ b. not b ≡ true
    → names_in es ≡ or_none b x.0 (names_in es)) [ true ↦ λ e. absurd (true_false (sym e)) | false ↦ λ e. refl ] g

pub order_pop_front : (x : Spot) (es : List Spot) → AreInOrder (x ∷ es) → AreInOrder es
order_pop_front x es h = second _ _ h

pub last_pop_front : (x : Spot) (es : List Spot) → is_last_gone (x ∷ es) ≡ false → is_last_gone es ≡ false
last_pop_front x [] h = refl
last_pop_front x (y ∷ es) h = h

-- ---- the ends

pub last_is : (es : List Spot) (i : ℕ) (d : Spot) → i + 1 ≡ length es → is_last_gone es ≡ not (get_or es i d).1
last_is [] i d e = absurd (omega arith)
last_is (x ∷ []) zero d e = refl
last_is (x ∷ []) (suc i) d e = absurd (omega arith)
last_is (x ∷ y ∷ es) zero d e = absurd (omega arith)
last_is (x ∷ y ∷ es) (suc i) d e = last_is (y ∷ es) i d (omega arith)

pub first_of : (es : List Spot) → is_first_gone es ≡ false → (x : Spot) → slice_get es 0 ≡ Some x → slice_get (names_in es) 0 ≡ Some x.0
first_of [] g x e = absurd (true_false (sym (ap is_some e)))
first_of (y ∷ es) g x e =
    elim y.1 as (λ b. not b ≡ false → slice_get (or_none b y.0 (names_in es)) 0 ≡ Some y.0) [ true ↦ λ t. refl | false ↦ λ t. absurd (true_false t) ] g
    ∙ ap (λ (o : Option Spot). elim o [ Some s ↦ Some s.0 | None ↦ None ]) e

nil_right : (es : List Spot) → es ++ [] ≡ es
nil_right [] = refl
nil_right (x ∷ es) = ap (λ (t : List Spot). x ∷ t) (nil_right es)

pub back_names : (es new : List Spot) (r : Option Spot) → is_last_gone es ≡ true → es ≡ new ++ option_to_list r → names_in new ≡ names_in es
back_names es new None l e = ap names_in (sym (nil_right new)) ∙ ap names_in (sym e)
back_names es new (Some x) l e = names_pop_back new x (ap is_last_gone (sym e) ∙ l) ∙ ap names_in (sym e)

pub back_order : (es new : List Spot) (r : Option Spot) → AreInOrder es → es ≡ new ++ option_to_list r → AreInOrder new
back_order es new None h e = subst AreInOrder (e ∙ nil_right new) h
back_order es new (Some x) h e = order_pop_back new x (subst AreInOrder e h)

pub front_names : (es new : List Spot) (r : Option Spot) → is_first_gone es ≡ true → es ≡ option_to_list r ++ new → names_in new ≡ names_in es
front_names es new None l e = ap names_in (sym e)
front_names es new (Some x) l e = names_pop_front x new (ap is_first_gone (sym e) ∙ l) ∙ ap names_in (sym e)

pub front_order : (es new : List Spot) (r : Option Spot) → AreInOrder es → es ≡ option_to_list r ++ new → AreInOrder new
front_order es new None h e = subst AreInOrder e h
front_order es new (Some x) h e = order_pop_front x new (subst AreInOrder e h)

pub front_last : (es new : List Spot) (r : Option Spot) → is_last_gone es ≡ false → es ≡ option_to_list r ++ new → is_last_gone new ≡ false
front_last es new None h e = ap is_last_gone (sym e) ∙ h
front_last es new (Some x) h e = last_pop_front x new (ap is_last_gone (sym e) ∙ h)

pub last_long : (es : List Spot) → is_last_gone es ≡ true → 0 < length es
last_long [] l = absurd (true_false (sym l))
last_long (x ∷ es) l = omega arith

pub first_long : (es : List Spot) → is_first_gone es ≡ true → 0 < length es
first_long [] l = absurd (true_false (sym l))
first_long (x ∷ es) l = omega arith

pub pushed_spots : (b : Bool) (es new : List Spot) (f : FrameName) → AreSpots es → AllBefore f (names_in es)
    → new ≡ cond b (es ++ (f, true) ∷ []) es → AreSpots new
pushed_spots true es new f s a e = subst AreSpots (sym e) (spots_push es f s a)
pushed_spots false es new f s a e = subst AreSpots (sym e) s

pub pushed_names : (b : Bool) (es new : List Spot) (f : FrameName) → b ≡ true → new ≡ cond b (es ++ (f, true) ∷ []) es → names_in new ≡ names_in es ++ f ∷ []
pushed_names true es new f t e = ap names_in e ∙ names_push es f
pushed_names false es new f t e = absurd (true_false (sym t))

-- ---- where a search ends

pub searched : (es : List Spot) (name : FrameName) (r : Result ℕ ℕ) → AreInOrder es
    → IsSearchInRange r (length es) → IsBinarySearchResult (λ (y : Spot). name_cmp y.0 name) es r
    → MatchResult r (IsPlaceOf es name) (λ _. value_of name es ≡ None)
searched es name (Ok i) h bound at = record {
  within = bound;
  key = λ d. name_eq _ _ (sym (at_same name (get_or es i d).0) ∙ ap is_eq (names_total.antisymm name _ ∙ ap ordering_reverse (at d)));
}
searched es name (Err i) h bound parted =
    let parts = parted (search_premise names_total es name h) in
    find-gap name_cmp names_total es i name h
    (λ k d lt. names_total.antisymm name _ ∙ ap ordering_reverse (parts.0 k d (omega arith) lt))
    (λ d lt. names_total.antisymm name _ ∙ ap ordering_reverse (parts.1 i d (omega arith) lt)) bound
