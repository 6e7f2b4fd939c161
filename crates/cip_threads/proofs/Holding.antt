-- What is in hand after a change of one hand.
use Rattle.std.proofs.Common.{◌≡◌, ◌≢◌, ℕ, zero, suc, List, [], ◌∷◌, ◌++◌, Option, Some, None, Bool, true, false, not, ◌&&◌, ◌||◌, ◌⊎◌}
use Rattle.std.proofs.Common.{inl, inr, refl, sym, is_some, length, arith, take, ◌<◌, ◌+◌, ◌∙◌, ap, get_or, set, replicate}
use Rattle.std.proofs.lemmas.List.{take_more}
use Rattle.cip_event.specs.declared.frame.FrameName.{FrameName}
use Rattle.cip_world.specs.declared.journal.Input.{Input}
use Rattle.cip_world.specs.Journals.{brought_by, is_that}
use Rattle.cip_threads.specs.Books.{hand_at, frame_in, is_held, one_if, count_hands}

neither : (a d : Bool) → (not a && not d) ≡ not (a || d)
neither true d = refl
neither false d = refl

past : (a c d e : Bool) → (not c && not d) ≡ not e → (not c && not (a || d)) ≡ not (a || e)
past true true d e h = refl
past true false d e h = refl
past false c d e h = h

-- the hand m is emptied
pub held_cut : (hands : List (Option Input)) (m : ℕ) (input : Input) (f : FrameName) → hand_at hands m ≡ Some input
    → (not (is_that f (brought_by input)) && not (is_held (set hands m None) f)) ≡ not (is_held hands f)
held_cut [] m input f e = cc
held_cut (h ∷ hs) zero input f e =
    neither (is_that f (brought_by input)) (is_held hs f) ∙ ap (λ (x : Option Input). not (is_that f (frame_in x) || is_held hs f)) (sym e)
held_cut (h ∷ hs) (suc m) input f e =
    past (is_that f (frame_in h)) (is_that f (brought_by input)) (is_held (set hs m None) f) (is_held hs f) (held_cut hs m input f e)

pub count_cut : (hands : List (Option Input)) (m : ℕ) (input : Input) → hand_at hands m ≡ Some input → count_hands (set hands m None) + 1 ≡ count_hands hands
count_cut [] m input e = cc
count_cut (h ∷ hs) zero input e = ap (λ (x : Option Input). one_if x (count_hands hs)) (sym e)
count_cut (None ∷ hs) (suc m) input e = count_cut hs m input e
count_cut (Some g ∷ hs) (suc m) input e = let r = count_cut hs m input e in omega (arith, r)

-- the hand m is filled
swap : (a b c : Bool) → (a || (b || c)) ≡ (b || (a || c))
swap true true c = refl
swap true false c = refl
swap false b c = refl

pub held_put : (hands : List (Option Input)) (m : ℕ) (input : Input) (f : FrameName) → m < length hands → hand_at hands m ≡ None
    → is_held (set hands m (Some input)) f ≡ (is_that f (brought_by input) || is_held hands f)
held_put [] m input f lt e = absurd (omega arith)
held_put (h ∷ hs) zero input f lt e =
    ap (λ (x : Option Input). is_that f (brought_by input) || (is_that f (frame_in x) || is_held hs f)) (sym e)
held_put (h ∷ hs) (suc m) input f lt e =
    ap (λ b. is_that f (frame_in h) || b) (held_put hs m input f (omega arith) e) ∙ swap (is_that f (frame_in h)) (is_that f (brought_by input)) (is_held hs f)

pub count_put : (hands : List (Option Input)) (m : ℕ) (input : Input) → m < length hands → hand_at hands m ≡ None
    → count_hands (set hands m (Some input)) ≡ count_hands hands + 1
count_put [] m input lt e = absurd (omega arith)
count_put (h ∷ hs) zero input lt e = ap (λ (x : Option Input). one_if x (count_hands hs) + 1) (sym e)
count_put (None ∷ hs) (suc m) input lt e = count_put hs m input (omega arith) e
count_put (Some g ∷ hs) (suc m) input lt e = let r = count_put hs m input (omega arith) e in omega (arith, r)

or_false : (a b : Bool) → (a || b) ≡ false → (a ≡ false) × (b ≡ false)
or_false true b e = cc
or_false false b e = (refl, e)

-- a frame is in no hand where none came by it
pub not_held : (hands : List (Option Input)) (f : FrameName) → ((m : ℕ) (input : Input) → hand_at hands m ≡ Some input → is_that f (brought_by input) ≡ false)
    → is_held hands f ≡ false
not_held [] f all = refl
not_held (None ∷ hs) f all = not_held hs f (λ m input e. all (suc m) input e)
not_held (Some g ∷ hs) f all = ap (λ b. b || is_held hs f) (all 0 g refl) ∙ not_held hs f (λ m input e. all (suc m) input e)

pub some_of : (o : Option Input) → is_some o ≡ true → (input : Input) × (o ≡ Some input)
some_of None e = cc
some_of (Some input) e = (input, refl)

pub none_of : (o : Option Input) → is_some o ≡ false → o ≡ None
none_of None e = refl
none_of (Some input) e = cc

pub hand_read : (hands : List (Option Input)) (m : ℕ) (h : Option Input) → m < length hands → h ≡ get_or hands m h → hand_at hands m ≡ h
hand_read [] m h lt at = absurd (omega arith)
hand_read (x ∷ hs) zero h lt at = sym at
hand_read (x ∷ hs) (suc m) h lt at = hand_read hs m h (omega arith) at

pub idle_at : (hands : List (Option Input)) (m : ℕ) → count_hands hands ≡ 0 → hand_at hands m ≡ None
idle_at [] m e = refl
idle_at (None ∷ hs) zero e = refl
idle_at (None ∷ hs) (suc m) e = idle_at hs m e
idle_at (Some h ∷ hs) m e = absurd (omega (arith, e))

pub idle_held : (hands : List (Option Input)) (f : FrameName) → count_hands hands ≡ 0 → is_held hands f ≡ false
idle_held [] f e = refl
idle_held (None ∷ hs) f e = idle_held hs f e
idle_held (Some h ∷ hs) f e = absurd (omega (arith, e))

count-append : (xs ys : List (Option Input)) → count_hands (xs ++ ys) ≡ count_hands xs + count_hands ys
count-append [] ys = omega arith
count-append (None ∷ xs) ys = count-append xs ys
count-append (Some x ∷ xs) ys = let r = count-append xs ys in omega (arith, r)

pub idle_more : (hands : List (Option Input)) (i : ℕ) (h : Option Input) → i < length hands → h ≡ get_or hands i h
    → is_some h ≡ false → count_hands (take i hands) ≡ 0
    → count_hands (take (i + 1) hands) ≡ 0
idle_more hands i h lt at none idle =
    let more = ap count_hands (take_more hands i h lt ∙ ap (λ (x : Option Input). take i hands ++ x ∷ []) (sym at ∙ none_of h none))
    ∙ count-append (take i hands) (None ∷ []) in
    omega (arith, more, idle)

pub hand_within : (hands : List (Option Input)) (m : ℕ) (input : Input) → hand_at hands m ≡ Some input → m < length hands
hand_within [] m input e = cc
hand_within (x ∷ hs) zero input e = omega arith
hand_within (x ∷ hs) (suc m) input e = let r = hand_within hs m input e in omega arith

pub hand_past : (hands : List (Option Input)) (m : ℕ) → (m < length hands → ⊥) → hand_at hands m ≡ None
hand_past [] m n = refl
hand_past (x ∷ hs) zero n = absurd (n (omega arith))
hand_past (x ∷ hs) (suc m) n = hand_past hs m (λ l. n (omega (arith, l)))

pub put_cases : (hands : List (Option Input)) (m n : ℕ) (h g : Input) → hand_at (set hands m (Some h)) n ≡ Some g
    → ((n ≡ m) × (g ≡ h)) ⊎ (hand_at hands n ≡ Some g)
put_cases [] m n h g e = cc
put_cases (x ∷ hs) zero zero h g e = inl (refl, cc)
put_cases (x ∷ hs) zero (suc n) h g e = inr e
put_cases (x ∷ hs) (suc m) zero h g e = inr e
put_cases (x ∷ hs) (suc m) (suc n) h g e =
    elim (put_cases hs m n h g e) [
      | inl s ↦ inl (ap suc s.0, s.1)
      | inr s ↦ inr s
    ]

pub cut_cases : (hands : List (Option Input)) (m n : ℕ) (g : Input) → hand_at (set hands m None) n ≡ Some g → (n ≢ m) × (hand_at hands n ≡ Some g)
cut_cases [] m n g e = cc
cut_cases (x ∷ hs) zero zero g e = cc
cut_cases (x ∷ hs) zero (suc n) g e = ((λ s. absurd (omega arith)), e)
cut_cases (x ∷ hs) (suc m) zero g e = ((λ s. absurd (omega arith)), e)
cut_cases (x ∷ hs) (suc m) (suc n) g e = let r = cut_cases hs m n g e in ((λ s. r.0 (omega arith)), r.1)

pub none_held : (n : ℕ) (f : FrameName) → is_held (replicate n None) f ≡ false
none_held zero f = refl
none_held (suc n) f = none_held n f

pub none_at : (n m : ℕ) → hand_at (replicate n None) m ≡ None
none_at zero m = refl
none_at (suc n) zero = refl
none_at (suc n) (suc m) = none_at n m

pub none_counted : (n : ℕ) → count_hands (replicate n None) ≡ 0
none_counted zero = refl
none_counted (suc n) = none_counted n
