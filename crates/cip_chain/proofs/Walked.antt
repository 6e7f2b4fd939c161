-- The entries of a journal that is kept oldest first, one more at a time.
use Rattle.std.proofs.Common.{◌≡◌, ℕ, zero, suc, ◌+◌, ◌≤◌, ◌<◌, Bool, true, false, cond, List, [], ◌∷◌, ◌++◌, length}
use Rattle.std.proofs.Common.{◌-◌, subst, reverse, take, Option, Some, None, refl, sym, ap, ◌∙◌, eqb, get_or, append-nil, arith}
use Rattle.std.specs.Prelude.{slice_get, option_and_then}
use Rattle.std.proofs.lemmas.Bool.{eq-eqb, ne_eqb, eqb-true, eqb-false}
use Rattle.std.proofs.lemmas.List.{length-reverse, length-take, reverse-append}
use Rattle.std.proofs.Math.Seq.{take-length}
use Rattle.cip_world.specs.declared.journal.Entry.{Entry}
use Rattle.cip_world.specs.Journals.{Journal}
use Rattle.cip_world.specs.Journals.{entry_at}
use Rattle.cip_world.specs.Roots.{root_here, root_of}
use Rattle.cip_world.proofs.StepAt.{at_place}
use Rattle.cip_world.specs.Trails.{request_by, request_of, trail_of}
use Rattle.cip_event.specs.declared.frame.FrameName.{FrameName}
use Rattle.cip_world.proofs.TrailGrows.{tip, arrived, goes_on, if_so, grows, no_trail, request_older}
use Rattle.cip_chain.specs.declared.trails.Sought.{Sought}
use Rattle.cip_chain.specs.declared.trails.Sought.TheVariants.{Command, Arrival, Nothing}
use Rattle.cip_chain.specs.Seeking.{is_next, is_nothing, seeks, sought_behind}

pub taken_more : {A : Type 0} (xs : List A) (n : ℕ) (x : A) → slice_get xs n ≡ Some x → take (suc n) xs ≡ take n xs ++ x ∷ []
taken_more [] n x e = absurd (cc)
taken_more (y ∷ ys) zero x e = let same : y ≡ x = cc in ap (λ z. z ∷ []) same
taken_more (y ∷ ys) (suc n) x e = ap (λ zs. y ∷ zs) (taken_more ys n x e)

-- the journal of the first entries, and one more
pub one_more : (es : List Entry) (n : ℕ) (e : Entry) → slice_get es n ≡ Some e → reverse (take (suc n) es) ≡ e ∷ reverse (take n es)
one_more es n e at = ap (λ xs. reverse xs) (taken_more es n e at) ∙ reverse-append (take n es) (e ∷ [])

pub got_within : {A : Type 0} (xs : List A) (i : ℕ) (x : A) → slice_get xs i ≡ Some x → i < length xs
got_within [] i x e = absurd (cc)
got_within (y ∷ ys) zero x e = omega arith
got_within (y ∷ ys) (suc i) x e = let l = got_within ys i x e in omega (arith, l)

pub shown : (es : List Entry) (n : ℕ) → n ≤ length es → length (reverse (take n es)) ≡ n
shown es n l = length-reverse (take n es) ∙ length-take n es ∙ omega (arith, l)

-- ---- roots

pub root_past : (j : Journal) (k : ℕ) → length j ≤ k → root_of j k ≡ None
root_past [] k l = refl
root_past (e ∷ j) k l =
    ap (λ b. cond b (root_here (root_of j) k e) (root_of j k)) (ne_eqb k (length j) (λ same. omega (arith, l, same))) ∙ root_past j k (omega (arith, l))

root_newest : (e : Entry) (j : Journal) (k : ℕ) → k ≡ length j → root_of (e ∷ j) k ≡ root_here (root_of j) k e
root_newest e j k same = ap (λ b. cond b (root_here (root_of j) k e) (root_of j k)) (eq-eqb k (length j) same)

root_older : (e : Entry) (j : Journal) (k : ℕ) → k < length j → root_of (e ∷ j) k ≡ root_of j k
root_older e j k l = ap (λ b. cond b (root_here (root_of j) k e) (root_of j k)) (ne_eqb k (length j) (λ same. omega (arith, l, same)))

got : {A : Type 0} (xs : List A) (n : ℕ) → n < length xs → slice_get xs n ≡ None → ⊥
got [] n l e = omega (arith, l)
got (x ∷ xs) zero l e = cc
got (x ∷ xs) (suc n) l e = got xs n (omega (arith, l)) e

by_newest : (es : List Entry) (n k : ℕ) (e : Entry) (o : Option Entry) → slice_get es n ≡ o → slice_get es k ≡ Some e → k < suc n → suc n ≤ length es
    → (k < n → n ≤ length es → root_of (reverse (take n es)) k ≡ root_here (root_of (reverse (take k es))) k e)
    → root_of (reverse (take (suc n) es)) k ≡ root_here (root_of (reverse (take k es))) k e
by_newest es n k e None is at l most ih = absurd (got es n (omega (arith, most)) is)
by_newest es n k e (Some x) is at l most ih =
    let long = shown es n (omega (arith, most)) in
    ap (λ (j : Journal). root_of j k) (one_more es n x is)
    ∙ elim (eqb k n) as (λ b. eqb k n ≡ b → root_of (x ∷ reverse (take n es)) k ≡ root_here (root_of (reverse (take k es))) k e) [
      | true ↦ λ t.
          let same = eqb-true k n t in
          let one : Some x ≡ Some e = sym is ∙ ap (slice_get es) (sym same) ∙ at in
          let both : x ≡ e = cc in
          root_newest x (reverse (take n es)) k (same ∙ sym long)
          ∙ (λ i. root_here (root_of (reverse (take (sym same i) es))) k (both i))
      | false ↦ λ t.
          let apart = eqb-false k n t in
          root_older x (reverse (take n es)) k (omega (arith, long, apart, l)) ∙ ih (omega (arith, apart, l)) (omega (arith, most))
    ] refl

root_by : (es : List Entry) (n k : ℕ) (e : Entry) → slice_get es k ≡ Some e → k < n → n ≤ length es
    → root_of (reverse (take n es)) k ≡ root_here (root_of (reverse (take k es))) k e
root_by es zero k e at l most = absurd (omega (arith, l))
root_by es (suc n) k e at l most = by_newest es n k e (slice_get es n) refl at l most (root_by es n k e at)

pub root_step : (es : List Entry) (n k : ℕ) (e : Entry) → slice_get es k ≡ Some e → k < n → n ≤ length es
    → root_of (reverse (take n es)) k ≡ root_here (root_of (reverse (take k es))) k e
root_step = root_by

-- the same, of what an index read
pub root_at : (es : List Entry) (n k : ℕ) (e x : Entry) → n ≤ length es → k < n → e ≡ get_or es k e → e ≡ x
    → root_of (reverse (take n es)) k ≡ root_here (root_of (reverse (take k es))) k x
root_at es n k e x most l is same =
    root_step es n k e (at_place es k e (omega (arith, most, l)) is) l most ∙ ap (root_here (root_of (reverse (take k es))) k) same

-- ---- trails

same_next : (m op : ℕ) (j : Journal) (o : Option ℕ) (e : Entry) → is_next m op (sought_behind j o) e ≡ goes_on j m op o e
same_next m op j None e = refl
same_next m op j (Some k) e = by_request (request_of j k)
  where
    by_request : (o : Option FrameName) → is_next m op (seeks o) e ≡ arrived o e
    by_request None = refl
    by_request (Some f) = refl

tip_end : (ks : List ℕ) (k : ℕ) → tip (ks ++ k ∷ []) ≡ Some k
tip_end [] k = refl
tip_end (i ∷ []) k = refl
tip_end (i ∷ l ∷ ks) k = tip_end (l ∷ ks) k

-- each entry of a trail is one of the journal
tip_below : (j : Journal) (m op k : ℕ) → tip (trail_of j m op) ≡ Some k → k < length j
tip_below [] m op k h = let none : None ≡ Some k = sym (ap tip (no_trail m op)) ∙ h in absurd (cc)
tip_below (e ∷ j) m op k h = by_next (goes_on j m op (tip (trail_of j m op)) e) (sym (ap tip (grows e j m op)) ∙ h) (tip_below j m op k)
  where
    by_next : (b : Bool) → tip (trail_of j m op ++ if_so b (length j)) ≡ Some k → (tip (trail_of j m op) ≡ Some k → k < length j) → k < length (e ∷ j)
    by_next true t old =
        let both : Some (length j) ≡ Some k = sym (tip_end (trail_of j m op) (length j)) ∙ t in let same : length j ≡ k = cc in omega (arith, same)
    by_next false t old = let l = old (ap tip (sym (append-nil (trail_of j m op))) ∙ t) in omega (arith, l)

-- the newest entry goes on
next_so : (e : Entry) (j : Journal) (m op : ℕ) → is_next m op (sought_behind j (tip (trail_of j m op))) e ≡ true
    → (trail_of (e ∷ j) m op ≡ trail_of j m op ++ length j ∷ []) × (sought_behind (e ∷ j) (tip (trail_of (e ∷ j) m op)) ≡ seeks (request_by (length j) e))
next_so e j m op t =
    let on : goes_on j m op (tip (trail_of j m op)) e ≡ true = sym (same_next m op j (tip (trail_of j m op)) e) ∙ t in
    let more : trail_of (e ∷ j) m op ≡ trail_of j m op ++ length j ∷ [] = grows e j m op ∙ ap (λ b. trail_of j m op ++ if_so b (length j)) on in (
      more,
      ap (λ ks. sought_behind (e ∷ j) (tip ks)) more ∙ ap (sought_behind (e ∷ j)) (tip_end (trail_of j m op) (length j))
          ∙ ap (λ b. seeks (option_and_then (request_by (length j)) (cond b (Some e) (entry_at j (length j))))) (eq-eqb (length j) (length j) refl),
    )

-- or it does not
next_not : (e : Entry) (j : Journal) (m op : ℕ) → is_next m op (sought_behind j (tip (trail_of j m op))) e ≡ false
    → (trail_of (e ∷ j) m op ≡ trail_of j m op) × (sought_behind (e ∷ j) (tip (trail_of (e ∷ j) m op)) ≡ sought_behind j (tip (trail_of j m op)))
next_not e j m op t =
    let on : goes_on j m op (tip (trail_of j m op)) e ≡ false = sym (same_next m op j (tip (trail_of j m op)) e) ∙ t in
    let same : trail_of (e ∷ j) m op ≡ trail_of j m op =
    grows e j m op ∙ ap (λ b. trail_of j m op ++ if_so b (length j)) on ∙ append-nil (trail_of j m op) in (
      same,
      ap (λ ks. sought_behind (e ∷ j) (tip ks)) same ∙ by_tip (tip (trail_of j m op)) (tip_below j m op),
    )
  where
    by_tip : (o : Option ℕ) → ((k : ℕ) → o ≡ Some k → k < length j) → sought_behind (e ∷ j) o ≡ sought_behind j o
    by_tip None below = refl
    by_tip (Some k) below = ap seeks (request_older e j k (below k refl))

-- one entry more of what is kept oldest first
module _ (es : List Entry) (k : ℕ) (e : Entry) (m op : ℕ) (at : slice_get es k ≡ Some e) where
  abbrev before : Journal
  before = reverse (take k es)

  one : reverse (take (k + 1) es) ≡ e ∷ before
  one = let next : k + 1 ≡ suc k = omega arith in ap (λ n. reverse (take n es)) next ∙ one_more es k e at

  long : length before ≡ k
  long = let l = got_within es k e at in shown es k (omega (arith, l))

  pub walks_on : is_next m op (sought_behind before (tip (trail_of before m op))) e ≡ true
      → (trail_of (reverse (take (k + 1) es)) m op ≡ trail_of before m op ++ k ∷ [])
      × (sought_behind (reverse (take (k + 1) es)) (tip (trail_of (reverse (take (k + 1) es)) m op)) ≡ seeks (request_by k e))
  walks_on t =
      let both = next_so e before m op t in (
        ap (λ (j : Journal). trail_of j m op) one ∙ both.0 ∙ ap (λ n. trail_of before m op ++ n ∷ []) long,
        ap (λ (j : Journal). sought_behind j (tip (trail_of j m op))) one ∙ both.1 ∙ ap (λ n. seeks (request_by n e)) long,
      )

  pub walks_past : is_next m op (sought_behind before (tip (trail_of before m op))) e ≡ false
      → (trail_of (reverse (take (k + 1) es)) m op ≡ trail_of before m op)
      × (sought_behind (reverse (take (k + 1) es)) (tip (trail_of (reverse (take (k + 1) es)) m op)) ≡ sought_behind before (tip (trail_of before m op)))
  walks_past t =
      let both = next_not e before m op t in (
        ap (λ (j : Journal). trail_of j m op) one ∙ both.0,
        ap (λ (j : Journal). sought_behind j (tip (trail_of j m op))) one ∙ both.1,
      )

-- ---- the end of a trail

pub is_at_end : (x : Sought) → is_nothing x ≡ true → x ≡ Nothing
is_at_end Command h = absurd (cc)
is_at_end (Arrival f) h = absurd (cc)
is_at_end Nothing h = refl

module _ (es : List Entry) (m op : ℕ) where
  abbrev first_of : ℕ → Journal
  first_of n = reverse (take n es)

  abbrev ends_at : ℕ → Type 0
  ends_at n = sought_behind (first_of n) (tip (trail_of (first_of n) m op)) ≡ Nothing

  one_past : (n : ℕ) (o : Option Entry) → slice_get es n ≡ o → n < length es → ends_at n
      → (trail_of (first_of (n + 1)) m op ≡ trail_of (first_of n) m op) × ends_at (n + 1)
  one_past n None at l end = absurd (got es n l at)
  one_past n (Some e) at l end =
      let so = walks_past es n e m op at (ap (λ (x : Sought). is_next m op x e) end) in (so.0, so.1 ∙ end)

  all_past : (d n i : ℕ) → i ≡ n + d → i ≤ length es → ends_at n → (trail_of (first_of i) m op ≡ trail_of (first_of n) m op) × ends_at i
  all_past zero n i is most end =
      let same : n ≡ i = omega (arith, is) in (ap (λ (k : ℕ). trail_of (first_of k) m op) (sym same), subst (λ (k : ℕ). ends_at k) same end)
  all_past (suc d) n i is most end =
      let before = all_past d n (n + d) refl (omega (arith, is, most)) end in
      let after = one_past (n + d) (slice_get es (n + d)) refl (omega (arith, is, most)) before.1 in
      let same : (n + d) + 1 ≡ i = omega (arith, is) in (
        ap (λ (k : ℕ). trail_of (first_of k) m op) (sym same) ∙ after.0 ∙ before.0,
        subst (λ (k : ℕ). ends_at k) same after.1,
      )

  -- what stands behind its end is no part of it
  pub walk_ends : (k : ℕ) → k < length es → ends_at (k + 1) → trail_of (reverse es) m op ≡ trail_of (first_of (k + 1)) m op
  walk_ends k l end =
      let past = all_past (length es - (k + 1)) (k + 1) (length es) (omega (arith, l)) (omega arith) end in
      ap (λ (xs : List Entry). trail_of (reverse xs) m op) (sym (take-length es)) ∙ past.0
