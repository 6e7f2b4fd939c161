-- Reading the data of Unconnected_Send gives exactly the record that has its layout.
use Rattle.std.proofs.Common.{◌≡◌, ℕ, ◌+◌, ◌*◌, ◌/◌, ◌%◌, ◌<◌, ◌≤◌, List, [], ◌∷◌, ◌++◌, length, take, drop, get_or, eqb, Ok, Err, refl, sym, ap, subst, ◌∙◌}
use Rattle.std.proofs.Common.{append_assoc, arith, inl, inr}
use Rattle.std.specs.Prelude.{MatchResult, replicate}
use Rattle.std.proofs.lemmas.List.{take_at, drop_at, take-append-drop, length-append, length-take-le, length-drop, get_or-drop, get_or-take, get_or-append-add}
use Rattle.std.proofs.lemmas.List.{drop-drop}
use Rattle.cip_segment.specs.Spelling.{IsReadable}
use Rattle.std.proofs.lemmas.Bool.{cond_both, cases_lt, eqb-true, eqb-false}
use Rattle.cip_segment.proofs.Whole.{whole_words}
use Rattle.cip_base.specs.Fields.{IsBytes, word, pad}
use Rattle.cip_message.specs.Numbers.{word_in}
use Rattle.cip_message.specs.Cut.{IsCutOff, IsOverlong}
use Rattle.cip_message.specs.Counted.{whole_length}
use Rattle.cip_message.proofs.Words.{word_again, low_byte, high_byte}
use Rattle.cip_message.proofs.Counteds.{counted_path_at-Short, counted_path_at-Long, counted_path_at-Path, counted_path_at-whole, counted_path_verdict}
use Rattle.cip_message.proofs.Ends.{zeros_index, index_front, cut_off, overlong, word_in-zeros, word_in-take}
use Rattle.cip_message.proofs.Readers.{IsBytes-drop}
use Rattle.cip_segment.specs.Reading.{path_at}
use Rattle.cip_segment.proofs.PathsRead.{path_at-IsFault}
use Rattle.cip_unconnected.specs.declared.fault.UnconnectedFault.{UnconnectedFault}
use Rattle.cip_unconnected.specs.declared.fault.UnconnectedFault.TheVariants.{Short, Long, Route}
use Rattle.cip_unconnected.specs.Unconnected.{Unconnected, unconnected_layout, LaysUnconnected, ReadsUnconnected, HasLayout, IsUnconnectedFault}
use Rattle.cip_unconnected.specs.Unconnected.{unconnected_data}
use Rattle.cip_unconnected.specs.UnconnectedAt.{route_place, with_route, unconnected_at}

-- how long the data has to be
abbrev whole : List ℕ → ℕ
whole b = whole_length (route_place b) (route_place b + 2) b

-- the record that the fields say
abbrev record_at : List ℕ → Unconnected
record_at b =
    record { timing = record { tick = get_or b 0 0; ticks = get_or b 1 0 }; request = take (word_in b 2) (drop 4 b); route = drop (route_place b + 2) b }

pub unconnected_at-Short : (b : List ℕ) → length b < 4 → unconnected_at b ≡ Err Short
unfolding unconnected_at
unconnected_at-Short b lt = ap (with_route b) (counted_path_at-Short (route_place b) (route_place b + 2) b (omega arith))

-- ---- what has the layout is read

-- the layout, parted before and behind the route size and the reserved byte
abbrev front : List ℕ → Unconnected → List ℕ
front padding u = u.timing.tick ∷ u.timing.ticks ∷ word (length u.request) ++ (u.request ++ padding)

front-len : (padding : List ℕ) (u : Unconnected) → length padding ≡ length u.request % 2
    → length (front padding u) ≡ 4 + (length u.request + length u.request % 2)
front-len padding u len = omega (arith, length-append u.request padding, len)

layout-front : (padding : List ℕ) (n x : ℕ) (u : Unconnected) → unconnected_layout padding n x u ≡ front padding u ++ (n ∷ x ∷ u.route)
layout-front padding n x u =
    ap (λ (z : List ℕ). u.timing.tick ∷ u.timing.ticks ∷ word (length u.request) ++ z) (sym (append_assoc u.request padding (n ∷ x ∷ u.route)))

layout_size : (padding : List ℕ) (n x : ℕ) (u : Unconnected) → word_in (unconnected_layout padding n x u) 2 ≡ length u.request
layout_size padding n x u = word_again (length u.request)

-- the route size stands behind the front
layout_place : (padding : List ℕ) (n x : ℕ) (u : Unconnected) → length padding ≡ length u.request % 2
    → route_place (unconnected_layout padding n x u) ≡ length (front padding u)
layout_place padding n x u plen = ap (λ (z : ℕ). 4 + (z + z % 2)) (layout_size padding n x u) ∙ sym (front-len padding u plen)

layout_words : (padding : List ℕ) (n x : ℕ) (u : Unconnected) → length padding ≡ length u.request % 2
    → get_or (unconnected_layout padding n x u) (route_place (unconnected_layout padding n x u)) 0 ≡ n
layout_words padding n x u plen =
    let b : List ℕ = unconnected_layout padding n x u in
    let tail : List ℕ = n ∷ x ∷ u.route in
    let place : route_place b ≡ length (front padding u) + 0 = omega (arith, layout_place padding n x u plen) in
    ap (λ (z : List ℕ). get_or z (route_place b) 0) (layout-front padding n x u)
    ∙ (ap (λ (i : ℕ). get_or (front padding u ++ tail) i 0) place ∙ get_or-append-add (front padding u) tail 0 0)

layout_long : (padding : List ℕ) (n x : ℕ) (u : Unconnected) → length padding ≡ length u.request % 2 → length u.route ≡ 2 * n
    → length (unconnected_layout padding n x u) ≡ whole (unconnected_layout padding n x u)
layout_long padding n x u plen rlen =
    let tail : List ℕ = n ∷ x ∷ u.route in
    let len : length (unconnected_layout padding n x u) ≡ length (front padding u) + length tail =
    ap (λ (z : List ℕ). length z) (layout-front padding n x u) ∙ length-append (front padding u) tail in
    omega (arith, len, layout_place padding n x u plen, layout_words padding n x u plen, rlen)

layout_behind : (padding : List ℕ) (n x : ℕ) (u : Unconnected) → length padding ≡ length u.request % 2
    → drop (route_place (unconnected_layout padding n x u) + 2) (unconnected_layout padding n x u) ≡ u.route
layout_behind padding n x u plen =
    let b : List ℕ = unconnected_layout padding n x u in
    let tail : List ℕ = n ∷ x ∷ u.route in
    let rest : drop (route_place b) b ≡ tail = ap (λ (z : List ℕ). drop (route_place b) z) (layout-front padding n x u)
    ∙ drop_at (front padding u) tail (route_place b) (sym (layout_place padding n x u plen)) in
    sym (drop-drop 2 (route_place b) b) ∙ ap (λ (z : List ℕ). drop 2 z) rest

same_record : (b : List ℕ) (u : Unconnected) → take (word_in b 2) (drop 4 b) ≡ u.request → drop (route_place b + 2) b ≡ u.route
    → get_or b 0 0 ≡ u.timing.tick → get_or b 1 0 ≡ u.timing.ticks → with_route b (Ok (drop (route_place b + 2) b)) ≡ Ok u
same_record b u inside behind tick ticks = rw (inside, behind, tick, ticks) refl

layout_read : (padding : List ℕ) (n x : ℕ) (u : Unconnected) → IsReadable u.route → length padding ≡ length u.request % 2 → length u.route ≡ 2 * n
    → unconnected_at (unconnected_layout padding n x u) ≡ Ok u
unfolding unconnected_at
layout_read padding n x u readable plen rlen =
    let b : List ℕ = unconnected_layout padding n x u in
    let behind : drop (route_place b + 2) b ≡ u.route = layout_behind padding n x u plen in
    let inside : take (word_in b 2) (drop 4 b) ≡ u.request =
    ap (λ (j : ℕ). take j (drop 4 b)) (layout_size padding n x u) ∙ take_at u.request (padding ++ (n ∷ x ∷ u.route)) (length u.request) refl in
    let readable_behind : IsReadable (drop (route_place b + 2) b) = subst IsReadable (sym behind) readable in
    ap (with_route b) (counted_path_at-whole (route_place b) (route_place b + 2) b (layout_long padding n x u plen rlen) readable_behind)
    ∙ same_record b u inside behind refl refl

pub unconnected_read : (b : List ℕ) (u : Unconnected) → ReadsUnconnected b u → unconnected_at b ≡ Ok u
unconnected_read b u (readable, (padding, n, x, plen, rlen, e)) =
    subst (λ (z : List ℕ). unconnected_at z ≡ Ok u) (sym e) (layout_read padding n x u readable plen rlen)

-- ---- what is read has the layout, and each fault is the one that fits

two_front : (l : List ℕ) → 2 ≤ length l → l ≡ get_or l 0 0 ∷ get_or l 1 0 ∷ drop 2 l
two_front [] h = absurd (omega arith)
two_front (x ∷ []) h = absurd (omega arith)
two_front (x ∷ y ∷ l) h = refl

word_is : (lo hi k : ℕ) → lo < 256 → k ≡ lo + 256 * hi → word k ≡ lo ∷ hi ∷ []
word_is lo hi k lt e = rw (e, low_byte lo hi lt, high_byte lo hi lt) refl

lays : (b : List ℕ) → IsBytes b → length b ≡ whole b → LaysUnconnected b (record_at b)
lays [] fits len = absurd (omega (arith, len))
lays (t ∷ []) fits len = absurd (omega (arith, len))
lays (t ∷ s ∷ []) fits len = absurd (omega (arith, len))
lays (t ∷ s ∷ lo ∷ []) fits len = absurd (omega (arith, len))
lays (t ∷ s ∷ lo ∷ hi ∷ rest) fits len =
    let b : List ℕ = t ∷ s ∷ lo ∷ hi ∷ rest in
    let k : ℕ = lo + 256 * hi in
    let j : ℕ = k % 2 in
    let padding : List ℕ = take j (drop k rest) in
    let l : List ℕ = drop j (drop k rest) in
    let l_is : l ≡ drop (k + j) rest = drop-drop j k rest in
    let long : (k + j) + 2 ≤ length rest = omega (arith, len) in
    let size : length (take k rest) ≡ k = length-take-le k rest (omega (arith, long)) in
    let plen : length padding ≡ j = length-take-le j (drop k rest) (omega (arith, long, length-drop k rest)) in
    let llen : 2 ≤ length l = omega (arith, long, length-drop (k + j) rest, ap (λ (z : List ℕ). length z) l_is) in
    let words : get_or b (route_place b) 0 ≡ get_or l 0 0 =
    sym (get_or-drop 4 b (k + j) 0)
    ∙ (ap (λ (i : ℕ). get_or rest i 0) (omega arith) ∙ (sym (get_or-drop (k + j) rest 0 0) ∙ ap (λ (z : List ℕ). get_or z 0 0) (sym l_is))) in
    let behind : drop (route_place b + 2) b ≡ drop 2 l =
    ap (λ (i : ℕ). drop i b) (omega arith)
    ∙ (sym (drop-drop ((k + j) + 2) 4 b) ∙ (sym (drop-drop 2 (k + j) rest) ∙ ap (λ (z : List ℕ). drop 2 z) (sym l_is))) in
    let route_len : length (drop (route_place b + 2) b) ≡ 2 * get_or l 0 0 = omega (arith, length-drop (route_place b + 2) b, len, words) in
    let rest_is : rest ≡ take k rest ++ (padding ++ (get_or l 0 0 ∷ get_or l 1 0 ∷ drop 2 l)) =
    sym (take-append-drop k rest)
    ∙ ap (λ (z : List ℕ). take k rest ++ z) (sym (take-append-drop j (drop k rest)) ∙ ap (λ (z : List ℕ). padding ++ z) (two_front l llen)) in
    let parts : b ≡ unconnected_layout padding (get_or l 0 0) (get_or l 1 0)
    (record { timing = record { tick = t; ticks = s }; request = take k rest; route = drop 2 l }) =
    ap (λ (z : List ℕ). t ∷ s ∷ lo ∷ hi ∷ z) rest_is
    ∙ ap (λ (w : List ℕ). t ∷ s ∷ w ++ (take k rest ++ (padding ++ (get_or l 0 0 ∷ get_or l 1 0 ∷ drop 2 l))))
    (sym (word_is lo hi (length (take k rest)) (fits 2) size)) in (
      padding,
      get_or l 0 0,
      get_or l 1 0,
      plen ∙ ap (λ (z : ℕ). z % 2) (sym size),
      route_len,
      parts ∙ ap (λ (r : List ℕ). unconnected_layout padding (get_or l 0 0) (get_or l 1 0)
          (record { timing = record { tick = t; ticks = s }; request = take k rest; route = r })) (sym behind),
    )

has_layout : (b : List ℕ) → IsBytes b → length b ≡ whole b → HasLayout b
has_layout b fits len = (record_at b, lays b fits len)

whole-zeros : (b : List ℕ) (k : ℕ) → whole (b ++ replicate k 0) ≡ whole b
whole-zeros b k =
    let place : route_place (b ++ replicate k 0) ≡ route_place b = ap (λ (z : ℕ). 4 + (z + z % 2)) (word_in-zeros b k 2) in
    ap (λ (p : ℕ). whole_length p (p + 2) (b ++ replicate k 0)) place ∙ ap (λ (n : ℕ). (route_place b + 2) + 2 * n) (zeros_index b k (route_place b))

whole-take : (b : List ℕ) → whole b < length b → whole (take (whole b) b) ≡ whole b
whole-take b lt =
    let place : route_place (take (whole b) b) ≡ route_place b = ap (λ (z : ℕ). 4 + (z + z % 2)) (word_in-take (whole b) b 2 (omega arith)) in
    ap (λ (p : ℕ). whole_length p (p + 2) (take (whole b) b)) place
    ∙ ap (λ (n : ℕ). (route_place b + 2) + 2 * n) (get_or-take (whole b) b (route_place b) 0 (omega arith))

pub unconnected_verdict : (b : List ℕ) → IsBytes b → MatchResult (unconnected_at b) (ReadsUnconnected b) (IsUnconnectedFault b)
unfolding unconnected_at
unconnected_verdict b fits =
    counted_path_verdict (λ r. MatchResult (with_route b r) (ReadsUnconnected b) (IsUnconnectedFault b)) (route_place b) (route_place b + 2) b fits
    (λ lt. cut_off HasLayout whole has_layout whole-zeros b fits lt)
    (λ lt. overlong HasLayout whole has_layout whole-take b fits lt)
    (λ e readable. (readable, lays b fits e))
    (λ e f fault. (record_at b, lays b fits e, fault))

-- ---- what is written is read back

pad-len : (n : ℕ) → length (pad n) ≡ n % 2
pad-len n =
    cond_both (eqb (n % 2) 1) (0 ∷ []) [] (λ (z : List ℕ). length z ≡ n % 2)
    (λ odd. sym (eqb-true _ _ odd))
    (λ even. let h : n % 2 ≡ 1 → ⊥ = eqb-false _ _ even in omega arith)

pub unconnected_back : (u : Unconnected) → IsReadable u.route → unconnected_at (unconnected_data u) ≡ Ok u
unconnected_back u readable =
    layout_read (pad (length u.request)) (length u.route / 2) 0 u readable (pad-len (length u.request)) (whole_words u.route readable)

-- ---- a fault that fits is the one that is answered

layout_len : (b : List ℕ) → HasLayout b → length b ≡ whole b
layout_len b (u, (padding, n, x, plen, rlen, e)) = subst (λ (c : List ℕ). length c ≡ whole c) (sym e) (layout_long padding n x u plen rlen)

place_front : (xs ys : List ℕ) → 4 ≤ length xs → route_place (xs ++ ys) ≡ route_place xs
place_front xs ys le = rw (index_front xs ys 2 (omega arith), index_front xs ys 3 (omega arith)) refl

whole_front : (xs ys : List ℕ) → 4 ≤ length xs → route_place xs < length xs → whole (xs ++ ys) ≡ whole xs
whole_front xs ys le lt =
    ap (λ (p : ℕ). whole_length p (p + 2) (xs ++ ys)) (place_front xs ys le)
    ∙ ap (λ (n : ℕ). (route_place xs + 2) + 2 * n) (index_front xs ys (route_place xs) lt)

cut_short : (b : List ℕ) → IsCutOff HasLayout b → length b < whole b
cut_short b (more, some, h) =
    let both : length (b ++ more) ≡ whole (b ++ more) = layout_len (b ++ more) h in
    elim (cases_lt 3 (length b)) [
      | inl four ↦ elim (cases_lt (route_place b) (length b)) [
        | inl within ↦ omega (arith, both, length-append b more, whole_front b more (omega (arith, four)) within)
        | inr beyond ↦ omega (arith, beyond)
      ]
      | inr few ↦ omega (arith, few)
    ]

over_long : (b : List ℕ) → IsOverlong HasLayout b → whole b < length b
over_long b (front_, more, some, e, h) =
    let front_len : length front_ ≡ whole front_ = layout_len front_ h in
    let same : whole b ≡ whole front_ = ap (λ (z : List ℕ). whole z) e ∙ whole_front front_ more (omega (arith, front_len)) (omega (arith, front_len)) in
    let long : length b ≡ length front_ + length more = ap (λ (z : List ℕ). length z) e ∙ length-append front_ more in
    omega (arith, front_len, same, long)

route_is : (b : List ℕ) (u : Unconnected) → LaysUnconnected b u → drop (route_place b + 2) b ≡ u.route
route_is b u (padding, n, x, plen, rlen, e) = subst (λ (c : List ℕ). drop (route_place c + 2) c ≡ u.route) (sym e) (layout_behind padding n x u plen)

pub unconnected_faults : (b : List ℕ) (f : UnconnectedFault) → IsBytes b → IsUnconnectedFault b f → unconnected_at b ≡ Err f
unfolding unconnected_at
unconnected_faults b Short fits h = ap (with_route b) (counted_path_at-Short (route_place b) (route_place b + 2) b (cut_short b h))
unconnected_faults b Long fits h = ap (with_route b) (counted_path_at-Long (route_place b) (route_place b + 2) b (over_long b h))
unconnected_faults b (Route f) fits (u, lays_u, fault) =
    let behind : drop (route_place b + 2) b ≡ u.route = route_is b u lays_u in
    let route_fits : IsBytes u.route = subst IsBytes behind (IsBytes-drop (route_place b + 2) b fits) in
    ap (with_route b)
    (counted_path_at-Path (route_place b) (route_place b + 2) b f (layout_len b (u, lays_u))
    (ap path_at behind ∙ path_at-IsFault u.route f route_fits fault))
