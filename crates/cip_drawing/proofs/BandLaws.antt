-- What is at a limit stays there.
use Rattle.std.proofs.Common.{◌≡◌, ℕ, Bool, ◌+◌, ◌-◌, ◌/◌, ◌<◌, ◌≤◌, ◌^◌, ◌==◌, true, false, List, [], ◌∷◌, take, drop, slice_get, fold, Option, Some, None}
use Rattle.std.proofs.Common.{nat_lt, refl, sym, ap, ◌∙◌, inl, inr, arith, if◌then◌else◌, take-append-drop}
use Rattle.std.proofs.lemmas.Bool.{cases_lt}
use Rattle.std.proofs.lemmas.Bool.Decides.{nat_tests}
use Rattle.std.proofs.lemmas.List.Sums.{fold-append}
use Rattle.cip_drawing.specs.Bands.{most, with_text, with_line, texts_cost, lines_cost, band_cost, whole_cost, IsTold, meets, crosses}
use Rattle.cip_drawing.specs.declared.line.Line.{Line}
use Rattle.cip_drawing.specs.declared.areas.Area.{Area}
use Rattle.cip_drawing.specs.declared.areas.Passing.{Passing}
use Rattle.cip_drawing.specs.declared.areas.Band.{Band}

one_stays : (is : Bool) (limit cost n : ℕ) → limit < 2 ^ 64 → limit ≤ cost → limit ≤ (if is then most (cost + n) else cost)
one_stays true limit cost n h k = grind arith
one_stays false limit cost n h k = k

pub texts_stay : (area : Area) (limit : ℕ) → limit < 2 ^ 64 → (texts : List Area) (cost : ℕ) → limit ≤ cost → limit ≤ texts_cost area texts cost
texts_stay area limit h [] cost k = k
texts_stay area limit h (text ∷ texts) cost k = texts_stay area limit h texts (with_text area cost text) (one_stays (meets area text) limit cost 20 h k)

pub lines_stay : (lines : List Line) (area : Area) (limit : ℕ) → limit < 2 ^ 64 → (ps : List Passing) (cost : ℕ) → limit ≤ cost
    → limit ≤ lines_cost lines area ps cost
lines_stay lines area limit h [] cost k = k
lines_stay lines area limit h (p ∷ ps) cost k =
    lines_stay lines area limit h ps (with_line lines area cost p) (one_stays (crosses area p (slice_get lines p.line)) limit cost 3 h k)

pub band_stays : (lines : List Line) (area : Area) (limit : ℕ) → limit < 2 ^ 64 → (band : Option Band) (cost : ℕ) → limit ≤ cost
    → limit ≤ band_cost lines area band cost
band_stays lines area limit h None cost k = k
band_stays lines area limit h (Some band) cost k =
    lines_stay lines area limit h band.lines.items (texts_cost area band.texts.items cost) (texts_stay area limit h band.texts.items cost k)

-- the first lines alone come to the limit
pub front_stays : (lines : List Line) (area : Area) (limit : ℕ) → limit < 2 ^ 64 → (ps : List Passing) (i cost : ℕ)
    → limit ≤ lines_cost lines area (take i ps) cost → limit ≤ lines_cost lines area ps cost
front_stays lines area limit h ps i cost k =
    let parted = fold-append (with_line lines area) cost (take i ps) (drop i ps) in
    let whole = ap (λ l. fold (with_line lines area) cost l) (take-append-drop i ps) in
    let rest = lines_stay lines area limit h (drop i ps) (lines_cost lines area (take i ps) cost) k in
    rw (sym whole ∙ parted) rest

-- what is told of one band, and of both by what was told of that one
pub told_twice : (lines : List Line) (bands : List Band) (area : Area) (before limit cost result : ℕ) → limit < 2 ^ 64
    → (area.top / 34 ≡ area.bottom / 34 → ⊥)
    → IsTold limit cost (band_cost lines area (slice_get bands (area.top / 34)) before)
    → IsTold limit result (band_cost lines area (slice_get bands (area.bottom / 34)) cost)
    → IsTold limit result (whole_cost lines bands area before)
told_twice lines bands area before limit cost result h other first last =
    let one : ℕ = band_cost lines area (slice_get bands (area.top / 34)) before in
    let both : ℕ = band_cost lines area (slice_get bands (area.bottom / 34)) one in
    let differ : (area.top / 34 == area.bottom / 34) ≡ false = grind (arith, nat_tests) in
    let told : IsTold limit result both = elim (cases_lt one limit) [
      | inl below ↦ rw (first.0 below) at last
      | inr over ↦
          let stays : limit ≤ both = band_stays lines area limit h (slice_get bands (area.bottom / 34)) one over in
          let at_cost = band_stays lines area limit h (slice_get bands (area.bottom / 34)) cost (first.1 over) in
          ((λ k. absurd (omega (arith, k, stays))), (λ k. last.1 at_cost))
    ] in
    rw differ told

one_fits : (is : Bool) (cost n : ℕ) → cost < 2 ^ 64 → (if is then most (cost + n) else cost) < 2 ^ 64
one_fits true cost n h = grind arith
one_fits false cost n h = h

texts_fit : (area : Area) (texts : List Area) (cost : ℕ) → cost < 2 ^ 64 → texts_cost area texts cost < 2 ^ 64
texts_fit area [] cost h = h
texts_fit area (text ∷ texts) cost h = texts_fit area texts (with_text area cost text) (one_fits (meets area text) cost 20 h)

lines_fit : (lines : List Line) (area : Area) (ps : List Passing) (cost : ℕ) → cost < 2 ^ 64 → lines_cost lines area ps cost < 2 ^ 64
lines_fit lines area [] cost h = h
lines_fit lines area (p ∷ ps) cost h =
    lines_fit lines area ps (with_line lines area cost p) (one_fits (crosses area p (slice_get lines p.line)) cost 3 h)

band_fits : (lines : List Line) (area : Area) (band : Option Band) (cost : ℕ) → cost < 2 ^ 64 → band_cost lines area band cost < 2 ^ 64
band_fits lines area None cost h = h
band_fits lines area (Some band) cost h =
    lines_fit lines area band.lines.items (texts_cost area band.texts.items cost) (texts_fit area band.texts.items cost h)

one_or_both : (is : Bool) (m n : ℕ) → m < 2 ^ 64 → n < 2 ^ 64 → (if is then m else n) < 2 ^ 64
one_or_both true m n h k = h
one_or_both false m n h k = k

whole_fits : (lines : List Line) (bands : List Band) (area : Area) (cost : ℕ) → cost < 2 ^ 64 → whole_cost lines bands area cost < 2 ^ 64
whole_fits lines bands area cost h =
    let first = band_fits lines area (slice_get bands (area.top / 34)) cost h in
    let one : ℕ = band_cost lines area (slice_get bands (area.top / 34)) cost in
    one_or_both (area.top / 34 == area.bottom / 34) one (band_cost lines area (slice_get bands (area.bottom / 34)) one)
    first (band_fits lines area (slice_get bands (area.bottom / 34)) one first)

-- what is told of one number without a limit, and of another below that, says which is less
less_told : (m n told_m told_n : ℕ) → m < 2 ^ 64 → told_m < 2 ^ 64 → IsTold (2 ^ 64 - 1) told_m m → IsTold told_m told_n n
    → nat_lt told_n told_m ≡ nat_lt n m
less_told m n told_m told_n h k all below =
    let same : told_m ≡ m = elim (cases_lt m (2 ^ 64 - 1)) [
      | inl less ↦ all.0 less
      | inr over ↦ let most_m = all.1 over in grind arith
    ] in
    elim (cases_lt n told_m) [
      | inl less ↦ rw (below.0 less, same) refl
      | inr over ↦ let stays = below.1 over in grind (arith, nat_tests)
    ]

pub left_told : (lines : List Line) (bands : List Band) (right left : Area) (told_right told_left : ℕ) → told_right < 2 ^ 64
    → IsTold (2 ^ 64 - 1) told_right (whole_cost lines bands right 0) → IsTold told_right told_left (whole_cost lines bands left 0)
    → nat_lt told_left told_right ≡ nat_lt (whole_cost lines bands left 0) (whole_cost lines bands right 0)
left_told lines bands right left told_right told_left k all below =
    less_told (whole_cost lines bands right 0) (whole_cost lines bands left 0) told_right told_left
    (whole_fits lines bands right 0 (grind arith)) k all below
