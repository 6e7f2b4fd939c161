-- What a message is after each of the edits of its fields.
use Rattle.std.proofs.Common.{◌≡◌, ℕ, Bool, true, false, ◌+◌, ◌-◌, ◌/◌, ◌%◌, ◌<◌, List, [], ◌∷◌, ◌++◌, length, take, drop, get_or, set, refl, ap, ◌∙◌}
use Rattle.std.proofs.Common.{append-nil, arith}
use Rattle.std.proofs.lemmas.List.{drop_all, drop_at, take_at, length-drop}
use borrow.Rule.Slice.PartMut.{put_mid}
use Rattle.cip_base.specs.Fields.{word, double, pad}
use Rattle.cip_message.specs.Manager.{manager_bytes}
use Rattle.cip_open.specs.Kinds.{words_place}
use Rattle.cip_open.specs.Open.{Open, open_layout}
use Rattle.cip_message.specs.Reply.{reply_layout, done_with}
use Rattle.cip_open.specs.Success.{OpenSuccess, open_reply_layout}
use Rattle.cip_open.specs.GoesOn.{lowered, with_ids}
use Rattle.cip_close.specs.Close.{Close, close_layout}
use Rattle.cip_close.specs.GoesOn.{lowered as close_down}
use Rattle.cip_unconnected.specs.Unconnected.{Unconnected, unconnected_layout}
use Rattle.cip_unconnected.specs.GoesOn.{lowered as send_down}
use Rattle.cip_rewrite.proofs.Shortened.{to_end}

-- what is written from a place on to the end
pub tail_written : (i : ℕ) (xs ys : List ℕ) → put_mid i (length xs - i) xs ys ≡ take i xs ++ ys
tail_written i xs ys =
    ap (λ (z : List ℕ). take i xs ++ (ys ++ z)) (drop_all (length xs - i) (drop i xs) (omega (arith, length-drop i xs)))
    ∙ ap (λ (z : List ℕ). take i xs ++ z) (append-nil ys)

-- the four bytes of a double word, as they are written
abbrev pub quad : ℕ → List ℕ
quad n = (n % 256) ∷ ((n / 256) % 256) ∷ ((n / 65536) % 256) ∷ ((n / 16777216) % 256) ∷ []

pub quad_is : (n : ℕ) → n < 4294967296 → quad n ≡ double n
quad_is n lt =
    let a : n % 256 ≡ (n % 65536) % 256 = omega arith in
    let b : (n / 256) % 256 ≡ (n % 65536) / 256 = omega arith in
    let d : (n / 16777216) % 256 ≡ (n / 65536) / 256 = omega arith in
    rw (a, b, d) refl

-- a double word at a place, with what stands behind it as it stood
pub double_written : (i n : ℕ) (xs ys : List ℕ) → n < 4294967296 → ys ≡ quad n ++ drop 4 (take (length xs - i) (drop i xs))
    → put_mid i (length xs - i) xs ys ≡ take i xs ++ (double n ++ drop 4 (drop i xs))
double_written i n xs ys lt e =
    tail_written i xs ys
    ∙ ap (λ (z : List ℕ). take i xs ++ z) e
    ∙ ap (λ (z : List ℕ). take i xs ++ (quad n ++ drop 4 z)) (to_end i xs)
    ∙ ap (λ (z : List ℕ). take i xs ++ (z ++ drop 4 (drop i xs))) (quad_is n lt)

abbrev one_less_at : ℕ → List ℕ → List ℕ
one_less_at i m = set m i (get_or m i 0 - 1)

abbrev others : ℕ → ℕ → List ℕ → List ℕ
others place words m = set (set (set (set m 25 0) 26 0) 27 0) (6 + place) words

abbrev with_id : ℕ → List ℕ → List ℕ
with_id id m = take 12 (one_less_at 7 m) ++ (double id ++ drop 4 (drop 12 (one_less_at 7 m)))

others_are : (large : Bool) (s x y z w : ℕ) (o : Open) (id words : ℕ)
    → others (words_place large) words (with_id id (manager_bytes s (open_layout large x y z w o)))
    ≡ manager_bytes s (open_layout large 0 0 0 words (lowered o id o.path))
others_are true s x y z w o id words = refl
others_are false s x y z w o id words = refl

pub open_lowered : (large : Bool) (s x y z w : ℕ) (o : Open) (id place words : ℕ) (m ys : List ℕ) → id < 4294967296 → place ≡ words_place large
    → m ≡ manager_bytes s (open_layout large x y z w o)
    → ys ≡ quad id ++ drop 4 (take (length (one_less_at 7 m) - 12) (drop 12 (one_less_at 7 m)))
    → others place words (put_mid 12 (length (one_less_at 7 m) - 12) (one_less_at 7 m) ys)
    ≡ manager_bytes s (open_layout large 0 0 0 words (lowered o id o.path))
open_lowered large s x y z w o id place words m ys lt at e f =
    ap (λ (t : List ℕ). others place words t) (double_written 12 id (one_less_at 7 m) ys lt f)
    ∙ ap (λ (n : ℕ). others n words (with_id id m)) at
    ∙ ap (λ (t : List ℕ). others (words_place large) words (with_id id t)) e
    ∙ others_are large s x y z w o id words

pub close_lowered : (s w x : ℕ) (c : Close) (words : ℕ) (m : List ℕ) → m ≡ manager_bytes s (close_layout w x c)
    → set (set (one_less_at 7 m) 16 words) 17 0 ≡ manager_bytes s (close_layout words 0 (close_down c c.path))
close_lowered s w x c words m e = ap (λ (t : List ℕ). set (set (one_less_at 7 t) 16 words) 17 0) e

-- an Unconnected_Send up to its pad, with one tick less
abbrev pub front : ℕ → Unconnected → List ℕ
front s u =
    s ∷ 0x02 ∷ 0x20 ∷ 0x06 ∷ 0x24 ∷ 0x01 ∷ u.timing.tick ∷ (u.timing.ticks - 1) ∷ word (length u.request) ++ u.request

pub front_len : (s : ℕ) (u : Unconnected) → length (front s u) ≡ 10 + length u.request
front_len s u = omega arith

pub send_lowered : (s w x size : ℕ) (padding : List ℕ) (u : Unconnected) (words : ℕ) (m ys : List ℕ) → length u.request ≡ size
    → m ≡ manager_bytes s (unconnected_layout padding w x u)
    → (take (length (one_less_at 7 m) - (10 + size)) (drop (10 + size) (one_less_at 7 m)) ≡ padding ++ (w ∷ x ∷ u.route)
    → ys ≡ pad size ++ (words ∷ 0 ∷ u.route))
    → put_mid (10 + size) (length (one_less_at 7 m) - (10 + size)) (one_less_at 7 m) ys
    ≡ manager_bytes s (unconnected_layout (pad size) words 0 (send_down u u.route))
send_lowered s w x size padding u words m ys len e f =
    let i : ℕ = 10 + size in
    let n : List ℕ = one_less_at 7 m in
    let tail : List ℕ = padding ++ (w ∷ x ∷ u.route) in
    let n_is : n ≡ front s u ++ tail = ap (λ (t : List ℕ). one_less_at 7 t) e in
    let long : length (front s u) ≡ i = omega (arith, front_len s u) in
    let behind : drop i n ≡ tail = ap (λ (t : List ℕ). drop i t) n_is ∙ drop_at (front s u) tail i long in
    let before : take i n ≡ front s u = ap (λ (t : List ℕ). take i t) n_is ∙ take_at (front s u) tail i long in
    tail_written i n ys ∙ ap (λ (t : List ℕ). t ++ ys) before ∙ ap (λ (t : List ℕ). front s u ++ t) (f (to_end i n ∙ behind))

-- ---- a success

abbrev done_at : List ℕ → List ℕ
done_at m = set m 1 0

abbrev with_up : ℕ → List ℕ → List ℕ
with_up up n = take 4 n ++ (double up ++ drop 4 (drop 4 n))

abbrev with_their : ℕ → List ℕ → List ℕ
with_their their n = take 8 n ++ (double their ++ drop 4 (drop 8 n))

pub success_raised : (service x y w : ℕ) (s : OpenSuccess) (up their : ℕ) (m p ys zs : List ℕ) → up < 4294967296 → their < 4294967296
    → m ≡ reply_layout x (done_with service (open_reply_layout w y s))
    → ys ≡ quad up ++ drop 4 (take (length (done_at m) - 4) (drop 4 (done_at m)))
    → p ≡ put_mid 4 (length (done_at m) - 4) (done_at m) ys
    → zs ≡ quad their ++ drop 4 (take (length p - 8) (drop 8 p))
    → set (put_mid 8 (length p - 8) p zs) 29 0 ≡ reply_layout 0 (done_with service (open_reply_layout w 0 (with_ids s up their)))
success_raised service x y w s up their m p ys zs lu lt e f p_is g =
    ap (λ (t : List ℕ). set t 29 0) (double_written 8 their p zs lt g)
    ∙ ap (λ (t : List ℕ). set (with_their their t) 29 0) (p_is ∙ double_written 4 up (done_at m) ys lu f)
    ∙ ap (λ (t : List ℕ). set (with_their their (with_up up (done_at t))) 29 0) e
