-- A text that is put in parts, with its marked characters by their names.
use Rattle.std.proofs.Common.{◌≡◌, ℕ, ◌+◌, ◌<◌, List, ◌++◌, length, take, drop, slice_index, IsTrue, refl, arith, append_assoc}
use Rattle.std.proofs.lemmas.List.{drop_more}
use Rattle.cip_text.specs.Escapes.{is_marked, escape, escaped, IsFirstMarked}

-- each marked character is an ASCII character
pub marked_ascii : (b : ℕ) → IsTrue (is_marked b) → b < 128
marked_ascii b = grind arith

-- the first of what is left
pub escaped_drop : (bs : List ℕ) (i : ℕ) → i < length bs → escaped (drop i bs) ≡ escape (slice_index bs i) ++ escaped (drop (i + 1) bs)
escaped_drop bs i h = rw (drop_more bs i 0 h) refl

-- what is put so far, and what is left
pub escaped_step : (out all bs : List ℕ) (i : ℕ) → IsFirstMarked bs i
    → out ++ escaped bs ≡ all
    → ((out ++ take i bs) ++ escape (slice_index bs i)) ++ escaped (drop (i + 1) bs) ≡ all
escaped_step out all bs i first inv = rw (append_assoc (out ++ take i bs) _ _, append_assoc out _ _) (rw first.parts at inv)
