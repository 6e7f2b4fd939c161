-- What a message is that was closed up.
use Rattle.std.proofs.Common.{◌≡◌, ℕ, suc, ◌+◌, ◌-◌, ◌≤◌, List, ◌++◌, length, take, drop, get_or, Some, refl, sym, ap, subst, ◌∙◌, append_assoc, arith}
use Rattle.std.specs.List.{copy_within}
use Rattle.std.proofs.lemmas.List.{drop_at, take_all, take-append-drop, drop-drop, get_or-take, length-append, length-drop, length-take-le}
use Rattle.std.proofs.lemmas.List.Edits.{length-paste, take-paste, drop-paste}
use Rattle.std.proofs.lemmas.Slice.{between_is}
use Rattle.cip_segment.specs.Spelling.{IsReadable}
use Rattle.cip_segment.specs.Hop.{HasHop}
use Rattle.cip_segment.specs.Reading.{HopAt, hop_of}
use Rattle.cip_segment.proofs.HopsRead.{hop_of-IsHop}
use Rattle.cip_message.specs.Manager.{manager_bytes}
use Rattle.cip_message.proofs.Ends.{index_front}
use Rattle.cip_rewrite.specs.LeadsOn.{LeadsOn}

-- ---- what is left of the path

pub to_end : (i : ℕ) (b : List ℕ) → take (length b - i) (drop i b) ≡ drop i b
to_end i b = take_all (length b - i) (drop i b) (omega (arith, length-drop i b))

rest_same : (hop : HopAt) (key : _) (q : ℕ) (a r : List ℕ) → Some (record { key = key; port = q; address = a; rest = r }) ≡ Some hop → r ≡ hop.rest
rest_same hop key q a r e = cc

tail_of : (p : List ℕ) (hop : HopAt) → IsReadable p → HasHop p → hop_of p ≡ Some hop → (front : List ℕ) × (p ≡ front ++ hop.rest)
tail_of p hop readable (key, q, a, r, is) e =
    let same : r ≡ hop.rest = rest_same hop key q a r (sym (hop_of-IsHop p key q a r readable is) ∙ e) in
    let (k, h, parts, key_is, port_is, rest_is) = is in
    (k ++ h, parts ∙ sym (append_assoc k h r) ∙ ap (λ (z : List ℕ). (k ++ h) ++ z) same)

-- what is left stands at the end
pub record Left (b : List ℕ) (start fixed : ℕ) (rest : List ℕ) : Type 0 where
  pub within : start + fixed + length rest ≤ length b
  pub most : length rest ≤ 510
  pub stands : drop (length b - length rest) b ≡ rest

pub left : (b : List ℕ) (start fixed : ℕ) (hop : HopAt) → LeadsOn b start fixed hop → Left b start fixed hop.rest
left b start fixed hop on =
    let p : List ℕ = drop (start + fixed) b in
    let tail : (front : List ℕ) × (p ≡ front ++ hop.rest) = tail_of p hop on.readable on.has_hop on.leads in
    let len : length p ≡ length tail.0 + length hop.rest = ap (λ (z : List ℕ). length z) tail.1 ∙ length-append tail.0 hop.rest in
    let whole : length p ≡ length b - (start + fixed) = length-drop (start + fixed) b in
    let within : start + fixed ≤ length b = on.within in
    let most : length p ≤ 510 = on.readable.0 in
    let place : length b - length hop.rest ≡ (start + fixed) + length tail.0 = omega arith in record {
      within = omega arith;
      most = omega arith;
      stands =
          ap (λ (i : ℕ). drop i b) place ∙ sym (drop-drop (length tail.0) (start + fixed) b) ∙ ap (λ (z : List ℕ). drop (length tail.0) z) tail.1
          ∙ drop_at tail.0 hop.rest (length tail.0) refl;
    }

-- ---- closing up

-- what stands in its place already
pub stays : (b : List ℕ) (from count to : ℕ) → from ≡ to → from + count ≤ length b → b ≡ copy_within b from (from + count) to
stays b from count to e le =
    let m : ℕ = (from + count) - from in
    let others : drop from b ≡ take m (drop from b) ++ drop (from + m) b =
    sym (take-append-drop m (drop from b)) ∙ ap (λ (z : List ℕ). take m (drop from b) ++ z) (drop-drop m from b) in
    sym (take-append-drop from b) ∙ ap (λ (z : List ℕ). take from b ++ z) others
    ∙ sym (append_assoc (take from b) (take m (drop from b)) (drop (from + m) b))
    ∙ ap (λ (i : ℕ). take i b ++ take m (drop from b) ++ drop (i + m) b) e

-- what is brought to the front
pub brought : (b : List ℕ) (from count : ℕ) → from + count ≤ length b → take count (copy_within b from (from + count) 0) ≡ take count (drop from b)
brought b from count le =
    let m : ℕ = (from + count) - from in
    let same : count ≡ 0 + m = omega arith in
    ap (λ (i : ℕ). take i (copy_within b from (from + count) 0)) same
    ∙ take-paste b 0 (drop from b) m (omega arith) (omega (arith, length-drop from b))
    ∙ ap (λ (i : ℕ). take i (drop from b)) (let h : m ≡ count = omega arith in h)

-- the header over the first bytes
headed : (b c : List ℕ) (n : ℕ) (ys : List ℕ) → 6 ≤ length b → take (6 + n) c ≡ take 6 b ++ ys
    → take (6 + n) (manager_bytes (get_or c 0 0) (drop 6 c)) ≡ manager_bytes (get_or b 0 0) ys
headed b c n ys le e =
    let six : length (take 6 b) ≡ 6 = length-take-le 6 b le in
    let behind : take n (drop 6 c) ≡ ys =
    ap (λ (i : ℕ). take i (drop 6 c)) (let h : n ≡ 6 + n - 6 = omega arith in h)
    ∙ between_is c 6 (6 + n) ∙ ap (λ (z : List ℕ). drop 6 z) e ∙ drop_at (take 6 b) ys 6 six in
    let first : get_or c 0 0 ≡ get_or b 0 0 =
    sym (get_or-take (6 + n) c 0 0 (omega arith)) ∙ ap (λ (z : List ℕ). get_or z 0 0) e
    ∙ index_front (take 6 b) ys 0 (omega arith) ∙ get_or-take 6 b 0 0 (omega arith) in
    let more : 6 + n ≡ suc (suc (suc (suc (suc (suc n))))) = omega arith in
    ap (λ (i : ℕ). take i (manager_bytes (get_or c 0 0) (drop 6 c))) more
    ∙ ap (λ (z : List ℕ). manager_bytes (get_or c 0 0) z) behind ∙ ap (λ (v : ℕ). manager_bytes v ys) first

pub closed_up : (b c : List ℕ) (start fixed left : ℕ) → 6 ≤ start → start + fixed + left ≤ length b
    → c ≡ copy_within (copy_within b start (start + fixed) 6) (length b - left) (length b) (6 + fixed)
    → take (6 + fixed + left) (manager_bytes (get_or c 0 0) (drop 6 c)) ≡ manager_bytes (get_or b 0 0) (take fixed (drop start b) ++ drop (length b - left) b)
closed_up b c start fixed left header within e =
    let d : List ℕ = copy_within b start (start + fixed) 6 in
    let m : ℕ = (start + fixed) - start in
    let n : ℕ = length b - (length b - left) in
    let m_is : m ≡ fixed = omega arith in
    let n_is : n ≡ left = omega arith in
    let from : length (drop start b) ≡ length b - start = length-drop start b in
    let len : length d ≡ length b = length-paste b 6 (drop start b) m (omega arith) (omega arith) in
    let front : take (6 + m) d ≡ take 6 b ++ take m (drop start b) = take-paste b 6 (drop start b) m (omega arith) (omega arith) in
    let back : drop (6 + m) d ≡ drop (6 + m) b = drop-paste b 6 (drop start b) m (omega arith) (omega arith) in
    let j : ℕ = (length b - left) - (6 + m) in
    let split : length b - left ≡ (6 + m) + j = omega arith in
    let behind : drop (length b - left) d ≡ drop (length b - left) b =
    ap (λ (i : ℕ). drop i d) split ∙ sym (drop-drop j (6 + m) d) ∙ ap (λ (z : List ℕ). drop j z) back ∙ drop-drop j (6 + m) b
    ∙ ap (λ (i : ℕ). drop i b) (sym split) in
    let last : length (drop (length b - left) d) ≡ length b - (length b - left) = ap (λ (z : List ℕ). length z) behind ∙ length-drop (length b - left) b in
    let whole : take ((6 + fixed) + n) c ≡ take (6 + fixed) d ++ take n (drop (length b - left) d) =
    ap (λ (z : List ℕ). take ((6 + fixed) + n) z) e ∙ take-paste d (6 + fixed) (drop (length b - left) d) n (omega arith) (omega arith) in
    let start_is : take (6 + fixed) d ≡ take 6 b ++ take fixed (drop start b) =
    subst (λ (i : ℕ). take (6 + i) d ≡ take 6 b ++ take i (drop start b)) m_is front in
    let end_is : take n (drop (length b - left) d) ≡ drop (length b - left) b =
    ap (λ (z : List ℕ). take n z) behind ∙ take_all n (drop (length b - left) b) (omega (arith, length-drop (length b - left) b)) in
    let parts : take (6 + (fixed + left)) c ≡ take 6 b ++ (take fixed (drop start b) ++ drop (length b - left) b) =
    ap (λ (i : ℕ). take i c) (let h : 6 + (fixed + left) ≡ (6 + fixed) + n = omega arith in h)
    ∙ whole ∙ ap (λ (z : List ℕ). z ++ take n (drop (length b - left) d)) start_is
    ∙ ap (λ (z : List ℕ). (take 6 b ++ take fixed (drop start b)) ++ z) end_is
    ∙ append_assoc (take 6 b) (take fixed (drop start b)) (drop (length b - left) b) in
    ap (λ (i : ℕ). take i (manager_bytes (get_or c 0 0) (drop 6 c))) (let h : 6 + fixed + left ≡ 6 + (fixed + left) = omega arith in h)
    ∙ headed b c (fixed + left) (take fixed (drop start b) ++ drop (length b - left) b) (omega arith) parts
