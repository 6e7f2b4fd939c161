-- What is left of a path behind its first hop has fewer words than the path, whatever its bytes are: each segment takes two bytes at least.
use Rattle.std.proofs.Common.{◌≡◌, ℕ, ◌*◌, ◌-◌, ◌+◌, ◌/◌, ◌≤◌, ◌<◌, Bool, true, false, cond, List, [], ◌∷◌, length, eqb, ltb, Option, Some, None, Result, Ok}
use Rattle.std.proofs.Common.{Err, refl, ap, arith}
use Rattle.std.specs.Prelude.{◌%◌}
use Rattle.std.proofs.lemmas.List.{length-drop}
use Rattle.cip_base.specs.declared.key.KeyFields.{KeyFields}
use Rattle.cip_segment.specs.declared.fault.PathFault.{PathFault}
use Rattle.cip_segment.specs.declared.fault.PathFault.TheVariants.{BadPad}
use Rattle.cip_segment.specs.declared.segment.Segment.{Segment}
use Rattle.cip_segment.specs.declared.segment.Segment.TheVariants.{Port, Key}
use Rattle.cip_segment.specs.Scan.{◌>>=◌, At, byte_at, word_at, after_pad, bytes_at, padded_at, narrow_at, wide_at, double_at, instance_at, point_at, fields_at}
use Rattle.cip_segment.specs.Scan.{key_at, words_at, symbol_at, inhibit_at, number_at, size_at, plain_port_at, sized_port_at, port_at, other_at, logical_at}
use Rattle.cip_segment.specs.Scan.{segment_at}
use Rattle.cip_segment.specs.Reading.{HopAt, rest_or_none, behind, segments_of, or_none, path_at, segments_within, port_in, hop_in, hop_of}

-- what is left is no longer than what was read
abbrev Falls : {A : Type 0} → List ℕ → At A → Type 0
Falls b (Ok x) = length x.1 ≤ length b
Falls b (Err fault) = Unit {0}

weaker : {A : Type 0} (b c : List ℕ) (r : At A) → length c ≤ length b → Falls c r → Falls b r
weaker b c (Ok x) h k = omega (arith, h, k)
weaker b c (Err fault) h k = tt

then_falls : {A B : Type 0} (b : List ℕ) (r : At A) (f : A × List ℕ → At B) → Falls b r → ((x : A × List ℕ) → Falls x.1 (f x)) → Falls b (r >>= f)
then_falls b (Ok x) f h k = weaker b x.1 (f x) h (k x)
then_falls b (Err fault) f h k = tt

pad_falls : {B : Type 0} (b : List ℕ) (f : List ℕ → At B) → ((c : List ℕ) → Falls c (f c)) → Falls b (after_pad b >>= f)
pad_falls [] f k = tt
pad_falls (p ∷ rest) f k = elim (eqb p 0) as (λ t. Falls (p ∷ rest) (cond t (Ok rest) (Err BadPad) >>= f)) [
  | true ↦ weaker (p ∷ rest) rest (f rest) (omega arith) (k rest)
  | false ↦ tt
]

either : {A : Type 0} (t : Bool) (b : List ℕ) (r s : At A) → Falls b r → Falls b s → Falls b (cond t r s)
either true b r s h k = h
either false b r s h k = k

byte_falls : (b : List ℕ) → Falls b (byte_at b)
byte_falls [] = tt
byte_falls (n ∷ rest) = omega arith

word_falls : (b : List ℕ) → Falls b (word_at b)
word_falls [] = tt
word_falls (low ∷ []) = tt
word_falls (low ∷ high ∷ rest) = omega arith

double_falls : (b : List ℕ) → Falls b (double_at b)
unfolding double_at
double_falls b = then_falls b (word_at b) _ (word_falls b) (λ low. then_falls low.1 (word_at low.1) _ (word_falls low.1) (λ high. omega arith))

bytes_falls : (n : ℕ) (b : List ℕ) → Falls b (bytes_at n b)
unfolding bytes_at
bytes_falls n b = either (ltb (length b) n) b (Err _) (Ok _) tt (let len = length-drop n b in omega (arith, len))

padded_falls : (n : ℕ) (b : List ℕ) → Falls b (padded_at n b)
unfolding padded_at
padded_falls n b =
    then_falls b (bytes_at n b) _ (bytes_falls n b)
    (λ d. either (eqb (n % 2) 1) d.1 (after_pad d.1 >>= λ rest. Ok (d.0, rest)) (Ok d) (pad_falls d.1 (λ rest. Ok (d.0, rest)) (λ c. omega arith))
    (omega arith))

fields_falls : (b : List ℕ) → Falls b (fields_at b)
unfolding fields_at
fields_falls b =
    then_falls b (word_at b) _ (word_falls b) (λ v.
    then_falls v.1 (word_at v.1) _ (word_falls v.1) (λ t.
    then_falls t.1 (word_at t.1) _ (word_falls t.1) (λ p.
    then_falls p.1 (byte_at p.1) _ (byte_falls p.1) (λ major.
    then_falls major.1 (byte_at major.1) _ (byte_falls major.1) (λ minor. omega arith)))))

number_falls : (low : ℕ) (b : List ℕ) → Falls b (number_at low b)
unfolding number_at
number_falls low b =
    either (eqb low 15) b _ (Ok (low, b))
    (then_falls b (word_at b) _ (word_falls b) (λ q. either (eqb q.0 0) q.1 (Err _) (Ok q) tt (omega arith))) (omega arith)

-- ---- what is left is shorter than what was read

abbrev Takes : {A : Type 0} → List ℕ → At A → Type 0
Takes b (Ok x) = length x.1 < length b
Takes b (Err fault) = Unit {0}

shorter : {A : Type 0} (b c : List ℕ) (r : At A) → length c < length b → Falls c r → Takes b r
shorter b c (Ok x) h k = omega (arith, h, k)
shorter b c (Err fault) h k = tt

longer : {A : Type 0} (b c : List ℕ) (r : At A) → length c ≤ length b → Takes c r → Takes b r
longer b c (Ok x) h k = omega (arith, h, k)
longer b c (Err fault) h k = tt

takes_then : {A B : Type 0} (b : List ℕ) (r : At A) (f : A × List ℕ → At B) → Takes b r → ((x : A × List ℕ) → Falls x.1 (f x)) → Takes b (r >>= f)
takes_then b (Ok x) f h k = shorter b x.1 (f x) h (k x)
takes_then b (Err fault) f h k = tt

then_takes : {A B : Type 0} (b : List ℕ) (r : At A) (f : A × List ℕ → At B) → Falls b r → ((x : A × List ℕ) → Takes x.1 (f x)) → Takes b (r >>= f)
then_takes b (Ok x) f h k = longer b x.1 (f x) h (k x)
then_takes b (Err fault) f h k = tt

pad_takes : {B : Type 0} (b : List ℕ) (f : List ℕ → At B) → ((c : List ℕ) → Falls c (f c)) → Takes b (after_pad b >>= f)
pad_takes [] f k = tt
pad_takes (p ∷ rest) f k = elim (eqb p 0) as (λ t. Takes (p ∷ rest) (cond t (Ok rest) (Err BadPad) >>= f)) [
  | true ↦ shorter (p ∷ rest) rest (f rest) (omega arith) (k rest)
  | false ↦ tt
]

or_takes : {A : Type 0} (t : Bool) (b : List ℕ) (r s : At A) → Takes b r → Takes b s → Takes b (cond t r s)
or_takes true b r s h k = h
or_takes false b r s h k = k

byte_takes : (b : List ℕ) → Takes b (byte_at b)
byte_takes [] = tt
byte_takes (n ∷ rest) = omega arith

one_takes : (b : List ℕ) → Takes b (bytes_at 1 b)
unfolding bytes_at
one_takes [] = tt
one_takes (n ∷ rest) = or_takes (ltb (length (n ∷ rest)) 1) (n ∷ rest) (Err _) (Ok _) tt (let len = length-drop 1 (n ∷ rest) in omega (arith, len))

narrow_takes : (k : _) (b : List ℕ) → Takes b (narrow_at k b)
unfolding narrow_at
narrow_takes k b = takes_then b (byte_at b) _ (byte_takes b) (λ n. omega arith)

wide_takes : (k : _) (b : List ℕ) → Takes b (wide_at k b)
unfolding wide_at
wide_takes k b = pad_takes b _ (λ c. then_falls c (word_at c) _ (word_falls c) (λ n. omega arith))

instance_takes : (b : List ℕ) → Takes b (instance_at b)
unfolding instance_at
instance_takes b = pad_takes b _ (λ c. then_falls c (double_at c) _ (double_falls c) (λ n. omega arith))

point_takes : (b : List ℕ) → Takes b (point_at b)
unfolding point_at
point_takes b = pad_takes b _ (λ c. then_falls c (double_at c) _ (double_falls c) (λ n. omega arith))

key_takes : (b : List ℕ) → Takes b (key_at b)
unfolding key_at
key_takes b =
    takes_then b (byte_at b) _ (byte_takes b)
    (λ f. either (eqb f.0 4) f.1 (fields_at f.1 >>= λ k. Ok (Key k.0, k.1)) (Err _) (then_falls f.1 (fields_at f.1) _ (fields_falls f.1) (λ k. omega arith)) tt)

words_takes : (b : List ℕ) → Takes b (words_at b)
unfolding words_at
words_takes b = takes_then b (byte_at b) _ (byte_takes b) (λ n. then_falls n.1 (bytes_at (2 * n.0) n.1) _ (bytes_falls (2 * n.0) n.1) (λ d. omega arith))

symbol_takes : (b : List ℕ) → Takes b (symbol_at b)
unfolding symbol_at
symbol_takes b = takes_then b (byte_at b) _ (byte_takes b) (λ n. then_falls n.1 (padded_at n.0 n.1) _ (padded_falls n.0 n.1) (λ d. omega arith))

inhibit_takes : (b : List ℕ) → Takes b (inhibit_at b)
unfolding inhibit_at
inhibit_takes b = takes_then b (byte_at b) _ (byte_takes b) (λ n. omega arith)

size_takes : (b : List ℕ) → Takes b (size_at b)
unfolding size_at
size_takes b =
    takes_then b (byte_at b) _ (byte_takes b)
    (λ n. either (eqb n.0 0) n.1 (Err _) _ tt (either (ltb 16 n.0) n.1 (Err _) (Ok n) tt (omega arith)))

plain_takes : (low : ℕ) (b : List ℕ) → Takes b (plain_port_at low b)
unfolding plain_port_at
plain_takes low b =
    then_takes b (number_at low b) _ (number_falls low b) (λ q. takes_then q.1 (bytes_at 1 q.1) _ (one_takes q.1) (λ a. omega arith))

sized_takes : (low : ℕ) (b : List ℕ) → Takes b (sized_port_at low b)
unfolding sized_port_at
sized_takes low b =
    takes_then b (size_at b) _ (size_takes b) (λ n.
    then_falls n.1 (number_at low n.1) _ (number_falls low n.1) (λ q.
    then_falls q.1 (padded_at n.0 q.1) _ (padded_falls n.0 q.1) (λ a. omega arith)))

port_takes : (h : ℕ) (b : List ℕ) → Takes b (port_at h b)
unfolding port_at
port_takes h b =
    or_takes (eqb (h % 16) 0) b (Err _) _ tt (or_takes (ltb h 16) b (plain_port_at h b) (sized_port_at (h - 16) b) (plain_takes h b) (sized_takes (h - 16) b))

other_takes : (h : ℕ) (b : List ℕ) → Takes b (other_at h b)
unfolding other_at
other_takes h b =
    or_takes (eqb h 0x34) b (key_at b) _ (key_takes b)
    (or_takes (eqb h 0x43) b (inhibit_at b) _ (inhibit_takes b)
    (or_takes (eqb h 0x80) b (words_at b) _ (words_takes b) (or_takes (eqb h 0x91) b (symbol_at b) (Err _) (symbol_takes b) tt)))

logical_takes : (h : ℕ) (b : List ℕ) → Takes b (logical_at h b)
unfolding logical_at
logical_takes h b =
    or_takes (eqb h 0x20) b (narrow_at _ b) _ (narrow_takes _ b)
    (or_takes (eqb h 0x21) b (wide_at _ b) _ (wide_takes _ b)
    (or_takes (eqb h 0x24) b (narrow_at _ b) _ (narrow_takes _ b)
    (or_takes (eqb h 0x25) b (wide_at _ b) _ (wide_takes _ b)
    (or_takes (eqb h 0x26) b (instance_at b) _ (instance_takes b)
    (or_takes (eqb h 0x28) b (narrow_at _ b) _ (narrow_takes _ b)
    (or_takes (eqb h 0x29) b (wide_at _ b) _ (wide_takes _ b)
    (or_takes (eqb h 0x2C) b (narrow_at _ b) _ (narrow_takes _ b)
    (or_takes (eqb h 0x2D) b (wide_at _ b) _ (wide_takes _ b)
    (or_takes (eqb h 0x2E) b (point_at b) _ (point_takes b)
    (or_takes (eqb h 0x30) b (narrow_at _ b) _ (narrow_takes _ b)
    (or_takes (eqb h 0x31) b (wide_at _ b) _ (wide_takes _ b) (other_takes h b))))))))))))

-- ---- behind the first segment

rest_takes : (b : List ℕ) (r : At Segment) → Takes b r → 1 ≤ length b → length (rest_or_none r) < length b
rest_takes b (Ok x) h l = h
rest_takes b (Err fault) h l = omega (arith, l)

-- a byte and one of more take two at least
behind_takes : (v : ℕ) (b : List ℕ) → 1 ≤ length b → length (behind (v ∷ b)) < length b
unfolding behind segment_at
behind_takes v b l =
    rest_takes b (cond (ltb v 32) (port_at v b) (logical_at v b)) (or_takes (ltb v 32) b (port_at v b) (logical_at v b) (port_takes v b) (logical_takes v b)) l

behind_nothing : length (behind []) ≤ 0
unfolding behind segment_at
behind_nothing = omega arith

no_segments : (r : At Segment) (f : Segment × List ℕ → Result (List Segment) PathFault) → Takes [] r → or_none (r >>= f) ≡ []
no_segments (Ok x) f h = absurd (omega (arith, h))
no_segments (Err fault) f h = refl

-- one byte is no segment
one_is_none : (v : ℕ) → segments_of (v ∷ []) ≡ []
unfolding segments_of path_at segments_within segment_at
one_is_none v =
    no_segments (cond (ltb v 32) (port_at v []) (logical_at v [])) _
    (or_takes (ltb v 32) [] (port_at v []) (logical_at v []) (port_takes v []) (logical_takes v []))

none_left : (r : At Segment) → Takes [] r → length (rest_or_none r) ≤ 1
none_left (Ok x) h = omega (arith, h)
none_left (Err fault) h = omega arith

one_left : (v : ℕ) → length (behind (v ∷ [])) ≤ 1
unfolding behind segment_at
one_left v =
    none_left (cond (ltb v 32) (port_at v []) (logical_at v []))
    (or_takes (ltb v 32) [] (port_at v []) (logical_at v []) (port_takes v []) (logical_takes v []))

behind_falls : (b : List ℕ) → length (behind b) ≤ length b
behind_falls [] = behind_nothing
behind_falls (v ∷ []) = one_left v
behind_falls (v ∷ w ∷ b) = let h = behind_takes v (w ∷ b) (omega arith) in omega (arith, h)

port_rest : (key : Option KeyFields) (s : List Segment) (b : List ℕ) (hop : HopAt) → port_in key s b ≡ Some hop → hop.rest ≡ behind b
port_rest key (Port q a ∷ others) b hop e = cc
port_rest key s b hop e = absurd (cc)

in_takes : (s : List Segment) (v : ℕ) (b : List ℕ) (hop : HopAt) → 1 ≤ length b → hop_in s (v ∷ b) ≡ Some hop → length hop.rest < length b
in_takes (Key k ∷ others) v b hop l e =
    let rest = ap (λ (z : List ℕ). length z) (port_rest (Some k) others (behind (v ∷ b)) hop e) in
    let here = behind_takes v b l in
    let there = behind_falls (behind (v ∷ b)) in
    omega (arith, rest, here, there)
in_takes s v b hop l e =
    let rest = ap (λ (z : List ℕ). length z) (port_rest None s (v ∷ b) hop e) in
    let here = behind_takes v b l in
    omega (arith, rest, here)

in_nothing : (s : List Segment) (b : List ℕ) (hop : HopAt) → s ≡ [] → hop_in s b ≡ Some hop → ⊥
in_nothing [] b hop none e = cc
in_nothing (g ∷ s) b hop none e = cc

nothing : segments_of [] ≡ []
unfolding segments_of path_at segments_within
nothing = refl

-- the hop takes two bytes at least
pub hop_takes_two : (path : List ℕ) (hop : HopAt) → hop_of path ≡ Some hop → length hop.rest + 2 ≤ length path
unfolding hop_of
hop_takes_two [] hop e = absurd (in_nothing (segments_of []) [] hop nothing e)
hop_takes_two (v ∷ []) hop e = absurd (in_nothing (segments_of (v ∷ [])) (v ∷ []) hop (one_is_none v) e)
hop_takes_two (v ∷ w ∷ b) hop e = let h = in_takes (segments_of (v ∷ w ∷ b)) v (w ∷ b) hop (omega arith) e in omega (arith, h)

pub words_fall : (path : List ℕ) (hop : HopAt) → hop_of path ≡ Some hop → length hop.rest / 2 < length path / 2
words_fall path hop e = let h = hop_takes_two path hop e in omega (arith, h)

pub hop_shortens : (path : List ℕ) (hop : HopAt) → hop_of path ≡ Some hop → length hop.rest < length path
hop_shortens path hop e = let h = hop_takes_two path hop e in omega (arith, h)
