-- Words of a path, one after the other.
use Rattle.std.proofs.Common.{◌≡◌, ℕ, ◌+◌, ◌≤◌, Bool, true, false, List, [], ◌∷◌, ◌++◌, refl, sym, ap, ◌∙◌, append_assoc, append-nil, Result, Ok, Err, arith}
use Rattle.std.proofs.Common.{drop, length, Bor, MatchResult}
use Rattle.std.proofs.lemmas.List.{drop_all}
use Rattle.cip_segment.specs.declared.segment.Segment.{Segment}
use Rattle.cip_tool.specs.declared.fault.WordFault.{WordFault}
use Rattle.cip_tool.specs.declared.fault.RouteFault.{RouteFault}
use Rattle.cip_tool.specs.declared.fault.RouteFault.TheVariants.{NoMemory, TooLong, Word}
use Rattle.cip_tool.specs.Words.{port_of, texts}
use Rattle.cip_tool.specs.Routes.{Routed, before, joined, placed, is_segment, segments_of, hop_at, lone_by, words_from, IsTaken, RouteFails}

before_none : (more : List Segment) → Ok more ≡ before more (Ok [])
before_none more = ap Ok (sym (append-nil more))

pub before_more : (found more : List Segment) (rest : Routed) → before found (before more rest) ≡ before (found ++ more) rest
before_more found more (Ok others) = ap Ok (sym (append_assoc found more others))
before_more found more (Err e) = refl

pub none_before : (rest : Routed) → before [] rest ≡ rest
none_before (Ok others) = refl
none_before (Err e) = refl

-- a word that names segments by itself
pub segment_first : (n : ℕ) (word : List ℕ) (rest : List (List ℕ)) (more : List Segment) → is_segment word ≡ true → placed n (segments_of word) ≡ Ok more
    → words_from n (word ∷ rest) ≡ before more (words_from (n + 1) rest)
unfolding words_from
segment_first n word [] more is e = rw is (e ∙ before_none more)
segment_first n word (next ∷ rest) more is e = rw (is, e) refl

pub segment_faulty : (n : ℕ) (word : List ℕ) (rest : List (List ℕ)) (fault : ℕ × WordFault) → is_segment word ≡ true → placed n (segments_of word) ≡ Err fault
    → words_from n (word ∷ rest) ≡ Err fault
unfolding words_from
segment_faulty n word [] fault is e = rw is e
segment_faulty n word (next ∷ rest) fault is e = rw (is, e) refl

-- a port and its address
pub hop_first : (n : ℕ) (word next : List ℕ) (rest : List (List ℕ)) (more : List Segment) → is_segment word ≡ false → hop_at n word next ≡ Ok more
    → words_from n (word ∷ next ∷ rest) ≡ before more (words_from (n + 2) rest)
unfolding words_from
hop_first n word next rest more is e = rw (is, e) refl

pub hop_faulty : (n : ℕ) (word next : List ℕ) (rest : List (List ℕ)) (fault : ℕ × WordFault) → is_segment word ≡ false → hop_at n word next ≡ Err fault
    → words_from n (word ∷ next ∷ rest) ≡ Err fault
unfolding words_from
hop_faulty n word next rest fault is e = rw (is, e) refl

pub lone_last : (n : ℕ) (word : List ℕ) → is_segment word ≡ false → words_from n (word ∷ []) ≡ lone_by n (port_of word)
unfolding words_from
lone_last n word is = rw is refl

pub none_left : (n : ℕ) → words_from n [] ≡ Ok []
unfolding words_from
none_left n = refl

pub taken_one : (n : ℕ) (words : List (Bor (List ℕ))) (w : Bor (List ℕ)) (after : List (Bor (List ℕ))) (old more new : List Segment) → words ≡ w ∷ after
    → is_segment w.now ≡ true → placed n (segments_of w.now) ≡ Ok more → new ≡ old ++ more → IsTaken n words 1 old new
taken_one n words w after old more new e is got sum = rw (e, sum) (record {
  some = omega arith;
  within = omega arith;
  same = ap (before old) (segment_first n w.now (texts after) more is got) ∙ before_more old more (words_from (n + 1) (texts after));
})

pub taken_two : (n : ℕ) (words : List (Bor (List ℕ))) (w a : Bor (List ℕ)) (after : List (Bor (List ℕ))) (old more new : List Segment) → words ≡ w ∷ a ∷ after
    → is_segment w.now ≡ false → hop_at n w.now a.now ≡ Ok more → new ≡ old ++ more → IsTaken n words 2 old new
taken_two n words w a after old more new e is got sum = rw (e, sum) (record {
  some = omega arith;
  within = omega arith;
  same = ap (before old) (hop_first n w.now a.now (texts after) more is got) ∙ before_more old more (words_from (n + 2) (texts after));
})

pub fails_one : (n : ℕ) (words : List (Bor (List ℕ))) (w : Bor (List ℕ)) (after : List (Bor (List ℕ))) (e : RouteFault) → words ≡ w ∷ after
    → is_segment w.now ≡ true → RouteFails e (placed n (segments_of w.now)) → RouteFails e (words_from n (texts words))
fails_one n words w after NoMemory same is h = tt
fails_one n words w after TooLong same is h = absurd h
fails_one n words w after (Word k f) same is h = rw same (segment_faulty n w.now (texts after) (k, f) is h)

pub fails_two : (n : ℕ) (words : List (Bor (List ℕ))) (w a : Bor (List ℕ)) (after : List (Bor (List ℕ))) (e : RouteFault) → words ≡ w ∷ a ∷ after
    → is_segment w.now ≡ false → RouteFails e (hop_at n w.now a.now) → RouteFails e (words_from n (texts words))
fails_two n words w a after NoMemory same is h = tt
fails_two n words w a after TooLong same is h = absurd h
fails_two n words w a after (Word k f) same is h = rw same (hop_faulty n w.now a.now (texts after) (k, f) is h)

pub fails_lone : (n : ℕ) (words : List (Bor (List ℕ))) (w : Bor (List ℕ)) (e : RouteFault) → words ≡ w ∷ [] → is_segment w.now ≡ false
    → RouteFails e (lone_by n (port_of w.now)) → RouteFails e (words_from n (texts words))
fails_lone n words w e same is h = rw same (rw (lone_last n w.now is) h)

-- what `add` answers
pub added : (r : Result ℕ RouteFault) (count n : ℕ) (words : List (Bor (List ℕ))) (old more new : List Segment)
    → MatchResult r (λ k. (k ≡ count) × (new ≡ old ++ more)) (λ e. e ≡ NoMemory) → (new ≡ old ++ more → IsTaken n words count old new)
    → MatchResult r (λ k. IsTaken n words k old new) (λ e. RouteFails e (words_from n (texts words)))
added (Ok k) count n words old more new h taken = rw h.0 (taken h.1)
added (Err e) count n words old more new h taken = rw h tt

-- where no word is left, all of them are read
pub read_all : (at : ℕ) (words : List (Bor (List ℕ))) (found : List Segment) (all : Routed) → length words ≤ at
    → before found (words_from (at + 1) (texts (drop at words))) ≡ all → all ≡ Ok found
read_all at words found all h e =
    let none = drop_all at words h in
    sym e ∙ rw (none, none_left (at + 1)) (ap Ok (append-nil found))
