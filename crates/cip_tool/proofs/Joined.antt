-- What each segment adds is what its words are joined to.
use Rattle.std.proofs.Common.{◌≡◌, ℕ, ◌++◌, ◌∷◌, List, [], sym, ap, ◌∙◌, append_assoc, append-nil, ◌+◌, ◌<◌, ◌≤◌, length, get_or, take, drop, Result, Ok, Err}
use Rattle.std.specs.Prelude.{decimal, codes, All, IfOk, OnOk}
use Rattle.std.specs.List.{join_with_byte}
use Rattle.std.proofs.lemmas.List.{drop_all, drop_more, take_all}
use Rattle.std.proofs.lemmas.List.Elements.{All-cons}
use Rattle.hex.specs.Hex.{encode_upper}
use Rattle.cip_segment.specs.declared.segment.Segment.{Segment}
use Rattle.cip_segment.specs.declared.segment.Segment.TheVariants.{Port, Class, Instance, Member, Point, Attribute, Key, Words, Symbol, Inhibit}
use Rattle.cip_segment.specs.Short.{IsRanged, IsWritable}
use Rattle.cip_segment.specs.Reading.{segments_of}
use Rattle.cip_tool.specs.declared.spelling.Behind.{Behind}
use Rattle.cip_tool.specs.declared.spelling.Behind.TheVariants as behind
use Rattle.cip_tool.specs.Spelling.{address_text, symbol_text, object_text, key_text, words_of, spelling_of, HasBytes}
use Rattle.cip_tool.specs.Pieces.{alone, piece, next, others}
use Rattle.cip_tool.specs.Routes.{IsSpelling}
use Rattle.cip_tool.proofs.Spelled.{spelling_back}

joined_others : (word : List ℕ) (s : List Segment) → join_with_byte 44 (word ∷ words_of s) ≡ word ++ others behind.Other s
unfolding words_of others
joined_others word [] = sym (append-nil word)
joined_others word (Class c ∷ Instance i ∷ Attribute a ∷ rest) = rw (joined_others (object_text (c ∷ i ∷ a ∷ [])) rest) (simp append_assoc)
joined_others word (Class c ∷ Instance i ∷ rest) = rw (joined_others (object_text (c ∷ i ∷ [])) rest) (simp append_assoc)
joined_others word (Class c ∷ rest) = rw (joined_others (object_text (c ∷ [])) rest) (simp append_assoc)
joined_others word (Port port address ∷ rest) = rw (joined_others (address_text address) rest) (simp append_assoc)
joined_others word (Instance n ∷ rest) = rw (joined_others (codes "instance=" ++ decimal n) rest) (simp append_assoc)
joined_others word (Member n ∷ rest) = rw (joined_others (codes "member=" ++ decimal n) rest) (simp append_assoc)
joined_others word (Point n ∷ rest) = rw (joined_others (codes "point=" ++ decimal n) rest) (simp append_assoc)
joined_others word (Attribute n ∷ rest) = rw (joined_others (codes "attribute=" ++ decimal n) rest) (simp append_assoc)
joined_others word (Inhibit n ∷ rest) = rw (joined_others (codes "inhibit=" ++ decimal n) rest) (simp append_assoc)
joined_others word (Key key ∷ rest) = rw (joined_others (key_text key) rest) (simp append_assoc)
joined_others word (Words bytes ∷ rest) = rw (joined_others (codes "data=" ++ encode_upper bytes) rest) (simp append_assoc)
joined_others word (Symbol bytes ∷ rest) = rw (joined_others (codes "symbol=" ++ symbol_text bytes) rest) (simp append_assoc)

behind_comma : (words : List (List ℕ)) (more : List ℕ) → join_with_byte 44 ([] ∷ words) ≡ 44 ∷ more → join_with_byte 44 words ≡ more
behind_comma [] more e = absurd cc
behind_comma (word ∷ words) more e = cc

-- the first segment stands by itself, and the others behind it
pub first_others : (g : Segment) (rest : List Segment) → spelling_of (g ∷ rest) ≡ alone g ++ others (next behind.Other g) rest
unfolding others
first_others g rest = behind_comma (words_of (g ∷ rest)) (alone g ++ others (next behind.Other g) rest) (joined_others [] (g ∷ rest))

pub first_put : (old text : List ℕ) (g : Segment) (rest s : List Segment) (b : Behind) → s ≡ g ∷ rest → text ≡ old ++ alone g → b ≡ next behind.Other g
    → text ++ others b rest ≡ old ++ spelling_of s
first_put old text g rest s b same put is = rw (same, put, is, first_others g rest) (simp append_assoc)

pub next_put : (all old new : List ℕ) (rest : List Segment) (i : ℕ) (g : Segment) (b c : Behind) → i < length rest → g ≡ get_or rest i g
    → new ≡ old ++ piece b g → c ≡ next b g → old ++ others b (drop i rest) ≡ all → new ++ others c (drop (i + 1) rest) ≡ all
unfolding others
next_put all old new rest i g b c h at put is before =
    let split : drop i rest ≡ g ∷ drop (i + 1) rest = drop_more rest i g h ∙ ap (λ (k : Segment). k ∷ drop (i + 1) rest) (sym at) in
    let more : old ++ (piece b g ++ others (next b g) (drop (i + 1) rest)) ≡ all = rw split at before in
    rw (put, is, append_assoc) more

pub all_put : (all text : List ℕ) (rest : List Segment) (i : ℕ) (b : Behind) → length rest ≤ i → text ++ others b (drop i rest) ≡ all → text ≡ all
unfolding others
all_put all text rest i b h before = rw (drop_all i rest h, append-nil) at before

-- what holds of the first and of all behind it
pub all_first : (P : Segment → Type 0) (s : List Segment) (g : Segment) (rest : List Segment) (i : ℕ) → s ≡ g ∷ rest → P g → length rest ≤ i
    → All P (take i rest) → All P s
all_first P s g rest i same here h each =
    let behind_it : All P rest = rw (take_all i rest h) at each in
    rw same (All-cons P g rest here behind_it)

-- a spelling is read as the segments of the path
pub read_back : {T E : Type 0} (view : T → List ℕ) (path : List ℕ) (r : Result T E) (s items : List Segment) → s ≡ items → items ≡ segments_of path
    → IfOk r (λ t. view t ≡ spelling_of s) → OnOk r (All IsRanged s) → OnOk r (All HasBytes s) → All IsWritable items
    → IfOk r (λ t. IsSpelling path (view t))
read_back view path (Ok t) s items value gives h k m w =
    let writable : All IsWritable s = rw value w in
    rw h (spelling_back s k m writable ∙ ap Ok (value ∙ gives))
read_back view path (Err e) s items value gives h k m w = tt
