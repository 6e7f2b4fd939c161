-- The first hop is that of the segments that a path spells.
use Rattle.std.proofs.Common.{◌≡◌, ℕ, ◌↔◌, List, [], ◌∷◌, ◌++◌, Option, Some, None, refl, sym, ap, subst, ◌∙◌}
use Rattle.std.specs.Prelude.{IfSome, IsSome}
use Rattle.cip_base.specs.Fields.{IsBytes}
use Rattle.cip_base.specs.declared.key.KeyFields.{KeyFields}
use Rattle.cip_segment.specs.declared.segment.Segment.{Segment}
use Rattle.cip_segment.specs.declared.segment.Segment.TheVariants.{Port, Class, Instance, Member, Point, Attribute, Key, Words, Symbol, Inhibit}
use Rattle.cip_segment.specs.declared.segment.SegmentView.{SegmentView}
use Rattle.cip_segment.specs.declared.segment.SegmentView.TheVariants as views
use Rattle.cip_segment.specs.Seen.{segment_of}
use Rattle.cip_segment.specs.Spelling.{IsForm, Spells, IsReadable, Splits}
use Rattle.cip_segment.specs.Hop.{IsHop, HasHop}
use Rattle.cip_segment.specs.Reading.{segments_of, behind, IsSplit, HopAt, port_in, hop_in, hop_of}
use Rattle.cip_segment.proofs.Paths.{Splits-readable}
use Rattle.cip_segment.proofs.PathsRead.{split, segments_of-Spells, segments_of-spelled}

abbrev no_hop : Option HopAt
no_hop = None

-- the hop by the segment that stands first, with what follows it
abbrev pub port_first : Option KeyFields → Segment → List ℕ → Option HopAt
port_first key (Port q a) y = Some (record { key = key; port = q; address = a; rest = y })
port_first key g y = None

abbrev pub hop_first : Segment → List ℕ → Option HopAt
hop_first (Key k) y = port_in (Some k) (segments_of y) y
hop_first g y = port_first None g y

port_in-cons : (key : Option KeyFields) (g : Segment) (t : List Segment) (b : List ℕ) → port_in key (g ∷ t) b ≡ port_first key g (behind b)
port_in-cons key (Port q a) t b = refl
port_in-cons key (Class n) t b = refl
port_in-cons key (Instance n) t b = refl
port_in-cons key (Member n) t b = refl
port_in-cons key (Point n) t b = refl
port_in-cons key (Attribute n) t b = refl
port_in-cons key (Key k) t b = refl
port_in-cons key (Words d) t b = refl
port_in-cons key (Symbol d) t b = refl
port_in-cons key (Inhibit n) t b = refl

pub port_in-split : (key : Option KeyFields) (b y : List ℕ) (g : Segment) → IsSplit b g y → port_in key (segments_of b) b ≡ port_first key g y
port_in-split key b y g s =
    ap (λ (t : List Segment). port_in key t b) s.segments ∙ port_in-cons key g (segments_of y) b ∙ ap (λ (z : List ℕ). port_first key g z) (sym s.rest_is)

hop_in-cons : (g : Segment) (y b : List ℕ) → y ≡ behind b → hop_in (g ∷ segments_of y) b ≡ hop_first g y
hop_in-cons (Port q a) y b e = ap (λ (z : List ℕ). port_first None (Port q a) z) (sym e)
hop_in-cons (Class n) y b e = refl
hop_in-cons (Instance n) y b e = refl
hop_in-cons (Member n) y b e = refl
hop_in-cons (Point n) y b e = refl
hop_in-cons (Attribute n) y b e = refl
hop_in-cons (Key k) y b e = ap (λ (z : List ℕ). port_in (Some k) (segments_of y) z) (sym e)
hop_in-cons (Words d) y b e = refl
hop_in-cons (Symbol d) y b e = refl
hop_in-cons (Inhibit n) y b e = refl

pub hop_of-split : (b y : List ℕ) (g : Segment) → IsSplit b g y → hop_of b ≡ hop_first g y
unfolding hop_of
hop_of-split b y g s = ap (λ (t : List Segment). hop_in t b) s.segments ∙ hop_in-cons g y b s.rest_is

pub hop_of-none : (b : List ℕ) → segments_of b ≡ [] → hop_of b ≡ no_hop
unfolding hop_of
hop_of-none b e = ap (λ (t : List Segment). hop_in t b) e

-- a segment that is no port has no hop
pub seen_other : (key : Option KeyFields) (v : SegmentView) (y : List ℕ) → ((q : ℕ) (a : _) → v ≡ views.Port q a → ⊥)
    → port_first key (segment_of v) y ≡ no_hop
seen_other key (views.Port q a) y other = absurd (other q a refl)
seen_other key (views.Class n) y other = refl
seen_other key (views.Instance n) y other = refl
seen_other key (views.Member n) y other = refl
seen_other key (views.Point n) y other = refl
seen_other key (views.Attribute n) y other = refl
seen_other key (views.Key k) y other = refl
seen_other key (views.Words d) y other = refl
seen_other key (views.Symbol d) y other = refl
seen_other key (views.Inhibit n) y other = refl

-- nor has one that is neither a port nor a key
pub seen_neither : (v : SegmentView) (y : List ℕ) → ((q : ℕ) (a : _) → v ≡ views.Port q a → ⊥) → ((k : KeyFields) → v ≡ views.Key k → ⊥)
    → hop_first (segment_of v) y ≡ no_hop
seen_neither (views.Port q a) y other none = absurd (other q a refl)
seen_neither (views.Class n) y other none = refl
seen_neither (views.Instance n) y other none = refl
seen_neither (views.Member n) y other none = refl
seen_neither (views.Point n) y other none = refl
seen_neither (views.Attribute n) y other none = refl
seen_neither (views.Key k) y other none = absurd (none k refl)
seen_neither (views.Words d) y other none = refl
seen_neither (views.Symbol d) y other none = refl
seen_neither (views.Inhibit n) y other none = refl

-- ---- the relation and what is read

abbrev hop_at : Option KeyFields → ℕ → List ℕ → List ℕ → Option HopAt
hop_at key q a r = Some (record { key = key; port = q; address = a; rest = r })

pub hop_of-IsHop : (b : List ℕ) (key : Option KeyFields) (q : ℕ) (a r : List ℕ) → IsReadable b → IsHop b key q a r → hop_of b ≡ hop_at key q a r
hop_of-IsHop b None q a r read (k, h, parts, none, port, readable) =
    hop_of-split b r (Port q a) (split b r (Port q a) read (h, parts ∙ ap (λ (z : List ℕ). z ++ (h ++ r)) none, port))
hop_of-IsHop b (Some f) q a r read (k, h, parts, key, port, readable) =
    let first : Splits b (Key f) (h ++ r) = (k, parts, key) in
    let after : IsReadable (h ++ r) = Splits-readable b (h ++ r) (Key f) first read in
    hop_of-split b (h ++ r) (Key f) (split b (h ++ r) (Key f) read first)
    ∙ port_in-split (Some f) (h ++ r) r (Port q a) (split (h ++ r) r (Port q a) after (h, refl, port))

-- what is found is a hop
abbrev IsHopOf : List ℕ → Option HopAt → Type 0
IsHopOf b None = Unit {0}
IsHopOf b (Some h) = IsHop b h.key h.port h.address h.rest

keyed_hop : (k : KeyFields) (b x y : List ℕ) (g : Segment) (z w : List ℕ) → b ≡ x ++ y → IsForm x (Key k) → y ≡ z ++ w → IsForm z g → IsReadable w
    → IsHopOf b (port_first (Some k) g w)
keyed_hop k b x y (Port q a) z w parts key after form rest = (x, z, parts ∙ ap (λ (t : List ℕ). x ++ t) after, key, form, rest)
keyed_hop k b x y (Class n) z w parts key after form rest = tt
keyed_hop k b x y (Instance n) z w parts key after form rest = tt
keyed_hop k b x y (Member n) z w parts key after form rest = tt
keyed_hop k b x y (Point n) z w parts key after form rest = tt
keyed_hop k b x y (Attribute n) z w parts key after form rest = tt
keyed_hop k b x y (Key n) z w parts key after form rest = tt
keyed_hop k b x y (Words d) z w parts key after form rest = tt
keyed_hop k b x y (Symbol d) z w parts key after form rest = tt
keyed_hop k b x y (Inhibit n) z w parts key after form rest = tt

behind_the_key : (k : KeyFields) (t : List Segment) (b x y : List ℕ) → IsReadable y → b ≡ x ++ y → IsForm x (Key k) → Spells y t
    → IsHopOf b (port_in (Some k) (segments_of y) y)
behind_the_key k [] b x y read parts key none = subst (λ (s : List Segment). IsHopOf b (port_in (Some k) s y)) (sym (segments_of-Spells y [] read none)) tt
behind_the_key k (g ∷ t) b x y read parts key (z, w, after, form, others) =
    let s : Splits y g w = (z, after, form) in
    subst (λ (o : Option HopAt). IsHopOf b o) (sym (port_in-split (Some k) y w g (split y w g read s)))
    (keyed_hop k b x y g z w parts key after form (Splits-readable y w g s read))

first_is_hop : (g : Segment) (t : List Segment) (b x y : List ℕ) → IsReadable b → b ≡ x ++ y → IsForm x g → Spells y t → IsHopOf b (hop_first g y)
first_is_hop (Port q a) t b x y read parts form others = ([], x, parts, refl, form, Splits-readable b y (Port q a) (x, parts, form) read)
first_is_hop (Class n) t b x y read parts form others = tt
first_is_hop (Instance n) t b x y read parts form others = tt
first_is_hop (Member n) t b x y read parts form others = tt
first_is_hop (Point n) t b x y read parts form others = tt
first_is_hop (Attribute n) t b x y read parts form others = tt
first_is_hop (Key k) t b x y read parts form others = behind_the_key k t b x y (Splits-readable b y (Key k) (x, parts, form) read) parts form others
first_is_hop (Words d) t b x y read parts form others = tt
first_is_hop (Symbol d) t b x y read parts form others = tt
first_is_hop (Inhibit n) t b x y read parts form others = tt

spelled_hop : (s : List Segment) (b : List ℕ) → IsReadable b → Spells b s → IsHopOf b (hop_of b)
spelled_hop [] b read none = subst (λ (o : Option HopAt). IsHopOf b o) (sym (hop_of-none b (segments_of-Spells b [] read none))) tt
spelled_hop (g ∷ t) b read (x, y, parts, form, others) =
    subst (λ (o : Option HopAt). IsHopOf b o) (sym (hop_of-split b y g (split b y g read (x, parts, form)))) (first_is_hop g t b x y read parts form others)

-- what hop_of finds in a list of bytes is the hop of the relation
pub hop_of-Some : (b : List ℕ) (h : HopAt) → IsBytes b → IsReadable b → hop_of b ≡ Some h → IsHop b h.key h.port h.address h.rest
hop_of-Some b h fits read e = subst (λ (o : Option HopAt). IsHopOf b o) e (spelled_hop (segments_of b) b read (segments_of-spelled b fits read))

-- a path that has a hop has it there
pub hop_of-HasHop : (b : List ℕ) → IsReadable b → HasHop b → (h : HopAt) × (hop_of b ≡ Some h)
hop_of-HasHop b read (key, q, a, r, hop) = (record { key = key; port = q; address = a; rest = r }, hop_of-IsHop b key q a r read hop)

pub HasHop-Some : (b : List ℕ) (h : HopAt) → IsBytes b → IsReadable b → hop_of b ≡ Some h → HasHop b
HasHop-Some b h fits read e = (h.key, h.port, h.address, h.rest, hop_of-Some b h fits read e)

-- ---- what is left behind the hop

abbrev Left : Option HopAt → List ℕ → Type 0
Left o r = IfSome o (λ hop. r ≡ hop.rest)

port_left : (key : Option KeyFields) (s : List Segment) (y r : List ℕ) → r ≡ behind y → Left (port_in key s y) r
port_left key [] y r e = tt
port_left key (Port q a ∷ t) y r e = e
port_left key (Class n ∷ t) y r e = tt
port_left key (Instance n ∷ t) y r e = tt
port_left key (Member n ∷ t) y r e = tt
port_left key (Point n ∷ t) y r e = tt
port_left key (Attribute n ∷ t) y r e = tt
port_left key (Key n ∷ t) y r e = tt
port_left key (Words d ∷ t) y r e = tt
port_left key (Symbol d ∷ t) y r e = tt
port_left key (Inhibit n ∷ t) y r e = tt

pub left_of_key : (b y r : List ℕ) (k : KeyFields) → IsSplit b (Key k) y → r ≡ behind y → IfSome (hop_of b) (λ hop. r ≡ hop.rest)
left_of_key b y r k s e = subst (λ (o : Option HopAt). Left o r) (sym (hop_of-split b y (Key k) s)) (port_left (Some k) (segments_of y) y r e)

first_left : (v : SegmentView) (y : List ℕ) → ((k : KeyFields) → v ≡ views.Key k → ⊥) → Left (hop_first (segment_of v) y) y
first_left (views.Port q a) y none = refl
first_left (views.Class n) y none = tt
first_left (views.Instance n) y none = tt
first_left (views.Member n) y none = tt
first_left (views.Point n) y none = tt
first_left (views.Attribute n) y none = tt
first_left (views.Key k) y none = absurd (none k refl)
first_left (views.Words d) y none = tt
first_left (views.Symbol d) y none = tt
first_left (views.Inhibit n) y none = tt

pub left_of_other : (b y : List ℕ) (v : SegmentView) → ((k : KeyFields) → v ≡ views.Key k → ⊥) → IsSplit b (segment_of v) y
    → IfSome (hop_of b) (λ hop. y ≡ hop.rest)
left_of_other b y v none s = subst (λ (o : Option HopAt). Left o y) (sym (hop_of-split b y (segment_of v) s)) (first_left v y none)

-- ---- the laws

pub hop_both : (b : List ℕ) (h : HopAt) → IsBytes b → IsReadable b → ((hop_of b ≡ Some h) ↔ IsHop b h.key h.port h.address h.rest)
hop_both b h fits read = (hop_of-Some b h fits read, hop_of-IsHop b h.key h.port h.address h.rest read)

some_hop : (b : List ℕ) (o : Option HopAt) → ((h : HopAt) → o ≡ Some h → HasHop b) → IsSome o → HasHop b
some_hop b (Some h) has is = has h refl
some_hop b None has is = absurd cc

pub hop_has : (b : List ℕ) → IsBytes b → IsReadable b → (HasHop b ↔ IsSome (hop_of b))
hop_has b fits read = (
  λ has. let found = hop_of-HasHop b read has in subst (λ (o : Option HopAt). IsSome o) (sym found.1) refl,
  some_hop b (hop_of b) (λ h e. HasHop-Some b h fits read e),
)
