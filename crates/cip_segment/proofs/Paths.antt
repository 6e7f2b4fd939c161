-- Texts of several segments: the list that is spelled is one, and where reading stops no spelling goes on.
use Rattle.std.proofs.Common.{◌≡◌, ℕ, ◌+◌, ◌<◌, ◌≤◌, inl, inr, List, [], ◌∷◌, ◌++◌, length, get_or, Result}
use Rattle.std.proofs.Common.{Ok, Err, refl, sym, ap, subst, ◌∙◌, append_assoc, append-nil, arith}
use Rattle.std.proofs.Math.Logic.{∥∥₁_map, ∥∥₁_elim}
use Rattle.std.proofs.lemmas.Bool.{cases_eq}
use Rattle.std.proofs.lemmas.List.{length-append, get_or-append-add}
use Rattle.cip_segment.specs.declared.segment.Segment.{Segment}
use Rattle.cip_segment.specs.declared.fault.PathFault.{PathFault}
use Rattle.cip_segment.specs.declared.fault.PathFault.TheVariants.{Truncated, Reserved, BadPad, TooLong, NoMemory}
use Rattle.cip_segment.specs.Spelling.{IsForm, Spells, IsReadable, Begins, StopsAt, IsFault, Splits}
use Rattle.std.specs.Prelude.{IfOk}
use Rattle.cip_segment.specs.Gives.{Gives}
use Rattle.cip_segment.specs.Scan.{At, segment_at}
use Rattle.cip_segment.proofs.Forms.{found, form_scans}
use Rattle.cip_segment.proofs.Verdict.{FormBegins, Refuses, Stops, Verdict, verdict}
use Rattle.cip_base.specs.Fields.{IsBytes}

abbrev failed : PathFault → At Segment
failed f = Err f

abbrev read_as : Segment × List ℕ → At Segment
read_as r = Ok r

found_is : (r t : Segment × List ℕ) → read_as r ≡ read_as t → r ≡ t
found_is r t e = cc

pub nothing_read : segment_at [] ≡ failed Truncated
unfolding segment_at
nothing_read = refl

-- a form has at least one byte
pub form_some : (g : Segment) (x y : List ℕ) → IsForm x g → x ++ y ≡ [] → ⊥
form_some g x y f e =
    let read : failed Truncated ≡ found g y = sym nothing_read ∙ ap segment_at (sym e) ∙ form_scans g x y f in
    cc

pub form_shorter : (g : Segment) (x y : List ℕ) → IsForm x g → length y < length (x ++ y)
form_shorter g [] y f = absurd (form_some g [] [] f refl)
form_shorter g (h ∷ x) y f = omega (arith, length-append x y)

-- no form begins another, so the first segment is one
pub first : (g k : Segment) (x w y z : List ℕ) → IsForm x g → IsForm w k → x ++ y ≡ w ++ z → (g ≡ k) × (y ≡ z)
first g k x w y z f e h =
    let read : found g y ≡ found k z = sym (form_scans g x y f) ∙ ap segment_at h ∙ form_scans k w z e in
    let pair = found_is (g, y) (k, z) read in
    (ap (λ (r : Segment × List ℕ). r.0) pair, ap (λ (r : Segment × List ℕ). r.1) pair)

pub Spells-append : (s t : List Segment) (a b : List ℕ) → Spells a s → Spells b t → Spells (a ++ b) (s ++ t)
Spells-append [] t a b p q = subst (λ (x : List ℕ). Spells (x ++ b) t) (sym p) q
Spells-append (g ∷ s) t a b (x, y, e, f, h) q =
    (x, y ++ b, ap (λ (z : List ℕ). z ++ b) e ∙ append_assoc x y b, f, Spells-append s t y b h q)

-- behind what is spelled stands a spelling of the others
pub cut : (s t : List Segment) (a y : List ℕ) → Spells a s → Spells (a ++ y) t → (others : List Segment) × (t ≡ s ++ others) × Spells y others
cut [] t a y p q = (t, refl, subst (λ (z : List ℕ). Spells (z ++ y) t) p q)
cut (g ∷ s) [] a y (x, z, e, f, h) q =
    absurd (form_some g x (z ++ y) f (sym (append_assoc x z y) ∙ ap (λ (w : List ℕ). w ++ y) (sym e) ∙ q))
cut (g ∷ s) (k ∷ t) a y (x, z, e, f, h) (v, w, d, i, j) =
    let both = first k g v x w (z ++ y) i f (sym d ∙ ap (λ (u : List ℕ). u ++ y) e ∙ append_assoc x z y) in
    let r = cut s t z y h (subst (λ (u : List ℕ). Spells u t) both.1 j) in
    (r.0, ap (λ (u : Segment). u ∷ t) both.0 ∙ ap (λ (u : List Segment). g ∷ u) r.1, r.2)

spells_none : (t : List Segment) → Spells [] t → t ≡ []
spells_none [] p = refl
spells_none (g ∷ t) (x, y, e, f, h) = absurd (form_some g x y f (sym e))

-- No bytes spell two lists.
pub one_list : (b : List ℕ) (s t : List Segment) → Spells b s → Spells b t → s ≡ t
one_list b s t p q =
    let r = cut s t b [] p (subst (λ (z : List ℕ). Spells z t) (sym (append-nil b)) q) in
    sym (r.1 ∙ ap (λ (u : List Segment). s ++ u) (spells_none r.0 r.2) ∙ append-nil s)

pub Begins-front : (p q : List ℕ) → Begins (p ++ q) → Begins p
Begins-front p q (more, s, h) = (q ++ more, s, subst (λ (z : List ℕ). Spells z s) (append_assoc p q more) h)

pub begins_after : (done : List ℕ) (s : List Segment) (p : List ℕ) → Spells done s → FormBegins p → Begins (done ++ p)
begins_after done s p h (g, x, y, f, e) = (
  y,
  s ++ g ∷ [],
  subst (λ (z : List ℕ). Spells z (s ++ g ∷ [])) (ap (λ (z : List ℕ). done ++ z) e ∙ sym (append_assoc done p y))
      (Spells-append s (g ∷ []) done x h (x, [], sym (append-nil x), f, refl)),
)

-- what reading refuses is spelled by no list
pub not_spelled : (b : List ℕ) (f : PathFault) (t : List Segment) → segment_at b ≡ Err f → (b ≡ [] → ⊥) → Spells b t → ⊥
not_spelled b f [] e some h = some h
not_spelled b f (g ∷ t) e some (x, y, d, form, h) =
    let read : failed f ≡ found g y = sym e ∙ ap segment_at d ∙ form_scans g x y form in
    cc

pub not_nil : (p : List ℕ) (v : ℕ) (y : List ℕ) → p ++ v ∷ y ≡ [] → ⊥
not_nil [] v y e = cc
not_nil (x ∷ p) v y e = cc

pub not_begins : (done : List ℕ) (s : List Segment) (p : List ℕ) (v : ℕ) → Spells done s → Refuses p v → Begins ((done ++ p) ++ v ∷ []) → ⊥
not_begins done s p v h refuses (more, t, spelled) =
    let regrouped : ((done ++ p) ++ v ∷ []) ++ more ≡ done ++ (p ++ v ∷ more) = append_assoc (done ++ p) (v ∷ []) more ∙ append_assoc done p (v ∷ more) in
    let r = cut s t done (p ++ v ∷ more) h (subst (λ (z : List ℕ). Spells z t) regrouped spelled) in
    let no = refuses more in
    not_spelled (p ++ v ∷ more) no.0 r.0 no.1 (not_nil p v more) r.2

-- the fault at a text whose prefix is spelled, and whose rest is not read
pub fault : (b done rest : List ℕ) (s : List Segment) (f : PathFault) → length b ≤ 510 → b ≡ done ++ rest → (rest ≡ [] → ⊥) → Spells done s
    → segment_at rest ≡ Err f → Stops rest f → IsFault b f
fault b done rest s Truncated len parts some h e begins = (
  len,
  subst Begins (sym parts) (begins_after done s rest h begins),
  λ read. ∥∥₁_elim read.1 (λ x y. absurd x) (λ (t, spelled).
      let r = cut s t done rest h (subst (λ (z : List ℕ). Spells z t) parts spelled) in
      not_spelled rest Truncated r.0 e some r.2),
)
fault b done rest s (Reserved v) len parts some h e (p, more, w, there, begins, other, refuses) =
    let goes : Begins ((done ++ p) ++ w ∷ []) = subst Begins (sym (append_assoc done p (w ∷ []))) (begins_after done s (p ++ w ∷ []) h begins) in (
      len,
      (
        done ++ p,
        (
          more,
          parts ∙ ap (λ (z : List ℕ). done ++ z) there ∙ sym (append_assoc done p (v ∷ more)),
          Begins-front (done ++ p) (w ∷ []) goes,
          not_begins done s p v h refuses,
        ),
        λ due. other (due.1 w goes),
      ),
    )
fault b done rest s BadPad len parts some h e (p, more, v, there, begins, other, refuses) =
    let goes : Begins ((done ++ p) ++ 0 ∷ []) = subst Begins (sym (append_assoc done p (0 ∷ []))) (begins_after done s (p ++ 0 ∷ []) h begins) in (
      len,
      (
        done ++ p,
        v,
        (
          more,
          parts ∙ ap (λ (z : List ℕ). done ++ z) there ∙ sym (append_assoc done p (v ∷ more)),
          Begins-front (done ++ p) (0 ∷ []) goes,
          not_begins done s p v h (refuses v other),
        ),
        (goes, λ w begun. elim (cases_eq w 0) [ inl zero_is ↦ zero_is | inr not_zero ↦ absurd (not_begins done s p w h (refuses w not_zero) begun) ]),
      ),
    )
fault b done rest s TooLong len parts some h e stops = absurd stops
fault b done rest s NoMemory len parts some h e stops = absurd stops

stops_unreadable : (b p : List ℕ) (v : ℕ) → StopsAt b p v → (s : List Segment) → Spells b s → ⊥
stops_unreadable b p v (more, parts, begins, ends) s h =
    ends (more, s, subst (λ (z : List ℕ). Spells z s) (parts ∙ sym (append_assoc p (v ∷ []) more)) h)

-- a text with a fault is no path
pub unreadable : (b : List ℕ) (f : PathFault) → IsFault b f → IsReadable b → ⊥
unreadable b Truncated h r = h.2 r
unreadable b (Reserved v) (len, (p, stops, due)) r = ∥∥₁_elim r.1 (λ x y. absurd x) (λ t. stops_unreadable b p v stops t.0 t.1)
unreadable b BadPad (len, (p, v, stops, due)) r = ∥∥₁_elim r.1 (λ x y. absurd x) (λ t. stops_unreadable b p v stops t.0 t.1)
unreadable b TooLong h r = omega (arith, h, r.0)
unreadable b NoMemory h r = h

-- one more segment is read
pub read_on : (b done rest after : List ℕ) (s : List Segment) (g : Segment) → IsBytes rest → b ≡ done ++ rest → Spells done s
    → segment_at rest ≡ Ok (g, after) → Verdict rest (segment_at rest)
    → (whole : List ℕ) × (t : List Segment) × (b ≡ whole ++ after) × Spells whole t
read_on b done rest after s g fits parts h e v =
    let form : Verdict rest (found g after) = subst (λ (z : At Segment). Verdict rest z) e v in (
      done ++ form.0,
      s ++ g ∷ [],
      parts ∙ ap (λ (z : List ℕ). done ++ z) form.2 ∙ sym (append_assoc done form.0 after),
      Spells-append s (g ∷ []) done form.0 h (form.0, [], sym (append-nil form.0), form.1, refl),
    )

pub shorter : (rest after : List ℕ) (g : Segment) → segment_at rest ≡ Ok (g, after) → Verdict rest (segment_at rest) → length after < length rest
shorter rest after g e v =
    let form : Verdict rest (found g after) = subst (λ (z : At Segment). Verdict rest z) e v in
    rw form.2 (form_shorter g form.0 after form.1)

-- b is spelled as far as the rest
pub record IsReadTo (b rest : List ℕ) : Type 0 where
  pub done : List ℕ
  pub list : List Segment
  pub parts : b ≡ done ++ rest
  pub spelled : Spells done list

pub at_start : (b : List ℕ) → IsReadTo b b
at_start b = record { done = []; list = []; parts = refl; spelled = refl }

pub IsBytes-suffix : (done rest b : List ℕ) → b ≡ done ++ rest → IsBytes b → IsBytes rest
IsBytes-suffix done rest b e fits i =
    let at : get_or b (length done + i) 0 < 256 = fits (length done + i) in
    subst (λ (n : ℕ). n < 256) (ap (λ (z : List ℕ). get_or z (length done + i) 0) e ∙ get_or-append-add done rest i 0) at

rest_bytes : (b rest : List ℕ) → IsReadTo b rest → IsBytes b → IsBytes rest
rest_bytes b rest h fits = IsBytes-suffix h.done rest b h.parts fits

pub one_more : (b rest after : List ℕ) (g : Segment) → IsBytes b → IsReadTo b rest → segment_at rest ≡ Ok (g, after) → IsReadTo b after
one_more b rest after g fits h e =
    let fit = rest_bytes b rest h fits in
    let r = read_on b h.done rest after h.list g fit h.parts h.spelled e (verdict rest fit) in
    record { done = r.0; list = r.1; parts = r.2; spelled = r.3 }

pub at_fault : (b rest : List ℕ) (f : PathFault) → IsBytes b → length b ≤ 510 → (length rest ≡ 0 → ⊥) → IsReadTo b rest → segment_at rest ≡ Err f
    → IsFault b f
at_fault b rest f fits len some h e =
    let fit = rest_bytes b rest h fits in
    fault b h.done rest h.list f len h.parts (λ none. some (ap (λ (z : List ℕ). length z) none)) h.spelled e
    (subst (λ (z : At Segment). Verdict rest z) e (verdict rest fit))

pub at_end : (b rest : List ℕ) → length b ≤ 510 → length rest ≡ 0 → IsReadTo b rest → IsReadable b
at_end b [] len e h = (len, ∣ (h.list, subst (λ (z : List ℕ). Spells z h.list) (sym (h.parts ∙ append-nil h.done)) h.spelled) ∣₁)
at_end b (x ∷ rest) len e h = absurd (omega arith)

pub falls : (b rest after : List ℕ) (g : Segment) → IsBytes b → IsReadTo b rest → segment_at rest ≡ Ok (g, after) → length after < length rest
falls b rest after g fits h e = shorter rest after g e (verdict rest (rest_bytes b rest h fits))

pub splits : (b y : List ℕ) (g : Segment) → IsBytes b → segment_at b ≡ Ok (g, y) → Splits b g y
splits b y g fits e =
    let form : Verdict b (found g y) = subst (λ (z : At Segment). Verdict b z) e (verdict b fits) in
    (form.0, form.2, form.1)

others_spelled : (b y : List ℕ) (g : Segment) → Splits b g y → (t : List Segment) → Spells b t → (s : List Segment) × Spells y s
others_spelled b y g (x, e, f) [] none = absurd (form_some g x y f (sym e ∙ none))
others_spelled b y g (x, e, f) (k ∷ t) (w, z, d, i, h) =
    let both = first g k x w y z f i (sym e ∙ d) in
    (t, subst (λ (u : List ℕ). Spells u t) (sym both.1) h)

-- what stands behind the first segment of a path is a path
pub Splits-readable : (b y : List ℕ) (g : Segment) → Splits b g y → IsReadable b → IsReadable y
Splits-readable b y g s h =
    let shorter : length y < length b = rw s.1 (form_shorter g s.0 y s.2) in
    (omega (arith, h.0), ∥∥₁_map h.1 (λ r. others_spelled b y g s r.0 r.1))

pub never_fails : (b : List ℕ) (f : PathFault) → (length b ≡ 0 → ⊥) → segment_at b ≡ Err f → IsReadable b → ⊥
never_fails b f some e h =
    ∥∥₁_elim h.1 (λ x y. absurd x) (λ r. not_spelled b f r.0 e (λ none. some (ap (λ (z : List ℕ). length z) none)) r.1)

pub gives_splits : {X : Type 0} (view : X → Segment × List ℕ) (r : Result X PathFault) (b : List ℕ) → IsBytes b → Gives view r (segment_at b)
    → IfOk r (λ x. Splits b (view x).0 (view x).1)
gives_splits view (Ok x) b fits e = splits b (view x).1 (view x).0 fits e
gives_splits view (Err f) b fits e = tt
