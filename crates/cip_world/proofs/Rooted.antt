-- The root of an entry, at every moment that has the entry.
use Rattle.std.proofs.Common.{◌≡◌, ℕ, ◌<◌, true, false, cond, [], ◌∷◌, Some, refl, sym, ap, ◌∙◌, ◌⊎◌, inl, inr, arith, eqb, length}
use Rattle.std.proofs.lemmas.Bool.{eqb-true, eq-eqb, ne_eqb}
use Rattle.cip_world.specs.declared.journal.Entry.{Entry}
use Rattle.cip_event.specs.declared.frame.FrameName.{FrameName}
use Rattle.cip_world.specs.Entering.{before_entry}
use Rattle.cip_world.specs.Journals.{Journal, Flight, entry_at, frame_at}
use Rattle.cip_world.specs.Mirrors.{IsOlder}
use Rattle.cip_world.specs.Roots.{root_here, root_of}
use Rattle.cip_world.proofs.Frames.{frame_older}
use Rattle.cip_world.proofs.Moments.{older_length}

root_newer : (e : Entry) (j : Journal) (k : ℕ) → k < length j → root_of (e ∷ j) k ≡ root_of j k
root_newer e j k less = ap (λ b. cond b (root_here (root_of j) k e) (root_of j k)) (ne_eqb k (length j) (λ same. omega (arith, less, same)))

root_newest : (e : Entry) (j : Journal) → root_of (e ∷ j) (length j) ≡ root_here (root_of j) (length j) e
root_newest e j = ap (λ b. cond b (root_here (root_of j) (length j) e) (root_of j (length j))) (eq-eqb (length j) (length j) refl)

-- a root stays
pub root_older : (l j : Journal) (k : ℕ) → IsOlder l j → k < length l → root_of j k ≡ root_of l k
root_older l [] k e less = ap (λ (x : Journal). root_of x k) (sym e)
root_older l (e ∷ j) k (inl is) less = ap (λ (x : Journal). root_of x k) (sym is)
root_older l (e ∷ j) k (inr older) less =
    let long = older_length l j older in root_newer e j k (omega (arith, long, less)) ∙ root_older l j k older less

pub root_at : (e : Entry) (l j : Journal) → IsOlder (e ∷ l) j → root_of j (length l) ≡ root_here (root_of l) (length l) e
root_at e l j older = root_older (e ∷ l) j (length l) older (omega arith) ∙ root_newest e l

-- so does a frame
pub frame_later : (l j : Journal) (f : FrameName) (x : Flight) → IsOlder l j → frame_at l f ≡ Some x → frame_at j f ≡ Some x
frame_later l [] f x e h = ap (λ (k : Journal). frame_at k f) (sym e) ∙ h
frame_later l (e ∷ j) f x (inl is) h = ap (λ (k : Journal). frame_at k f) (sym is) ∙ h
frame_later l (e ∷ j) f x (inr older) h = frame_older e j f x (frame_later l j f x older h)

-- ---- the entries before one

before_newer : (e : Entry) (j : Journal) (k : ℕ) → k < length j → before_entry (e ∷ j) k ≡ before_entry j k
before_newer e j k less = ap (λ b. cond b j (before_entry j k)) (ne_eqb k (length j) (λ same. omega (arith, less, same)))

pub before_at : (e : Entry) (l j : Journal) → IsOlder (e ∷ l) j → before_entry j (length l) ≡ l
before_at e l [] is = absurd (cc)
before_at e l (x ∷ j) (inl is) =
    ap (λ (y : Journal). before_entry y (length l)) (sym is) ∙ ap (λ b. cond b l (before_entry l (length l))) (eq-eqb (length l) (length l) refl)
before_at e l (x ∷ j) (inr older) =
    let long = older_length (e ∷ l) j older in before_newer x j (length l) (omega (arith, long)) ∙ before_at e l j older

-- an entry is the newest, or of the older ones
pub entry_cases : (x : Entry) (j : Journal) (k : ℕ) (e : Entry) → entry_at (x ∷ j) k ≡ Some e → ((k ≡ length j) × (x ≡ e)) ⊎ (entry_at j k ≡ Some e)
entry_cases x j k e h =
    elim (eqb k (length j)) as (λ b. eqb k (length j) ≡ b → cond b (Some x) (entry_at j k) ≡ Some e → ((k ≡ length j) × (x ≡ e)) ⊎ (entry_at j k ≡ Some e)) [
      | true ↦ λ t s. let same : x ≡ e = cc in inl (eqb-true k (length j) t, same)
      | false ↦ λ t s. inr s
    ] refl h
