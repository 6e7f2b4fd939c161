-- The tables of all modules, one by one, and the report.
use Rattle.std.proofs.Common.{◌≡◌, ℕ, zero, suc, List, [], ◌∷◌, ◌++◌, Some, ◌⊎◌, inl, inr, refl}
use Rattle.std.proofs.Common.{sym, subst, length, arith, ◌<◌, ◌+◌, ◌∙◌, ap, get_or}
use Rattle.std.specs.Prelude.{slice_get}
use Rattle.cip_base.specs.declared.numbers.ModuleId.{ModuleId}
use Rattle.cip_config.specs.declared.config.ModuleSettings.{ModuleSettings}
use Rattle.cip_routing.specs.declared.tables.Tables.{Tables}
use Rattle.cip_chassis.specs.Plan.{Plan}
use Rattle.cip_event.specs.declared.frame.FrameName.{FrameName}
use Rattle.cip_world.specs.declared.world.End.{End}
use Rattle.cip_world.specs.Journals.{Journal}
use Rattle.cip_world.specs.Runs.{IsModule}
use Rattle.cip_threads.specs.declared.feed.Feed.{Feed}
use Rattle.cip_threads.specs.Ends.{IsFinished}
use Rattle.cip_threads.specs.Reports.{Agrees, AgreeTo, IsReport}
use Rattle.cip_threads.proofs.Flowing.{flow_is_run, flow_lossless}

get_left : {X : Type 0} (xs ys : List X) (i : ℕ) (x : X) → slice_get xs i ≡ Some x → slice_get (xs ++ ys) i ≡ Some x
get_left [] ys i x e = cc
get_left (y ∷ xs) ys zero x e = e
get_left (y ∷ xs) ys (suc i) x e = get_left xs ys i x e

get_last : {X : Type 0} (xs : List X) (x : X) → slice_get (xs ++ x ∷ []) (length xs) ≡ Some x
get_last [] x = refl
get_last (y ∷ xs) x = get_last xs x

push_length : {X : Type 0} (xs : List X) (x : X) → length (xs ++ x ∷ []) ≡ length xs + 1
push_length [] x = refl
push_length (y ∷ xs) x = let r = push_length xs x in omega (arith, r)

below_or : (a n : ℕ) → a < n + 1 → (a < n) ⊎ (a ≡ n)
below_or zero zero lt = inr refl
below_or zero (suc n) lt = inl (omega arith)
below_or (suc a) zero lt = absurd (omega arith)
below_or (suc a) (suc n) lt =
    elim (below_or a n (omega arith)) [
      | inl l ↦ inl (omega arith)
      | inr e ↦ inr (ap suc e)
    ]

get_or_is : {X : Type 0} (xs : List X) (i : ℕ) (x d : X) → slice_get xs i ≡ Some x → get_or xs i d ≡ x
get_or_is [] i x d e = cc
get_or_is (y ∷ xs) zero x d e = cc
get_or_is (y ∷ xs) (suc i) x d e = get_or_is xs i x d e

pub agree_none : (t : Plan) (j : Journal) → AgreeTo t j [] 0
agree_none t j = record { count = refl; each = λ m config is lt. absurd (omega arith) }

-- one more module agrees
pub agree_more : (t : Plan) (j : Journal) (tables : List Tables) (n : ℕ) (d : ModuleSettings) (x : Tables) → Agrees (get_or t.modules n d) j n x
    → AgreeTo t j tables n → AgreeTo t j (tables ++ x ∷ []) (n + 1)
agree_more t j tables n d x agrees old =
    record {
      count = push_length tables x ∙ ap (λ (k : ℕ). k + 1) old.count;
      each = λ m config is lt. elim (below_or m n lt) [
        | inl l ↦ (let o = old.each m config is l in record { found = o.found; here = get_left tables (x ∷ []) m o.found o.here; agrees = o.agrees })
        | inr e ↦ record {
          found = x;
          here = ap (slice_get (tables ++ x ∷ [])) (e ∙ sym old.count) ∙ get_last tables x;
          agrees = subst (λ (k : ℕ). Agrees config j k x) (sym e)
              (subst (λ (c : ModuleSettings). Agrees c j n x) (get_or_is t.modules n config d (subst (λ (k : ℕ). IsModule t k config) e is)) agrees);
        }
      ];
    }

within : {X : Type 0} (xs : List X) (m : ℕ) (c : X) → slice_get xs m ≡ Some c → m < length xs
within [] m c is = cc
within (x ∷ xs) zero c is = omega arith
within (x ∷ xs) (suc m) c is = let r = within xs m c is in omega arith

-- a finished book and messages that agree make a report
pub report_is : (t : Plan) (given : List (ModuleId × Feed)) (turns : ℕ) (j : Journal) (tables : List Tables)
    (feeds : List (ModuleId × Feed)) (frames : List FrameName) (end : End)
    → IsFinished t given turns j feeds frames end → AgreeTo t j tables (length t.modules) → IsReport t given turns j tables feeds frames end
report_is t given turns j tables feeds frames end f a =
    record {
      run = flow_is_run t j f.flow (λ m config is. (a.each m config is (within t.modules m config is)).agrees.history);
      lossless = flow_lossless t j f.flow;
      count = a.count;
      shown = λ m config is. (let o = a.each m config is (within t.modules m config is) in record { found = o.found; here = o.here; shows = o.agrees.shows });
      waits = f.waits;
      fed_all = f.fed_all;
      ends = f.ends;
    }
