-- What a ledger keeps when its newest entry is looked at, and when one is added.
use Rattle.std.proofs.Common.{◌≡◌, ℕ, Bool, true, not, ◌&&◌, List, [], ◌∷◌, ◌++◌, length, reverse, drop, refl, sym, ap, subst, ◌∙◌, arith, eqb, filter}
use Rattle.std.proofs.lemmas.Bool.{and_parts, eqb-true}
use Rattle.std.proofs.lemmas.List.{reverse-append, append-nil}
use Rattle.cip_event.specs.declared.event.Output.{Output}
use Rattle.cip_chassis.specs.Plan.{Plan}
use Rattle.cip_event.specs.declared.frame.FrameName.{FrameName}
use Rattle.cip_world.specs.declared.journal.Entry.{Entry}
use Rattle.cip_world.specs.declared.journal.Entry.TheVariants.{Step, Lost}
use Rattle.cip_world.specs.Journals.{Journal, named_by, is_that}
use Rattle.cip_world.specs.Ledgers.{newest_outputs, newest_from, IsLedger, IsNewest}
use Rattle.cip_world.specs.Names.{AreRising}
use Rattle.cip_world.specs.Runs.{IsNext}
use Rattle.cip_world.specs.Waiting.{frames_of, frames_in, waiting}
use Rattle.cip_world.proofs.Waits.{waiting_rise, waiting_next}

newest_is : (t : Plan) (j : Journal) (k m : ℕ) (outs : List Output) (i : ℕ) → IsNewest j k m outs → newest_from t j i ≡ frames_of t m k i (drop i outs)
newest_is t j k m outs i n = ap (λ (x : Journal). newest_from t x i) n.is ∙ ap (λ (x : ℕ). frames_of t m x i (drop i outs)) (sym n.number)

pub rest_rises : (t : Plan) (j : Journal) (listed : List FrameName) (looked k m : ℕ) (outs : List Output) → IsLedger t j listed looked → IsNewest j k m outs
    → AreRising (listed ++ frames_of t m k looked (drop looked outs))
rest_rises t j listed looked k m outs l n =
    subst AreRising (l.waits ∙ ap (λ (x : List FrameName). listed ++ x) (newest_is t j k m outs looked n)) (waiting_rise t j)

drop_all : (outs : List Output) → drop (length outs) outs ≡ []
drop_all [] = refl
drop_all (o ∷ outs) = drop_all outs

none_left : (t : Plan) (j : Journal) (i : ℕ) → length (newest_outputs j) ≡ i → newest_from t j i ≡ []
none_left t [] i e = refl
none_left t (Step m input outs ∷ j) i e = ap (frames_of t m.0 (length j) i) (ap (λ (n : ℕ). drop n outs) (sym e) ∙ drop_all outs)
none_left t (Lost frame ∷ j) i e = refl

all_left : (t : Plan) (e : Entry) (j : Journal) → frames_in t (length j) e ≡ newest_from t (e ∷ j) 0
all_left t (Step m input outs) j = refl
all_left t (Lost frame) j = refl

pub all_listed : (t : Plan) (j : Journal) (listed : List FrameName) (looked : ℕ) → IsLedger t j listed looked
    → length (newest_outputs j) ≡ looked → waiting t j ≡ listed
all_listed t j listed looked l e = l.waits ∙ ap (λ (x : List FrameName). listed ++ x) (none_left t j looked e) ∙ append-nil listed

pub added : (t : Plan) (entries items : List Entry) (e : Entry) (listed left : List FrameName) (looked : ℕ) → IsLedger t (reverse entries) listed looked
    → length (newest_outputs (reverse entries)) ≡ looked → IsNext t (reverse entries) e → left ≡ filter (λ f. not (is_that f (named_by e))) listed
    → items ≡ entries ++ e ∷ []
    → IsLedger t (reverse items) left 0
added t entries items e listed left looked l full next is new =
    let j : Journal = reverse entries in
    let order : reverse items ≡ e ∷ j = ap reverse new ∙ reverse-append entries (e ∷ []) in
    subst (λ (x : Journal). IsLedger t x left 0) (sym order) (record {
      run = (l.run, next);
      waits =
          waiting_next t j e (l.run, next)
          ∙ ap (λ (x : List FrameName). filter (λ f. not (is_that f (named_by e))) x ++ frames_in t (length j) e) (all_listed t j listed looked l full)
          ∙ ap (λ (x : List FrameName). x ++ frames_in t (length j) e) (sym is)
          ∙ ap (λ (x : List FrameName). left ++ x) (all_left t e j);
      within = omega arith;
    })

pub looked_at : (b : Bool) (n i : ℕ) → (b && eqb n i) ≡ true → n ≡ i
looked_at b n i h = eqb-true n i (and_parts b (eqb n i) h).1
