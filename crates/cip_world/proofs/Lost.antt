-- A frame is named in one entry at most, so one that was lost neither arrives nor waits again. A loss has no root.
use Rattle.std.proofs.Common.{◌≡◌, ℕ, Bool, true, false, cond, ◌||◌, List, [], ◌∷◌, Some, None, refl, sym, ap, ◌∙◌, inl, inr, eqb, length}
use Rattle.std.proofs.lemmas.Bool.{or_right}
use Rattle.cip_base.specs.declared.numbers.ModuleId.{ModuleId}
use Rattle.cip_event.specs.declared.event.Output.{Output}
use Rattle.cip_chassis.specs.Plan.{Plan}
use Rattle.cip_world.specs.declared.journal.Entry.{Entry}
use Rattle.cip_world.specs.declared.journal.Entry.TheVariants.{Step, Lost}
use Rattle.cip_event.specs.declared.frame.FrameName.{FrameName}
use Rattle.cip_world.specs.declared.journal.Input.TheVariants.{Command, Tick, Frame}
use Rattle.cip_world.specs.Journals.{Journal, entry_at, names, is_named}
use Rattle.cip_world.specs.Roots.{root_here, root_of}
use Rattle.cip_world.specs.Runs.{IsNext, IsRun, IsWaiting}
use Rattle.cip_world.proofs.Named.{same_self, name_eq}
use Rattle.cip_world.proofs.Rooted.{entry_cases}

-- ---- an entry names what no other names

named_there : (j : Journal) (k : ℕ) (e : Entry) (f : FrameName) → entry_at j k ≡ Some e → names f e ≡ true → is_named j f ≡ true
named_there [] k e f at is = absurd (cc)
named_there (x ∷ j) k e f at is =
    elim (entry_cases x j k e at) as (λ _. names f x || is_named j f ≡ true) [
      | inl here ↦ ap (λ (y : Entry). names f y || is_named j f) here.1 ∙ ap (λ (b : Bool). b || is_named j f) is
      | inr old ↦ or_right (names f x) (is_named j f) (named_there j k e f old is)
    ]

-- what comes next names what nothing before it names
fresh_next : (t : Plan) (j : Journal) (e : Entry) (f : FrameName) → IsNext t j e → names f e ≡ true → is_named j f ≡ false
fresh_next t j (Step m (Command c) outs) f next is = absurd (cc)
fresh_next t j (Step m (Tick ms) outs) f next is = absurd (cc)
fresh_next t j (Step m (Frame port from name) outs) f next is = ap (is_named j) (name_eq f name is) ∙ next.given.waits.fresh
fresh_next t j (Lost frame) f next is = ap (is_named j) (name_eq f frame is) ∙ next.fresh

not_both : (t : Plan) (j : Journal) (e : Entry) (f : FrameName) → IsNext t j e → names f e ≡ true → is_named j f ≡ true → ⊥
not_both t j e f next is named = let fresh = fresh_next t j e f next is in cc

named_once : (t : Plan) (j : Journal) (i k : ℕ) (d e : Entry) (f : FrameName) → IsRun t j → entry_at j i ≡ Some d → names f d ≡ true
    → entry_at j k ≡ Some e → names f e ≡ true → i ≡ k
named_once t [] i k d e f run a is b too = absurd (cc)
named_once t (x ∷ j) i k d e f run a is b too =
    elim (entry_cases x j i d a) as (λ _. i ≡ k) [
      | inl here ↦ elim (entry_cases x j k e b) as (λ _. i ≡ k) [
        | inl there ↦ here.0 ∙ sym there.0
        | inr old ↦ absurd (not_both t j x f run.1 (ap (names f) here.1 ∙ is) (named_there j k e f old too))
      ]
      | inr before ↦ elim (entry_cases x j k e b) as (λ _. i ≡ k) [
        | inl there ↦ absurd (not_both t j x f run.1 (ap (names f) there.1 ∙ too) (named_there j i d f before is))
        | inr old ↦ named_once t j i k d e f run.0 before is old too
      ]
    ]

-- ---- what was lost

pub lost_arrives : (t : Plan) (j : Journal) (k i : ℕ) (f : FrameName) (at : ModuleId) (port : ℕ) (from : List ℕ) (outs : List Output) → IsRun t j
    → entry_at j k ≡ Some (Lost f) → entry_at j i ≡ Some (Step at (Frame port from f) outs) → ⊥
lost_arrives t j k i f at port from outs run lost came =
    let same = named_once t j k i (Lost f) (Step at (Frame port from f) outs) f run lost (same_self f) came (same_self f) in
    let both : Some (Lost f) ≡ Some (Step at (Frame port from f) outs) = sym lost ∙ ap (entry_at j) same ∙ came in
    cc

pub lost_once : (t : Plan) (j : Journal) (k i : ℕ) (f : FrameName) → IsRun t j → entry_at j k ≡ Some (Lost f) → entry_at j i ≡ Some (Lost f) → k ≡ i
lost_once t j k i f run lost too = named_once t j k i (Lost f) (Lost f) f run lost (same_self f) too (same_self f)

pub lost_waits : (t : Plan) (j : Journal) (k : ℕ) (f : FrameName) → entry_at j k ≡ Some (Lost f) → IsWaiting t j f → ⊥
lost_waits t j k f lost waits =
    let named = named_there j k (Lost f) f lost (same_self f) in let fresh = waits.fresh in cc

-- ---- its root

pub lost_root : (j : Journal) (k : ℕ) (f : FrameName) → entry_at j k ≡ Some (Lost f) → root_of j k ≡ None
lost_root [] k f at = refl
lost_root (x ∷ j) k f at =
    elim (eqb k (length j)) as (λ b. cond b (Some x) (entry_at j k) ≡ Some (Lost f) → cond b (root_here (root_of j) k x) (root_of j k) ≡ None) [
      | true ↦ λ s. let same : x ≡ Lost f = cc in ap (root_here (root_of j) k) same
      | false ↦ λ s. lost_root j k f s
    ] at
