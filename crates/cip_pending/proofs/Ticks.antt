-- One due entry goes: the due ones lose their first, and the rest stay.
use Rattle.std.proofs.Common.{◌≡◌, ℕ, ◌<◌, not, List, [], ◌∷◌, length, sym, ap, subst, ◌∙◌, Option, Some, None, MatchOption, ◌++◌}
use Rattle.std.specs.List.{find, filter, remove}
use Rattle.std.specs.Option.{option_to_list}
use Rattle.std.specs.Ordering.{nat_cmp}
use Rattle.std.specs.Cmp.{nat_cmp_total}
use Rattle.std.specs.FinMap as map
use Rattle.std.specs.FinMap.{nat_cmp-IsAntisymmetric}
use Rattle.cip_base.proofs.Going.{first_goes, entries-remove, goes, shorter, none_passes}
use Rattle.cip_pending.specs.declared.entry.Entry.{Entry}
use Rattle.cip_pending.specs.Pendings.{Pendings, is_due, due, rest, first_due, without}

pub record DueGoes (now : ℕ) (p : Pendings) (x : ℕ × Entry) : Type 0 where
  pub chosen : due now p ≡ x ∷ due now (without p x.0)
  pub others : rest now p ≡ rest now (without p x.0)
  pub fewer : length (map.entries (without p x.0).entries) < length (map.entries p.entries)

pub due_goes : (now : ℕ) (p : Pendings) (x : ℕ × Entry) → first_due now p ≡ Some x → DueGoes now p x
due_goes now p x e =
    let h = first_goes (is_due now) (map.entries p.entries) x e in
    let es = map.entries p.entries in
    let g = goes nat_cmp nat_cmp_total nat_cmp-IsAntisymmetric p.entries (is_due now) x.0 x.1 e in
    let left : map.entries (without p x.0).entries ≡ remove es h.place =
    ap (λ (y : ℕ × Entry). map.entries (without p y.0).entries) (sym h.stands)
    ∙ entries-remove nat_cmp nat_cmp_total nat_cmp-IsAntisymmetric p.entries h.place x h.within in
    record {
      chosen = g.0;
      others = g.1;
      fewer = subst (λ fs. length fs < length es) (sym left) (shorter es h.place h.within);
    }

-- where none is due
pub none_due : (now : ℕ) (es : List (ℕ × Entry)) → find (is_due now) es ≡ None → (filter (is_due now) es ≡ []) × (filter (λ e. not (is_due now e)) es ≡ es)
none_due now es e = none_passes (is_due now) es e

-- what one call of `expire` does to both lists
pub both_lists : (now : ℕ) (p : Pendings) (r : Option (ℕ × Entry)) (new : Pendings) → r ≡ first_due now p
    → MatchOption r (new ≡ p) (λ gone. new ≡ without p gone.0) → (due now p ≡ option_to_list r ++ due now new) × (rest now new ≡ rest now p)
both_lists now p None new is after = (ap (due now) (sym after), ap (rest now) after)
both_lists now p (Some x) new is after =
    let goes = due_goes now p x (sym is) in
    (goes.chosen ∙ ap (λ q. x ∷ due now q) (sym after), ap (rest now) after ∙ sym goes.others)
