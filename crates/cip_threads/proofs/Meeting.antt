-- A journal and the messages that go with it, entry by entry.
use Rattle.std.proofs.Common.{ℕ, List, Option, None, inl, inr, sym, subst, ◌<◌, get_or, length, set}
use Rattle.std.proofs.lemmas.Bool.Decides.{eqb_tells}
use Rattle.std.proofs.lemmas.List.{get_or-set_same, get_or-set_other}
use Rattle.cip_world.specs.Journals.{Journal}
use Rattle.cip_threads.specs.declared.message.Followed.{Followed}
use Rattle.cip_threads.specs.Meetings.{AreMet, IsMet}

-- one message is replaced
pub met_set : (j : Journal) (slots : List (Option Followed)) (n : ℕ) (x : Option Followed) → n < length slots → AreMet j slots → IsMet j n x
    → AreMet j (set slots n x)
met_set j slots n x lt all one m =
    elim (eqb_tells m n) [
      | inl e ↦ subst (λ (k : ℕ). IsMet j k (get_or (set slots n x) k None)) (sym e.1)
          (subst (IsMet j n) (sym (get_or-set_same slots n x None lt)) one)
      | inr e ↦ subst (IsMet j m) (sym (get_or-set_other slots n m x None e.1)) (all m)
    ]
