use Rattle.std.proofs.Common.{◌≡◌, ℕ, sym, ap, subst, true, false, Option, ◌∙◌, ◌-◌, rules}
use Rattle.std.proofs.lemmas.List.{get_or_default}
use Rattle.std.specs.Option.{option_copied}
use Rattle.std.specs.List.Sorted.{IsPartitionPoint}
use Rattle.cip_base.specs.Triads.{triad_cmp}
use Rattle.cip_base.specs.declared.triad.Triad.{Triad}
use Rattle.cip_hops.specs.Hops.{is_after}
use Rattle.cip_hops.proofs.Near.{parted_at}
use Rattle.cip_hops.proofs.triads.place_near.Goals as goal

pub returns-in-Equal-clause-parts : goal.returns-in-Equal-clause-parts
returns-in-Equal-clause-parts c =
    subst (λ (o : Option Triad). IsPartitionPoint (λ (p : Triad × ℕ). is_after o p.0 ≡ false)
    (λ (p : Triad × ℕ). is_after o p.0 ≡ true) c.args.pairs.now c.args.near) (sym (ap option_copied c.in-Some.is))
    (parted_at c.args.pairs.now c.in-Some.last.now c.args.near c.requires (search rules) (search rules)
    (λ d. ap (λ (p : Triad × ℕ). triad_cmp c.in-Some.last.now p.0)
    (get_or_default c.args.pairs.now (c.args.near - 1) d _ (search rules))
    ∙ sym c.cmp.ensures ∙ c.in-Equal.is))
