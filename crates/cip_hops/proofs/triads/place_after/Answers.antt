use Rattle.std.proofs.Common.{◌≡◌, ℕ, sym, ap, subst, rules, true, false, Option}
use Rattle.std.specs.Option.{option_copied}
use Rattle.std.specs.Ordering.{is_ge}
use Rattle.std.specs.List.Sorted.{IsPartitionPoint}
use Rattle.std.proofs.lemmas.List.Sorted.{IsPartitionPoint-from_clause}
use Rattle.cip_base.specs.Triads.{triad_cmp}
use Rattle.cip_base.specs.declared.triad.Triad.{Triad}
use Rattle.cip_base.proofs.Triads.{triads_total}
use Rattle.cip_hops.specs.Hops.{is_after}
use Rattle.cip_base.proofs.Search.{parted_after}
use Rattle.cip_hops.proofs.triads.place_after.Goals as goal

pub returns-in-Some-clause-parts : goal.returns-in-Some-clause-parts
returns-in-Some-clause-parts c =
    subst (λ (o : Option Triad). IsPartitionPoint (λ (p : Triad × ℕ). is_after o p.0 ≡ false)
    (λ (p : Triad × ℕ). is_after o p.0 ≡ true) c.args.pairs.now c.partition_point.result) (sym (ap option_copied c.in-Some.is))
    (parted_after triads_total c.args.pairs.now c.in-Some.last.now _ c.requires
    (λ parted. IsPartitionPoint-from_clause (λ (p : Triad × ℕ). is_ge (triad_cmp c.in-Some.last.now p.0)) _ _ c.partition_point.ensures.partitioned parted
    (λ a r f called. search rules)))
