use Rattle.std.proofs.Common.{ℕ, sym, nat_le, rules}
use Rattle.std.proofs.lemmas.List.Sorted.{IsPartitionPoint-from_clause}
use Rattle.cip_pending.proofs.Search.{parted_after}
use Rattle.cip_pending.proofs.table.place_after.Goals as goal

pub returns-in-Some-clause-parts : goal.returns-in-Some-clause-parts
returns-in-Some-clause-parts c =
    parted_after c.args.pairs.now c.in-Some.last c.args.after _ c.requires (sym c.in-Some.is)
    (λ parted. IsPartitionPoint-from_clause (λ (p : ℕ × ℕ). nat_le p.0 c.in-Some.last) _ _ c.partition_point.ensures.partitioned parted
    (λ a r f called. search rules))
