use Rattle.std.proofs.Common.{◌≡◌, length}
use Rattle.cip_chain.specs.Index.{IsIndexSoFar}
use Rattle.cip_chain.proofs.index.add_entries.Given as goal

abbrev pub invariant-loop-k : goal.invariant-loop-k
invariant-loop-k l =
    record {
      at : l.k ≡ length l.onwards.items;
      so_far : IsIndexSoFar l.onwards.items l.firsts l.journal;
    }
