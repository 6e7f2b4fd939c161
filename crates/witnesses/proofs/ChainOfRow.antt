-- The chain of the row's op, at any moment at which its four connections stand.
use Rattle.std.proofs.Common.{◌≡◌, ℕ, [], ◌∷◌, Some, None, refl}
use Rattle.std.specs.Prelude.{Bool, Option}
use Rattle.std.specs.FinMap as map
use Rattle.cip_hops.specs.Hops.{hop_by_op}
use Rattle.cip_hops.specs.declared.hop.Hop.{Hop}
use Rattle.cip_hops.specs.declared.hop.Held.TheVariants.{Open}
use Rattle.cip_config.specs.declared.config.ModuleSettings.{ModuleSettings}
use Rattle.cip_world.specs.Chains.{IsChain, IsNextTo}
use Rattle.cip_world.specs.Journals.{Journal}
use Rattle.cip_world.specs.Runs.{state_in}
use Rattle.cip_segment.specs.Reading.{segments_within, path_at, segments_of, behind, hop_of}
use Rattle.cip_segment.specs.Scan.{bytes_at, padded_at, narrow_at, words_at, number_at, size_at, plain_port_at, port_at, other_at, logical_at, segment_at}
use Rattle.witnesses.specs.Plans.{scanner, first_bridge, second_bridge, adapter, row, triad}
use Rattle.witnesses.specs.ChainedRun.{of_scanner, of_first, of_second, at_end, of_kind}

-- the connection stands at a module
abbrev StandsAt : ModuleSettings → ℕ → Journal → Hop → Type 0
StandsAt config m j hop = map.get (state_in config m j).hops.held triad ≡ Some (Open hop)

-- the end's connection, with the counts of the data that it took and gave
abbrev counted : Bool → Option ℕ → Option ℕ → Hop
counted large consumed produced = record (of_kind large at_end) { consumed = consumed; produced = produced }

goes_to_first : (j : Journal) (large : Bool) → StandsAt first_bridge 1 j (of_kind large of_first)
    → IsNextTo row j (record { at = 0; hop = of_kind large of_scanner }) (record { at = 1; hop = of_kind large of_first })
unfolding behind bytes_at hop_of logical_at narrow_at number_at other_at padded_at path_at plain_port_at port_at segment_at segments_of segments_within size_at
    words_at
goes_to_first j large stands = record {
  port = 2;
  address = 5 ∷ [];
  down_is = refl;
  there = record { at = 1; port = 2; address = 1 ∷ [] };
  across = refl;
  at_is = refl;
  has = record { config = first_bridge; is_module = refl; stands = stands };
  mirrors = record {
    own = 17;
    own_is = refl;
    triad_is = refl;
    up_is = refl;
    id_is = refl;
    first = record { port = 2; address = 5 ∷ []; rest = 1 ∷ 3 ∷ 2 ∷ 7 ∷ 32 ∷ 4 ∷ 36 ∷ 100 ∷ 44 ∷ 101 ∷ 44 ∷ 102 ∷ []; key = None };
    first_is = refl;
    path_is = refl;
    ot_size_is = refl;
    to_size_is = refl;
    class_is = refl;
  };
}

goes_to_second : (j : Journal) (large : Bool) → StandsAt second_bridge 2 j (of_kind large of_second)
    → IsNextTo row j (record { at = 1; hop = of_kind large of_first }) (record { at = 2; hop = of_kind large of_second })
unfolding behind bytes_at hop_of logical_at narrow_at number_at other_at padded_at path_at plain_port_at port_at segment_at segments_of segments_within size_at
    words_at
goes_to_second j large stands = record {
  port = 1;
  address = 3 ∷ [];
  down_is = refl;
  there = record { at = 2; port = 1; address = 0 ∷ [] };
  across = refl;
  at_is = refl;
  has = record { config = second_bridge; is_module = refl; stands = stands };
  mirrors = record {
    own = 33;
    own_is = refl;
    triad_is = refl;
    up_is = refl;
    id_is = refl;
    first = record { port = 1; address = 3 ∷ []; rest = 2 ∷ 7 ∷ 32 ∷ 4 ∷ 36 ∷ 100 ∷ 44 ∷ 101 ∷ 44 ∷ 102 ∷ []; key = None };
    first_is = refl;
    path_is = refl;
    ot_size_is = refl;
    to_size_is = refl;
    class_is = refl;
  };
}

goes_to_adapter : (j : Journal) (large : Bool) (consumed produced : Option ℕ) → StandsAt (adapter 2 4) 3 j (counted large consumed produced)
    → IsNextTo row j (record { at = 2; hop = of_kind large of_second }) (record { at = 3; hop = counted large consumed produced })
unfolding behind bytes_at hop_of logical_at narrow_at number_at other_at padded_at path_at plain_port_at port_at segment_at segments_of segments_within size_at
    words_at
goes_to_adapter j large consumed produced stands = record {
  port = 2;
  address = 7 ∷ [];
  down_is = refl;
  there = record { at = 3; port = 2; address = 1 ∷ [] };
  across = refl;
  at_is = refl;
  has = record { config = adapter 2 4; is_module = refl; stands = stands };
  mirrors = record {
    own = 49;
    own_is = refl;
    triad_is = refl;
    up_is = refl;
    id_is = refl;
    first = record { port = 2; address = 7 ∷ []; rest = 32 ∷ 4 ∷ 36 ∷ 100 ∷ 44 ∷ 101 ∷ 44 ∷ 102 ∷ []; key = None };
    first_is = refl;
    path_is = refl;
    ot_size_is = refl;
    to_size_is = refl;
    class_is = refl;
  };
}

-- three links, and an end
pub chain_of_row : (j : Journal) (large : Bool) (consumed produced : Option ℕ) → StandsAt scanner 0 j (of_kind large of_scanner)
    → StandsAt first_bridge 1 j (of_kind large of_first) → StandsAt second_bridge 2 j (of_kind large of_second)
    → StandsAt (adapter 2 4) 3 j (counted large consumed produced) → hop_by_op (state_in scanner 0 j).hops 1 ≡ Some (of_kind large of_scanner)
    → IsChain row j 1 (record { at = 0; hop = of_kind large of_scanner })
    (record { at = 1; hop = of_kind large of_first } ∷ record { at = 2; hop = of_kind large of_second }
    ∷ record { at = 3; hop = counted large consumed produced } ∷ [])
chain_of_row j large consumed produced at_scanner at_first at_second at_adapter opened = record {
  has = record { config = scanner; is_module = refl; stands = at_scanner };
  opened = opened;
  goes_on = (
    goes_to_first j large at_first,
    (
      goes_to_second j large at_second,
      (goes_to_adapter j large consumed produced at_adapter, record { config = 100; consume = 101; produce = 102; down_is = refl }),
    ),
  );
}
