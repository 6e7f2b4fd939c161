-- A connection that lapses at the scanner, which hears nothing, and still stands at the adapter.
use Rattle.std.specs.Prelude.{[], ◌∷◌, Some, None}
use Rattle.cip_hops.specs.declared.hop.Hop.{Hop}
use Rattle.cip_hops.specs.declared.opening.HopUp.TheVariants.{Link as UpLink, Local as UpLocal}
use Rattle.cip_hops.specs.declared.opening.HopDown.TheVariants.{Link as DownLink, End}
use Rattle.cip_event.specs.declared.event.Output.TheVariants as outputs
use Rattle.cip_chassis.specs.Nodes.{Way}
use Rattle.cip_world.specs.declared.journal.Input.TheVariants.{Tick}
use Rattle.cip_world.specs.declared.journal.Entry.TheVariants.{Step}
use Rattle.cip_world.specs.Chains.{Member}
use Rattle.cip_world.specs.Journals.{Journal}
use Rattle.witnesses.specs.Plans.{triad}
use Rattle.witnesses.specs.ChainedRun.{opening}
use Rattle.witnesses.specs.OneAfterTheOther.{path, stands}

abbrev pub lapses : Journal
lapses = Step (record { 0 = 0 }) (Tick 41) (outputs.Expired triad ∷ []) ∷ stands

-- ---- the connection at its two ends

abbrev pub of_scanner : Hop
of_scanner = record {
  opening = opening (UpLocal 1) (DownLink 2 (7 ∷ [])) path;
  ids = record { up = None; down = Some 17 };
  their_id = Some 65;
  up_deadline = None;
  down_deadline = Some 40000;
  consumed = None;
  produced = None;
}

abbrev pub of_adapter : Hop
of_adapter = record {
  opening = opening (UpLink 2 (1 ∷ []) 17) (End 100 101 102) (32 ∷ 4 ∷ 36 ∷ 100 ∷ 44 ∷ 101 ∷ 44
      ∷ 102 ∷ []);
  ids = record { up = Some 65; down = None };
  their_id = None;
  up_deadline = Some 40000;
  down_deadline = None;
  consumed = None;
  produced = None;
}

abbrev pub upper : Member
upper = record { at = 0; hop = of_scanner }

abbrev pub lower : Member
lower = record { at = 1; hop = of_adapter }

-- by which way the scanner's frames leave it, and come in at the adapter
abbrev pub out : Way
out = record { at = 0; port = 2; address = 7 ∷ [] }

abbrev pub there : Way
there = record { at = 1; port = 2; address = 1 ∷ [] }
