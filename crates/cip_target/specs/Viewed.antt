-- What a borrowed application path says, and the assemblies that it names.
use Rattle.std.specs.Prelude.{◌≡◌, Bool, List, [], ◌∷◌, Option, Some, None, option_map, MatchOption, Err}
use Rattle.cip_base.specs.Words.{InstanceNumber}
use Rattle.cip_segment.specs.declared.segment.Segment.{Segment}
use Rattle.cip_segment.specs.declared.segment.SegmentView.{SegmentView}
use Rattle.cip_segment.specs.declared.view.PathView.{PathView}
use Rattle.cip_segment.specs.Reading.{segments_of}
use Rattle.cip_segment.specs.Seen.{segment_of}
use Rattle.cip_target.specs.declared.application.ApplicationView.{ApplicationView}
use Rattle.cip_target.specs.declared.ends.Joined.{Joined}
use Rattle.cip_open.specs.declared.request.OpenFields.{OpenFields}
use Rattle.cip_target.specs.Assemblies.{AssemblyMap, config_in}
use Rattle.cip_target.specs.declared.ends.EndRefusal.TheVariants.{NoSuchInstanceOrConfiguration}
use Rattle.cip_target.specs.Ends.{EndRow, sized_row, application_row}
use Rattle.cip_target.specs.ApplicationPath.{Application, without_inhibits, point_of}

abbrev pub application_seen : ApplicationView → Application
application_seen v = record {
  config = v.config;
  consume = v.consume;
  produce = v.produce;
  bytes = v.bytes.now;
}

abbrev pub application_found : Option ApplicationView → Option Application
application_found v = option_map application_seen v

-- the segments of a borrowed path but its inhibits
abbrev pub parts_of : PathView → List Segment
parts_of v = without_inhibits (segments_of v.bytes.now)

-- a segment that was split off, and what stands behind it
abbrev pub first_seen : Option (SegmentView × PathView) → Option (Segment × List Segment)
first_seen found = option_map (λ f. (segment_of f.0, segments_of f.1.bytes.now)) found

-- the same of a point
abbrev pub point_seen : Option (Option InstanceNumber × PathView)
    → Option (Option InstanceNumber × List Segment)
point_seen found = option_map (λ f. (f.0, segments_of f.1.bytes.now)) found

-- what stands first of the segments, and what stands behind it with its inhibits
abbrev pub IsFirst : List Segment → Option (Segment × List Segment) → Type 0
IsFirst s None = s ≡ []
IsFirst s (Some found) = s ≡ found.0 ∷ without_inhibits found.1

-- the same of the first as a point
abbrev pub IsFirstPoint : List Segment → Option (Option InstanceNumber × List Segment) → Type 0
IsFirstPoint s None = s ≡ []
IsFirstPoint s (Some found) =
    (first : Segment) × (s ≡ first ∷ without_inhibits found.1) × (found.0 ≡ point_of first)

abbrev pub application_joined : Joined → Application
application_joined j = record {
  config = j.config.instance;
  consume = j.consume.instance;
  produce = j.produce.instance;
  bytes = j.bytes.now;
}

-- the row of an open whose assemblies exist
abbrev pub row_joined : Bool → OpenFields → Joined → EndRow
row_joined owned f j =
    sized_row (λ _. owned) f (application_joined j)
    (Some j.config.size) (Some j.consume.size) (Some j.produce.size)

-- the assemblies exist, and are those that the path names
pub record IsJoined (m : AssemblyMap) (a : Application) (j : Joined) : Type 0 where
  pub same : application_joined j ≡ a
  pub config : config_in m a.config ≡ Some j.config
  pub consume : config_in m a.consume ≡ Some j.consume
  pub produce : config_in m a.produce ≡ Some j.produce

-- one of the assemblies is missing
abbrev pub Misses : AssemblyMap → Application → Type 0
Misses m a =
    (owned : InstanceNumber → Bool) (f : OpenFields)
    → application_row m owned f (Some a) ≡ Err NoSuchInstanceOrConfiguration

-- what is found of the assemblies that a path names
abbrev pub IsJoining : AssemblyMap → Application → Option Joined → Type 0
IsJoining m a found = MatchOption found (Misses m a) (IsJoined m a)
