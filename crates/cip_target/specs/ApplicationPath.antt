-- The application path of an open (Volume 1, chapter 3, Forward_Open, connection path): what it
-- names at the end.
use Rattle.std.specs.Prelude.{◌==◌, if◌then◌else◌, List, [], ◌∷◌, Option, Some, None}
use Rattle.cip_base.specs.Words.{Octets, InstanceNumber}
use Rattle.cip_segment.specs.declared.segment.Segment.{Segment}
use Rattle.cip_segment.specs.declared.segment.Segment.TheVariants.{Class, Instance, Point, Key, Words, Inhibit}

-- the instances for configuration, O→T and T→O, and the configuration bytes
pub record Application : Type 0 where
  pub config : InstanceNumber
  pub consume : InstanceNumber
  pub produce : InstanceNumber
  pub bytes : Octets

-- behind a leading key, if there is one
abbrev pub behind_key : List Segment → List Segment
behind_key (Key k ∷ s) = s
behind_key s = s

-- production inhibit segments are skipped wherever they stand
abbrev pub without_inhibits : List Segment → List Segment
without_inhibits [] = []
without_inhibits (Inhibit n ∷ s) = without_inhibits s
without_inhibits (g ∷ s) = g ∷ without_inhibits s

-- an instance or a connection point
abbrev pub point_of : Segment → Option InstanceNumber
point_of (Instance n) = Some n
point_of (Point n) = Some n
point_of g = None

-- behind the three points: nothing, which is no configuration bytes, or one simple data segment
abbrev pub bytes_in : List Segment → Option Octets
bytes_in [] = Some []
bytes_in (Words d ∷ []) = Some d
bytes_in s = None

abbrev pub application_with : Option InstanceNumber → Option InstanceNumber
    → Option InstanceNumber → Option Octets → Option Application
application_with (Some config) (Some consume) (Some produce) (Some bytes) =
    Some (record { config = config; consume = consume; produce = produce; bytes = bytes })
application_with a b c d = None

-- behind the class: the three points, and what stands behind them
abbrev pub points_in : List Segment → Option Application
points_in (a ∷ b ∷ c ∷ s) = application_with (point_of a) (point_of b) (point_of c) (bytes_in s)
points_in s = None

-- the Assembly class, 4, stands first
abbrev pub application_in : List Segment → Option Application
application_in (Class n ∷ s) = if n == 4 then points_in s else None
application_in s = None

-- what a path names, if it is an application path
abbrev pub application_of : List Segment → Option Application
application_of s = application_in (without_inhibits (behind_key s))
