-- Whether a request is for the Connection Manager, class 6 (Volume 1, chapter 3).
use Rattle.std.specs.Prelude.{List, ◌∷◌, Bool, false, ◌==◌}
use Rattle.cip_message.specs.declared.request.TheConstants.{CONNECTION_MANAGER}
use Rattle.cip_segment.specs.declared.segment.Segment.{Segment}
use Rattle.cip_segment.specs.declared.segment.Segment.TheVariants.{Class}

-- whether a path begins with the Connection Manager's class
abbrev pub begins_with_manager : List Segment → Bool
begins_with_manager (Class c ∷ others) = c == CONNECTION_MANAGER
begins_with_manager s = false
