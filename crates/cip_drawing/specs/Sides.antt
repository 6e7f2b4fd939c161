-- On which side of a lifeline a text stands.
use Rattle.std.specs.Prelude.{Bool, ◌&&◌, nat_lt, List}
use Rattle.cip_drawing.specs.Bands.{whole_cost}
use Rattle.cip_drawing.specs.declared.line.Line.{Line}
use Rattle.cip_drawing.specs.declared.areas.Area.{Area}
use Rattle.cip_drawing.specs.declared.areas.Band.{Band}

-- at the left where it comes to no number there, and that is not as bad as at the right
abbrev pub stands_left : List Line → List Band → Area → Area → Bool
stands_left lines bands right left =
    nat_lt 104 left.left && nat_lt (whole_cost lines bands left 0) (whole_cost lines bands right 0)
