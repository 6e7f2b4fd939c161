use Rattle.std.proofs.Common.{◌≡◌, take}
use Rattle.cip_drawing.specs.Bands.{texts_cost}
use Rattle.cip_drawing.proofs.areas.Area.cost_of_texts.Given as goal

abbrev pub invariant-loop-i : goal.invariant-loop-i
invariant-loop-i l = l.cost ≡ texts_cost l.self (take l.i l.texts) l.before
