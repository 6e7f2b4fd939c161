-- That each connection of a module stands under its own triad.
use Rattle.cip_hops.specs.Hops.{AreOwnTriads}
use Rattle.cip_routing.specs.State.{State}

abbrev pub HasOwnTriads : State → Type 0
HasOwnTriads s = AreOwnTriads s.hops
