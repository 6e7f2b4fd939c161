use Rattle.std.proofs.Common.{◌≡◌, take}
use Rattle.cip_chassis.proofs.topology.copy_links.Given as goal

abbrev pub invariant-loop-link : goal.invariant-loop-link
invariant-loop-link l = l.copies.items ≡ take l.link-index l.links
