-- What a borrowed Unconnected_Send says.
use Rattle.cip_base.specs.Words.{Octets}
use Rattle.cip_base.specs.declared.timing.Timing.{Timing}
use Rattle.cip_segment.specs.declared.view.PathView.{PathView}
use Rattle.cip_unconnected.specs.Unconnected.{Unconnected, unconnected_with, unconnected_bytes}
use Rattle.cip_unconnected.specs.declared.unconnected.UnconnectedView.{UnconnectedView}

abbrev pub unconnected_of : UnconnectedView → Unconnected
unconnected_of v = record { timing = v.timing; request = v.request.now; route = v.route.bytes.now }

-- the message for a request along a borrowed route
abbrev pub sent_along : Timing → Octets → PathView → Octets
sent_along timing request route =
    unconnected_bytes (unconnected_with timing request route.bytes.now)
