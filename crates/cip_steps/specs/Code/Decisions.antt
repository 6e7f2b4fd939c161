-- What a decision of the code says: a row or an answer, and of a request that goes on that it can.
use Rattle.std.specs.Prelude.{◌≡◌, ◌≤◌, true, None, Ok}
use Rattle.cip_base.specs.declared.timing.Timing.{Timing}
use Rattle.cip_pending.specs.Pendings.{Pendings, refusal}
use Rattle.cip_hops.specs.declared.opening.HopUp.{HopUp}
use Rattle.cip_hops.specs.Sides.{up_is_link}
use Rattle.cip_hops.specs.Hops as hops
use Rattle.cip_open.specs.Open.{Open}
use Rattle.cip_target.specs.Ends.{row_at}
use Rattle.cip_steps.specs.declared.open.rows.OpenDecision.{OpenDecision}
use Rattle.cip_steps.specs.declared.open.rows.OpenDecision.TheVariants as open_decisions
use Rattle.cip_steps.specs.declared.close.rows.CloseDecision.{CloseDecision}
use Rattle.cip_steps.specs.declared.close.rows.CloseDecision.TheVariants as close_decisions
use Rattle.cip_steps.specs.declared.device.Device.{Device}
use Rattle.cip_routing.specs.OpenRows.{OpenRow, ids_if_forwarded}
use Rattle.cip_routing.specs.OpenRows as opens
use Rattle.cip_routing.specs.CloseRows.{CloseRow}
use Rattle.cip_routing.specs.CloseRows as closes

abbrev pub open_row_of : OpenDecision → OpenRow
open_row_of (open_decisions.Refuses refusal) = opens.Refuses refusal
open_row_of (open_decisions.Forwarded port address rest) =
    opens.Forwarded port address rest.bytes.now
open_row_of (open_decisions.Accepted link) = opens.Accepted link

-- a connection that goes on has ticks for it, a place among the pendings and room among the hops;
-- one that ends here fits the target and has room
abbrev pub OpenLeads : Device → HopUp → Open → OpenDecision → Type 0
OpenLeads m up o (open_decisions.Refuses refusal) = Unit {0}
OpenLeads m up o (open_decisions.Forwarded port address rest) =
    (2 ≤ o.fields.timing.ticks) × (refusal m.pendings ≡ None)
    × (hops.refusal m.hops o.fields.triad (ids_if_forwarded up) ≡ None)
OpenLeads m up o (open_decisions.Accepted link) =
    (up_is_link up ≡ true) × (hops.refusal m.hops o.fields.triad 1 ≡ None)
    × (row_at m.target o ≡ Ok link)

abbrev pub close_row_of : CloseDecision → CloseRow
close_row_of (close_decisions.Refuses refusal) = closes.Refuses refusal
close_row_of (close_decisions.Forwarded port address rest) =
    closes.Forwarded port address rest.bytes.now
close_row_of close_decisions.ClosedAtTheEnd = closes.ClosedAtTheEnd

abbrev pub CloseLeads : Pendings → Timing → CloseDecision → Type 0
CloseLeads p timing (close_decisions.Refuses refusal) = Unit {0}
CloseLeads p timing (close_decisions.Forwarded port address rest) =
    (2 ≤ timing.ticks) × (refusal p ≡ None)
CloseLeads p timing close_decisions.ClosedAtTheEnd = Unit {0}
