-- What a tick tells of what ran out.
use Rattle.std.specs.Prelude.{◌≡◌, ℕ, ◌+◌, ◌*◌, ◌^◌, ◌<◌, ◌≤◌, List, map, Option, Result, Ok, Err}
use Rattle.std.specs.Option.{option_to_list}
use Rattle.cip_base.specs.Words.{Microseconds}
use Rattle.cip_pending.specs.declared.entry.Entry.{Entry}
use Rattle.cip_pending.specs.Pendings.{due, Pendings}
use Rattle.cip_hops.specs.declared.hop.Hop.{Hop}
use Rattle.cip_hops.specs.Hops.{Hops}
use Rattle.cip_hops.specs.Hops as hops
use Rattle.cip_event.specs.declared.event.Output.{Output}
use Rattle.cip_event.specs.declared.event.Output.TheVariants as outputs
use Rattle.cip_config.specs.declared.config.ModuleSettings.{ModuleSettings}
use Rattle.cip_steps.specs.declared.tick.steps.TickFault.{TickFault}
use Rattle.cip_steps.specs.declared.tick.steps.TickFault.TheVariants.{OutOfMemory, Full}
use Rattle.cip_steps.specs.Code.Does.{Does}
use Rattle.cip_routing.specs.Effects.{Effect, reply_up, timed_out_bytes}
use Rattle.cip_routing.specs.State.{State}
use Rattle.cip_routing.specs.Table.{pending_times_out, hop_times_out, tick_effects}

-- that no answer came in time
abbrev pub late_reply : Entry → Output
late_reply entry = reply_up entry.up (timed_out_bytes entry.kind entry.words)

abbrev pub shown : ℕ × Entry → Output
shown waiting = late_reply waiting.1

-- of the due pendings, in rising number
abbrev pub pendings_timed_out : Microseconds → Pendings → List Output
pendings_timed_out now p = map shown (due now p)

abbrev pub hop_timed_out : Hop → Output
hop_timed_out hop = outputs.Expired hop.opening.triad

-- of the due connections, in rising triad
abbrev pub hops_timed_out : Microseconds → Hops → List Output
hops_timed_out now h = map hop_timed_out (hops.due now h)

-- the effect of one due pending, and that of one due connection, where there is one
abbrev pub pending_time_out : Option (ℕ × Entry) → List Effect
pending_time_out waiting = map pending_times_out (option_to_list waiting)

abbrev pub hop_time_out : Option Hop → List Effect
hop_time_out hop = map hop_times_out (option_to_list hop)

-- what a call that ticks answers: the clock is full exactly where the time would pass its last
-- value, looked at first
abbrev pub TickGives : {V : Type 0} → (V → List Output) → ModuleSettings → State → State → ℕ
    → Result V TickFault → Type 0
TickGives view config old new ms (Ok outputs) =
    (old.now + 1000 * ms < 2 ^ 63) × Does config old (tick_effects old (1000 * ms)) new
    (view outputs)
TickGives view config old new ms (Err OutOfMemory) = (old.now + 1000 * ms < 2 ^ 63) × (new ≡ old)
TickGives view config old new ms (Err Full) = (2 ^ 63 ≤ old.now + 1000 * ms) × (new ≡ old)
