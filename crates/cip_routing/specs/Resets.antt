-- A reset of the whole module (Volume 1, chapter 5, Identity object, service Reset).
use Rattle.std.specs.Prelude.{ℕ, Bool, ◌&&◌, if◌then◌else◌, List, [], ◌∷◌, Option, Some, None, map, filter_map}
use Rattle.std.specs.FinMap as finite
use Rattle.cip_base.specs.Words.{OpNumber}
use Rattle.cip_pending.specs.declared.entry.UpSide.{UpSide}
use Rattle.cip_pending.specs.declared.entry.UpSide.TheVariants.{Link, Local}
use Rattle.cip_pending.specs.Pendings.{Pendings}
use Rattle.cip_pending.specs.Pendings as pendings
use Rattle.cip_hops.specs.declared.hop.Hop.{Hop}
use Rattle.cip_hops.specs.Hops.{Hops, as_hop}
use Rattle.cip_hops.specs.Hops as hops
use Rattle.cip_hops.specs.Sides.{op_of}
use Rattle.cip_target.specs.Assemblies.{zeroed, configs_in}
use Rattle.cip_event.specs.declared.event.Output.{Output}
use Rattle.cip_event.specs.declared.event.Output.TheVariants as outputs
use Rattle.cip_routing.specs.State.{State, is_spent, spent_with}

-- there is an incarnation after this, of numbers and of ids
abbrev pub can_reset : State → Bool
can_reset s =
    pendings.has_next_incarnation s.pendings && hops.has_next_incarnation s.hops

-- No request waits, no connection is opening or open, numbers and ids begin their next incarnation,
-- and the bytes of each assembly are 00. The clock and the ops that were used stay.
abbrev pub reset_state : State → State
reset_state s = record {
  now = s.now;
  pendings = pendings.reset s.pendings;
  hops = hops.reset s.hops;
  assemblies = zeroed (configs_in s.assemblies);
  ops = s.ops;
}

-- ---- the ops that a reset ends

-- the op of a request that a command of this module made
abbrev pub asking_op : UpSide → Option OpNumber
asking_op (Link port address number) = None
asking_op (Local op) = Some op

-- the ops whose requests wait
abbrev pub waiting_ops : Pendings → List ℕ
waiting_ops p = filter_map (λ e. asking_op e.1.up) (finite.entries p.entries)

-- the op that opened a connection
abbrev pub opening_op : Hop → Option OpNumber
opening_op hop = op_of hop.opening.up

-- the ops whose connections are open
abbrev pub open_ops : Hops → List ℕ
open_ops h = filter_map opening_op (filter_map (λ e. as_hop e.1) (finite.entries h.held))

-- with op at its place, once
abbrev pub noted : OpNumber → List ℕ → List ℕ
noted op ops = if is_spent op ops then ops else spent_with op ops

abbrev pub all_noted : List ℕ → List ℕ → List ℕ
all_noted ops [] = ops
all_noted ops (op ∷ others) = all_noted (noted op ops) others

-- each op whose request waits, or whose connection is open, once and rising
abbrev pub held_ops : State → List ℕ
held_ops s = all_noted (all_noted [] (waiting_ops s.pendings)) (open_ops s.hops)

abbrev pub all_ended : List ℕ → List Output
all_ended ops = map outputs.Ended ops
