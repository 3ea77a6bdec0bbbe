-- When a plan can be run, and what is wrong with one that can't. This project's profile.
use Rattle.std.specs.Prelude.{◌≡◌, ℕ, ◌<◌, ◌≤◌, ◌==◌, ◌||◌, ◌↔◌, nat_le, nat_lt, not, Bool, true, false, length, position, All, Option, None, Some, if◌then◌else◌}
use Rattle.std.specs.List.{enumerate_from}
use Rattle.wl_clock.specs.Timing.{IsTiming, tick_of}
use Rattle.wl_segments.specs.Lengths.{Lengths, AreLengths, least_way}
use Rattle.wl_topology.specs.Delays.{IsTopology, disturbance_delay}
use Rattle.wl_topology.specs.Driven.{any_below}
use Rattle.wl_topology.specs.Limits.{most_places, longest_delay}
use Rattle.wl_node.specs.declared.setup.NodeSetup.{NodeSetup}
use Rattle.wl_plan.specs.declared.check.PlanFault.{PlanFault}
use Rattle.wl_plan.specs.declared.check.PlanFault.TheVariants as faults
use Rattle.wl_plan.specs.declared.plan.Disturbance.{Disturbance}
use Rattle.wl_plan.specs.declared.plan.Plan.{Plan}
use Rattle.wl_limits.specs.declared.Limits.{Limits}
use Rattle.wl_limits.specs.declared.Limits.TheVariants.{Narrow}
use Rattle.wl_limits.specs.Limits.{node_limit, end_limit, quanta_limit, short_quanta_limit, queue_limit, disturbance_limit}
use Rattle.wl_plan.specs.Limits.{latest_end, most_quanta, most_short_quanta, most_queued, few_queued, most_disturbances}
use Rattle.wl_plan.specs.PlanLine.{line_of}
use Rattle.wl_plan.specs.Sound.{IsSound}

-- the most quanta of a node before the end: so many that records can tell each of its changes, between which a start and its sample come
abbrev pub most_quanta_of : Lengths → ℕ
most_quanta_of l = if nat_lt (least_way l) 3 then most_short_quanta else most_quanta

-- the same by these limits
abbrev pub quanta_limit_of : Limits → Lengths → ℕ
quanta_limit_of limits l = if nat_lt (least_way l) 3 then short_quanta_limit limits else quanta_limit limits

-- few quanta of a node begin before the end; quanta count from 0
abbrev pub HasFewQuanta : ℕ → NodeSetup → Type 0
HasFewQuanta end node = (k : ℕ) → tick_of node.clock k < end → k < most_quanta_of node.segments

abbrev pub HasFewQuantaBy : Limits → ℕ → NodeSetup → Type 0
HasFewQuantaBy limits end node = (k : ℕ) → tick_of node.clock k < end → k < quanta_limit_of limits node.segments

-- what is at a place on the cable comes to each node soon; what is at one node is at one that is there
abbrev pub IsNear : Plan → Option ℕ → ℕ → Type 0
IsNear plan None x = (j : ℕ) → j < length plan.nodes → disturbance_delay plan.topology x j ≤ longest_delay
IsNear plan (Some n) x = n < length plan.nodes

-- A disturbance takes some ticks, ends in time, and is near.
pub record IsDisturbance (plan : Plan) (d : Disturbance) : Type 0 where
  pub lasts : d.from < d.to
  pub ends : d.to ≤ latest_end
  pub near : IsNear plan d.node d.x

-- A plan can be run: its clocks, its segments and its cable are some, and it keeps the limits.
pub record IsChecked (plan : Plan) : Type 0 where
  pub clocks : All (λ node. IsTiming node.clock) plan.nodes
  pub segments : All (λ node. AreLengths node.segments) plan.nodes
  pub cable : IsTopology plan.topology
  pub some_node : 0 < length plan.nodes
  pub few_nodes : length plan.nodes ≤ most_places
  pub placed : length plan.nodes ≡ length plan.topology.places
  pub ends : plan.end ≤ latest_end
  pub few_quanta : All (HasFewQuanta plan.end) plan.nodes
  pub short_queues : All (λ node. length node.queue ≤ most_queued) plan.nodes
  pub few_disturbances : length plan.disturbances ≤ most_disturbances
  pub disturbances : All (IsDisturbance plan) plan.disturbances

-- no node, too many, or not as many as places
abbrev pub has_wrong_nodes : Limits → Plan → Bool
has_wrong_nodes limits plan =
    (length plan.nodes == 0) || (nat_lt (node_limit limits) (length plan.nodes) || not (length plan.nodes == length plan.topology.places))

-- one quantum more than allowed begins before the end
abbrev pub has_many_quanta : Limits → ℕ → NodeSetup → Bool
has_many_quanta limits end node = nat_lt (tick_of node.clock (quanta_limit_of limits node.segments)) end

-- more frames wait at it than so many
abbrev pub has_long_queue : ℕ → NodeSetup → Bool
has_long_queue queued node = nat_lt queued (length node.queue)

-- a place on the cable takes too long to some node
abbrev pub is_far_from : Plan → ℕ → Bool
is_far_from plan x = any_below (length plan.nodes) (λ j. nat_lt longest_delay (disturbance_delay plan.topology x j))

-- and a node that isn't there is far, too
abbrev pub is_far_by : Plan → Option ℕ → ℕ → Bool
is_far_by plan None x = is_far_from plan x
is_far_by plan (Some n) x = nat_le (length plan.nodes) n

abbrev pub is_far : Plan → Disturbance → Bool
is_far plan d = is_far_by plan d.node d.x

-- what is wrong with a disturbance and its number, which counts from 0: it takes no tick, ends too late, is one too many, or is far
abbrev pub is_refused : Limits → Plan → ℕ × Disturbance → Bool
is_refused limits plan (n, d) = nat_le d.to d.from || (nat_lt (end_limit limits) d.to || (nat_le (disturbance_limit limits) n || is_far plan d))

-- The first fault in their order: wrong nodes, a late end, the first node with many quanta, the first with a long queue, the
-- first disturbance that is refused.
abbrev pub first_fault : Bool → Bool → Option ℕ → Option ℕ → Option ℕ → Option PlanFault
first_fault true late many long refused = Some faults.Nodes
first_fault false true many long refused = Some faults.End
first_fault false false (Some i) long refused = Some (faults.Quanta i)
first_fault false false None (Some i) refused = Some (faults.Queue i)
first_fault false false None None (Some n) = Some (faults.Disturbance n)
first_fault false false None None None = None

-- by these limits, if at most so many frames may wait at a node
abbrev pub fault_within : Limits → ℕ → Plan → Option PlanFault
fault_within limits queued plan =
    first_fault (has_wrong_nodes limits plan) (nat_lt (end_limit limits) plan.end) (position (has_many_quanta limits plan.end) plan.nodes)
    (position (has_long_queue queued) plan.nodes) (position (is_refused limits plan) (enumerate_from 0 plan.disturbances))

abbrev pub fault_of : Plan → Option PlanFault
fault_of plan = fault_within Narrow few_queued plan

-- at most so many frames wait at each node
abbrev pub HasShortQueues : ℕ → Plan → Type 0
HasShortQueues queued plan = All (λ node. length node.queue ≤ queued) plan.nodes

-- A plan is within these limits, and at most so many frames wait at each node.
pub record IsPlanWithin (limits : Limits) (queued : ℕ) (plan : Plan) : Type 0 where
  pub nodes : length plan.nodes ≤ node_limit limits
  pub ends : plan.end ≤ end_limit limits
  pub quanta : All (HasFewQuantaBy limits plan.end) plan.nodes
  pub queues : HasShortQueues queued plan
  pub few_disturbances : length plan.disturbances ≤ disturbance_limit limits
  pub disturbances : All (λ d. d.to ≤ end_limit limits) plan.disturbances

-- a plan of clocks, segments and a cable has no fault exactly if it can be run, and is within the limits
abbrev pub FaultlessIsChecked : Type 0
FaultlessIsChecked = (limits : Limits) (plan : Plan) (queued : ℕ) → queued ≤ queue_limit limits → All (λ node. IsTiming node.clock) plan.nodes
    → All (λ node. AreLengths node.segments) plan.nodes → IsTopology plan.topology
    → (fault_within limits queued plan ≡ None) ↔ (IsChecked plan × IsPlanWithin limits queued plan)

-- what a plan that can be run means keeps all on which its simulation rests
abbrev pub CheckedIsSound : Type 0
CheckedIsSound = (plan : Plan) → IsChecked plan → IsSound (line_of plan)
