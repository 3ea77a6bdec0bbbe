-- What of a simulation a waveform shows, at each tick: the logic levels of each node's signals. Recessive is high (Bosch CAN 2.0 part A,
-- section 2, "Bus values"; ISO 11898-1, where a transceiver's TXD and RXD are high for recessive). The marks of samples and bit starts are this project's profile.
use Rattle.std.specs.Prelude.{ℕ, suc, not, Bool, List, map, length}
use Rattle.std.specs.List.{range_with_len}
use Rattle.wl_level.specs.declared.Level.{Level}
use Rattle.wl_topology.specs.Delays.{delay_of}
use Rattle.wl_topology.specs.Driven.{driven}
use Rattle.wl_plan.specs.declared.plan.Plan.{Plan}
use Rattle.wl_plan.specs.Line.{found}
use Rattle.wl_plan.specs.PlanLine.{disturbed, setup_at, line_of}
use Rattle.wl_plan.specs.Simulation.{history, level}
use Rattle.wl_trace.specs.declared.snapshot.NodeSnapshot.{NodeSnapshot}
use Rattle.wl_trace.specs.Snapshot.{snapshot_of}
use Rattle.wl_views.specs.declared.signals.NodeSignals.{NodeSignals}

-- the levels that node i has seen up to tick t, in a quantum of that tick too
abbrev pub levels_then : Plan → ℕ → ℕ → List Level
levels_then plan i t = (history (line_of plan) (suc t)).seen i

-- what a waveform shows of it then
abbrev pub snapshot_then : Plan → ℕ → ℕ → NodeSnapshot
snapshot_then plan i t = snapshot_of (setup_at plan i) (levels_then plan i t)

-- whether some node's drive is dominant on the cable at node i's place
abbrev pub driven_at : Plan → ℕ → ℕ → Bool
driven_at plan i = driven (length plan.nodes) (delay_of plan.topology) (level (line_of plan)) i

-- Node i at tick t: what it drives, what it finds on the line at its place, the cable there and whether a disturbance is there, two marks that are low at first and turn at each sample and at
-- each start of a bit, and what it is at.
unfoldable pub node_signals : Plan → ℕ → ℕ → NodeSignals
node_signals plan t i = record {
  tx = not (level (line_of plan) i t);
  rx = not (found (line_of plan) (level (line_of plan)) i t);
  cable = not (driven_at plan i t);
  disturbance = disturbed plan i t;
  sample = (snapshot_then plan i t).sampled;
  start = (snapshot_then plan i t).started;
  state = (snapshot_then plan i t).state;
}

-- all nodes
abbrev pub signals : Plan → ℕ → List NodeSignals
signals plan t = map (node_signals plan t) (range_with_len 0 (length plan.nodes))
