-- A node that runs again beside the line at its place, with the tick up to which its signals stay (this project's profile).
use Rattle.std.specs.Prelude.{◌≡◌, ℕ, ◌+◌, ◌*◌, ◌<◌, ◌≤◌, ◌||◌, nat_lt, min, not, Bool, List, length, slice_index_or, if◌then◌else◌}
use Rattle.wl_level.specs.Levels.{is_dominant}
use Rattle.wl_clock.specs.Timing.{Timing, tick_of}
use Rattle.wl_plan.specs.declared.plan.Plan.{Plan}
use Rattle.wl_plan.specs.PlanLine.{disturbed, line_of, setup_at}
use Rattle.wl_plan.specs.Simulation.{AreInside, seen}
use Rattle.wl_trace.specs.declared.snapshot.NodeSnapshot.{NodeSnapshot}
use Rattle.wl_trace.specs.Rerun.{IsRerun}
use Rattle.wl_trace.specs.Snapshot.{snapshot_of}
use Rattle.wl_views.specs.declared.signals.NodeSignals.{NodeSignals}
use Rattle.wl_views.specs.declared.calendar.Calendar.{Calendar}
use Rattle.wl_views.specs.declared.probe.Probe.{Probe}
use Rattle.wl_views.specs.Signals.{snapshot_then}
use Rattle.wl_views.specs.Calendar.{date_at}
use Rattle.wl_views.specs.PlaceLine.{Hears, heard_until}

-- later than any tick
abbrev pub no_tick : ℕ
no_tick = 18446744073709551615

-- the tick of this quantum where it is before the end
abbrev pub next_of : Timing → ℕ → ℕ → ℕ
next_of clock end k = if nat_lt (tick_of clock k) end then tick_of clock k else no_tick

-- the signals of a node that shows this, where the cable is dominant or not, and there is a disturbance or none
abbrev pub signals_by : NodeSnapshot → Bool → Bool → NodeSignals
signals_by snapshot driven disturbed = record {
  tx = not (is_dominant snapshot.drive);
  rx = not (driven || disturbed);
  cable = not driven;
  disturbance = disturbed;
  sample = snapshot.sampled;
  start = snapshot.started;
  state = snapshot.state;
}

-- a node runs again, and has seen so many of its quanta before the end
pub record Runs (plan : Plan) (i : ℕ) (w : Probe) : Type 0 where
  pub node : IsRerun (setup_at plan i) (seen (line_of plan) i w.quanta) w.node
  pub snapshot : w.snapshot ≡ snapshot_of (setup_at plan i) (seen (line_of plan) i w.quanta)
  pub inside : AreInside (line_of plan) i w.quanta

-- so many quanta begin before the line changes, and before the end
abbrev pub IsLimit : Plan → ℕ → Probe → Type 0
IsLimit plan i w = (q : ℕ) → q < w.limit → tick_of (setup_at plan i).clock q < min (heard_until w.line) plan.end

-- those that begin before tick t
pub record Awaits (plan : Plan) (i t : ℕ) (w : Probe) : Type 0 where
  pub runs : Runs plan i w
  pub next : w.next ≡ next_of (setup_at plan i).clock plan.end w.quanta
  pub before : (q : ℕ) → q < w.quanta → tick_of (setup_at plan i).clock q < t
  pub here : t ≤ w.next

-- those that begin up to tick t
pub record SawUpTo (plan : Plan) (i t : ℕ) (w : Probe) : Type 0 where
  pub runs : Runs plan i w
  pub before : (q : ℕ) → q < w.quanta → tick_of (setup_at plan i).clock q ≤ t
  pub later : t < next_of (setup_at plan i).clock plan.end w.quanta

-- From tick t on it hears this, and shows what it does now: it has seen those that begin before the next, at which alone that may change.
pub record Watches (plan : Plan) (i t : ℕ) (w : Probe) : Type 0 where
  pub runs : Runs plan i w
  pub hears : Hears plan i t w.line
  pub limit : IsLimit plan i w
  pub next : w.next ≡ next_of (setup_at plan i).clock plan.end w.quanta
  pub before : (q : ℕ) → q < w.quanta → tick_of (setup_at plan i).clock q < heard_until w.line
  pub later : t < w.next
  pub until : w.until ≡ min (heard_until w.line) w.next
  pub same : (u : ℕ) → t ≤ u → u < w.until → snapshot_then plan i u ≡ w.snapshot

-- that of all nodes
pub record AllWatched (plan : Plan) (t : ℕ) (all : List Probe) : Type 0 where
  pub nodes : length all ≡ length plan.nodes
  pub each : (i : ℕ) (d : Probe) → i < length plan.nodes → Watches plan i t (slice_index_or all i d)

-- the turn of each node is when that runs out, or at the end
pub record IsCalendarOf (end : ℕ) (all : List Probe) (calendar : Calendar) : Type 0 where
  pub nodes : calendar.nodes ≡ length all
  pub each : (i : ℕ) (d : Probe) → i < length all → date_at calendar.tree (calendar.nodes + i) ≡ min (slice_index_or all i d).until end * 64 + i
