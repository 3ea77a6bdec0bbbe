-- A node of a plan that only listens, and what it receives of the frames that go through among the others. This project's.
use Rattle.std.specs.Prelude.{◌≡◌, ℕ, ◌+◌, ◌<◌, ◌≤◌, true, [], length, None}
use Rattle.wl_confine.specs.Counts.{no_counts}
use Rattle.wl_topology.specs.Delays.{place_at, propagation_of}
use Rattle.wl_node.specs.History.{counters_of, error_count}
use Rattle.wl_phase.specs.Clocks.{HasRate, steady_tick}
use Rattle.wl_plan.specs.declared.plan.Plan.{Plan}
use Rattle.wl_plan.specs.PlanLine.{line_of, setup_at}
use Rattle.wl_plan.specs.Simulation.{AreInside}
use Rattle.wl_buses.specs.OneFrame.Expected.{expected_sample}
use Rattle.wl_buses.specs.OneFrame.Stations.{Stations}
use Rattle.wl_buses.specs.FirstFrame.FirstFrames.{queues_of, waiting_of}
use Rattle.wl_buses.specs.FirstFrame.FirstStarts.{due_first, eleventh, has_first}
use Rattle.wl_buses.specs.CleanPlans.Clean.{AllGetThrough, plan_history}
use Rattle.wl_buses.specs.HeardFrames.Joined.{JoinsFrames}
use Rattle.wl_buses.specs.OneListener.Beside.{with_listener}
use Rattle.wl_buses.specs.OneListener.Frames.{received_with}
use Rattle.wl_buses.specs.OneListener.Muted.{muted, muted_way}
use Rattle.wl_listeners.specs.Listeners.{IsNoneOf}

-- Node i of a plan only listens (ISO 11898-1, bus monitoring), and is none of the other plan's nodes, which are these stations. It is the station after the last: its clock has one rate, it has no frames,
-- and never leaves the bus. It has its eleventh sample before the first start of frame would reach it (Bosch CAN 2.0 part B, section 2, wake-up).
pub record IsListenerAt (plan other : Plan) (at : ℕ → ℕ) (i : ℕ) (s : Stations) : Type 0 where
  pub inside : i < length plan.nodes
  pub none : IsNoneOf other at i
  pub listens : (place_at plan.topology i).listens ≡ true
  pub rate : HasRate (setup_at plan i).clock (s.clocks s.count)
  pub segments : (setup_at plan i).segments ≡ s.lengths s.count
  pub queue : (setup_at plan i).queue ≡ []
  pub stays : (setup_at plan i).until ≡ None
  pub undisturbed : plan.disturbances ≡ []
  pub ways : (k : ℕ) → k < s.count → s.delay k s.count ≡ propagation_of plan.topology (at k) i
  pub loop : s.delay s.count s.count ≡ propagation_of plan.topology i i
  pub idle : (k : ℕ) → k < s.count → has_first (waiting_of other (queues_of other) s) k ≡ true
      → steady_tick (s.clocks s.count) (eleventh (waiting_of other (queues_of other) s) s.count) < steady_tick (s.clocks k) (due_first (waiting_of other (queues_of other) s) k) + s.delay k s.count

-- All frames get through among the others (`AllGetThrough`). Then at each quantum of node i up to the end of the plan:
pub record HearsAll (plan other : Plan) (i : ℕ) (s : Stations) (chase : ℕ → ℕ) (all : AllGetThrough other s) : Type 0 where
  -- (the same frames, with the listener among the stations)
  pub far : ℕ
  pub joins : JoinsFrames s (muted s far).delay (muted s far).way (muted_way s far) (waiting_of other (queues_of other) s) all.bus.frames all.bus.count chase all.bus.by.content
  -- there was no error and nothing that counts,
  pub fine : (k : ℕ) → AreInside (line_of plan) i k → error_count (plan_history plan i k) ≡ 0
  pub counters : (k : ℕ) → AreInside (line_of plan) i k → counters_of (plan_history plan i k) ≡ no_counts
  -- it has received the first so many of these frames, and nothing else has passed it,
  pub received : (k : ℕ) → AreInside (line_of plan) i k
      → (n : ℕ) × (n ≤ all.bus.count) × ((plan_history plan i k).frames ≡ received_with (muted s far) joins.joined all.bus.by.content n)
  -- each with its sample of the last but one bit of the end of frame.
  pub in_time : (k n : ℕ) → AreInside (line_of plan) i k → n < all.bus.count
      → expected_sample (with_listener (muted s far)) (joins.joined n).outset ((joins.joined n).bits + 8) s.count < k → n < length (plan_history plan i k).frames
