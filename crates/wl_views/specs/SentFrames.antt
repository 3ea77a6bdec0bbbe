-- The frames that were sent, each with the tick of its completion.
use Rattle.std.specs.Prelude.{◌≡◌, ℕ, ◌<◌, ◌≤◌, List, map, length}
use Rattle.std.specs.List.{filter, flat_map, enumerate_from, All}
use Rattle.wl_clock.specs.Timing.{Timing, tick_of}
use Rattle.wl_frame.specs.Grammar.{Content}
use Rattle.wl_node.specs.declared.setup.Passed.{Passed}
use Rattle.wl_node.specs.History.{is_sent}
use Rattle.wl_node.specs.Limits.{most_run_quanta}
use Rattle.wl_plan.specs.declared.plan.Plan.{Plan}
use Rattle.wl_plan.specs.PlanLine.{setup_at}
use Rattle.wl_plan.specs.Checked.{IsChecked}
use Rattle.wl_serial.specs.declared.outcome.NodeTotals.{NodeTotals}
use Rattle.wl_serial.specs.Outcome.{outcome_of, totals_of}

-- the frames that a node with this clock sent, each with the tick at which the quantum of its last sample began: that of the last
-- bit of end of frame, where the frame is valid for its sender (Bosch CAN 2.0 part B, section 5)
abbrev pub sent_by : Timing → List Passed → List (ℕ × Content)
sent_by clock frames = map (λ p. (tick_of clock p.quantum, p.frame)) (filter is_sent frames)

-- those of all nodes, node by node
abbrev pub all_sent : Plan → List NodeTotals → List (ℕ × Content)
all_sent plan totals = flat_map (λ n. sent_by (setup_at plan n.0).clock n.1.frames) (enumerate_from 0 totals)

-- Each node has its clock, each frame was completed at a quantum that clocks know, and below the end.
pub record AreInTime (plan : Plan) (totals : List NodeTotals) : Type 0 where
  pub nodes : length totals ≡ length plan.nodes
  pub quanta : All (λ node. All (λ p. p.quantum ≤ most_run_quanta) node.frames) totals
  pub ended : All (λ s. s.0 < plan.end) (all_sent plan totals)

-- the outcome of a plan that can be run is so
abbrev pub SentInTime : Type 0
SentInTime = (plan : Plan) → IsChecked plan → AreInTime plan (totals_of (outcome_of plan))
