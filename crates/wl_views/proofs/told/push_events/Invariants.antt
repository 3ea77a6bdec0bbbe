use Rattle.std.proofs.Common.{◌≡◌, ◌+◌, ◌-◌, ◌≤◌, ◌++◌, length}
use Rattle.std.specs.List.{filter}
use Rattle.wl_node.specs.Limits.{most_run_quanta}
use Rattle.wl_plan.specs.PlanLine.{setup_at}
use Rattle.wl_trace.specs.Replay.{IsWatchedNode}
use Rattle.wl_trace.proofs.Callers.{replay_of}
use Rattle.wl_views.specs.Picks.{is_picked}
use Rattle.wl_views.specs.Sampling.{IsSampling, given_by, quanta_sampled}
use Rattle.wl_views.specs.TraceText.{told_by}
use Rattle.wl_views.proofs.told.push_events.Given as goal

-- the samples so far were taken, and what they did that is picked stands after the others
abbrev pub invariant-loop-quantum : goal.invariant-loop-quantum
invariant-loop-quantum l = record {
  is : IsSampling l.plan l.i l.samples;
  kept : IsWatchedNode (setup_at l.plan l.i) l.node (replay_of (setup_at l.plan l.i) (given_by l.plan l.i l.samples)).0;
  count : length (replay_of (setup_at l.plan l.i) (given_by l.plan l.i l.samples)).0.samples ≡ l.bit;
  few : l.bit ≤ quanta_sampled l.samples;
  told : l.told.items ≡ l.fn.told.items
      ++ filter (is_picked l.pick) (told_by (setup_at l.plan l.i).clock l.i (replay_of (setup_at l.plan l.i) (given_by l.plan l.i l.samples)).1);
}

abbrev pub decreases-loop-quantum : goal.decreases-loop-quantum
decreases-loop-quantum l = most_run_quanta + 1 - quanta_sampled l.samples
