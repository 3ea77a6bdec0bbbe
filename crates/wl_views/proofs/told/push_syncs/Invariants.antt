use Rattle.std.proofs.Common.{◌≡◌, ◌+◌, ◌-◌, ◌++◌}
use Rattle.std.specs.List.{filter}
use Rattle.wl_node.specs.Limits.{most_run_quanta}
use Rattle.wl_plan.specs.PlanLine.{setup_at}
use Rattle.wl_views.specs.Picks.{is_picked}
use Rattle.wl_views.specs.Sampling.{IsSampling, quanta_sampled, synced_by}
use Rattle.wl_views.specs.TraceText.{told_by}
use Rattle.wl_views.proofs.told.push_syncs.Given as goal

-- how edges synchronised it so far stands after the others, as far as it is picked
abbrev pub invariant-loop-sync : goal.invariant-loop-sync
invariant-loop-sync l = record {
  is : IsSampling l.plan l.i l.node;
  told : l.told.items ≡ l.fn.told.items
      ++ filter (is_picked l.pick) (told_by (setup_at l.plan l.i).clock l.i (synced_by l.plan l.i l.node));
}

abbrev pub decreases-loop-sync : goal.decreases-loop-sync
decreases-loop-sync l = most_run_quanta + 1 - quanta_sampled l.node
