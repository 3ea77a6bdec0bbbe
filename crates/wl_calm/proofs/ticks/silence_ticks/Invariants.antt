use Rattle.std.proofs.Common.{◌≡◌, ◌+◌, ◌<◌, ◌^◌}
use Rattle.wl_plan.specs.PlanLine.{setup_at}
use Rattle.wl_onward.specs.Silences.{bits_ticks, greatest_below, way_to}
use Rattle.wl_calm.proofs.ticks.silence_ticks.Given as goal

-- of the nodes so far
abbrev pub invariant-loop-i : goal.invariant-loop-i
invariant-loop-i l = record {
  value : l.long ≡ greatest_below (λ i. way_to l.plan i + bits_ticks (setup_at l.plan i)) l.i;
  few : l.long < 2 ^ 65;
}
