use Rattle.std.proofs.Common.{◌≡◌, ℕ, ◌<◌, ◌≤◌, false, length}
use Rattle.wl_plan.specs.PlanLine.{line_of}
use Rattle.wl_plan.specs.Simulation.{level}
use Rattle.wl_calm.proofs.pauses.driven_from.Given as goal

-- none of the nodes so far drives dominant
abbrev pub invariant-loop-i : goal.invariant-loop-i
invariant-loop-i l = record {
  later : l.t < l.until;
  silent : (k u : ℕ) → k < l.i → l.t ≤ u → u < l.until → level (line_of l.plan) k u ≡ false;
  room : length l.come ≡ 64;
}
