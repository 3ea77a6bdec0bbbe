use Rattle.std.proofs.Common.{◌≡◌, ℕ, ◌<◌, false, get_or}
use Rattle.wl_clock.specs.Timing.{IsTiming}
use Rattle.wl_segments.specs.Lengths.{AreLengths}
use Rattle.wl_node.specs.declared.setup.NodeSetup.{NodeSetup}
use Rattle.wl_plan.specs.Checked.{has_many_quanta}
use Rattle.wl_plan.proofs.check.first_with_many_quanta.Given as goal

abbrev pub invariant-loop-i : goal.invariant-loop-i
invariant-loop-i l = record {
  few : (k : ℕ) (d : NodeSetup) → k < l.i → has_many_quanta l.limits l.end (get_or l.nodes k d) ≡ false;
  clocks : (k : ℕ) (d : NodeSetup) → k < l.i → IsTiming (get_or l.nodes k d).clock;
  segments : (k : ℕ) (d : NodeSetup) → k < l.i → AreLengths (get_or l.nodes k d).segments;
}
