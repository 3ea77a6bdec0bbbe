use Rattle.std.proofs.Common.{◌≡◌}
use Rattle.wl_onward.specs.Silences.{AreFit, greatest_below, settled_for}
use Rattle.wl_calm.proofs.settled.settled_of.Given as goal

-- the nodes so far
abbrev pub invariant-loop-i : goal.invariant-loop-i
invariant-loop-i l = record {
  settled : l.settled ≡ greatest_below (settled_for l.plan) l.i;
  fit : AreFit l.plan l.i;
}
