use Rattle.std.proofs.Common.{◌≤◌}
use Rattle.wl_group.proofs.heard.sure.Given as goal

abbrev pub invariant-loop-count : goal.invariant-loop-count
invariant-loop-count l = l.count ≤ l.guess

abbrev pub decreases-loop-count : goal.decreases-loop-count
decreases-loop-count l = l.count
