use Rattle.std.proofs.Common.{◌≡◌, ◌≤◌, take, length}
use Rattle.wl_node.specs.Runs.{samples_by}
use Rattle.wl_node.proofs.samples.sample_at.Given as goal

-- as many samples as the runs so far have, and no more than the place
abbrev pub invariant-loop-i : goal.invariant-loop-i
invariant-loop-i l = (l.before ≡ length (samples_by (take l.i l.runs))) × (l.before ≤ l.k)
