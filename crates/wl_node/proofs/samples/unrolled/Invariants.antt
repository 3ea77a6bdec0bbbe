use Rattle.std.proofs.Common.{◌≡◌, take}
use Rattle.wl_node.specs.Runs.{samples_by}
use Rattle.wl_node.proofs.samples.unrolled.Given as goal

-- the samples of the runs so far
abbrev pub invariant-loop-k : goal.invariant-loop-k
invariant-loop-k l = l.list.items ≡ samples_by (take l.k l.runs)
