use Rattle.std.proofs.Common.{◌≡◌, ◌++◌}
use Rattle.wl_node.specs.Runs.{samples_from}
use Rattle.wl_node.proofs.samples.unroll.Given as goal

-- the samples so far
abbrev pub invariant-loop-k : goal.invariant-loop-k
invariant-loop-k l = l.list.items ≡ l.fn.list.items ++ samples_from l.run.from l.run.step l.run.level l.k
