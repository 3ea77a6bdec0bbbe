use Rattle.std.proofs.Common.{ℕ, ◌<◌, ◌≤◌, slice_index_or}
use Rattle.wl_serial.specs.declared.running_node.Running.{Running}
use Rattle.wl_serial.proofs.engine.left_before.Given as goal

-- the nodes so far have run to the end
abbrev pub invariant-loop-i : goal.invariant-loop-i
invariant-loop-i l = (k : ℕ) (d : Running) → k < l.i → l.plan.end ≤ (slice_index_or l.running k d).next
