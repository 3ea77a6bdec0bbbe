use Rattle.std.proofs.Common.{◌≡◌, ◌<◌, ℕ, length, slice_index_or}
use Rattle.wl_replica.specs.declared.known_run.KnownRun.{KnownRun}
use Rattle.wl_replica.specs.State.{slots_of}
use Rattle.wl_replica.specs.Runs.{IsRunOf}
use Rattle.wl_replica.proofs.replica.all_came.Given as goal

-- the runs of the nodes so far
abbrev pub invariant-loop-node : goal.invariant-loop-node
invariant-loop-node l = record {
  count : length l.runs.items ≡ length l.fn.runs.items;
  known : (i : ℕ) (d : KnownRun) → i < l.node → IsRunOf ((slots_of l.fn.rows).edge i) ((slots_of l.fn.rows).silence i) (slice_index_or l.runs.items i d);
}
