use Rattle.std.proofs.Common.{◌-◌, ◌≡◌, ◌≤◌, true}
use Rattle.wl_record_core.specs.Limits.{most_edges}
use Rattle.wl_replica.specs.Dense.{edges_of_row, row_number}
use Rattle.wl_replica.specs.Known.{is_run, after_edges}
use Rattle.wl_replica.proofs.known_run.run_on.Given as goal

-- the run so far
abbrev pub invariant-loop-run : goal.invariant-loop-run
invariant-loop-run l = record {
  run : is_run (edges_of_row l.fn.edges) (row_number l.fn.silences) l.run.length ≡ true;
  end : l.run.end ≡ after_edges (edges_of_row l.fn.edges) l.run.length;
  few : l.run.length ≤ most_edges;
}

abbrev pub decreases-loop-run : goal.decreases-loop-run
decreases-loop-run l = most_edges - l.run.length
