use Rattle.std.proofs.Common.{◌≡◌, [], replicate}
use Rattle.wl_replica.proofs.node_rows.empty_rows.Given as goal

-- so many rows are there
abbrev pub invariant-loop : goal.invariant-loop
invariant-loop l = l.rows.items ≡ replicate l.counter []
