use Rattle.std.proofs.Common.{◌<◌, ◌≤◌, ℕ, length}
use Rattle.wl_replica.specs.Dense.{row_of, IsGrown}
use Rattle.wl_replica.proofs.node_rows.make_room_for.Given as goal

-- the rows so far are long enough
abbrev pub invariant-loop-node : goal.invariant-loop-node
invariant-loop-node l = record {
  grown : IsGrown l.fn.rows.items l.rows.items;
  room : (i : ℕ) → i < l.node → length (row_of l.fn.others.items i) ≤ length (row_of l.rows.items i);
}
