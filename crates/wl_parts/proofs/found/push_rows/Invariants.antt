use Rattle.std.proofs.Common.{◌≡◌, ◌++◌, drop}
use Rattle.wl_parts.proofs.found.push_rows.Given as goal

abbrev pub invariant-loop-row : goal.invariant-loop-row
invariant-loop-row l = l.rows ++ drop l.row-index l.more ≡ l.fn.rows ++ l.more
