use Rattle.std.proofs.Common.{◌≡◌, ◌++◌, drop}
use Rattle.wl_parts.specs.Joined.{lines_of_rows}
use Rattle.wl_parts.proofs.join.push_rows.Given as goal

abbrev pub invariant-loop-i : goal.invariant-loop-i
invariant-loop-i l = l.text.items ++ lines_of_rows (drop l.i l.words) (drop l.i l.rows) ≡ l.fn.text.items ++ lines_of_rows l.words l.rows
