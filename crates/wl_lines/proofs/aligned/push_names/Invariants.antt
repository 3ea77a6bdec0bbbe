use Rattle.std.proofs.Common.{◌≡◌, ◌++◌, map, drop}
use Rattle.std.specs.List.{flat_map}
use Rattle.wl_lines.specs.Aligned.{shown_head, head_cell}
use Rattle.wl_lines.proofs.aligned.push_names.Given as goal

-- the names so far, and then those that are left
abbrev pub invariant-loop-column : goal.invariant-loop-column
invariant-loop-column l =
    l.text.items ++ flat_map head_cell (map shown_head (drop l.column-index l.columns))
    ≡ l.fn.text.items ++ flat_map head_cell (map shown_head l.columns)
