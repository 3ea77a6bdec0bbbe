use Rattle.std.proofs.Common.{◌≡◌, ◌++◌, map, drop}
use Rattle.wl_lines.specs.Csv.{names}
use Rattle.wl_lines.proofs.csv.push_names.Given as goal

-- the names so far, and then those that are left
abbrev pub invariant-loop-column : goal.invariant-loop-column
invariant-loop-column l =
    l.text.items ++ names (map (λ c. c.now) (drop l.column-index l.columns)) ≡ l.fn.text.items ++ names (map (λ c. c.now) l.columns)
