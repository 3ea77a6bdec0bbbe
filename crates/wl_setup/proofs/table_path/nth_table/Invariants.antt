use Rattle.std.proofs.Common.{◌≡◌}
use Rattle.toml.specs.View.{members_view, table_view}
use Rattle.wl_setup.specs.TablePaths.{table_in}
use Rattle.wl_setup.proofs.table_path.nth_table.Given as goal

-- it is among those that are left
abbrev pub invariant-loop-value : goal.invariant-loop-value
invariant-loop-value l =
    goal.iterator-loop-value.can_next l.value-iterator × goal.iterator-loop-value.is_finite l.value-iterator
    × (table_in l.left (members_view l.value-iterator) ≡ table_in l.number (table_view l.table))
