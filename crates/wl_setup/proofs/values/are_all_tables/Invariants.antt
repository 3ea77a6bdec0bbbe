use Rattle.std.proofs.Common.{◌≡◌}
use Rattle.toml.specs.View.{members_view, table_view}
use Rattle.wl_setup.specs.Kinds.{are_all_tables}
use Rattle.wl_setup.proofs.values.are_all_tables.Given as goal

-- those that are left are tables, if all are
abbrev pub invariant-loop-value : goal.invariant-loop-value
invariant-loop-value l =
    goal.iterator-loop-value.can_next l.value-iterator × goal.iterator-loop-value.is_finite l.value-iterator
    × (are_all_tables (members_view l.value-iterator) ≡ are_all_tables (table_view l.table))
