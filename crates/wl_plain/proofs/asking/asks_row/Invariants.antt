use Rattle.std.proofs.Common.{◌≡◌}
use Rattle.toml.specs.View.{members_view, table_view}
use Rattle.wl_plain.specs.Asking.{asks_row}
use Rattle.wl_plain.proofs.asking.asks_row.Given as goal

-- one of the members that are left asks, if one of all does
abbrev pub invariant-loop-key : goal.invariant-loop-key
invariant-loop-key l =
    goal.iterator-loop-key.can_next l.key-iterator × goal.iterator-loop-key.is_finite l.key-iterator
    × (asks_row l.row (members_view l.key-iterator) ≡ asks_row l.row (table_view l.table))
