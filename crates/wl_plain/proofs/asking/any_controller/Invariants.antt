use Rattle.std.proofs.Common.{◌≡◌}
use Rattle.toml.specs.View.{members_view, table_view}
use Rattle.wl_plain.specs.Asking.{asks_controllers}
use Rattle.wl_plain.proofs.asking.any_controller.Given as goal

-- one of the members that are left asks, if one of all does
abbrev pub invariant-loop-value : goal.invariant-loop-value
invariant-loop-value l =
    goal.iterator-loop-value.can_next l.value-iterator × goal.iterator-loop-value.is_finite l.value-iterator
    × (asks_controllers (members_view l.value-iterator) ≡ asks_controllers (table_view l.table))
