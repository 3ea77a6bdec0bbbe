use Rattle.std.proofs.Common.{◌≡◌}
use Rattle.toml.specs.View.{members_view, table_view}
use Rattle.wl_plain.specs.Measures.{put_row}
use Rattle.wl_plain.proofs.measure.put_row.Given as goal

-- the members that are left are put into what there is
abbrev pub invariant-loop-key : goal.invariant-loop-key
invariant-loop-key l =
    goal.iterator-loop-key.can_next l.key-iterator × goal.iterator-loop-key.is_finite l.key-iterator
    × (put_row l.units l.row (members_view l.key-iterator) (table_view l.into) ≡ put_row l.units l.row (table_view l.table) (table_view l.fn.into))
