use Rattle.std.proofs.Common.{◌≡◌}
use Rattle.toml.specs.Data.{no_members}
use Rattle.toml.specs.View.{members_view, table_view}
use Rattle.wl_plain.specs.Documents.{put_controllers}
use Rattle.wl_plain.proofs.controller.plain_controllers.Given as goal

-- the members that are left are put into what there is
abbrev pub invariant-loop-name : goal.invariant-loop-name
invariant-loop-name l =
    goal.iterator-loop-name.can_next l.name-iterator × goal.iterator-loop-name.is_finite l.name-iterator
    × (put_controllers l.units (members_view l.name-iterator) (table_view l.plain) ≡ put_controllers l.units (table_view l.table) no_members)
