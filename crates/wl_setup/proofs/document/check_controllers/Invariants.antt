use Rattle.std.proofs.Common.{◌+◌, ◌<◌, ◌≡◌}
use Prim.Native.Nat.{◌^◌}
use Rattle.toml.specs.View.{members_view, table_view}
use Rattle.wl_setup.specs.TablePaths.{controller_faults}
use Rattle.wl_setup.proofs.document.check_controllers.Given as goal

-- the first fault is among the controllers that are left
abbrev pub invariant-loop-n : goal.invariant-loop-n
invariant-loop-n l =
    goal.iterator-loop-n.can_next l.value-iterator × goal.iterator-loop-n.is_finite l.value-iterator
    × (l.n + goal.iterator-loop-n.remaining l.value-iterator < 2 ^ 64)
    × (controller_faults l.n (members_view l.value-iterator) ≡ controller_faults 0 (table_view l.table))
