use Rattle.std.proofs.Common.{◌≡◌, map, Some, None, if◌then◌else◌}
use Rattle.std.specs.List.{range_with_len}
use Rattle.wl_group.specs.Kept.{ran_of, AreCells, AreListing}
use Rattle.wl_group.specs.Chosen.{is_chosen}
use Rattle.wl_group.proofs.begin.fresh_cells.Given as goal

abbrev pub invariant-loop-i : goal.invariant-loop-i
invariant-loop-i l =
    (ran_of l.cells.items ≡ map (λ j. if is_chosen l.chosen j then Some 0 else None) (range_with_len 0 l.i)) × AreCells l.plan l.cells.items
    × AreListing l.lists l.cells.items
