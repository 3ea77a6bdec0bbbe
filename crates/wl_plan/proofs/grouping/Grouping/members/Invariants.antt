use Rattle.std.proofs.Common.{◌≡◌, filter}
use Rattle.std.specs.List.{range_with_len}
use Rattle.wl_plan.specs.Groupings.{is_in_group}
use Rattle.wl_plan.proofs.grouping.Grouping.members.Given as goal

abbrev pub invariant-loop-i : goal.invariant-loop-i
invariant-loop-i l = l.members ≡ filter (is_in_group l.number-items l.group) (range_with_len 0 l.i)
