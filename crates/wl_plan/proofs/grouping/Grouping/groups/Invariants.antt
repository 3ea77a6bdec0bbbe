use Rattle.std.proofs.Common.{◌≡◌, take}
use Rattle.wl_plan.specs.Groupings.{groups_of}
use Rattle.wl_plan.proofs.grouping.Grouping.groups.Given as goal

abbrev pub invariant-loop-number : goal.invariant-loop-number
invariant-loop-number l = l.groups ≡ groups_of (take l.number-index l.number-items)
