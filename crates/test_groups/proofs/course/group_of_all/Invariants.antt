use Rattle.std.proofs.Common.{◌<◌, All, length}
use Rattle.test_groups.proofs.course.group_of_all.Given as goal

abbrev pub invariant-loop-i : goal.invariant-loop-i
invariant-loop-i l = All (λ m. m < length l.plan.nodes) l.members.items
