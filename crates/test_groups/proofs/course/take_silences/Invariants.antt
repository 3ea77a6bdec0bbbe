use Rattle.std.proofs.Common.{◌≡◌}
use Rattle.test_groups.proofs.course.take_silences.Given as goal

abbrev pub invariant-loop-j : goal.invariant-loop-j
invariant-loop-j l = l.group.plan ≡ l.plan
