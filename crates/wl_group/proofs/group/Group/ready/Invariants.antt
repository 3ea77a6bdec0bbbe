use Rattle.std.proofs.Common.{◌≡◌, ℕ, ◌<◌, false}
use Rattle.wl_group.specs.GroupValue.{may_run}
use Rattle.wl_group.proofs.group.Group.ready.Given as goal

abbrev pub invariant-loop-i : goal.invariant-loop-i
invariant-loop-i l = (j : ℕ) → j < l.i → may_run l.self j ≡ false
