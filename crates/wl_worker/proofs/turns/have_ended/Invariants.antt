use Rattle.std.proofs.Common.{◌≡◌, ℕ, ◌<◌, true}
use Rattle.wl_group.specs.GroupValue.{belongs, has_ended}
use Rattle.wl_worker.proofs.turns.have_ended.Given as goal

abbrev pub invariant-loop-i : goal.invariant-loop-i
invariant-loop-i l = (j : ℕ) → j < l.i → belongs l.group j ≡ true → has_ended l.group j ≡ true
