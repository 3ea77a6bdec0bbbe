use Rattle.std.proofs.Common.{◌<◌}
use Rattle.wl_respond.specs.Rows.{wait_limit}
use Rattle.wl_respond.proofs.search.longest_wait.Given as goal

abbrev pub invariant-loop-j : goal.invariant-loop-j
invariant-loop-j l = (l.window < wait_limit) × (l.longest < wait_limit)
