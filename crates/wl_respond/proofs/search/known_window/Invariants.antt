use Rattle.std.proofs.Common.{◌<◌}
use Rattle.wl_respond.specs.Rows.{wait_limit}
use Rattle.wl_respond.proofs.search.known_window.Given as goal

abbrev pub invariant-loop-e : goal.invariant-loop-e
invariant-loop-e l = l.known < wait_limit
