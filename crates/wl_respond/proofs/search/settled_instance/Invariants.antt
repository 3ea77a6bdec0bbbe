use Rattle.std.proofs.Common.{◌<◌}
use Rattle.wl_respond.specs.Rows.{wait_limit}
use Rattle.wl_respond.proofs.search.settled_instance.Given as goal

abbrev pub invariant-loop-step : goal.invariant-loop-step
invariant-loop-step l = l.window < wait_limit
