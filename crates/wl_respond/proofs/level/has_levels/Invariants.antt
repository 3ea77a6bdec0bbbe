use Rattle.std.proofs.Common.{◌≡◌}
use Rattle.wl_topology.specs.Driven.{any_below}
use Rattle.wl_respond.specs.Levels.{lacks_level}
use Rattle.wl_respond.proofs.level.has_levels.Given as goal

abbrev pub invariant-loop-e : goal.invariant-loop-e
invariant-loop-e l = l.lacks ≡ any_below l.e (lacks_level l.plan l.messages)
