use Rattle.std.proofs.Common.{◌≡◌}
use Rattle.wl_topology.specs.Driven.{any_below}
use Rattle.wl_respond.specs.Briefs.{comes_again}
use Rattle.wl_respond.proofs.brief.is_cyclic.Given as goal

-- one of the messages so far does
abbrev pub invariant-loop-e : goal.invariant-loop-e
invariant-loop-e l = l.any ≡ any_below l.e (comes_again l.asked)
