use Rattle.std.proofs.Common.{◌≡◌}
use Rattle.wl_level.specs.Places.{first_place}
use Rattle.wl_bound.specs.Verdicts.{listener_sends}
use Rattle.wl_bound.proofs.verdict.first_listener_that_sends.Given as goal

-- the first of the nodes so far
abbrev pub invariant-loop-i : goal.invariant-loop-i
invariant-loop-i l = l.first ≡ first_place (listener_sends l.plan) l.i
