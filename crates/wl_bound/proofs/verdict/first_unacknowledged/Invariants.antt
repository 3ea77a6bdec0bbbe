use Rattle.std.proofs.Common.{◌≡◌}
use Rattle.wl_level.specs.Places.{first_place}
use Rattle.wl_bound.specs.Verdicts.{is_unacknowledged}
use Rattle.wl_bound.proofs.verdict.first_unacknowledged.Given as goal

-- the first of the nodes so far
abbrev pub invariant-loop-i : goal.invariant-loop-i
invariant-loop-i l = l.first ≡ first_place (is_unacknowledged l.plan) l.i
