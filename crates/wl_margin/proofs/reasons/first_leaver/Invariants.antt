use Rattle.std.proofs.Common.{◌≡◌}
use Rattle.wl_level.specs.Places.{first_place}
use Rattle.wl_bound.specs.Covered.{leaves}
use Rattle.wl_margin.proofs.reasons.first_leaver.Given as goal

-- the first of the nodes so far
abbrev pub invariant-loop-i : goal.invariant-loop-i
invariant-loop-i l = l.first ≡ first_place (leaves l.plan) l.i
