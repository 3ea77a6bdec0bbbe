use Rattle.std.proofs.Common.{◌≡◌}
use Rattle.wl_level.specs.Places.{first_place}
use Rattle.wl_judge.specs.Weakest.{is_coarsest}
use Rattle.wl_judge.proofs.weakest.coarsest.Given as goal

-- the first of the nodes so far
abbrev pub invariant-loop-i : goal.invariant-loop-i
invariant-loop-i l = l.first ≡ first_place (is_coarsest l.family) l.i
